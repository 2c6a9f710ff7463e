-- A step of the pass over a text's tokens.
use Rattle.std.proofs.Common.{◌≡◌, ◌<◌, ℕ, zero, suc, ◌+◌, List, [], ◌∷◌, ◌++◌, get_or, length, map, take, Option, refl, ap, sym, ◌∙◌, subst, arith}
use Rattle.std.proofs.lemmas.List.{length-map}
use Rattle.ir_lexer.specs.declared.token.Token.{Token}
use Rattle.module_grammar.specs.Spelled.{kind_in, symbol_in}
use Rattle.module_grammar.specs.Symbols.{Symbol, kind_of}
use Rattle.module_grammar.specs.declared.words.Language.TheVariants.{Ir}
use Rattle.token_context.proofs.Contexts.{context_more}
use Rattle.token_context.proofs.Held.{state}
use Rattle.token_context.proofs.Runs.{run_append}
use Rattle.token_context.proofs.Seen.{seen}
use Rattle.token_context.specs.Brackets.{State, after, after_all, start}
use Rattle.token_context.specs.Readings.{IsContext, IsReadBehind, deep_seen, kind_seen}
use Rattle.token_context.specs.declared.brackets.Opened.{Opened}
use Rattle.token_context.specs.declared.reading.Reading.{Reading}

one_more : (ks : List ℕ) (place : ℕ) → place < length ks → (take (suc place) ks ≡ take place ks ++ (get_or ks place 0 ∷ [])) × (length (take place ks) ≡ place)
one_more [] place h = absurd (grind arith)
one_more (k ∷ ks) zero h = (refl, refl)
one_more (k ∷ ks) (suc place) h = let r = one_more ks place (grind arith) in (ap (λ l. k ∷ l) r.0, ap suc r.1)

pub next_opened :
    (kinds : List ℕ) (place : ℕ) (old new : State) → place < length kinds → old ≡ after_all start 0 (take place kinds)
    → new ≡ after old place (get_or kinds place 0) → new ≡ after_all start 0 (take (place + 1) kinds)
next_opened kinds place old new h was is =
    let next : suc place ≡ place + 1 = omega arith in
    let more = one_more kinds place h in
    let long : length (take place kinds) ≡ place = more.1 in
    let at_place : place ≡ 0 + length (take place kinds) = omega (arith, long) in
    is
    ∙ ap (λ s. after s place (get_or kinds place 0)) was
    ∙ ap (λ p. after (after_all start 0 (take place kinds)) p (get_or kinds place 0)) at_place
    ∙ sym (run_append (take place kinds) (get_or kinds place 0 ∷ []) start 0)
    ∙ ap (λ l. after_all start 0 l) (sym more.0)
    ∙ ap (λ n. after_all start 0 (take n kinds)) next

-- a token, and those before it and behind it
pub record At (own : List Symbol) (place : ℕ) : Type 0 where
  pub token : Symbol
  pub rest : List Symbol
  pub all : own ≡ take place own ++ (token ∷ rest)
  pub next : take (suc place) own ≡ take place own ++ (token ∷ [])
  pub kind : get_or (map kind_of own) place 0 ≡ kind_of token
  pub kinds : take place (map kind_of own) ≡ map kind_of (take place own)
  pub long : length (take place own) ≡ place

pub at : (own : List Symbol) (place : ℕ) → place < length own → At own place
at [] place h = absurd (grind arith)
at (x ∷ own) zero h = record { token = x; rest = own; all = refl; next = refl; kind = refl; kinds = refl; long = refl }
at (x ∷ own) (suc place) h =
    let a = at own place (grind arith) in
    record {
      token = a.token;
      rest = a.rest;
      all = ap (λ l. x ∷ l) a.all;
      next = ap (λ l. x ∷ l) a.next;
      kind = a.kind;
      kinds = ap (λ l. kind_of x ∷ l) a.kinds;
      long = ap suc a.long;
    }

pub next_seen :
    (kinds : List ℕ) (place : ℕ) (old : State) (closed : Option Opened) (r : Reading) (seen_kinds deep new_kinds new_deep : List ℕ)
    → place < length kinds → old ≡ after_all start 0 (take place kinds) → closed ≡ old.closed
    → IsReadBehind closed kinds place (get_or kinds place 0) r → new_kinds ≡ seen_kinds ++ (kind_seen (get_or kinds place 0) r ∷ [])
    → new_deep ≡ deep ++ deep_seen place r
    → ((own : List Symbol) → map kind_of own ≡ kinds → IsContext (take place own) seen_kinds deep)
    → (own : List Symbol) → map kind_of own ≡ kinds → IsContext (take (place + 1) own) new_kinds new_deep
next_seen kinds place old closed r seen_kinds deep new_kinds new_deep h was closes read k d told own e =
    let n : length (map kind_of own) ≡ length own = length-map own kind_of in
    let m : length (map kind_of own) ≡ length kinds = ap length e in
    let a = at own place (omega (arith, n, m, h)) in
    let next : suc place ≡ place + 1 = omega arith in
    let kind : get_or kinds place 0 ≡ kind_of a.token = ap (λ l. get_or l place 0) (sym e) ∙ a.kind in
    let done_kinds : take place kinds ≡ map kind_of (take place own) = ap (λ l. take place l) (sym e) ∙ a.kinds in
    let closed_is : closed ≡ (state (take place own)).closed = closes ∙ ap (λ (s : State). s.closed) (was ∙ ap (λ l. after_all start 0 l) done_kinds) in
    let kinds_are : kinds ≡ map kind_of (take place own ++ (a.token ∷ a.rest)) = sym e ∙ ap (map kind_of) a.all in
    let read_1 : IsReadBehind (state (take place own)).closed kinds place (get_or kinds place 0) r = subst (λ o. IsReadBehind o kinds place (get_or kinds place 0) r) closed_is read in
    let read_2 : IsReadBehind (state (take place own)).closed kinds place (kind_of a.token) r = subst (λ j. IsReadBehind (state (take place own)).closed kinds place j r) kind read_1 in
    let read_3 : IsReadBehind (state (take place own)).closed kinds (length (take place own)) (kind_of a.token) r =
    subst (λ p. IsReadBehind (state (take place own)).closed kinds p (kind_of a.token) r) (sym a.long) read_2 in
    let read_4 : IsReadBehind (state (take place own)).closed (map kind_of (take place own ++ (a.token ∷ a.rest))) (length (take place own)) (kind_of a.token) r =
    subst (λ l. IsReadBehind (state (take place own)).closed l (length (take place own)) (kind_of a.token) r) kinds_are read_3 in
    let context = context_more (take place own) a.token r seen_kinds deep (seen (take place own) (a.token ∷ a.rest) a.token r read_4) (told own e) in
    let front : take place own ++ (a.token ∷ []) ≡ take (place + 1) own = sym a.next ∙ ap (λ j. take j own) next in
    let new_k : seen_kinds ++ (kind_seen (kind_of a.token) r ∷ []) ≡ new_kinds = ap (λ j. seen_kinds ++ (kind_seen j r ∷ [])) (sym kind) ∙ sym k in
    let new_d : deep ++ deep_seen (length (take place own)) r ≡ new_deep = ap (λ p. deep ++ deep_seen p r) a.long ∙ sym d in
    subst (λ l. IsContext (take (place + 1) own) new_kinds l) new_d
    (subst (λ l. IsContext (take (place + 1) own) l (deep ++ deep_seen (length (take place own)) r)) new_k
    (subst (λ l. IsContext l (seen_kinds ++ (kind_seen (kind_of a.token) r ∷ [])) (deep ++ deep_seen (length (take place own)) r)) front context))

-- ---- a whole text

pub kinds_of_symbols : (text : List ℕ) (tokens : List Token) → map kind_of (map (symbol_in Ir text) tokens) ≡ map (kind_in Ir text) tokens
kinds_of_symbols text [] = refl
kinds_of_symbols text (t ∷ ts) = ap (λ l. kind_in Ir text t ∷ l) (kinds_of_symbols text ts)
