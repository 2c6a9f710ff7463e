-- What a run over brackets says of the tokens that it came over.
use Rattle.std.proofs.Common.{◌≡◌, ℕ, suc, Bool, true, false, cond, nat_eq, List, [], ◌∷◌, ◌++◌, length, map, reverse, Option, Some, None, refl, ap, sym, ◌∙◌, append_assoc, subst, arith}
use Rattle.std.proofs.lemmas.Bool.{eqb-true}
use Rattle.std.proofs.lemmas.List.{append-nil, length-map, map-append, reverse-append, reverse-reverse}
use Rattle.module_grammar.specs.Balanced.{IsBalanced, nothing, token, parens, brackets, braces}
use Rattle.module_grammar.specs.Symbols.{Symbol, Bracket, Brace, close_brace, close_bracket, close_paren, kind_of, open_paren}
use Rattle.module_spelling.specs.Context.{StandsBehind}
use Rattle.token_context.proofs.Classes.{class_plain, closes_paren, pair, symbol_is}
use Rattle.token_context.proofs.Runs.{after_last, balanced_keeps, pair_runs, run_append}
use Rattle.token_context.specs.Brackets.{State, after, after_all, class_of, closing, moved, start}
use Rattle.token_context.specs.declared.brackets.Class.{Class}
use Rattle.token_context.specs.declared.brackets.Class.TheVariants.{Opens, Closes, Plain, Outside}
use Rattle.token_context.specs.declared.brackets.Opened.{Opened}

-- behind these tokens
abbrev pub state : List Symbol → State
state done = after_all start 0 (map kind_of done)

pub state_more : (done more : List Symbol) → state (done ++ more) ≡ after_all (state done) (length done) (map kind_of more)
state_more done more =
    ap (λ l. after_all start 0 l) (map-append kind_of done more)
    ∙ run_append (map kind_of done) (map kind_of more) start 0
    ∙ ap (λ p. after_all (state done) p (map kind_of more)) (let n : length (map kind_of done) ≡ length done = length-map done kind_of in omega (arith, n))

pub state_one : (done : List Symbol) (s : Symbol) → state (done ++ (s ∷ [])) ≡ after (state done) (length done) (kind_of s)
state_one done s = state_more done (s ∷ [])

-- a bracket that stands behind these
abbrev pub entry : List Symbol → Symbol → Opened
entry front o = record { place = length front; kind = kind_of o; behind = (state front).last }

-- ---- what is balanced in parentheses behind a token is what the last token closes

pub record Stands (opener : Symbol) (inside done : List Symbol) : Type 0 where
  pub front : List Symbol
  pub same : done ≡ front ++ (opener ∷ open_paren ∷ (inside ++ (close_paren ∷ [])))
  pub balanced : IsBalanced inside

abbrev pub closed_behind : List Symbol → Symbol → Opened
closed_behind front opener = record { place = suc (length front); kind = kind_of open_paren; behind = kind_of opener }

pub closed_is : (opener : Symbol) (inside done : List Symbol) (h : Stands opener inside done) → (state done).closed ≡ Some (closed_behind h.front opener)
closed_is opener inside done h =
    let row : List ℕ = kind_of open_paren ∷ (map kind_of inside ++ (kind_of close_paren ∷ [])) in
    let t : State = after (state h.front) (length h.front) (kind_of opener) in
    let rows : map kind_of (open_paren ∷ (inside ++ (close_paren ∷ []))) ≡ row = ap (λ l. kind_of open_paren ∷ l) (map-append kind_of inside (close_paren ∷ [])) in
    ap (λ l. (state l).closed) h.same
    ∙ ap (λ (x : State). x.closed) (state_more h.front (opener ∷ open_paren ∷ (inside ++ (close_paren ∷ []))))
    ∙ ap (λ l. (after_all t (suc (length h.front)) l).closed) rows
    ∙ ap (λ (x : State). x.closed) (pair_runs (kind_of open_paren) (kind_of close_paren) (map kind_of inside) refl refl (balanced_keeps inside h.balanced) t (suc (length h.front)))
    ∙ ap (λ k. Some (record { place = suc (length h.front); kind = kind_of open_paren; behind = k })) (after_last (state h.front) (length h.front) (kind_of opener))

-- ---- what is open, and what the last token closes, stands there

-- between what is open all is balanced
abbrev pub AreOpen : List Opened → List Symbol → Type 0
AreOpen [] done = Unit {0}
AreOpen (e ∷ es) done =
    (front : List Symbol) × (o : Symbol) × (inside : List Symbol)
    × (done ≡ front ++ (o ∷ inside)) × (e ≡ entry front o) × IsBalanced inside × AreOpen es front

abbrev pub IsClosed : Option Opened → List Symbol → Type 0
IsClosed None done = Unit {0}
IsClosed (Some e) done =
    (front : List Symbol) × (o : Symbol) × (inside : List Symbol) × (c : Symbol)
    × (done ≡ front ++ (o ∷ (inside ++ (c ∷ [])))) × (e ≡ entry front o) × (class_of (kind_of c) ≡ Closes (kind_of o)) × IsBalanced inside

abbrev pub IsKnown : State → List Symbol → Type 0
IsKnown s done = AreOpen s.opened done × IsClosed s.closed done

pub balanced_append : (a b : List Symbol) → IsBalanced a → IsBalanced b → IsBalanced (a ++ b)
balanced_append a b nothing second = second
balanced_append a b (token t more plain first) second = token t (more ++ b) plain (balanced_append more b first second)
balanced_append a b (parens inside more h first) second =
    subst IsBalanced (ap (λ l. open_paren ∷ l) (sym (append_assoc inside (close_paren ∷ more) b))) (parens inside (more ++ b) h (balanced_append more b first second))
balanced_append a b (brackets at inside more h first) second =
    subst IsBalanced (ap (λ l. Bracket at ∷ l) (sym (append_assoc inside (close_bracket ∷ more) b))) (brackets at inside (more ++ b) h (balanced_append more b first second))
balanced_append a b (braces at inside more h first) second =
    subst IsBalanced (ap (λ l. Brace at ∷ l) (sym (append_assoc inside (close_brace ∷ more) b))) (braces at inside (more ++ b) h (balanced_append more b first second))

-- more that is balanced stands within what is open
open_more : (es : List Opened) (done more : List Symbol) → IsBalanced more → AreOpen es done → AreOpen es (done ++ more)
open_more [] done more b h = tt
open_more (e ∷ es) done more b h = (
  h.0,
  h.1,
  h.2 ++ more,
  ap (λ l. l ++ more) h.3 ∙ append_assoc h.0 (h.1 ∷ h.2) more,
  h.4,
  balanced_append h.2 more h.5 b,
  h.6,
)

-- a bracket that closes what is open last, or another
closing_known :
    (k : ℕ) (es : List Opened) (done : List Symbol) (c : Symbol) → class_of (kind_of c) ≡ Closes k → AreOpen es done
    → IsKnown (closing (kind_of c) k es) (done ++ (c ∷ []))
closing_known k [] done c is h = (tt, tt)
closing_known k (e ∷ es) done c is h = go (nat_eq e.kind k) refl
  where
    row : List Symbol
    row = h.1 ∷ (h.2 ++ (c ∷ []))

    same : done ++ (c ∷ []) ≡ h.0 ++ row
    same = ap (λ l. l ++ (c ∷ [])) h.3 ∙ append_assoc h.0 (h.1 ∷ h.2) (c ∷ [])

    go :
        (b : Bool) → nat_eq e.kind k ≡ b
        → IsKnown (cond b (record { opened = es; closed = Some e; last = kind_of c }) (record { opened = []; closed = None; last = kind_of c })) (done ++ (c ∷ []))
    go false at = (tt, tt)
    go true at =
        let kinds : e.kind ≡ k = eqb-true e.kind k at in
        let closes : class_of (kind_of c) ≡ Closes (kind_of h.1) = is ∙ ap Closes (sym kinds ∙ ap (λ (x : Opened). x.kind) h.4) in (
          subst (λ l. AreOpen es l) (sym same) (open_more es h.0 row (pair h.1 c h.2 closes h.5) h.6),
          (h.0, h.1, h.2, c, same, h.4, closes, h.5),
        )

step_known : (done : List Symbol) (s : Symbol) → IsKnown (state done) done → IsKnown (state (done ++ (s ∷ []))) (done ++ (s ∷ []))
step_known done s h =
    subst (λ t. IsKnown t (done ++ (s ∷ []))) (sym (state_one done s)) (go (class_of (kind_of s)) refl)
  where
    go : (c : Class) → class_of (kind_of s) ≡ c → IsKnown (moved c (state done) (length done) (kind_of s)) (done ++ (s ∷ []))
    go Opens is = ((done, s, [], refl, refl, nothing, h.0), tt)
    go (Closes k) is = closing_known k (state done).opened done s is h.0
    go Plain is = (open_more (state done).opened done (s ∷ []) (token s [] (class_plain (kind_of s) is) nothing) h.0, tt)
    go Outside is = (tt, tt)

known_from : (more done : List Symbol) → IsKnown (state done) done → IsKnown (state (done ++ more)) (done ++ more)
known_from [] done h = subst (λ l. IsKnown (state l) l) (sym (append-nil done)) h
known_from (s ∷ more) done h =
    subst (λ l. IsKnown (state l) l) (append_assoc done (s ∷ []) more) (known_from more (done ++ (s ∷ [])) (step_known done s h))

pub known : (done : List Symbol) → IsKnown (state done) done
known done = known_from done [] (tt, tt)

-- ---- the token before a bracket

-- the last one, where there is one
abbrev pub Ends : List Symbol → Type 0
Ends front = (before : List Symbol) × (x : Symbol) × (front ≡ before ++ (x ∷ [])) × ((state front).last ≡ kind_of x)

ends_from : (x : Symbol) (more before : List Symbol) → Ends (before ++ (x ∷ more))
ends_from x [] before = (before, x, refl, ap (λ (s : State). s.last) (state_one before x) ∙ after_last (state before) (length before) (kind_of x))
ends_from x (y ∷ more) before = subst Ends (append_assoc before (x ∷ []) (y ∷ more)) (ends_from y more (before ++ (x ∷ [])))

pub ends : (front : List Symbol) (k : ℕ) → (state front).last ≡ k → (start.last ≡ k → ⊥) → Ends front
ends [] k e other = absurd (other e)
ends (x ∷ more) k e other = ends_from x more []

-- a pair of parentheses, and what it stands behind
pub stands :
    (done : List Symbol) (e : Opened) → (state done).closed ≡ Some e → e.kind ≡ kind_of open_paren → (start.last ≡ e.behind → ⊥)
    → (x : Symbol) × (inside : List Symbol) × Stands x inside done × (kind_of x ≡ e.behind)
stands done e is paren other = go (subst (λ o. IsClosed o done) is (known done).1)
  where
    go : IsClosed (Some e) done → (x : Symbol) × (inside : List Symbol) × Stands x inside done × (kind_of x ≡ e.behind)
    go h =
        let opener : kind_of open_paren ≡ kind_of h.1 = sym paren ∙ ap (λ (x : Opened). x.kind) h.5 in
        let closer : class_of (kind_of h.3) ≡ Closes (kind_of open_paren) = h.6 ∙ ap Closes (sym opener) in
        let o = symbol_is (kind_of open_paren) h.1 (sym opener) in
        let c = symbol_is (kind_of close_paren) h.3 (closes_paren (kind_of h.3) closer) in
        let behind : (state h.0).last ≡ e.behind = sym (ap (λ (x : Opened). x.behind) h.5) in
        let z = ends h.0 e.behind behind other in (
          z.1,
          h.2,
          record {
            front = z.0;
            same = h.4 ∙ ap (λ l. l ++ (h.1 ∷ (h.2 ++ (h.3 ∷ [])))) z.2 ∙ append_assoc z.0 (z.1 ∷ []) (h.1 ∷ (h.2 ++ (h.3 ∷ [])))
                ∙ ap (λ s. z.0 ++ (z.1 ∷ s ∷ (h.2 ++ (h.3 ∷ [])))) (sym o.1)
                ∙ ap (λ s. z.0 ++ (z.1 ∷ open_paren ∷ (h.2 ++ (s ∷ [])))) (sym c.1);
            balanced = h.7;
          },
          sym z.3 ∙ behind,
        )

-- ---- tokens seen from the last one on

reverse_cons : (x : Symbol) (xs : List Symbol) → reverse (x ∷ xs) ≡ reverse xs ++ (x ∷ [])
reverse_cons x xs = reverse-append (x ∷ []) xs

reverse_row :
    (a b c : Symbol) (inside rest : List Symbol)
    → reverse (a ∷ (reverse inside ++ (b ∷ c ∷ rest))) ≡ reverse rest ++ (c ∷ b ∷ (inside ++ (a ∷ [])))
reverse_row a b c inside rest =
    reverse_cons a (reverse inside ++ (b ∷ c ∷ rest))
    ∙ ap (λ l. l ++ (a ∷ [])) (reverse-append (reverse inside) (b ∷ c ∷ rest))
    ∙ ap (λ l. (reverse (b ∷ c ∷ rest) ++ l) ++ (a ∷ [])) (reverse-reverse inside)
    ∙ append_assoc (reverse (b ∷ c ∷ rest)) inside (a ∷ [])
    ∙ ap (λ l. l ++ (inside ++ (a ∷ []))) (reverse_cons b (c ∷ rest) ∙ ap (λ l. l ++ (b ∷ [])) (reverse_cons c rest) ∙ append_assoc (reverse rest) (c ∷ []) (b ∷ []))
    ∙ append_assoc (reverse rest) (c ∷ b ∷ []) (inside ++ (a ∷ []))

pub from_behind : (opener : Symbol) (inside done : List Symbol) → StandsBehind opener inside (reverse done) → Stands opener inside done
from_behind opener inside done h = record {
  front = reverse h.rest;
  same = sym (reverse-reverse done) ∙ ap reverse h.same ∙ reverse_row close_paren open_paren opener inside h.rest;
  balanced = h.balanced;
}

pub to_behind : (opener : Symbol) (inside done : List Symbol) → Stands opener inside done → StandsBehind opener inside (reverse done)
to_behind opener inside done h = record {
  rest = reverse h.front;
  same =
      ap reverse (h.same ∙ ap (λ l. l ++ (opener ∷ open_paren ∷ (inside ++ (close_paren ∷ [])))) (sym (reverse-reverse h.front)) ∙ sym (reverse_row close_paren open_paren opener inside (reverse h.front)))
      ∙ reverse-reverse (close_paren ∷ (reverse inside ++ (open_paren ∷ opener ∷ reverse h.front)));
  balanced = h.balanced;
}
