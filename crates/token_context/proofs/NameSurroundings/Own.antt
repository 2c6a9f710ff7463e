-- Tokens by themselves, and what they are where they stand.
use Rattle.std.proofs.Common.{◌≡◌, suc, Bool, true, false, cond, nat_eq, List, [], ◌∷◌, ◌++◌, length, map, reverse, refl, ap, sym, ◌∙◌, append_assoc, subst, arith, ◌⊎◌, inl, inr}
use Rattle.std.proofs.lemmas.Bool.{eqb-true, eq-eqb}
use Rattle.std.proofs.lemmas.List.{length-map, reverse-append}
use Rattle.ir_types.specs.declared.names.Name.{Name}
use Rattle.module_grammar.specs.Balanced.{IsBalanced, nothing, token, parens, brackets, braces, is_plain}
use Rattle.module_grammar.specs.Symbols.{Symbol, Bracket, Brace, Global, close_brace, close_bracket, close_paren, foreign, kind_of, open_paren, unnamed_addr}
use Rattle.module_grammar.specs.declared.places.Placed.{Placed}
use Rattle.module_spelling.specs.Context.{AreBehind, AreKinds, IsUndeclared, IsUnstated, StandsFor, Unless, UnlessAddr, all_seen, seen_as}
use Rattle.token_context.proofs.NameSurroundings.Plain.{HasNoNames}
use Rattle.token_context.proofs.Classes.{symbol_is}

-- ---- one token

abbrev pub Cases : Symbol → Symbol → Type 0
Cases s t = (t ≡ s) ⊎ ((t ≡ foreign) × ((kind_of s ≡ 1) ⊎ (kind_of s ≡ kind_of unnamed_addr)))

of_name : (P : Type 0) (x : Placed Name) (t : Symbol) → Unless P (Global x) t → Cases (Global x) t
of_name P x t (inl h) = inl h.1
of_name P x t (inr h) = inr (h.1, inl refl)

of_addr : (P : Type 0) (s t : Symbol) → kind_of s ≡ kind_of unnamed_addr → Unless P s t → Cases s t
of_addr P s t k (inl h) = inl h.1
of_addr P s t k (inr h) = inr (h.1, inr k)

of_other : (P : Type 0) (s t : Symbol) → UnlessAddr P (kind_of s) s t → Cases s t
of_other P s t (inl h) = of_addr P s t h.0 h.1
of_other P s t (inr h) = inl h.1

-- it is itself, or none of the grammar
pub stands_cases : (before : List Symbol) (s t : Symbol) → StandsFor before s t → Cases s t
stands_cases before (Global x) t h = of_name (IsUnstated before) x t h
stands_cases before s t h = of_other (IsUndeclared before) s t h

pub itself : (before : List Symbol) (s t : Symbol) → StandsFor before s t → (t ≡ foreign → ⊥) → s ≡ t
itself before s t h other = go (stands_cases before s t h)
  where
    go : Cases s t → s ≡ t
    go (inl e) = sym e
    go (inr e) = absurd (other e.0)

plain_itself : (before : List Symbol) (s t : Symbol) → StandsFor before s t → is_plain t ≡ true → is_plain s ≡ true
plain_itself before s t h plain = go (stands_cases before s t h)
  where
    go : Cases s t → is_plain s ≡ true
    go (inl e) = subst (λ u. is_plain u ≡ true) e plain
    go (inr (e, inl k)) = subst (λ u. is_plain u ≡ true) (symbol_is 1 s k).1 refl
    go (inr (e, inr k)) = subst (λ u. is_plain u ≡ true) (symbol_is (kind_of unnamed_addr) s k).1 refl

seen_itself : (s : Symbol) → seen_as s (kind_of s) ≡ s
seen_itself s = ap (λ b. cond b s foreign) (eq-eqb (kind_of s) (kind_of s) refl)

seen_foreign : (s : Symbol) → seen_as s (kind_of foreign) ≡ foreign
seen_foreign s = go (nat_eq (kind_of s) (kind_of foreign)) refl
  where
    go : (b : Bool) → nat_eq (kind_of s) (kind_of foreign) ≡ b → cond b s foreign ≡ foreign
    go true e = sym (symbol_is (kind_of foreign) s (eqb-true (kind_of s) (kind_of foreign) e)).1
    go false e = refl

seen_one : (before : List Symbol) (s t : Symbol) → StandsFor before s t → seen_as s (kind_of t) ≡ t
seen_one before s t h = go (stands_cases before s t h)
  where
    go : Cases s t → seen_as s (kind_of t) ≡ t
    go (inl e) = ap (λ u. seen_as s (kind_of u)) e ∙ seen_itself s ∙ sym e
    go (inr e) = ap (λ u. seen_as s (kind_of u)) e.0 ∙ seen_foreign s ∙ sym e.0

-- ---- tokens in a row

pub as_many : (before own symbols : List Symbol) → AreBehind before own symbols → length own ≡ length symbols
as_many before [] [] h = refl
as_many before (s ∷ own) (t ∷ symbols) h = ap suc (as_many (s ∷ before) own symbols h.1)
as_many before [] (t ∷ symbols) h = absurd h
as_many before (s ∷ own) [] h = absurd h

pub seen_all : (before own symbols : List Symbol) → AreBehind before own symbols → all_seen own (map kind_of symbols) ≡ symbols
seen_all before [] [] h = refl
seen_all before (s ∷ own) (t ∷ symbols) h =
    ap (λ u. u ∷ all_seen own (map kind_of symbols)) (seen_one before s t h.0) ∙ ap (λ l. t ∷ l) (seen_all (s ∷ before) own symbols h.1)
seen_all before [] (t ∷ symbols) h = absurd h
seen_all before (s ∷ own) [] h = absurd h

pub are_kinds : (before own symbols : List Symbol) → AreBehind before own symbols → AreKinds own (map kind_of symbols)
are_kinds before own symbols h =
    (length-map symbols kind_of ∙ sym (as_many before own symbols h), ap (map kind_of) (seen_all before own symbols h))

-- what the tokens of the first part are, and those of the second
pub record Split (before own first second : List Symbol) : Type 0 where
  pub front : List Symbol
  pub back : List Symbol
  pub same : own ≡ front ++ back
  pub in_front : AreBehind before front first
  pub behind : AreBehind (reverse front ++ before) back second

turned : (s : Symbol) (front before : List Symbol) → reverse front ++ (s ∷ before) ≡ reverse (s ∷ front) ++ before
turned s front before = sym (ap (λ l. l ++ before) (reverse-append (s ∷ []) front) ∙ append_assoc (reverse front) (s ∷ []) before)

pub split : (before own first second : List Symbol) → AreBehind before own (first ++ second) → Split before own first second
split before own [] second h = record { front = []; back = own; same = refl; in_front = tt; behind = h }
split before [] (t ∷ first) second h = absurd h
split before (s ∷ own) (t ∷ first) second h =
    let r = split (s ∷ before) own first second h.1 in
    record {
      front = s ∷ r.front;
      back = r.back;
      same = ap (λ l. s ∷ l) r.same;
      in_front = (h.0, r.in_front);
      behind = subst (λ l. AreBehind l r.back second) (turned s r.front before) r.behind;
    }

-- a token between two parts
pub record Around (before own first second : List Symbol) (t : Symbol) : Type 0 where
  pub front : List Symbol
  pub token : Symbol
  pub back : List Symbol
  pub same : own ≡ front ++ (token ∷ back)
  pub in_front : AreBehind before front first
  pub stands : StandsFor (reverse front ++ before) token t
  pub behind : AreBehind (token ∷ (reverse front ++ before)) back second

pub around : (before own first second : List Symbol) (t : Symbol) → AreBehind before own (first ++ (t ∷ second)) → Around before own first second t
around before own first second t h =
    let r = split before own first (t ∷ second) h in
    go r.front r.back r.same r.in_front r.behind
  where
    go :
        (front back : List Symbol) → own ≡ front ++ back → AreBehind before front first → AreBehind (reverse front ++ before) back (t ∷ second)
        → Around before own first second t
    go front [] same in_front behind = absurd behind
    go front (s ∷ back) same in_front behind =
        record { front = front; token = s; back = back; same = same; in_front = in_front; stands = behind.0; behind = behind.1 }

-- ---- what is balanced is so by itself

pub not_foreign : (t : Symbol) → (kind_of t ≡ kind_of foreign → ⊥) → t ≡ foreign → ⊥
not_foreign t other e = other (ap kind_of e)

pub balanced_own : (before own symbols : List Symbol) → IsBalanced symbols → AreBehind before own symbols → IsBalanced own
balanced_own before [] symbols nothing h = nothing
balanced_own before (s ∷ own) symbols nothing h = absurd h
balanced_own before [] symbols (token t more plain b) h = absurd h
balanced_own before (s ∷ own) symbols (token t more plain b) h = token s own (plain_itself before s t h.0 plain) (balanced_own (s ∷ before) own more b h.1)
balanced_own before [] symbols (parens inside more a b) h = absurd h
balanced_own before (s ∷ own) symbols (parens inside more a b) h =
    let r = around (s ∷ before) own inside more close_paren h.1 in
    let first : s ≡ open_paren = itself before s open_paren h.0 (not_foreign open_paren (λ e. absurd (omega (arith, e)))) in
    let last : r.token ≡ close_paren = itself (reverse r.front ++ (s ∷ before)) r.token close_paren r.stands (not_foreign close_paren (λ e. absurd (omega (arith, e)))) in
    subst IsBalanced (sym (ap (λ u. u ∷ own) first ∙ ap (λ l. open_paren ∷ l) (r.same ∙ ap (λ u. r.front ++ (u ∷ r.back)) last)))
    (parens r.front r.back (balanced_own (s ∷ before) r.front inside a r.in_front) (balanced_own (r.token ∷ (reverse r.front ++ (s ∷ before))) r.back more b r.behind))
balanced_own before [] symbols (brackets at inside more a b) h = absurd h
balanced_own before (s ∷ own) symbols (brackets at inside more a b) h =
    let r = around (s ∷ before) own inside more close_bracket h.1 in
    let first : s ≡ Bracket at = itself before s (Bracket at) h.0 (not_foreign (Bracket at) (λ e. absurd (omega (arith, e)))) in
    let last : r.token ≡ close_bracket = itself (reverse r.front ++ (s ∷ before)) r.token close_bracket r.stands (not_foreign close_bracket (λ e. absurd (omega (arith, e)))) in
    subst IsBalanced (sym (ap (λ u. u ∷ own) first ∙ ap (λ l. Bracket at ∷ l) (r.same ∙ ap (λ u. r.front ++ (u ∷ r.back)) last)))
    (brackets at r.front r.back (balanced_own (s ∷ before) r.front inside a r.in_front) (balanced_own (r.token ∷ (reverse r.front ++ (s ∷ before))) r.back more b r.behind))
balanced_own before [] symbols (braces at inside more a b) h = absurd h
balanced_own before (s ∷ own) symbols (braces at inside more a b) h =
    let r = around (s ∷ before) own inside more close_brace h.1 in
    let first : s ≡ Brace at = itself before s (Brace at) h.0 (not_foreign (Brace at) (λ e. absurd (omega (arith, e)))) in
    let last : r.token ≡ close_brace = itself (reverse r.front ++ (s ∷ before)) r.token close_brace r.stands (not_foreign close_brace (λ e. absurd (omega (arith, e)))) in
    subst IsBalanced (sym (ap (λ u. u ∷ own) first ∙ ap (λ l. Brace at ∷ l) (r.same ∙ ap (λ u. r.front ++ (u ∷ r.back)) last)))
    (braces at r.front r.back (balanced_own (s ∷ before) r.front inside a r.in_front) (balanced_own (r.token ∷ (reverse r.front ++ (s ∷ before))) r.back more b r.behind))

-- ---- tokens without such names are themselves

pub same_own : (before own symbols : List Symbol) → HasNoNames own → AreBehind before own symbols → own ≡ symbols
same_own before [] [] no_names h = refl
same_own before (s ∷ own) (t ∷ symbols) no_names h =
    ap (λ u. u ∷ own) (go (stands_cases before s t h.0)) ∙ ap (λ l. t ∷ l) (same_own (s ∷ before) own symbols no_names.2 h.1)
  where
    go : Cases s t → s ≡ t
    go (inl e) = sym e
    go (inr (e, inl k)) = absurd (no_names.0 k)
    go (inr (e, inr k)) = absurd (no_names.1 k)
same_own before [] (t ∷ symbols) no_names h = absurd h
same_own before (s ∷ own) [] no_names h = absurd h
