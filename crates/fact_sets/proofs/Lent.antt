-- What is left of a list that is lent.
use Rattle.std.proofs.Common.{◌≡◌, ◌∙◌, ◌≢◌, ℕ, Bool, true, false, ◌||◌, ◌&&◌, ◌<◌, ◌==◌, cond, not, filter, List, [], ◌∷◌, ◌++◌, length, get_or, replicate, append_assoc, Option, None, Some, refl, sym, ap, arith}
use Rattle.std.proofs.lemmas.List.{append-nil, length-set, get_or-set_same, get_or-set_other, get_or-replicate}
use Rattle.std.proofs.lemmas.List.Elements.{filter_agree}
use Rattle.std.proofs.lemmas.List.Quantifiers.{position-Some}
use Rattle.std.proofs.lemmas.Map.Views.{any-filter_same, exact_unsigned_eq}
use Rattle.std.specs.List.{list_any, position}
use Rattle.ir_core.specs.declared.expressions.Reg.{Reg}
use Rattle.ir_core.specs.Same.{same_reg}
use Rattle.ir_core.proofs.SameLaws.{same_reg_true, same_reg_refl}
use Rattle.erhl_assert.specs.Edges.{is_old}
use Rattle.erhl_assert.specs.Sides.{has_reg}
use Rattle.erhl_assert.specs.Postcondition.{without_reg}
use Rattle.fact_sets.specs.ErhlSides.Differing.{is_left_over}
use Rattle.fact_sets.specs.Places.{is_left, is_left_at, gone_at, left_of}
use Rattle.fact_sets.proofs.Placing.{found, not_found}

-- ---- a walk over the list
module _ (rs : List Reg) (gone : List Bool) (r : Reg) (all : List Reg) where
  pub is_put : is_left rs gone r ≡ true → all ++ r ∷ [] ≡ all ++ cond (is_left rs gone r) (r ∷ []) []
  is_put h = ap (λ b. all ++ cond b (r ∷ []) []) (sym h)

  pub is_not_put : is_left rs gone r ≡ false → all ≡ all ++ cond (is_left rs gone r) (r ∷ []) []
  is_not_put h = sym (append-nil all) ∙ ap (λ b. all ++ cond b (r ∷ []) []) (sym h)

pub put_on : (p : Reg → Bool) (r : Reg) (rs all after total : List Reg) → after ≡ all ++ cond (p r) (r ∷ []) [] → all ++ filter p (r ∷ rs) ≡ total → after ++ filter p rs ≡ total
put_on p r rs all after total h so_far =
    ap (λ xs. xs ++ filter p rs) h
    ∙ ((elim (p r) as (λ b. (all ++ cond b (r ∷ []) []) ++ filter p rs ≡ all ++ cond b (r ∷ filter p rs) (filter p rs)) [
      | true ↦ append_assoc all (r ∷ []) (filter p rs)
      | false ↦ ap (λ xs. xs ++ filter p rs) (append-nil all)
    ]))
    ∙ so_far

-- ---- filters
any_none : {X : Type 0} (p q : X → Bool) (xs : List X) → list_any p xs ≡ false → list_any p (filter q xs) ≡ false
any_none p q [] h = refl
any_none p q (x ∷ xs) h =
    (elim (p x) as (λ a. (a || list_any p xs) ≡ false → p x ≡ a → list_any p (cond (q x) (x ∷ filter q xs) (filter q xs)) ≡ false) [
      | true ↦ λ e f. absurd (cc)
      | false ↦ λ e f.
          elim (q x) as (λ b. list_any p (cond b (x ∷ filter q xs) (filter q xs)) ≡ false) [
            | true ↦ ap (λ a. a || list_any p (filter q xs)) f ∙ any_none p q xs e
            | false ↦ any_none p q xs e
          ]
    ]) h refl

none_pass : {X : Type 0} (p q : X → Bool) (xs : List X) → ((x : X) → q x ≡ true → p x ≡ false) → list_any p (filter q xs) ≡ false
none_pass p q [] h = refl
none_pass p q (x ∷ xs) h =
    (elim (q x) as (λ b. q x ≡ b → list_any p (cond b (x ∷ filter q xs) (filter q xs)) ≡ false) [
      | true ↦ λ e. ap (λ b. b || list_any p (filter q xs)) (h x e) ∙ none_pass p q xs h
      | false ↦ λ e. none_pass p q xs h
    ]) refl

pub over_left : (p q : Reg → Bool) (xs : List Reg) → list_any (λ x. p x && q x) xs ≡ list_any p (filter q xs)
over_left p q [] = refl
over_left p q (x ∷ xs) =
    elim (q x) as (λ b. ((p x && b) || list_any (λ y. p y && q y) xs) ≡ list_any p (cond b (x ∷ filter q xs) (filter q xs))) [
      | true ↦ ap (λ b. b || list_any (λ y. p y && q y) xs) (and_true (p x)) ∙ ap (λ b. p x || b) (over_left p q xs)
      | false ↦ ap (λ b. b || list_any (λ y. p y && q y) xs) (and_false (p x)) ∙ over_left p q xs
    ]
  where
    and_true : (b : Bool) → (b && true) ≡ b
    and_true true = refl
    and_true false = refl

    and_false : (b : Bool) → (b && false) ≡ false
    and_false true = refl
    and_false false = refl

filter_both : (p q : Reg → Bool) (xs : List Reg) → filter p (filter q xs) ≡ filter (λ x. q x && p x) xs
filter_both p q [] = refl
filter_both p q (x ∷ xs) =
    elim (q x) as (λ b. filter p (cond b (x ∷ filter q xs) (filter q xs)) ≡ cond (b && p x) (x ∷ filter (λ y. q y && p y) xs) (filter (λ y. q y && p y) xs)) [
      | true ↦ ap (λ (ys : List Reg). cond (p x) (x ∷ ys) ys) (filter_both p q xs)
      | false ↦ filter_both p q xs
    ]

pub filter_all : (q : Reg → Bool) (xs : List Reg) → ((r : Reg) → has_reg r xs ≡ true → q r ≡ true) → filter q xs ≡ xs
filter_all q [] h = refl
filter_all q (x ∷ xs) h =
    ap (λ b. cond b (x ∷ filter q xs) (filter q xs)) (h x (ap (λ b. b || has_reg x xs) (same_reg_refl x)))
    ∙ ap (λ (ys : List Reg). x ∷ ys) (filter_all q xs (λ r there. h r (or_true (same_reg r x) (has_reg r xs) there)))
  where
    or_true : (a b : Bool) → b ≡ true → (a || b) ≡ true
    or_true true b e = refl
    or_true false b e = e

-- ---- what is left
there_if_left : (rs : List Reg) (gone : List Bool) (r : Reg) → is_left rs gone r ≡ true → has_reg r rs ≡ true
there_if_left rs gone r h =
    (elim (position (same_reg r) rs) as (λ o. position (same_reg r) rs ≡ o → is_left_at o gone ≡ true → has_reg r rs ≡ true) [
      | None ↦ λ e k. absurd (cc)
      | Some k ↦ λ e k'. found rs r k e
    ]) refl h

pub has_left : (rs : List Reg) (gone : List Bool) (r : Reg) → is_left rs gone r ≡ has_reg r (left_of rs gone)
unfolding left_of
has_left rs gone r =
    sym (any-filter_same (same_reg r) (is_left rs gone) (is_left rs gone r) (λ s same. ap (is_left rs gone) (sym (same_reg_true r s same))) rs ∙ absorbed (is_left rs gone r) (there_if_left rs gone r))
  where
    absorbed : (b : Bool) → (b ≡ true → has_reg r rs ≡ true) → (b && has_reg r rs) ≡ b
    absorbed true h = h refl
    absorbed false h = refl

pub none_left : (gone : List Bool) (rs : List Reg) → rs ≡ [] → left_of rs gone ≡ []
unfolding left_of
none_left gone rs e = ap (λ xs. left_of xs gone) e

pub all_are_left : (rs : List Reg) (gone : List Bool) → gone ≡ replicate (length rs) false → left_of rs gone ≡ rs
unfolding left_of
all_are_left rs gone e = filter_all (is_left rs gone) rs here
  where
    here : (r : Reg) → has_reg r rs ≡ true → is_left rs gone r ≡ true
    here r there =
        (elim (position (same_reg r) rs) as (λ o. position (same_reg r) rs ≡ o → is_left_at o gone ≡ true) [
          | None ↦ λ none. let no = not_found rs r none in absurd (cc)
          | Some k ↦ λ at. ap not (ap (λ xs. get_or xs k false) e ∙ get_or-replicate (length rs) k false false (position-Some (same_reg r) rs k r at).0)
        ]) refl

pub is_within : (rs : List Reg) (gone : List Bool) (r : Reg) (k : ℕ) → length gone ≡ length rs → position (same_reg r) rs ≡ Some k → k < length gone
is_within rs gone r k many at = let inside = (position-Some (same_reg r) rs k r at).0 in omega (arith, many, inside)

pub as_many : (gone : List Bool) (place : Option ℕ) (n : ℕ) → length gone ≡ n → length (gone_at place gone) ≡ n
as_many gone None n e = e
as_many gone (Some k) n e = length-set gone k true ∙ e

module _ (rs : List Reg) (gone : List Bool) (r : Reg) (many : length gone ≡ length rs) where
  abbrev after : List Bool
  after = gone_at (position (same_reg r) rs) gone

  itself : (o : Option ℕ) → position (same_reg r) rs ≡ o → is_left_at o (gone_at o gone) ≡ false
  itself None e = refl
  itself (Some k) e = ap not (get_or-set_same gone k true false (is_within rs gone r k many e))

  others : (s : Reg) → same_reg r s ≡ false → (o q : Option ℕ) → position (same_reg r) rs ≡ o → position (same_reg s) rs ≡ q → is_left_at q (gone_at o gone) ≡ is_left_at q gone
  others s apart o None e f = refl
  others s apart None (Some j) e f = refl
  others s apart (Some k) (Some j) e f = ap not (get_or-set_other gone k j true false not_one)
    where
      not_one : j ≢ k
      not_one same =
          let a : r ≡ get_or rs k r = same_reg_true r (get_or rs k r) (position-Some (same_reg r) rs k r e).1 in
          let b : s ≡ get_or rs j r = same_reg_true s (get_or rs j r) (position-Some (same_reg s) rs j r f).1 in
          let c : r ≡ s = a ∙ ap (λ n. get_or rs n r) (sym same) ∙ sym b in
          let d : same_reg r s ≡ true = ap (same_reg r) (sym c) ∙ same_reg_refl r in
          absurd (cc)

  one_less : (s : Reg) → is_left rs after s ≡ (is_left rs gone s && not (same_reg r s))
  one_less s =
      (elim (same_reg r s) as (λ b. same_reg r s ≡ b → is_left rs after s ≡ (is_left rs gone s && not b)) [
        | true ↦ λ e. ap (is_left rs after) (sym (same_reg_true r s e)) ∙ itself (position (same_reg r) rs) refl ∙ sym (and_false (is_left rs gone s))
        | false ↦ λ e. others s e (position (same_reg r) rs) (position (same_reg s) rs) refl refl ∙ sym (and_true (is_left rs gone s))
      ]) refl
    where
      and_true : (b : Bool) → (b && true) ≡ b
      and_true true = refl
      and_true false = refl

      and_false : (b : Bool) → (b && false) ≡ false
      and_false true = refl
      and_false false = refl

  pub one_gone : left_of rs (gone_at (position (same_reg r) rs) gone) ≡ without_reg r (left_of rs gone)
  unfolding left_of
  one_gone =
      filter_agree (is_left rs after) (λ s. is_left rs gone s && not (same_reg r s)) one_less rs
      ∙ sym (filter_both (λ s. not (same_reg r s)) (is_left rs gone) rs)

pub none_of_them : (p : Reg → Bool) (rs : List Reg) (gone : List Bool) → list_any p rs ≡ false → list_any p (left_of rs gone) ≡ false
unfolding left_of
none_of_them p rs gone h = any_none p (is_left rs gone) rs h

pub none_over_itself : (rs wanted : List Reg) (gone : List Bool) → rs ≡ wanted → list_any (is_left_over wanted) (left_of rs gone) ≡ false
unfolding left_of
none_over_itself rs wanted gone e =
    none_pass (is_left_over wanted) (is_left rs gone) rs
    (λ r left. ap (λ b. not (is_old r) && not b) (ap (has_reg r) (sym e) ∙ there_if_left rs gone r left) ∙ and_false (not (is_old r)))
  where
    and_false : (b : Bool) → (b && false) ≡ false
    and_false true = refl
    and_false false = refl

pub some_over : (wanted rs : List Reg) (gone : List Bool) → list_any (λ r. is_left_over wanted r && is_left rs gone r) rs ≡ list_any (is_left_over wanted) (left_of rs gone)
unfolding left_of
some_over wanted rs gone = over_left (is_left_over wanted) (is_left rs gone) rs

pub nothing_left : (rs : List Reg) (gone : List Bool) → (length rs == 0) ≡ true → left_of rs gone ≡ []
unfolding left_of
nothing_left [] gone none = refl
nothing_left (r ∷ rs) gone none = let no : length (r ∷ rs) ≡ 0 = exact_unsigned_eq (length (r ∷ rs)) 0 none in absurd (omega arith)

pub are_left : (rs : List Reg) (gone : List Bool) (all : List Reg) → all ≡ filter (is_left rs gone) rs → all ≡ left_of rs gone
unfolding left_of
are_left rs gone all e = e
