-- What is told of names, looked up by their places.
use Rattle.std.proofs.Common.{◌≡◌, ℕ, Bool, true, false, cond, nat_eq, List, [], ◌∷◌, ◌++◌, ◌⊎◌, inl, inr, ⊎_elim, refl, sym}
use Rattle.std.proofs.lemmas.Bool.{eqb-false, eqb-true}
use Rattle.std.specs.List.{AllByRecursion}
use Rattle.ir_types.specs.declared.names.Name.{Name}
use Rattle.module_grammar.specs.declared.places.Placed.{Placed}
use Rattle.named_modules.specs.Laws.{Is}
use Rattle.module_texts.proofs.Lists.{all_joined, all_mapped, all_zipped}

module _ {C : Type 0} (R : Placed Name → C → Type 0) (one : (x y : Placed Name) (c d : C) → R x c → R y d → x.start ≡ y.start → c ≡ d) where
  abbrev Pair : Type 0
  Pair = Placed Name × C

  -- the first that is told at a place, if any is
  abbrev found : List Pair → C → ℕ → C
  found [] other p = other
  found (e ∷ es) other p = cond (nat_eq e.0.start p) e.1 (found es other p)

  abbrev IsIn : List Pair → ℕ → Type 0
  IsIn [] p = ⊥
  IsIn (e ∷ es) p = (e.0.start ≡ p) ⊎ IsIn es p

  abbrev AreTold : List Pair → Type 0
  AreTold = AllByRecursion (λ (e : Pair). R e.0 e.1)

  of_test : (b : Bool) (e : Pair) (es : List Pair) (other : C) (x : Placed Name) (c : C) → nat_eq e.0.start x.start ≡ b → R e.0 e.1 → R x c → (IsIn es x.start → c ≡ found es other x.start) → IsIn (e ∷ es) x.start → c ≡ cond b e.1 (found es other x.start)
  of_test true e es other x c same first is rest place = one x e.0 c e.1 is first (sym (eqb-true e.0.start x.start same))
  of_test false e es other x c same first is rest place = ⊎_elim (λ here. absurd (eqb-false e.0.start x.start same here)) rest place

  found_is : (es : List Pair) (other : C) (x : Placed Name) (c : C) → AreTold es → R x c → IsIn es x.start → c ≡ found es other x.start
  found_is [] other x c told is place = absurd place
  found_is (e ∷ es) other x c told is place =
      of_test (nat_eq e.0.start x.start) e es other x c refl told.0 is (found_is es other x c told.1 is) place

  itself : (es : List Pair) → AllByRecursion (λ (e : Pair). IsIn es e.0.start) es
  itself [] = tt
  itself (e ∷ es) = (inl refl, all_mapped (λ (f : Pair). IsIn es f.0.start) (λ (f : Pair). IsIn (e ∷ es) f.0.start) (λ f is. inr is) es (itself es))

  in_left : (es fs : List Pair) (p : ℕ) → IsIn es p → IsIn (es ++ fs) p
  in_left [] fs p is = absurd is
  in_left (e ∷ es) fs p is = ⊎_elim (λ here. inl here) (λ later. inr (in_left es fs p later)) is

  in_right : (es fs : List Pair) (p : ℕ) → IsIn fs p → IsIn (es ++ fs) p
  in_right [] fs p is = is
  in_right (e ∷ es) fs p is = inr (in_right es fs p is)

  -- both are told by one function
  abbrev pub told_by : List Pair → List Pair → C → Placed Name → C
  told_by es fs other x = found (es ++ fs) other x.start

  by_one : (gs es fs : List Pair) (other : C) → AreTold (es ++ fs) → AreTold gs → AllByRecursion (λ (e : Pair). IsIn (es ++ fs) e.0.start) gs → AllByRecursion (λ (e : Pair). Is (told_by es fs other) e.0 e.1) gs
  by_one gs es fs other told each places =
      all_zipped (λ (e : Pair). R e.0 e.1) (λ (e : Pair). IsIn (es ++ fs) e.0.start) (λ (e : Pair). Is (told_by es fs other) e.0 e.1)
      (λ e is place. found_is (es ++ fs) other e.0 e.1 told is place) gs each places

  pub first_told : (es fs : List Pair) (other : C) → AreTold es → AreTold fs → AllByRecursion (λ (e : Pair). Is (told_by es fs other) e.0 e.1) es
  first_told es fs other a b =
      by_one es es fs other (all_joined (λ (e : Pair). R e.0 e.1) es fs a b) a
      (all_mapped (λ (e : Pair). IsIn es e.0.start) (λ (e : Pair). IsIn (es ++ fs) e.0.start) (λ e is. in_left es fs e.0.start is) es (itself es))

  pub second_told : (es fs : List Pair) (other : C) → AreTold es → AreTold fs → AllByRecursion (λ (e : Pair). Is (told_by es fs other) e.0 e.1) fs
  second_told es fs other a b =
      by_one fs es fs other (all_joined (λ (e : Pair). R e.0 e.1) es fs a b) b
      (all_mapped (λ (e : Pair). IsIn fs e.0.start) (λ (e : Pair). IsIn (es ++ fs) e.0.start) (λ e is. in_right es fs e.0.start is) fs (itself fs))
