-- The test of names is true exactly of equal names, so it is one by which sets may tell them apart.
use Rattle.std.proofs.Common.{◌≡◌, Bool, true, false, ◌&&◌, ℕ, List, [], ◌∷◌, refl, ap, subst}
use Rattle.std.specs.Prelude.{nat_eq}
use Rattle.std.specs.Cmp.{IsEquivalence, both_ways}
use Rattle.std.proofs.lemmas.Bool.{eqb-true, eq-eqb}
use Rattle.ir_types.specs.declared.names.Name.{Name}
use Rattle.ir_types.specs.declared.names.Name.TheVariants as name
use Rattle.ir_types.specs.Same.{same_list, same_name}

pub left_true : (a b : Bool) → (a && b) ≡ true → a ≡ true
left_true true b h = refl
left_true false b h = h

pub right_true : (a b : Bool) → (a && b) ≡ true → b ≡ true
right_true true b h = h
right_true false b h = cc

pub all_true : {a b : Bool} → a ≡ true → b ≡ true → (a && b) ≡ true
all_true p q = rw (p, q) refl

pub same_list_true : {A : Type 0} (same : A → A → Bool) → ((a b : A) → same a b ≡ true → a ≡ b) → (a b : List A) → same_list same a b ≡ true → a ≡ b
same_list_true same law [] [] h = refl
same_list_true same law (x ∷ xs) (y ∷ ys) h =
    cc (law x y (left_true (same x y) (same_list same xs ys) h), same_list_true same law xs ys (right_true (same x y) (same_list same xs ys) h))
same_list_true same law [] (y ∷ ys) h = cc
same_list_true same law (x ∷ xs) [] h = cc

pub same_list_refl : {A : Type 0} (same : A → A → Bool) → ((a : A) → same a a ≡ true) → (a : List A) → same_list same a a ≡ true
same_list_refl same law [] = refl
same_list_refl same law (x ∷ xs) = all_true (law x) (same_list_refl same law xs)

pub same_nat_true : (a b : ℕ) → nat_eq a b ≡ true → a ≡ b
same_nat_true a b h = eqb-true a b h

pub same_nat_refl : (a : ℕ) → nat_eq a a ≡ true
same_nat_refl a = eq-eqb a a refl

pub same_name_true : (a b : Name) → same_name a b ≡ true → a ≡ b
same_name_true (name.Text a) (name.Text b) h = ap name.Text (same_list_true nat_eq same_nat_true a b h)
same_name_true (name.Number m) (name.Number n) h = ap name.Number (same_nat_true m n h)
same_name_true (name.Text a) (name.Number n) h = cc
same_name_true (name.Number m) (name.Text b) h = cc

pub same_name_refl : (a : Name) → same_name a a ≡ true
same_name_refl (name.Text a) = same_list_refl nat_eq same_nat_refl a
same_name_refl (name.Number n) = same_nat_refl n

name_turned : (a b : Name) → same_name a b ≡ true → same_name b a ≡ true
name_turned a b h = subst (λ c. same_name c a ≡ true) (same_name_true a b h) (same_name_refl a)

pub name_equivalence : IsEquivalence same_name
name_equivalence = record {
  refl = same_name_refl;
  symm = λ a b. both_ways (same_name a b) (same_name b a) (λ h. name_turned a b h) (λ h. name_turned b a h);
  congr = λ a b c h. ap (λ d. same_name d c) (same_name_true a b h);
}
