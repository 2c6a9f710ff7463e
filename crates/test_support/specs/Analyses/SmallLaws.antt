-- Small sets keep the laws of a monotone framework.
use Rattle.std.proofs.Common.{◌≡◌, ℕ, zero, suc, ◌<◌, ◌≤◌, min, List, refl, sym, subst, inl, inr, arith}
use Rattle.std.specs.Int.{bit_at}
use Rattle.std.specs.Int.Bits.{bit_and, bit_or}
use Rattle.std.proofs.lemmas.Nat.{and_le_r}
use Rattle.std.proofs.lemmas.Nat.Bits.{bit_at_and, bit_at_or, bit_at-zero, same_from_bits}
use Rattle.flow_solver.specs.Frameworks.{IsMonotone}
use Rattle.test_support.specs.declared.analyses.small.Effect.{Effect}
use Rattle.test_support.specs.Analyses.Small.{IsWithin, effect_at, left_by, small, start_of}

both : (a b i : ℕ) → bit_at (bit_and a b) i ≡ min (bit_at a i) (bit_at b i)
both = bit_at_and

same_sets : (a b : ℕ) → IsWithin a b → IsWithin b a → a ≡ b
same_sets a b left right = same_from_bits a b (λ i. omega (arith, left i, right i))

-- a smaller set is a smaller number
smaller : (a b : ℕ) → IsWithin a b → (a ≡ b → ⊥) → a < b
smaller a b within other =
    let is : a ≡ bit_and a b = same_from_bits a (bit_and a b) (λ i. omega (arith, within i, bit_at_and a b i)) in
    omega (arith, and_le_r a b, is, other)

starts_within : (all n : ℕ) → IsWithin (start_of all n) all
starts_within all zero i = omega (arith, bit_at-zero i)
starts_within all (suc n) i = omega arith

left_within : (all : ℕ) (e : Effect) (s : ℕ) → IsWithin (left_by all e s) all
left_within all e s i = omega (arith, bit_at_and (bit_or (bit_and s e.keeps) e.gives) all i)

left_more : (all : ℕ) (e : Effect) (a b : ℕ) → IsWithin a b → IsWithin (left_by all e a) (left_by all e b)
left_more all e a b within i =
    omega (
      arith,
      within i,
      bit_at_and (bit_or (bit_and a e.keeps) e.gives) all i,
      bit_at_and (bit_or (bit_and b e.keeps) e.gives) all i,
      bit_at_or (bit_and a e.keeps) e.gives i,
      bit_at_or (bit_and b e.keeps) e.gives i,
      bit_at_and a e.keeps i,
      bit_at_and b e.keeps i,
    )

pub small_is_monotone : (all : ℕ) (effects : List Effect) → IsMonotone (small all effects)
small_is_monotone all effects = record {
  reflexive = λ x _ i. omega arith;
  transitive = λ x y z _ _ _ left right i. omega (arith, left i, right i);
  antisymmetric = λ x y _ _. same_sets x y;
  top = λ i. omega arith;
  greatest = λ x within. within;
  start = starts_within all;
  meet = λ x y in_x in_y. (
    (
      λ i. omega (arith, bit_at_and x y i, in_x i),
      λ z by. elim by [
        | inl is_x ↦ λ i. subst (λ k. bit_at (bit_and x y) i ≤ bit_at k i) (sym is_x) (omega (arith, bit_at_and x y i))
        | inr is_y ↦ λ i. subst (λ k. bit_at (bit_and x y) i ≤ bit_at k i) (sym is_y) (omega (arith, bit_at_and x y i))
      ],
    ),
    λ w bound i. omega (arith, bit_at_and x y i, bound.1 x (inl refl) i, bound.1 y (inr refl) i),
  );
  transfer = λ n x _. left_within all (effect_at effects n) x;
  monotone = λ n x y _ _. left_more all (effect_at effects n) x y;
  height = λ x y _ _. smaller x y;
}
