-- The first of each name.
use Rattle.std.proofs.Common.{◌≡◌, ◌∙◌, ◌<◌, ◌+◌, ℕ, suc, Bool, true, false, cond, List, [], ◌∷◌, length, get_or, drop, find, slice_get, None, Some, refl, sym, ap, arith}
use Rattle.std.specs.Map.{lookup}
use Rattle.std.specs.Option.{option_and_then}
use Rattle.std.proofs.Math.ListN.{drop_of_length-le}
use Rattle.ir_types.specs.declared.names.Name.{Name}
use Rattle.ir_types.specs.Same.{same_name}
use Rattle.ir_machine.specs.Walks.{AreFirst, AreFirstFrom, first_place, is_named}
use Rattle.ir_machine.proofs.Standing.{drop_at}

module _ {A : Type 0} (name : A → Name) where
  pub no_firsts : (xs : List A) → AreFirstFrom name (length xs) (drop (length xs) xs) []
  no_firsts xs x = sym (ap (first_place name x (length xs)) (drop_of_length-le xs {i = length xs} (omega arith)))

  pub one_first : (xs : List A) (i next : ℕ) (a : A) (x : Name) (old new : List (Name × ℕ)) → i < length xs → a ≡ get_or xs i a → x ≡ name a → next ≡ i + 1
      → AreFirstFrom name next (drop next xs) old → ((q : Name) → lookup (same_name q) new ≡ cond (same_name x q) (Some i) (lookup (same_name q) old))
      → AreFirstFrom name i (drop i xs) new
  one_first xs i next a x old new within is same more before puts q =
      puts q ∙ ap (λ y. cond (same_name y q) (Some i) (lookup (same_name q) old)) same
      ∙ ap (cond (same_name (name a) q) (Some i)) (before q ∙ ap (λ n. first_place name q n (drop n xs)) more)
      ∙ ap (first_place name q i) (sym (drop_at xs i a within is))

  found_from : (x : Name) (whole xs : List A) (at : ℕ) → ((n : ℕ) → slice_get whole (at + n) ≡ slice_get xs n)
      → option_and_then (slice_get whole) (first_place name x at xs) ≡ find (is_named name x) xs
  found_from x whole [] at there = refl
  found_from x whole (a ∷ xs) at there = by_name (is_named name x a) (found_from x whole xs (at + 1) later)
    where
      here : slice_get whole at ≡ Some a
      here = let same : at + 0 ≡ at = omega arith in ap (slice_get whole) (sym same) ∙ there 0

      later : (n : ℕ) → slice_get whole (at + 1 + n) ≡ slice_get xs n
      later n = let same : at + 1 + n ≡ at + suc n = omega arith in ap (slice_get whole) same ∙ there (suc n)

      by_name : (b : Bool) → option_and_then (slice_get whole) (first_place name x (at + 1) xs) ≡ find (is_named name x) xs
          → option_and_then (slice_get whole) (cond b (Some at) (first_place name x (at + 1) xs)) ≡ cond b (Some a) (find (is_named name x) xs)
      by_name true rest = here
      by_name false rest = rest

  module _ (xs : List A) (places : List (Name × ℕ)) (firsts : AreFirst name xs places) (x : Name) where
    found : option_and_then (slice_get xs) (lookup (same_name x) places) ≡ find (is_named name x) xs
    found = ap (option_and_then (slice_get xs)) (firsts x) ∙ found_from x xs xs 0 (λ n. let same : 0 + n ≡ n = omega arith in ap (slice_get xs) same)

    pub found_first : (place : ℕ) → lookup (same_name x) places ≡ Some place → slice_get xs place ≡ find (is_named name x) xs
    found_first place e = sym (ap (option_and_then (slice_get xs)) e) ∙ found

    pub found_none : lookup (same_name x) places ≡ None → None ≡ find (is_named name x) xs
    found_none e = sym (ap (option_and_then (slice_get xs)) e) ∙ found
