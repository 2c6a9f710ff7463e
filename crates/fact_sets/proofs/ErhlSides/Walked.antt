-- A walk over a list by number.
use Rattle.std.proofs.Common.{◌≡◌, ◌∙◌, ℕ, ◌+◌, zero, suc, List, [], ◌∷◌, drop, refl, ap, sym, arith}
use Rattle.std.proofs.lemmas.List.{at_drop_more}
use Rattle.std.proofs.lemmas.Option.{get_or_from_slice_get, slice_get_within}
use Rattle.std.specs.Prelude.{Bool, true, false, ◌||◌, slice_get, None, Some}
use Rattle.std.specs.List.{list_any}

nothing_past : {X : Type 0} (k : ℕ) (xs : List X) → slice_get xs k ≡ None → drop k xs ≡ drop (suc k) xs
nothing_past zero [] h = refl
nothing_past zero (x ∷ xs) h = absurd (cc)
nothing_past (suc k) [] h = refl
nothing_past (suc k) (x ∷ xs) h = nothing_past k xs h

module _ {X Y : Type 0} (F : List X → Y) (k : ℕ) (xs : List X) where
  -- what is left begins with the item of that number
  pub from_here : (x : X) → slice_get xs k ≡ Some x → F (drop k xs) ≡ F (x ∷ drop (k + 1) xs)
  from_here x h = at_drop_more F xs k x (slice_get_within xs k x h) ∙ ap (λ y. F (y ∷ drop (k + 1) xs)) (get_or_from_slice_get xs k x x h)

  pub from_nowhere : slice_get xs k ≡ None → F (drop k xs) ≡ F (drop (k + 1) xs)
  from_nowhere h = let e : suc k ≡ k + 1 = omega arith in ap F (nothing_past k xs h ∙ ap (λ (n : ℕ). drop n xs) e)

-- a walk that looks for an item that passes
module _ {X : Type 0} (p : X → Bool) (k : ℕ) (xs : List X) (so_far : list_any p (drop k xs) ≡ list_any p xs) where
  pub found : (x : X) → slice_get xs k ≡ Some x → true ≡ p x → true ≡ list_any p xs
  found x h passes = let here : list_any p (drop k xs) ≡ (p x || list_any p (drop (k + 1) xs)) = from_here (list_any p) k xs x h in
      ap (λ b. b || list_any p (drop (k + 1) xs)) passes ∙ sym here ∙ so_far

  pub not_yet : (x : X) → slice_get xs k ≡ Some x → false ≡ p x → list_any p (drop (k + 1) xs) ≡ list_any p xs
  not_yet x h fails = let here : list_any p (drop k xs) ≡ (p x || list_any p (drop (k + 1) xs)) = from_here (list_any p) k xs x h in
      ap (λ b. b || list_any p (drop (k + 1) xs)) fails ∙ sym here ∙ so_far

  pub nowhere : slice_get xs k ≡ None → list_any p (drop (k + 1) xs) ≡ list_any p xs
  nowhere h = sym (from_nowhere (list_any p) k xs h) ∙ so_far
