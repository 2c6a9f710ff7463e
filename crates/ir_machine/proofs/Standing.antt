-- What is left of a list from a place on.
use Rattle.std.proofs.Common.{◌≡◌, ℕ, ◌<◌, ◌+◌, List, ◌∷◌, length, get_or, drop, refl, ◌∙◌, add-one}
use Rattle.std.proofs.Math.Seq.{drop-cons}

pub drop_at : {X : Type 0} (xs : List X) (k : ℕ) (x : X) → k < length xs → x ≡ get_or xs k x → drop k xs ≡ x ∷ drop (k + 1) xs
drop_at xs k x h is = drop-cons xs k x h ∙ rw (add-one, ← is) refl
