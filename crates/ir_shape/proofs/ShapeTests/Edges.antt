-- The edges into a block, and the entries of its phis.
use Rattle.std.proofs.Common.{◌≡◌, ◌∙◌, ◌&&◌, Bool, true, false, List, [], ◌∷◌, ◌++◌, refl, sym, ap}
use Rattle.std.specs.List.{list_all}
use Rattle.ir_types.specs.declared.names.Name.{Name}
use Rattle.ir_shape.specs.ShapeTests.Edges.{agrees}
use Rattle.ir_shape.specs.ShapeTests.Kinds.{same_counts}

both_assoc : (a b c : Bool) → ((a && b) && c) ≡ (a && (b && c))
both_assoc true b c = refl
both_assoc false b c = refl

all_joined : (p : Name → Bool) (xs ys : List Name) → list_all p (xs ++ ys) ≡ (list_all p xs && list_all p ys)
all_joined p [] ys = refl
all_joined p (x ∷ xs) ys = ap (λ b. p x && b) (all_joined p xs ys) ∙ sym (both_assoc (p x) (list_all p xs) (list_all p ys))

pub counts_joined : (xs ys : List Name) → same_counts xs ys ≡ (list_all (agrees xs ys) xs && list_all (agrees xs ys) ys)
counts_joined xs ys = all_joined (agrees xs ys) xs ys
