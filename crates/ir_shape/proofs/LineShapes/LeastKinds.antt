-- The least kind of a list, as it is found one by one.
use Rattle.std.proofs.Common.{◌≡◌, ◌∙◌, ℕ, ◌+◌, ◌<◌, List, ◌∷◌, length, drop, get_or, Option, sym, ap}
use Rattle.std.proofs.lemmas.List.{drop_more}
use Rattle.ir_typing.specs.declared.shape_kinds.kind.ShapeKind.{ShapeKind}
use Rattle.ir_typing.specs.ShapeKinds.Kinds.{least}
use Rattle.ir_typing.proofs.OperandTests.Least.{least_assoc}

-- one more of a list whose least kind is that of the first and of the others
pub one_more : {A : Type 0} (F : List A → Option ShapeKind) (g : A → Option ShapeKind) → ((x : A) (xs : List A) → F (x ∷ xs) ≡ least (g x) (F xs))
    → (found here new whole : Option ShapeKind) (xs : List A) (k : ℕ) (x : A) → k < length xs → x ≡ get_or xs k x → here ≡ g x → new ≡ least found here
    → least found (F (drop k xs)) ≡ whole → least new (F (drop (k + 1) xs)) ≡ whole
one_more {A = A} F g step found here new whole xs k x within at is put so_far =
    let rest = drop (k + 1) xs in
    let on : F (drop k xs) ≡ least (g x) (F rest) = ap F (drop_more xs k x within ∙ ap (λ (y : A). y ∷ rest) (sym at)) ∙ step x rest in
    ap (λ kind. least kind (F rest)) (put ∙ ap (least found) is) ∙ least_assoc found (g x) (F rest) ∙ sym (ap (least found) on) ∙ so_far
