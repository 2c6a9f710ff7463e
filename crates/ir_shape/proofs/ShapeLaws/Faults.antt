-- Lists of kinds and of faults.
use Rattle.std.proofs.Common.{◌≡◌, ℕ, ◌+◌, List, [], ◌∷◌, Option, None, Some, refl, ap}
use Rattle.std.specs.List.{AllByRecursion}
use Rattle.ir_types.specs.declared.names.Name.{Name}
use Rattle.ir_types.specs.declared.names.Sigil.{Sigil}
use Rattle.ir_shape.specs.declared.fault.LinePlace.{LinePlace}
use Rattle.ir_shape.specs.declared.fault.ShapeFault.{ShapeFault}
use Rattle.ir_typing.specs.declared.shape_kinds.kind.ShapeKind.{ShapeKind}
use Rattle.ir_typing.specs.ShapeKinds.Kinds.{least}
use Rattle.ir_shape.specs.Shape.{fault_of, first_of, in_kinds, in_line}
use Rattle.ir_shape.proofs.ShapeTests.Tests.{both_none, joined_none, least_none_left, least_none_right, left_none, right_none}

pub first_none : (faults : List ShapeFault) → first_of faults ≡ None → faults ≡ []
first_none [] e = refl
first_none (f ∷ faults) e = cc

pub no_kind : (s : Sigil) (f : Name) (place : Option LinePlace) (k : Option ShapeKind) → fault_of s f place k ≡ [] → k ≡ None
no_kind s f place None e = refl
no_kind s f place (Some k) e = cc

pub no_fault : (s : Sigil) (f : Name) (place : Option LinePlace) (k : Option ShapeKind) → k ≡ None → fault_of s f place k ≡ []
no_fault s f place k e = ap (fault_of s f place) e

-- no line has a fault
abbrev pub AllNone : List (Option ShapeKind) → Type 0
AllNone = AllByRecursion (λ (k : Option ShapeKind). k ≡ None)

pub kinds_by : (f b : Name) (k : ℕ) (own : Option ShapeKind) (kinds : List (Option ShapeKind)) (end : Option ShapeKind) → in_kinds f b k own kinds end ≡ []
    → (own ≡ None) × AllNone kinds × (end ≡ None)
kinds_by f b k own [] end e =
    let none = no_kind _ f _ (least own end) e in
    (least_none_left own end none, tt, least_none_right own end none)
kinds_by f b k own (x ∷ xs) end e =
    let none = no_kind _ f _ (least own x) (left_none (in_line f b k (least own x)) (in_kinds f b (k + 1) None xs end) e) in
    let more = kinds_by f b (k + 1) None xs end (right_none (in_line f b k (least own x)) (in_kinds f b (k + 1) None xs end) e) in
    (least_none_left own x none, (least_none_right own x none, more.1), more.2)

pub kinds_are : (f b : Name) (k : ℕ) (own : Option ShapeKind) (kinds : List (Option ShapeKind)) (end : Option ShapeKind) → own ≡ None → AllNone kinds → end ≡ None
    → in_kinds f b k own kinds end ≡ []
kinds_are f b k own [] end o all e = no_fault _ f _ (least own end) (both_none own end o e)
kinds_are f b k own (x ∷ xs) end o all e =
    joined_none (in_line f b k (least own x)) (in_kinds f b (k + 1) None xs end) (no_fault _ f _ (least own x) (both_none own x o all.0))
    (kinds_are f b (k + 1) None xs end refl all.1 e)
