-- The kinds of what can be wrong at a place of a module, and which of several is told.
use Rattle.std.specs.Prelude.{ℕ, Bool, cond, List, [], ◌∷◌, codes, nat_lt, Option, None, Some}
use Rattle.ir_types.specs.declared.ty.Ty.{Ty, Ptr}
use Rattle.ir_types.specs.Same.{same_ty}
use Rattle.ir_typing.specs.declared.shape_kinds.kind.ShapeKind.{ShapeKind}
use Rattle.ir_typing.specs.declared.shape_kinds.kind.ShapeKind.TheVariants as kind

-- the words in which a kind is told
abbrev pub kind_text : ShapeKind → List ℕ
kind_text kind.Name = codes "name"
kind_text kind.Label = codes "label"
kind_text kind.EntryEntered = codes "entry entered"
kind_text kind.PhiEntries = codes "phi entries"
kind_text kind.OperandType = codes "operand type"
kind_text kind.CallType = codes "call type"
kind_text kind.ReturnType = codes "return type"
kind_text kind.CaseTwice = codes "case twice"
kind_text kind.CastWidth = codes "cast width"
kind_text kind.Unsized = codes "unsized"
kind_text kind.GepIndex = codes "gep index"

-- the place of a kind in that list, which decides between two at one place of a module
abbrev pub order_of : ShapeKind → ℕ
order_of kind.Name = 0
order_of kind.Label = 1
order_of kind.EntryEntered = 2
order_of kind.PhiEntries = 3
order_of kind.OperandType = 4
order_of kind.CallType = 5
order_of kind.ReturnType = 6
order_of kind.CaseTwice = 7
order_of kind.CastWidth = 8
order_of kind.Unsized = 9
order_of kind.GepIndex = 10

abbrev pub fault_unless : Bool → ShapeKind → Option ShapeKind
fault_unless fits kind = cond fits None (Some kind)

-- the one that comes first in the list of kinds
abbrev pub least : Option ShapeKind → Option ShapeKind → Option ShapeKind
least None other = other
least (Some kind) None = Some kind
least (Some kind) (Some other) = Some (cond (nat_lt (order_of other) (order_of kind)) other kind)

abbrev pub least_of : List (Option ShapeKind) → Option ShapeKind
least_of [] = None
least_of (kind ∷ kinds) = least kind (least_of kinds)

-- a pointer to this type
abbrev pub points_to : Ty → Ty → Bool
points_to pointer t = same_ty pointer (Ptr t)
