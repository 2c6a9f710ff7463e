-- Where each line gives its register a type, what is assumed of registers is what is told of them.
use Rattle.std.proofs.Common.{◌≡◌, ◌&&◌, ◌||◌, Bool, true, false, cond, List, [], ◌∷◌, ◌++◌, map, Option, None, Some, refl, sym, ap, ap₂}
use Rattle.std.specs.List.{AllByRecursion, flat_map}
use Rattle.std.specs.Option.{is_some}
use Rattle.ir_core.specs.declared.expressions.Element.{Element}
use Rattle.ir_core.specs.declared.expressions.Expr.{Expr}
use Rattle.ir_core.specs.declared.expressions.Expr.TheVariants as expr
use Rattle.ir_core.specs.declared.functions.Block.{Block}
use Rattle.ir_core.specs.declared.functions.Function.{Function}
use Rattle.ir_core.specs.declared.functions.Instr.{Instr}
use Rattle.ir_core.specs.declared.functions.Instr.TheVariants as instr
use Rattle.ir_core.specs.declared.modules.Module.{Module}
use Rattle.ir_core.specs.Expressions.{type_of}
use Rattle.ir_core.specs.Functions.{operands_of, params_of, phi_registers, register_of, set_by}
use Rattle.ir_core.specs.StatedTypes.{stated_by_line}
use Rattle.ir_core.specs.Types.{is_first_class}
use Rattle.ir_core.specs.Typing.{element_type, index_of}
use Rattle.ir_core.proofs.Lines.{set_none, set_one}
use Rattle.ir_types.specs.declared.named.NamedTy.{NamedTy}
use Rattle.ir_types.specs.declared.names.Name.{Name}
use Rattle.ir_types.specs.declared.ty.Ty.{Ty}
use Rattle.ir_types.specs.Named.{is_sized}
use Rattle.ir_typing.specs.OperandTests.Constants.{element_kind, may_be}
use Rattle.ir_typing.specs.OperandTests.Known.{are_types_known}
use Rattle.ir_typing.specs.declared.shape_kinds.kind.ShapeKind.TheVariants as kind
use Rattle.ir_typing.specs.ShapeKinds.Kinds.{fault_unless, least, points_to}
use Rattle.ir_typing.specs.ShapeKinds.Typed.{Types, none_typed, with_types}
use Rattle.ir_shape.specs.ShapeTests.Kinds.{gives_type, right_gives_type, right_kind, told_in, told_of, typed, types_of}
use Rattle.ir_shape.proofs.ShapeTests.Tests.{fits_by, least_none_right}
use Rattle.ir_shape.proofs.ShapeTests.Typed.{AllGive}
use Rattle.ir_shape.specs.LineShapes.Assumed.{told_by, told_in_by, types_by}
use Rattle.ir_shape.specs.LineShapes.Told.{addressed_kind, line_kind, operands_kind, rest_kind}

-- ---- one line

-- what a line tells of its register, where it sets one
pub assumed_one : (assumed : Bool) (types : List NamedTy) (l : Instr) (r : Name × Ty) → register_of l ≡ Some r
    → told_by assumed types l ≡ (r.0, cond (assumed || gives_type types l) (Some r.1) None) ∷ []
assumed_one assumed types l r e = ap (map (λ (r : Name × Ty). (r.0, cond (assumed || gives_type types l) (Some r.1) None))) (set_one l r e)

pub assumed_none : (assumed : Bool) (types : List NamedTy) (l : Instr) → register_of l ≡ None → told_by assumed types l ≡ []
assumed_none assumed types l e = ap (map (λ (r : Name × Ty). (r.0, cond (assumed || gives_type types l) (Some r.1) None))) (set_none l e)

element_leads : (m : Module) (e : Element Name) → element_kind m e ≡ None → is_some (element_type m.types e.of (map index_of e.indices)) ≡ true
element_leads m e none =
    let due = element_type m.types e.of (map index_of e.indices) in
    let based = fault_unless (points_to e.base.ty e.of) kind.OperandType in
    let stated = fault_unless (may_be due e.to) kind.OperandType in
    let sized = fault_unless (is_sized m.types e.of) kind.Unsized in
    let leads = fault_unless (is_some due) kind.GepIndex in
    fits_by (is_some due) kind.GepIndex
    (least_none_right sized leads (least_none_right stated (least sized leads) (least_none_right based (least stated (least sized leads)) none)))

right_gives : (m : Module) (e : Expr Name) → addressed_kind m e ≡ None → right_gives_type m.types e ≡ true
right_gives m (expr.Plain o) none = refl
right_gives m (expr.Binary b) none = refl
right_gives m (expr.Icmp c) none = refl
right_gives m (expr.Cast c) none = refl
right_gives m (expr.Select s) none = refl
right_gives m (expr.Element e) none = element_leads m e none
right_gives m (expr.Load l) none = refl

rest_gives : (m : Module) (l : Instr) → rest_kind m l ≡ None → gives_type m.types l ≡ true
rest_gives m (instr.Calm c) none =
    let value = fault_unless (is_first_class (type_of c.right)) kind.OperandType in
    right_gives m c.right (least_none_right (right_kind c.right) (addressed_kind m c.right) (least_none_right value (least (right_kind c.right) (addressed_kind m c.right)) none))
rest_gives m (instr.Alloca a) none = refl
rest_gives m (instr.Store s) none = refl
rest_gives m (instr.Call c) none = refl

-- a line with which nothing is wrong gives its register a type, whatever the types of registers are
pub line_gives : (m : Module) (types : Types) (new : Bool) (l : Instr) → line_kind m types new l ≡ None → gives_type m.types l ≡ true
line_gives m types new l none =
    let operands = operands_kind m types (operands_of l) in
    let named = fault_unless (new && are_types_known m (stated_by_line l)) kind.Name in
    rest_gives m l (least_none_right operands (rest_kind m l) (least_none_right named (least operands (rest_kind m l)) none))

-- ---- a function

-- an assumption that is true
given : (assumed b : Bool) → b ≡ true → (assumed || b) ≡ b
given true b e = sym e
given false b e = refl

lines_as_told : (assumed : Bool) (types : List NamedTy) (ls : List Instr) → AllGive types ls → flat_map (told_by assumed types) ls ≡ flat_map (told_of types) ls
lines_as_told assumed types [] all = refl
lines_as_told assumed types (l ∷ ls) all =
    ap₂ (λ (xs ys : List (Name × Option Ty)). xs ++ ys)
    (ap (λ b. map (λ (r : Name × Ty). let pair : Name × Option Ty = (r.0, cond b (Some r.1) None) in pair) (set_by (l ∷ []))) (given assumed (gives_type types l) all.0))
    (lines_as_told assumed types ls all.1)

blocks_as_told : (assumed : Bool) (types : List NamedTy) (bs : List Block) → AllByRecursion (λ (b : Block). AllGive types b.body) bs
    → flat_map (told_in_by assumed types) bs ≡ flat_map (told_in types) bs
blocks_as_told assumed types [] all = refl
blocks_as_told assumed types (b ∷ bs) all =
    ap₂ (λ (xs ys : List (Name × Option Ty)). (typed (phi_registers b.phis) ++ xs) ++ ys) (lines_as_told assumed types b.body all.0) (blocks_as_told assumed types bs all.1)

-- then the types that are assumed are those that are told
pub types_as_told : (assumed : Bool) (m : Module) (f : Function) → AllByRecursion (λ (b : Block). AllGive m.types b.body) f.blocks → types_by assumed m f ≡ types_of m f
types_as_told assumed m f all = ap (λ xs. with_types none_typed (typed (params_of f) ++ xs)) (blocks_as_told assumed m.types f.blocks all)
