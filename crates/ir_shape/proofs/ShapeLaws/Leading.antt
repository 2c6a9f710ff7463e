-- Where nothing is wrong with lines, and where they fit, each gives its register a type.
use Rattle.std.proofs.Common.{◌≡◌, true, List, [], ◌∷◌, ◌++◌, Option, None, refl, subst, map}
use Rattle.std.specs.List.{AllByRecursion}
use Rattle.std.specs.Option.{is_some}
use Rattle.ir_core.specs.declared.expressions.Element.{Element}
use Rattle.ir_core.specs.declared.expressions.Expr.{Expr}
use Rattle.ir_core.specs.declared.expressions.Expr.TheVariants as expr
use Rattle.ir_core.specs.declared.functions.Block.{Block}
use Rattle.ir_core.specs.declared.functions.Function.{Function}
use Rattle.ir_core.specs.declared.functions.Instr.{Instr}
use Rattle.ir_core.specs.declared.functions.Instr.TheVariants as instr
use Rattle.ir_core.specs.declared.modules.Module.{Module}
use Rattle.ir_types.specs.declared.names.Name.{Name}
use Rattle.ir_types.specs.declared.ty.Ty.{Ty}
use Rattle.ir_types.specs.Named.{is_sized}
use Rattle.ir_core.specs.Expressions.{type_of}
use Rattle.ir_core.specs.Functions.{edges_into, operands_of}
use Rattle.ir_core.specs.StatedTypes.{stated_by_line}
use Rattle.ir_core.specs.Types.{is_first_class}
use Rattle.ir_core.specs.Typing.{element_type, index_of}
use Rattle.ir_core.specs.WellFormed.{HasBlockShape, IsLine}
use Rattle.ir_core.specs.NameIndexes.Among.{is_among}
use Rattle.ir_typing.specs.OperandTests.Constants.{element_kind, may_be}
use Rattle.ir_typing.specs.OperandTests.Known.{are_types_known}
use Rattle.ir_typing.specs.declared.shape_kinds.kind.ShapeKind.{ShapeKind}
use Rattle.ir_typing.specs.declared.shape_kinds.kind.ShapeKind.TheVariants as kind
use Rattle.ir_typing.specs.ShapeKinds.Kinds.{fault_unless, least, points_to}
use Rattle.ir_typing.specs.ShapeKinds.Names.{with_name}
use Rattle.ir_typing.specs.ShapeKinds.Typed.{Types}
use Rattle.ir_shape.specs.ShapeTests.Kinds.{block_kind, gives_type, right_gives_type, right_kind}
use Rattle.ir_shape.proofs.ShapeTests.Fits.{addressed_is}
use Rattle.ir_shape.proofs.ShapeTests.Tests.{all_right, fits_by, least_none_right, left_none, right_none}
use Rattle.ir_shape.proofs.ShapeTests.Typed.{AllGive}
use Rattle.ir_shape.specs.Shape.{in_block, in_blocks, in_body, is_taken, line_kinds, phi_kinds, with_block, with_lines, with_phis}
use Rattle.ir_shape.specs.LineShapes.Told.{addressed_kind, end_kind, operands_kind, rest_kind}
use Rattle.ir_shape.proofs.ShapeLaws.Faults.{AllNone, kinds_by}
use Rattle.ir_shape.proofs.ShapeLaws.Lines.{addressed_none}

element_leads : (m : Module) (e : Element Name) → element_kind m e ≡ None → is_some (element_type m.types e.of (map index_of e.indices)) ≡ true
element_leads m e none =
    let due = element_type m.types e.of (map index_of e.indices) in
    let based = fault_unless (points_to e.base.ty e.of) kind.OperandType in
    let stated = fault_unless (may_be due e.to) kind.OperandType in
    let sized = fault_unless (is_sized m.types e.of) kind.Unsized in
    let leads = fault_unless (is_some due) kind.GepIndex in
    fits_by (is_some due) kind.GepIndex
    (least_none_right sized leads (least_none_right stated (least sized leads) (least_none_right based (least stated (least sized leads)) none)))

right_gives : (m : Module) (e : Expr Name) → addressed_kind m e ≡ None → right_gives_type m.types e ≡ true
right_gives m (expr.Plain o) none = refl
right_gives m (expr.Binary b) none = refl
right_gives m (expr.Icmp c) none = refl
right_gives m (expr.Cast c) none = refl
right_gives m (expr.Select s) none = refl
right_gives m (expr.Element e) none = element_leads m e none
right_gives m (expr.Load l) none = refl

line_gives : (m : Module) (l : Instr) → rest_kind m l ≡ None → gives_type m.types l ≡ true
line_gives m (instr.Calm c) none =
    let value = fault_unless (is_first_class (type_of c.right)) kind.OperandType in
    right_gives m c.right (least_none_right (right_kind c.right) (addressed_kind m c.right) (least_none_right value (least (right_kind c.right) (addressed_kind m c.right)) none))
line_gives m (instr.Alloca a) none = refl
line_gives m (instr.Store s) none = refl
line_gives m (instr.Call c) none = refl

lines_give : (m : Module) (types : Types) (taken : List Name) (ls : List Instr) → AllNone (line_kinds m types taken ls) → AllGive m.types ls
lines_give m types taken [] all = tt
lines_give m types taken (l ∷ ls) all =
    let operands = operands_kind m types (operands_of l) in
    (line_gives m l (least_none_right operands (rest_kind m l) (least_none_right _ (least operands (rest_kind m l)) all.0)), lines_give m types (with_lines taken (l ∷ [])) ls all.1)

-- ---- a body without fault

block_gives : (m : Module) (f : Function) (labels : List Name) (types : Types) (entry : Name) (earlier taken : List Name) (b : Block)
    → in_block m f labels types entry earlier taken b ≡ [] → AllGive m.types b.body
block_gives m f labels types entry earlier taken b none =
    let phis = phi_kinds m labels types (edges_into f b.name) (with_name taken b.name) b.phis in
    let lines = line_kinds m types (with_phis (with_name taken b.name) b.phis) b.body in
    let all = kinds_by f.name b.name 0 (block_kind (is_among b.name earlier) (is_among b.name taken)) (phis ++ lines) (end_kind m labels types entry f.result b.term) none in
    lines_give m types (with_phis (with_name taken b.name) b.phis) b.body (all_right _ phis lines all.1)

blocks_give : (m : Module) (f : Function) (labels : List Name) (types : Types) (entry : Name) (earlier taken : List Name) (bs : List Block)
    → in_blocks m f labels types entry earlier taken bs ≡ [] → AllByRecursion (λ (b : Block). AllGive m.types b.body) bs
blocks_give m f labels types entry earlier taken [] none = tt
blocks_give m f labels types entry earlier taken (b ∷ bs) none =
    let here = in_block m f labels types entry earlier taken b in
    let further = in_blocks m f labels types entry (with_name earlier b.name) (with_block taken b) bs in (
      block_gives m f labels types entry earlier taken b (left_none here further none),
      blocks_give m f labels types entry (with_name earlier b.name) (with_block taken b) bs (right_none here further none),
    )

pub body_gives : (m : Module) (f : Function) (labels : List Name) (types : Types) (params : List Name) (bs : List Block)
    → in_body m f labels types params bs ≡ [] → AllByRecursion (λ (b : Block). AllGive m.types b.body) bs
body_gives m f labels types params [] none = tt
body_gives m f labels types params (first ∷ further) none = blocks_give m f labels types first.name [] params (first ∷ further) none

-- ---- lines that fit

line_fits : (m : Module) (l : Instr) → IsLine m l → gives_type m.types l ≡ true
line_fits m (instr.Calm c) is = right_gives m c.right (addressed_none m c.right (addressed_is m c.right is))
line_fits m (instr.Alloca a) is = refl
line_fits m (instr.Store s) is = refl
line_fits m (instr.Call c) is = refl

lines_fit : (m : Module) (ls : List Instr) → AllByRecursion (IsLine m) ls → AllGive m.types ls
lines_fit m [] all = tt
lines_fit m (l ∷ ls) all = (line_fits m l all.0, lines_fit m ls all.1)

pub blocks_with_shape : (m : Module) (f : Function) (bs : List Block) → AllByRecursion (HasBlockShape m f) bs → AllByRecursion (λ (b : Block). AllGive m.types b.body) bs
blocks_with_shape m f [] all = tt
blocks_with_shape m f (b ∷ bs) all = (lines_fit m b.body all.0.lines, blocks_with_shape m f bs all.1)
