-- Words of private functions: what is wrong in a function of whose names none stands twice.
use Rattle.std.specs.Prelude.{ℕ, ◌+◌, true, List, [], ◌∷◌, ◌++◌, length, map, Option}
use Rattle.std.specs.List.{flat_map}
use Rattle.ir_core.specs.declared.functions.Block.{Block}
use Rattle.ir_core.specs.declared.functions.Function.{Function}
use Rattle.ir_core.specs.declared.functions.Instr.{Instr}
use Rattle.ir_core.specs.declared.functions.Phi.{Phi}
use Rattle.ir_core.specs.declared.modules.Module.{Module}
use Rattle.ir_core.specs.Functions.{edges_into}
use Rattle.ir_types.specs.declared.names.Name.{Name}
use Rattle.ir_shape.specs.LineShapes.Told.{end_kind, line_kind, phi_kind}
use Rattle.ir_typing.specs.declared.shape_kinds.kind.ShapeKind.{ShapeKind}
use Rattle.ir_typing.specs.ShapeKinds.Typed.{Types}
use Rattle.ir_shape.specs.declared.fault.ShapeFault.{ShapeFault}
use Rattle.ir_shape.specs.Shape.{in_line}

-- in lines of these kinds, from the one of that number on
abbrev pub in_each : Name → Name → ℕ → List (Option ShapeKind) → List ShapeFault
in_each function block line [] = []
in_each function block line (kind ∷ kinds) = in_line function block line kind ++ in_each function block (line + 1) kinds

-- each name is new
abbrev pub new_phi_kinds : Module → List Name → Types → List Name → List Phi → List (Option ShapeKind)
new_phi_kinds m labels types edges = map (λ (p : Phi). phi_kind m labels types edges true p)

abbrev pub new_line_kinds : Module → Types → List Instr → List (Option ShapeKind)
new_line_kinds m types = map (λ (l : Instr). line_kind m types true l)

-- the terminator stands behind phis and lines
abbrev pub in_end : Module → Function → List Name → Types → Name → Block → List ShapeFault
in_end m f labels types entry b = in_line f.name b.name (length b.phis + length b.body) (end_kind m labels types entry f.result b.term)

abbrev pub in_new_block : Module → Function → List Name → Types → Name → Block → List ShapeFault
in_new_block m f labels types entry b =
    in_each f.name b.name 0 (new_phi_kinds m labels types (edges_into f b.name) b.phis)
    ++ (in_each f.name b.name (length b.phis) (new_line_kinds m types b.body) ++ in_end m f labels types entry b)

abbrev pub in_new_blocks : Module → Function → List Name → Types → Name → List Block → List ShapeFault
in_new_blocks m f labels types entry = flat_map (in_new_block m f labels types entry)

-- the first block is the entry
abbrev pub in_new_body : Module → Function → List Name → Types → List Block → List ShapeFault
in_new_body m f labels types [] = []
in_new_body m f labels types (first ∷ further) = in_new_blocks m f labels types first.name (first ∷ further)
