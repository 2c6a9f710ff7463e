-- What is told of registers, where it may be assumed that each line gives its register a type.
use Rattle.std.specs.Prelude.{◌||◌, Bool, cond, List, [], ◌∷◌, ◌++◌, map, Option, None, Some}
use Rattle.std.specs.List.{flat_map}
use Rattle.ir_core.specs.declared.functions.Block.{Block}
use Rattle.ir_core.specs.declared.functions.Function.{Function}
use Rattle.ir_core.specs.declared.functions.Instr.{Instr}
use Rattle.ir_core.specs.declared.modules.Module.{Module}
use Rattle.ir_core.specs.Functions.{params_of, phi_registers, set_by}
use Rattle.ir_types.specs.declared.named.NamedTy.{NamedTy}
use Rattle.ir_types.specs.declared.names.Name.{Name}
use Rattle.ir_types.specs.declared.ty.Ty.{Ty}
use Rattle.ir_typing.specs.ShapeKinds.Typed.{Types, none_typed, with_types}
use Rattle.ir_shape.specs.ShapeTests.Kinds.{gives_type, typed}

-- a line's register with its type, where the line gives it or it is assumed to
abbrev pub told_by : Bool → List NamedTy → Instr → List (Name × Option Ty)
told_by assumed types line = map (λ (r : Name × Ty). (r.0, cond (assumed || gives_type types line) (Some r.1) None)) (set_by (line ∷ []))

-- the registers that a block sets
abbrev pub told_in_by : Bool → List NamedTy → Block → List (Name × Option Ty)
told_in_by assumed types b = typed (phi_registers b.phis) ++ flat_map (told_by assumed types) b.body

-- What is told of a function's registers, each as it is first defined. Where nothing is assumed it is `types_of`; and else in
-- `%p = getelementptr i32, i32* %q, i64 0, i64 1` too the register `%p` has the type that the line states.
abbrev pub types_by : Bool → Module → Function → Types
types_by assumed m f = with_types none_typed (typed (params_of f) ++ flat_map (told_in_by assumed m.types) f.blocks)
