-- The names of registers as they are taken.
use Rattle.std.proofs.Common.{◌≡◌, ◌∙◌, List, [], ◌∷◌, ap}
use Rattle.ir_core.specs.declared.functions.Instr.{Instr}
use Rattle.ir_types.specs.declared.names.Name.{Name}
use Rattle.ir_core.specs.Functions.{names_in, set_by}
use Rattle.ir_core.proofs.Lines.{names_more}
use Rattle.ir_shape.specs.Shape.{with_lines}
use Rattle.ir_typing.specs.ShapeKinds.Names.{with_names}
use Rattle.ir_shape.proofs.ShapeTests.Taken.{names_joined}

-- the names of a line and then of further ones
pub lines_joined : (taken : List Name) (l : Instr) (ls : List Instr) → with_lines taken (l ∷ ls) ≡ with_lines (with_lines taken (l ∷ [])) ls
lines_joined taken l ls = ap (with_names taken) (names_more l ls) ∙ names_joined taken (names_in (set_by (l ∷ []))) (names_in (set_by ls))
