use Rattle.std.proofs.Common.{◌∙◌, ap, sym}
use Rattle.ir_core.specs.declared.functions.Instr.{Instr}
use Rattle.ir_typing.specs.ShapeKinds.Kept.{type_in}
use Rattle.ir_shape.specs.LineShapes.Told.{line_kind}
use Rattle.ir_shape.proofs.line_shapes.told.line_kind.Goals as goal

pub returns-then-element_fits : goal.returns-then-element_fits
returns-then-element_fits c =
    c.fitting_kind.ensures c.in-Some.ensures.0
    ∙ ap (λ (line : Instr). line_kind c.args.beside.now (type_in c.args.types.now) c.args.new line) (sym c.in-Some.ensures.1)
