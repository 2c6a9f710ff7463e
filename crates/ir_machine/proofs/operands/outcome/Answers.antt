use Rattle.std.proofs.Common.{ap, ◌∙◌, sym}
use Rattle.ir_core.specs.declared.expressions.Expr.TheVariants.{Select}
use Rattle.ir_machine.specs.Places.{registers_in}
use Rattle.ir_machine.specs.Registers as meaning
use Rattle.ir_machine.specs.State.{scope_of}
use Rattle.ir_machine.proofs.operands.outcome.Goals as goal

pub returns-in-Select-clause-value : goal.returns-in-Select-clause-value
returns-in-Select-clause-value c =
    let reading = meaning.read (registers_in c.args.registers.now) in
    c.select_outcome.ensures.value
    ∙ ap (λ s. meaning.outcome (scope_of c.args.«module».now) reading c.args.world.now.blocks (Select s)) c.get.ensures
    ∙ sym (ap (λ e. meaning.outcome (scope_of c.args.«module».now) reading c.args.world.now.blocks e) c.in-Select.is)
