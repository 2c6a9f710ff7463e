use Rattle.ir_typing.specs.OperandTests.Kept.{declared, defined}
use Rattle.ir_typing.proofs.OperandTests.Firsts.{both_kept, none_kept}
use Rattle.ir_typing.proofs.operand_tests.callees.Callees.of.Goals as goal

pub returns : goal.returns
returns c = λ x.
    both_kept _ _ _ (defined c.args.functions.now) (declared c.args.declarations.now) x (none_kept (record { first = c.in_ok-with_capacity.field-0 }) c.in_ok-with_capacity.ensures.empty x)
    (c.in_ok-put_definitions.ensures x) (c.in_ok-put_declarations.ensures x)
