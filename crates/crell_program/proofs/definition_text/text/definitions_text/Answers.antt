use Rattle.crell_program.proofs.DefinitionText.Writing.{all_functions_told, one_function_more}
use Rattle.crell_program.proofs.definition_text.text.definitions_text.Goals as goal

pub loop-function-preserved : goal.loop-function-preserved
loop-function-preserved c =
    one_function_more c.args.functions.now c.loop-function.function-index c.function-item.result c.loop-function.text.items _ c.loop-function-test.true
    c.function-item.is c.loop-function.invariant c.in_ok-push_function.ensures

pub returns : goal.returns
returns c =
    all_functions_told c.args.functions.now c.loop-function.function-index c.loop-function.text.items c.loop-function-test.false c.loop-function.invariant
