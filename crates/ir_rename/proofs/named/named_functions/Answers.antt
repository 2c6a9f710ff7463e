use Rattle.ir_rename.specs.Named.{named_function}
use Rattle.ir_rename.proofs.Lists.{pushed}
use Rattle.ir_rename.proofs.named.named_functions.Goals as goal

pub loop-function-preserved : goal.loop-function-preserved
loop-function-preserved c =
    pushed named_function c.args.functions.now c.loop-function.function-index c.function-item.result c.loop-function.named.items c.push.new.self.items c.in_ok-named_function.field-0
    c.loop-function-test.true c.function-item.is c.in_ok-named_function.ensures c.in_ok-push.ensures.items c.loop-function.invariant
