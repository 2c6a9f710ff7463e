use Rattle.std.specs.Option.{option_copied}
use Rattle.module_walk.proofs.Led.{led_behind}
use Rattle.module_walk.proofs.operations.pointed_to.Goals as goal

pub returns-then-is_integer : goal.returns-then-is_integer
returns-then-is_integer g c =
    led_behind c.args.types.now c.args.of.now c.in-Some.first.now c.in-Some.further.now c.args.indices.now c.is_integer.result (option_copied c.led_to.result)
    c.in-Some.ensures.cases.0 c.is_integer.ensures c.if-is_integer.true c.led_to.ensures
