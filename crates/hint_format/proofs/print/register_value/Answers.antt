use Rattle.hint_format.proofs.PrintedFacts.{register_is_ascii}
use Rattle.hint_format.proofs.print.register_value.Goals as goal

pub value_of-requires : goal.value_of-requires
value_of-requires c = register_is_ascii c.args.register.now c.in_ok-text.text.items c.in_ok-text.ensures
