use Rattle.ir_machine.specs.Places.{world_in}
use Rattle.ir_machine.proofs.Telling.{return_asks_none, return_takes_asked}
use Rattle.ir_machine.proofs.stepping.last_return.Goals as goal

pub returns-in_err-two_items-clause-told : goal.returns-in_err-two_items-clause-told
returns-in_err-two_items-clause-told g c = return_asks_none c.args.kind c.args.value (world_in c.args.world.now) _

pub returns-in-Ok-clause-told : goal.returns-in-Ok-clause-told
returns-in-Ok-clause-told g c = return_takes_asked c.show.result c.args.kind c.args.value _ _ _ _ c.show.ensures.answers

pub returns-in-Err-Wrong-clause-told : goal.returns-in-Err-Wrong-clause-told
returns-in-Err-Wrong-clause-told g c = return_takes_asked c.show.result c.args.kind c.args.value _ _ _ _ c.show.ensures.answers

pub returns-in-Err-NoChoice-clause-told : goal.returns-in-Err-NoChoice-clause-told
returns-in-Err-NoChoice-clause-told g c = return_takes_asked c.show.result c.args.kind c.args.value _ _ _ _ c.show.ensures.answers

pub returns-in-Err-Memory-clause-told : goal.returns-in-Err-Memory-clause-told
returns-in-Err-Memory-clause-told g c = return_takes_asked c.show.result c.args.kind c.args.value _ _ _ _ c.show.ensures.answers
