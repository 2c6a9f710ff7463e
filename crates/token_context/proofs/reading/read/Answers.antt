use Rattle.token_context.proofs.Watched.{read_other, read_within}
use Rattle.token_context.proofs.reading.read.Goals as goal

pub returns-in-None : goal.returns-in-None
returns-in-None c =
    read_within c.args.start c.args.kinds.now c.in_ok-fault.fault c.new-watch.result c.parse.new.actions c.limit.result c.reading_of.result c.requires c.new-watch.ensures
    c.limit.ensures c.reading_of.ensures c.in-None.is c.in_ok-fault.ensures.answer

pub returns : goal.returns
returns c =
    read_other c.args.start c.args.kinds.now c.in_ok-fault.fault c.new-watch.result c.parse.new.actions _ c.in-Some.is c.in_ok-fault.ensures.answer
