use Rattle.std.proofs.Common.{rules}
use Rattle.std.proofs.lemmas.List.{take_more}
use Rattle.contents.proofs.exact.SeqExact.copy.Goals as goal

pub loop-x-preserved : goal.loop-x-preserved
loop-x-preserved g c = search (rules, take_more)
