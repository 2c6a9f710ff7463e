use Rattle.std.proofs.Common.{rules}
use Rattle.std.proofs.lemmas.List.{take_more_same}
use Rattle.contents.proofs.exact.SeqExact.is.Goals as goal

pub loop-i-preserved : goal.loop-i-preserved
loop-i-preserved g c = search (rules, take_more_same)
