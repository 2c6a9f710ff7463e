use Rattle.std.proofs.Common.{rules}
use Rattle.line_align.proofs.Grouping.{first_some, first_none}
use Rattle.line_align.proofs.by_name.ByName.first.Goals as goal

pub returns-in-Some : goal.returns-in-Some
returns-in-Some g c = first_some c.all.result.now _ c.args.self.now c.in-Some.item.now c.all.ensures (search rules)

pub returns-in-None : goal.returns-in-None
returns-in-None g c = first_none c.all.result.now _ c.args.self.now c.all.ensures (search rules)
