use Rattle.std.proofs.Common.{rules}
use Rattle.line_align.proofs.Grouping.{group_found, group_lacks}
use Rattle.line_align.proofs.by_name.ByName.all.Goals as goal

pub returns-in-Some : goal.returns-in-Some
returns-in-Some g c =
    let kept = c.self.inside in
    let found = group_found c.args.name.now kept.names kept.groups.items c.in-Some.k c.self.invariant.1 (search rules) in
    let all = c.self.invariant.2 c.args.name.now in
    cc (found, all)

pub returns-in-None : goal.returns-in-None
returns-in-None g c =
    let kept = c.self.inside in
    let lacks = group_lacks c.args.name.now kept.names kept.groups.items (search rules) in
    let all = c.self.invariant.2 c.args.name.now in
    cc (lacks, all)
