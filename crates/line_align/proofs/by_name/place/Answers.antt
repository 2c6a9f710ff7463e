use Rattle.std.proofs.Common.{◌∙◌, ap, rules}
use Rattle.line_align.specs.Grouped.{group_of}
use Rattle.line_align.proofs.Grouping.{joined_at}
use Rattle.line_align.proofs.by_name.place.Goals as goal

pub returns-in_ok-join-in-Some-clause-grouped : goal.returns-in_ok-join-in-Some-clause-grouped
returns-in_ok-join-in-Some-clause-grouped g c = λ x.
    ap (group_of x c.args.names.now) c.in_ok-join-in-Some.ensures
    ∙ joined_at x (g.T.Named.named c.args.item.now) c.args.item c.args.names.now c.args.groups.now.items c.in-Some.k c.requires (search rules)
