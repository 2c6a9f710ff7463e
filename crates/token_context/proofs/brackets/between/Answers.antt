use Rattle.token_context.proofs.Slices.{inside_is}
use Rattle.token_context.proofs.brackets.between.Goals as goal

pub returns-in-Some-split_last : goal.returns-in-Some-split_last
returns-in-Some-split_last c front inside rest o b e p q =
    inside_is front inside rest o b c.args.kinds.now c.in-Some.pair.now c.in-Some-split_first.behind.now c.in-Some-split_last.inside.now c.in-Some-split_first.field-0-0.now c.in-Some-split_last.field-0-0.now c.args.place c.args.end e p q c.in-Some.ensures.lookup.0.2 c.in-Some-split_first.ensures.cases.0 c.in-Some-split_last.ensures.cases.0
