use Rattle.ir_types.specs.Kept.{value_of, fields_at}
use Rattle.ir_types.proofs.KeptNames.{all_closed}
use Rattle.ir_types.proofs.keeping.keep_layouts.Goals as goal

pub returns-clause-kept : goal.returns-clause-kept
returns-clause-kept c =
    all_closed c.args.types.now (fields_at c.args.fields.now) (value_of c.keep_round.new.layouts) c.requires.indexed
    c.in_ok-keep_round.ensures.partly (c.in_ok-keep_round.ensures.closed c.if-branch.false)
