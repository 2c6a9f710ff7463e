use Rattle.std.specs.Option.{option_copied}
use Rattle.postcondition.proofs.LineFacts.{all_done}
use Rattle.postcondition.proofs.lines.past.Goals as goal

pub returns : goal.returns
returns g c =
    all_done c.args.types.now c.args.sides.now (option_copied c.args.source) (option_copied c.args.target) c.side_after.new.sides c.side_after-2.new.sides
    c.diff_after.new.sides c.are_agreed-agreed.result c.are_agreed-agreed.ensures c.in_ok-side_after.ensures c.in_ok-side_after-2.ensures c.in_ok-diff_after.ensures
