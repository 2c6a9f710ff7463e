use Rattle.std.specs.Option.{option_copied}
use Rattle.erhl_assert.specs.Alignment.{Line}
use Rattle.postcondition.proofs.LineFacts.{known_after}
use Rattle.postcondition.proofs.lines.after_line.Goals as goal

pub returns-in-Ok-clause-after : goal.returns-in-Ok-clause-after
returns-in-Ok-clause-after g c =
    let l : Line = record { source = option_copied c.args.line.now.source; target = option_copied c.args.line.now.target } in
    known_after c.args.module.now.types l c.args.sides.now c.past.new.sides c.in-Ok.ensures
