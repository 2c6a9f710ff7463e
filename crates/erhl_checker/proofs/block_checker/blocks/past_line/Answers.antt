use Rattle.std.proofs.Common.{map}
use Rattle.erhl_assert.specs.Growth.{over_line}
use Rattle.erhl_assert.specs.Steps.{after_steps}
use Rattle.line_align.specs.Cursor.{aligned_line}
use Rattle.erhl_checker.specs.CheckedPair.Asked.{asked}
use Rattle.erhl_checker.proofs.CheckedPair.Progressing.{came_then}
use Rattle.erhl_checker.proofs.block_checker.blocks.past_line.Goals as goal

pub returns-in-None : goal.returns-in-None
returns-in-None g c =
    came_then (after_steps (asked _ _ c.args.pair.now) (map (λ s. s.now) c.args.steps.now) c.args.known.now) (over_line (asked _ _ c.args.pair.now).scope.types (aligned_line c.args.letter c.args.xs.now c.args.ys.now))
    c.in_ok-after_steps.field-0 c.after_steps.new.known c.in_ok-after_steps.ensures c.in-None.is c.over_line.result c.over_line.new.known c.over_line.ensures
