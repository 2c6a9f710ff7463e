use Rattle.std.proofs.Common.{◌≡◌, ◌+◌, ◌≤◌, drop}
use Rattle.std.specs.List.{sum_by}
use Rattle.ir_core.specs.Limits.{line_limit}
use Rattle.ir_typing.specs.ModuleLimits.Lines.{lines_in}
use Rattle.ir_typing.proofs.module_limits.lines.are_within.Given as goal

abbrev pub invariant-loop-block : goal.invariant-loop-block
invariant-loop-block l = (l.lines + sum_by lines_in (drop l.block-index l.blocks) ≡ sum_by lines_in l.blocks) × (l.lines ≤ line_limit)
