use Rattle.std.proofs.Common.{◌≡◌, ◌++◌, drop}
use Rattle.definedness.specs.Flow.{closed_for}
use Rattle.definedness.proofs.flow.closed_for.Given as goal

abbrev pub invariant-loop-block : goal.invariant-loop-block
invariant-loop-block l = l.marks.items ++ closed_for l.name (drop l.block-index l.blocks) ≡ closed_for l.name l.blocks
