use Rattle.std.proofs.Common.{◌≡◌, drop}
use Rattle.erhl_assert.specs.Alignment.{aligned}
use Rattle.line_align.specs.Cursor.{is_aligned}
use Rattle.line_align.proofs.alignment.is_aligned.Given as goal

abbrev pub invariant-loop-letter : goal.invariant-loop-letter
invariant-loop-letter l = is_aligned (aligned (drop l.letter-index l.letters) l.xs l.ys) ≡ is_aligned (aligned l.letters l.source l.target)
