use Rattle.std.proofs.Common.{◌≡◌, drop}
use Rattle.line_align.specs.Lent.{lines_under}
use Rattle.erhl_checker.specs.CheckedPair.Agreeing.{all_agree}
use Rattle.erhl_checker.proofs.checked_pair.agreeing.all_agree.Given as goal

abbrev pub invariant-loop-letter : goal.invariant-loop-letter
invariant-loop-letter l = all_agree (lines_under (drop l.letter-index l.letters) l.xs l.ys) ≡ all_agree (lines_under l.letters l.source l.target)
