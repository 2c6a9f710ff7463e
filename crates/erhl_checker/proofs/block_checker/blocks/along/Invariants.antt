use Rattle.std.proofs.Common.{◌≡◌, drop}
use Rattle.line_align.specs.Lent.{lent_block, lines_under}
use Rattle.erhl_checker.specs.CheckedPair.Asked.{asked}
use Rattle.erhl_checker.specs.CheckedPair.Progress.{lines_answer}
use Rattle.erhl_checker.proofs.block_checker.blocks.along.Given as goal

-- what is left answers what all answers
abbrev pub invariant-loop-i : goal.invariant-loop-i
invariant-loop-i g l =
    let w = asked (λ x. (goal.InferRule-dyn g x).called x.1) (λ x. (goal.InferRule-dyn g x).takes x.1) l.pair in
    let b = lent_block l.block in
    lines_answer w b l.i (lines_under (drop l.i l.letters) l.xs l.ys) l.known ≡ lines_answer w b 0 b.lines l.fn.entry
