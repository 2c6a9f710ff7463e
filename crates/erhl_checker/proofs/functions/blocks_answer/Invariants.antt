use Rattle.std.proofs.Common.{◌≡◌, map, drop}
use Rattle.erhl_assert.specs.Course.{judged_answer}
use Rattle.erhl_assert.specs.Acceptance.{blocks_judged}
use Rattle.line_align.specs.Lent.{lent_block}
use Rattle.erhl_checker.specs.CheckedPair.Asked.{asked}
use Rattle.erhl_checker.proofs.functions.blocks_answer.Given as goal

-- the blocks that are left answer what all answer
abbrev pub invariant-loop-block : goal.invariant-loop-block
invariant-loop-block g l =
    let w = asked (λ x. (goal.InferRule-dyn g x).called x.1) (λ x. (goal.InferRule-dyn g x).takes x.1) l.pair in
    judged_answer (blocks_judged w l.rest (map lent_block (drop l.block-index l.blocks))) ≡ judged_answer (blocks_judged w l.marks (map lent_block l.blocks))
