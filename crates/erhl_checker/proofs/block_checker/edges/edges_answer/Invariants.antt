use Rattle.std.proofs.Common.{◌≡◌, drop}
use Rattle.erhl_assert.specs.Course.{judged_answer}
use Rattle.erhl_assert.specs.Acceptance.{edges_judged}
use Rattle.std.specs.Prelude.{IfSome}
use Rattle.erhl_checker.specs.BlockChecker.Plain.{IsOverPlain}
use Rattle.erhl_checker.specs.CheckedPair.Asked.{asked}
use Rattle.erhl_checker.specs.CheckedPair.Progress.{names_lent}
use Rattle.erhl_checker.proofs.block_checker.edges.edges_answer.Given as goal

-- the edges that are left answer what all answer, and what is kept is known over each plain edge
abbrev pub invariant-loop-to : goal.invariant-loop-to
invariant-loop-to g l =
    let w = asked (λ x. (goal.InferRule-dyn g x).called x.1) (λ x. (goal.InferRule-dyn g x).takes x.1) l.pair in
    (judged_answer (edges_judged w l.from l.known (names_lent (drop l.to-index l.labels))) ≡ judged_answer (edges_judged w l.from l.known (names_lent l.labels)))
    × IfSome l.plain (IsOverPlain l.from l.known)
