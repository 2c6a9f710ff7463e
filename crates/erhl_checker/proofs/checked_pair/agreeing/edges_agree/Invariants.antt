use Rattle.std.proofs.Common.{◌≡◌, drop}
use Rattle.erhl_checker.specs.CheckedPair.Asked.{asked}
use Rattle.erhl_checker.specs.CheckedPair.Agreeing.{edges_agree}
use Rattle.erhl_checker.specs.CheckedPair.Progress.{names_lent}
use Rattle.erhl_checker.proofs.checked_pair.agreeing.edges_agree.Given as goal

abbrev pub invariant-loop-to : goal.invariant-loop-to
invariant-loop-to g l =
    let w = asked (λ x. (goal.InferRule-dyn g x).called x.1) (λ x. (goal.InferRule-dyn g x).takes x.1) l.pair in
    edges_agree w l.from l.lines (names_lent (drop l.to-index l.labels)) ≡ edges_agree w l.from l.lines (names_lent l.labels)
