use Rattle.std.proofs.Common.{map, rules}
use Rattle.std.specs.Borrow.{Bor}
use Rattle.erhl_assert.specs.declared.hints.HintStep.{HintStep}
use Rattle.erhl_checker.specs.CheckedPair.Asked.{asked}
use Rattle.erhl_checker.proofs.CheckedPair.Progressing.{answers_so, edge_crossed}
use Rattle.erhl_checker.proofs.block_checker.edges.along_edge.Goals as goal

pub returns-clause-answer : goal.returns-clause-answer
returns-clause-answer g c =
    answers_so (edge_crossed (asked _ _ c.args.pair.now) c.args.from.now c.args.to.now c.args.known.now (map (λ (s : Bor HintStep). s.now) c.as_slice.result.now)
    c.in_ok-crossed.crossed (search rules) c.in_ok-crossed.ensures) c.arrive.result c.arrive.ensures
