use Rattle.std.proofs.Common.{◌∙◌, ap, sym}
use Rattle.std.specs.Prelude.{Some}
use Rattle.erhl_checker.specs.CheckedPair.Asked.{asked}
use Rattle.erhl_checker.proofs.CheckedPair.Progressing.{edge_refused}
use Rattle.erhl_checker.proofs.block_checker.edges.edge_answer.Goals as goal

pub returns-in_ok-verdict-in-Some-clause-answer : goal.returns-in_ok-verdict-in-Some-clause-answer
returns-in_ok-verdict-in-Some-clause-answer g c =
    edge_refused (asked _ _ c.args.pair.now) c.args.from.now c.args.to.now c.args.known.now c.in-Some.reason (c.in_ok-along_edge.ensures.answer ∙ ap (λ o. Some o) c.in-Some.is)
    ∙ ap (λ v. Some v) (sym c.in_ok-verdict-in-Some.ensures)
