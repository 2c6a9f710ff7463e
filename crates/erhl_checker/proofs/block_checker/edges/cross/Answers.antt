use Rattle.erhl_checker.specs.CheckedPair.Asked.{asked}
use Rattle.erhl_checker.proofs.CheckedPair.Progressing.{crossed_so}
use Rattle.erhl_checker.proofs.block_checker.edges.cross.Goals as goal

pub returns-in-Ok : goal.returns-in-Ok
returns-in-Ok g c =
    let w = asked (λ x. (goal.InferRule-dyn g x).called x.1) (λ x. (goal.InferRule-dyn g x).takes x.1) c.args.pair.now in
    crossed_so w c.args.from.now c.args.to.now c.args.known.now c.in-Ok.after c.source_phis.result.now c.target_phis.result.now c.source_phis.ensures
    c.target_phis.ensures c.in-Ok.ensures.after c.in-Ok.ensures.few
