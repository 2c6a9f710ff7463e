use Rattle.std.proofs.Common.{◌<◌, length, sym, subst, rules}
use Rattle.std.proofs.lemmas.List.{get_or_read}
use Rattle.flow_solver.specs.declared.search.Step.{Step}
use Rattle.flow_solver.specs.Ways.{IsOpen, led_to}
use Rattle.flow_solver.specs.Searched.{node_at}
use Rattle.flow_solver.proofs.Found.{next_step}
use Rattle.flow_solver.proofs.search.leave.Goals as goal

pub returns-then-not-is_open-clause-searched : goal.returns-then-not-is_open-clause-searched
returns-then-not-is_open-clause-searched c =
    let read = get_or_read c.args.search.now.steps.items c.args.at c.index.result.now (search rules) (search rules) (record { node = 0; from = 0 }) in
    next_step c.args.graph.now c.args.closed.now c.args.search.now.steps.items c.args.search.now.places.items c.args.at 0 c.requires.searched
    (λ t passes turns.
    let p = c.is_open.ensures.1 (subst (λ (s : Step). IsOpen c.args.closed.now s.node) (sym read) passes) in
    absurd (cc))

pub returns-clause-searched : goal.returns-clause-searched
returns-clause-searched c =
    let h = c.in_ok-come_to_all.ensures.searched in
    next_step c.args.graph.now c.args.closed.now c.come_to_all.new.search.steps.items c.come_to_all.new.search.places.items c.args.at
    (length (led_to c.args.graph.now (node_at c.args.search.now.steps.items c.args.at))) h
    (λ t passes turns. subst (λ n. t < length (led_to c.args.graph.now n)) c.in_ok-come_to_all.ensures.same turns)
