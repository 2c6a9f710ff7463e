use Rattle.std.proofs.Common.{◌≡◌, ◌∙◌, ℕ, List, None, sym, subst, arith}
use Rattle.std.proofs.lemmas.List.{get_or_read}
use Rattle.flow_solver.specs.Ways.{IsFirstWay, nodes_on}
use Rattle.flow_solver.proofs.Found.{no_way}
use Rattle.flow_solver.proofs.reached.first_way.Goals as goal

pub path_to-requires-clause-place : goal.path_to-requires-clause-place
path_to-requires-clause-place c =
    let h = c.in_ok-found.ensures in
    let read = get_or_read c.in_ok-found.found.places.items c.args.to c.index.result.now (omega (arith, h.nodes)) c.index.ensures None in
    (h.known c.args.to c.in-Some.place (sym read ∙ c.in-Some.is)).0

pub returns-in-Some : goal.returns-in-Some
returns-in-Some c =
    let h = c.in_ok-found.ensures in
    let read = get_or_read c.in_ok-found.found.places.items c.args.to c.index.result.now (omega (arith, h.nodes)) c.index.ensures None in
    subst (λ m. (turns : List ℕ) × IsFirstWay c.args.graph.now c.args.closed.now m turns × (c.in_ok-path_to-in-Some.field-0.items ≡ nodes_on c.args.graph.now 0 turns))
    (h.known c.args.to c.in-Some.place (sym read ∙ c.in-Some.is)).1 c.in_ok-path_to-in-Some.ensures

pub returns : goal.returns
returns c =
    let h = c.in_ok-found.ensures in
    let read = get_or_read c.in_ok-found.found.places.items c.args.to c.index.result.now (omega (arith, h.nodes)) c.index.ensures None in
    no_way c.args.graph.now c.args.closed.now c.in_ok-found.found.steps.items c.in_ok-found.found.places.items h c.args.to (sym read ∙ c.in-None.is)
