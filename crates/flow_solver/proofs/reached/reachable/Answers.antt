use Rattle.std.proofs.Common.{◌≡◌, ℕ, List, Option, false, get_or, is_some, subst, rules}
use Rattle.flow_solver.specs.Searched.{place_of}
use Rattle.flow_solver.proofs.Found.{marks_are}
use Rattle.flow_solver.proofs.reached.reachable.Goals as goal

pub returns-clause-marks : goal.returns-clause-marks
returns-clause-marks c n within =
    marks_are c.args.graph.now c.in_ok-found.found.steps.items c.in_ok-found.found.places.items c.in_ok-found.ensures n _
    (subst (λ (ys : List (Option ℕ)). get_or c.loop-place.marks.items n false ≡ is_some (place_of ys n)) (search rules) (c.loop-place.invariant.1 n (search rules)))

pub loop-place-preserved : goal.loop-place-preserved
loop-place-preserved c = search rules
