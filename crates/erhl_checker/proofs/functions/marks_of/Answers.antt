use Rattle.std.proofs.Common.{◌≡◌, ◌∙◌, sym, length, arith}
use Rattle.std.proofs.lemmas.List.{length-map}
use Rattle.ir_core.specs.Functions.{successors_of}
use Rattle.definedness.specs.Graph.{flow_of, labels_in, places_in}
use Rattle.erhl_checker.proofs.functions.marks_of.Goals as goal

pub returns : goal.returns
returns c =
    let f = c.args.«function».now in
    let same : length (flow_of f) ≡ length f.blocks = length-map f.blocks (λ b. places_in (labels_in f.blocks) (successors_of b.term)) in
    c.reached_nodes_are_reached.ensures.marked (flow_of f) c.in_ok-marks.marks.items (c.in_ok-marks.ensures.many ∙ sym same)
    (λ n inside. c.in_ok-marks.ensures.marks n (omega (arith, same, inside)))
