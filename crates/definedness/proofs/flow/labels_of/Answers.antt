use Rattle.std.proofs.Common.{◌≡◌, ◌+◌, ◌-◌, ◌<◌, ◌∙◌, ℕ, Option, Some, cond, get_or, length, ap, sym, arith}
use Rattle.std.proofs.lemmas.List.{get_or-map}
use Rattle.ir_core.specs.declared.functions.Block.{Block}
use Rattle.ir_types.specs.declared.names.Name.{Name}
use Rattle.ir_types.specs.Same.{same_name}
use Rattle.ir_core.proofs.NameIndexes.FirstPlaces.{behind_more, behind_none, place_behind}
use Rattle.definedness.specs.Graph.{labels_in}
use Rattle.definedness.proofs.Graphs.{length-map}
use Rattle.definedness.proofs.flow.labels_of.Goals as goal

pub loop-at-preserved : goal.loop-at-preserved
loop-at-preserved c =
    let bs = c.args.blocks.now in
    let k = c.loop-at.at - 1 in
    let b = c.index-blocks-at.result in
    let next : c.loop-at.at ≡ k + 1 = omega arith in
    let inside : k < length bs = omega (arith, c.loop-at.invariant.0) in
    let many : length (labels_in bs) ≡ length bs = length-map (λ (b : Block). b.name) bs in (
      omega (arith, c.loop-at.invariant.0),
      λ name.
          c.in_ok-put.ensures name
          ∙ ap (λ (rest : Option ℕ). cond (same_name name (get_or bs k b).name) (Some k) rest) (c.loop-at.invariant.1 name ∙ ap (λ n. place_behind name n (labels_in bs)) next)
          ∙ ap (λ (x : Name). cond (same_name name x) (Some k) (place_behind name (k + 1) (labels_in bs))) (sym (get_or-map (λ (b : Block). b.name) bs k b b.name inside))
          ∙ behind_more name (labels_in bs) k b.name (omega (arith, many, inside)),
    )

pub returns : goal.returns
returns c =
    let none : c.loop-at.at ≡ 0 = omega arith in
    λ name. c.loop-at.invariant.1 name ∙ ap (λ n. place_behind name n (labels_in c.args.blocks.now)) none ∙ sym (behind_none name (labels_in c.args.blocks.now))
