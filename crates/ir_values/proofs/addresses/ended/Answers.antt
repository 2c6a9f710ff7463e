use Rattle.std.proofs.Common.{◌∙◌, drop, sym, ap, rules}
use Rattle.std.specs.Prelude.{pos, ◌+ℤ◌, FitsSigned}
use Rattle.std.specs.Int.{w128}
use Rattle.std.specs.Option.{is_some}
use Rattle.std.proofs.lemmas.Int.{to_z-of_z}
use Rattle.ir_values.specs.Addresses.{GivenIndex}
use Rattle.ir_values.specs.Private.{stepped}
use Rattle.ir_values.specs.Values.{as_number}
use Rattle.ir_values.proofs.Going.{first_goes, first_stops}
use Rattle.ir_values.proofs.Listed.{drop_next, each_true}
use Rattle.ir_values.proofs.addresses.ended.Goals as goal

pub returns-in-Some : goal.returns-in-Some
returns-in-Some g c =
    let fits : FitsSigned w128 c.over.result = search rules in
    let by = sym c.over.ensures.value ∙ sym (to_z-of_z w128 c.over.result fits) in
    let whole = drop_next (g.I.Indices.listed c.args.indices.now) 0 c.at.result c.at.ensures in
    first_goes c.args.types.now c.args.of.now c.args.inbounds c.args.size c.args.from c.in-Some.next c.at.result (drop 1 (g.I.Indices.listed c.args.indices.now)) (g.I.Indices.listed c.args.indices.now) _ whole
    c.ranges.size.fits c.requires.inside (ap (λ z. stepped c.args.inbounds c.args.size (pos c.args.from +ℤ z)) by ∙ sym c.stepped.ensures ∙ c.in-Some.is) c.ended_inside.ensures

pub returns-in-None : goal.returns-in-None
returns-in-None g c =
    let fits : FitsSigned w128 c.over.result = search rules in
    let by = sym c.over.ensures.value ∙ sym (to_z-of_z w128 c.over.result fits) in
    let whole = drop_next (g.I.Indices.listed c.args.indices.now) 0 c.at.result c.at.ensures in
    first_stops c.args.types.now c.args.of.now c.args.inbounds c.args.size c.args.from c.at.result (drop 1 (g.I.Indices.listed c.args.indices.now)) (g.I.Indices.listed c.args.indices.now) whole
    (ap (λ z. stepped c.args.inbounds c.args.size (pos c.args.from +ℤ z)) by ∙ sym c.stepped.ensures ∙ c.in-None.is)

pub over-requires-clause-number : goal.over-requires-clause-number
over-requires-clause-number g c =
    each_true (λ (i : GivenIndex). is_some (as_number i.1)) (g.I.Indices.listed c.args.indices.now) 0 c.at.result c.at.ensures c.requires.numbers
