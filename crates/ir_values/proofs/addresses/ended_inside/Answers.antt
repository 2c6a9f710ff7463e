use Rattle.std.proofs.Common.{◌∙◌, ◌≤◌, length, Option, None, sym, ap, subst, rules, arith}
use Rattle.std.specs.Prelude.{pos, ◌+ℤ◌, FitsSigned}
use Rattle.std.specs.Borrow.{Bor}
use Rattle.std.specs.Int.{w128}
use Rattle.std.specs.List.{AllByRecursion, list_all}
use Rattle.std.specs.Option.{is_some, option_copied}
use Rattle.std.proofs.lemmas.Int.{to_z-of_z}
use Rattle.ir_types.specs.declared.ty.Ty.{Ty}
use Rattle.ir_types.specs.NameLaws.{left_true}
use Rattle.ir_values.specs.Addresses.{GivenIndex, IsIndex, distances_inside}
use Rattle.ir_values.specs.Private.{ended, stepped}
use Rattle.ir_values.specs.Values.{as_number}
use Rattle.ir_values.proofs.Going.{enters_nothing, step_below, step_inside, walk_done, walk_ends, walk_goes, walk_indices, walk_numbers, walk_parts, walk_small}
use Rattle.ir_values.proofs.Listed.{drop_next}
use Rattle.ir_values.proofs.addresses.ended_inside.Goals as goal

pub returns-in_default-stepped : goal.returns-in_default-stepped
returns-in_default-stepped g c =
    let enters = sym c.entered.ensures ∙ ap (λ (o : Option (Bor Ty)). option_copied o) c.in-Some.is in
    let fits : FitsSigned w128 c.distance.result = search rules in
    let by = sym c.distance.ensures.value ∙ sym (to_z-of_z w128 c.distance.result fits) in
    walk_ends c.args.types.now c.loop-place.ty.now c.in-Some.further.now c.args.inbounds c.args.size c.loop-place.at c.loop-place.place (g.I.Indices.listed c.args.indices.now) c.at-index.result _ c.at-index.ensures enters
    c.loop-place.invariant.leads (ap (λ z. stepped c.args.inbounds c.args.size (pos c.loop-place.at +ℤ z)) by ∙ sym c.stepped.ensures ∙ c.in_default-stepped.is)

pub loop-place-preserved : goal.loop-place-preserved
loop-place-preserved g c =
    let enters = sym c.entered.ensures ∙ ap (λ (o : Option (Bor Ty)). option_copied o) c.in-Some.is in
    let fits : FitsSigned w128 c.distance.result = search rules in
    let by = sym c.distance.ensures.value ∙ sym (to_z-of_z w128 c.distance.result fits) in
    let gone = sym c.stepped.ensures ∙ c.in-Some-stepped.is in
    record {
      leads = walk_goes c.args.types.now c.loop-place.ty.now c.in-Some.further.now c.args.inbounds c.args.size c.loop-place.at c.loop-place.place (g.I.Indices.listed c.args.indices.now) c.at-index.result _ c.at-index.ensures enters
          c.in-Some-stepped.next c.ranges.size.fits c.loop-place.invariant.inside c.loop-place.invariant.leads
          (ap (λ z. stepped c.args.inbounds c.args.size (pos c.loop-place.at +ℤ z)) by ∙ gone);
      small = walk_small c.args.types.now c.loop-place.ty.now c.in-Some.further.now c.args.inbounds c.args.size c.loop-place.at c.loop-place.place (g.I.Indices.listed c.args.indices.now) c.at-index.result None c.at-index.ensures enters
          c.loop-place.invariant.parts;
      parts = walk_parts c.args.types.now c.loop-place.ty.now c.in-Some.further.now c.args.inbounds c.args.size c.loop-place.at c.loop-place.place (g.I.Indices.listed c.args.indices.now) c.at-index.result None c.at-index.ensures enters
          c.loop-place.invariant.parts;
      indices = walk_indices c.args.types.now c.loop-place.ty.now c.in-Some.further.now c.args.inbounds c.args.size c.loop-place.at c.loop-place.place (g.I.Indices.listed c.args.indices.now) c.at-index.result None c.at-index.ensures enters
          c.loop-place.invariant.indices;
      numbers = walk_numbers c.args.types.now c.loop-place.ty.now c.in-Some.further.now c.args.inbounds c.args.size c.loop-place.at c.loop-place.place (g.I.Indices.listed c.args.indices.now) c.at-index.result None c.at-index.ensures enters
          c.loop-place.invariant.numbers;
      inside = step_inside c.args.inbounds c.args.size (pos c.loop-place.at +ℤ c.distance.result) c.in-Some-stepped.next c.ranges.size.fits
          (ap (λ z. stepped c.args.inbounds c.args.size (pos c.loop-place.at +ℤ z)) (sym (to_z-of_z w128 c.distance.result fits)) ∙ gone);
      word = step_below c.args.inbounds c.args.size (pos c.loop-place.at +ℤ c.distance.result) c.in-Some-stepped.next
          (ap (λ z. stepped c.args.inbounds c.args.size (pos c.loop-place.at +ℤ z)) (sym (to_z-of_z w128 c.distance.result fits)) ∙ gone);
    }

pub returns : goal.returns
returns g c =
    let past : length (g.I.Indices.listed c.args.indices.now) ≤ c.loop-place.place = omega (arith, c.loop-place-test.false, c.loop-place.auto.place-end) in
    walk_done c.args.types.now c.loop-place.ty.now c.args.inbounds c.args.size c.loop-place.at c.loop-place.place (g.I.Indices.listed c.args.indices.now) _ past c.loop-place.invariant.word c.loop-place.invariant.inside c.loop-place.invariant.leads

pub distance-requires-clause-part : goal.distance-requires-clause-part
distance-requires-clause-part g c =
    let enters = sym c.entered.ensures ∙ ap (λ (o : Option (Bor Ty)). option_copied o) c.in-Some.is in
    walk_small c.args.types.now c.loop-place.ty.now c.in-Some.further.now c.args.inbounds c.args.size c.loop-place.at c.loop-place.place (g.I.Indices.listed c.args.indices.now) c.at-index.result None c.at-index.ensures enters
    c.loop-place.invariant.parts

pub distance-requires-clause-index : goal.distance-requires-clause-index
distance-requires-clause-index g c =
    (subst (AllByRecursion IsIndex) (drop_next (g.I.Indices.listed c.args.indices.now) c.loop-place.place c.at-index.result c.at-index.ensures) c.loop-place.invariant.indices).0

pub distance-requires-clause-number : goal.distance-requires-clause-number
distance-requires-clause-number g c =
    let left = drop_next (g.I.Indices.listed c.args.indices.now) c.loop-place.place c.at-index.result c.at-index.ensures in
    left_true (is_some (as_number c.at-index.result.1)) _ (sym (ap (list_all (λ (i : GivenIndex). is_some (as_number i.1))) left) ∙ c.loop-place.invariant.numbers)

pub returns-in_default : goal.returns-in_default
returns-in_default g c =
    let enters = sym c.entered.ensures ∙ ap (λ (o : Option (Bor Ty)). option_copied o) c.in_default.is in
    let left = drop_next (g.I.Indices.listed c.args.indices.now) c.loop-place.place c.at-index.result c.at-index.ensures in
    sym (enters_nothing c.args.types.now c.loop-place.ty.now c.args.inbounds c.args.size c.loop-place.at c.at-index.result _ enters)
    ∙ sym (ap (λ is. ended c.args.inbounds c.args.size (pos c.loop-place.at) (distances_inside c.args.types.now c.loop-place.ty.now is)) left)
    ∙ c.loop-place.invariant.leads
