use Rattle.std.proofs.Common.{◌∙◌, sym}
use Rattle.std.specs.List.{list_any}
use Rattle.ir_values.specs.Addresses.{GivenIndex}
use Rattle.ir_values.specs.Values.{is_poison}
use Rattle.ir_values.proofs.Listed.{any_found, any_left}
use Rattle.ir_values.proofs.addresses.has_poison.Goals as goal

pub returns-then-is_poison : goal.returns-then-is_poison
returns-then-is_poison g c =
    any_found (g.I.Indices.listed c.args.indices.now) c.loop-place.place c.at.result c.at.ensures (λ (i : GivenIndex). is_poison i.1) (list_any (λ (i : GivenIndex). is_poison i.1) (g.I.Indices.listed c.args.indices.now)) (sym c.is_poison.ensures ∙ c.if-is_poison.true) c.loop-place.invariant

pub loop-place-preserved : goal.loop-place-preserved
loop-place-preserved g c =
    any_left (g.I.Indices.listed c.args.indices.now) c.loop-place.place c.at.result c.at.ensures (λ (i : GivenIndex). is_poison i.1) (list_any (λ (i : GivenIndex). is_poison i.1) (g.I.Indices.listed c.args.indices.now)) (sym c.is_poison.ensures ∙ c.if-is_poison.false) c.loop-place.invariant
