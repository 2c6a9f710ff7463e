use Rattle.std.proofs.Common.{◌≡◌, false, true, arith}
use Rattle.std.specs.List.{list_all}
use Rattle.std.specs.Option.{is_some}
use Rattle.ir_values.specs.Addresses.{GivenIndex}
use Rattle.ir_values.specs.Values.{as_number}
use Rattle.ir_values.proofs.Listed.{all_found, all_left}
use Rattle.ir_values.proofs.addresses.are_numbers.Goals as goal

pub returns-then-is_none : goal.returns-then-is_none
returns-then-is_none g c =
    let none : is_some (as_number c.at.result.1) ≡ false = grind (arith, c.as_number.ensures, c.is_none.ensures, c.if-is_none.true) in
    all_found (g.I.Indices.listed c.args.indices.now) c.loop-place.place c.at.result c.at.ensures (λ (i : GivenIndex). is_some (as_number i.1)) (list_all (λ (i : GivenIndex). is_some (as_number i.1)) (g.I.Indices.listed c.args.indices.now)) none c.loop-place.invariant

pub loop-place-preserved : goal.loop-place-preserved
loop-place-preserved g c =
    let some : is_some (as_number c.at.result.1) ≡ true = grind (arith, c.as_number.ensures, c.is_none.ensures, c.if-is_none.false) in
    all_left (g.I.Indices.listed c.args.indices.now) c.loop-place.place c.at.result c.at.ensures (λ (i : GivenIndex). is_some (as_number i.1)) (list_all (λ (i : GivenIndex). is_some (as_number i.1)) (g.I.Indices.listed c.args.indices.now)) some c.loop-place.invariant
