use Rattle.std.proofs.Common.{◌≡◌, ◌<◌, ◌^◌, true, false, drop, map}
use Rattle.std.specs.Prelude.{pos}
use Rattle.std.specs.List.{AllByRecursion, list_all}
use Rattle.std.specs.Option.{is_some}
use Rattle.ir_core.specs.Sizes.{entered_along}
use Rattle.ir_values.specs.Addresses.{GivenIndex, IsIndex, distances_inside, is_past, told_index}
use Rattle.ir_values.specs.Private.{IsSmall, ended}
use Rattle.ir_values.specs.Values.{as_number}
use Rattle.ir_values.proofs.addresses.ended_inside.Given as goal

-- the indices that are left lead on, from a place inside the block
abbrev pub invariant-loop-place : goal.invariant-loop-place
invariant-loop-place g l = record {
  leads : ended l.inbounds l.size (pos l.at) (distances_inside l.types l.ty (drop l.place (g.I.Indices.listed l.indices))) ≡ ended l.inbounds l.size (pos l.from) (distances_inside l.types l.of (drop l.start (g.I.Indices.listed l.indices)));
  small : IsSmall l.types l.ty;
  parts : AllByRecursion (IsSmall l.types) (entered_along l.types l.ty (map told_index (drop l.place (g.I.Indices.listed l.indices))));
  indices : AllByRecursion IsIndex (drop l.place (g.I.Indices.listed l.indices));
  numbers : list_all (λ (i : GivenIndex). is_some (as_number i.1)) (drop l.place (g.I.Indices.listed l.indices)) ≡ true;
  word : l.at < 2 ^ 64;
  inside : l.inbounds ≡ true → is_past l.size (pos l.at) ≡ false;
}
