use Rattle.std.proofs.Common.{◌≡◌, drop}
use Rattle.std.specs.List.{list_any}
use Rattle.ir_values.specs.Addresses.{GivenIndex}
use Rattle.ir_values.specs.Values.{is_poison}
use Rattle.ir_values.proofs.addresses.has_poison.Given as goal

-- the indices that are left decide
abbrev pub invariant-loop-place : goal.invariant-loop-place
invariant-loop-place g l = list_any (λ (i : GivenIndex). is_poison i.1) (drop l.place (g.I.Indices.listed l.indices)) ≡ list_any (λ (i : GivenIndex). is_poison i.1) (g.I.Indices.listed l.indices)
