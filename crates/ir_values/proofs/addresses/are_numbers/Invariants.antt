use Rattle.std.proofs.Common.{◌≡◌, drop}
use Rattle.std.specs.List.{list_all}
use Rattle.std.specs.Option.{is_some}
use Rattle.ir_values.specs.Addresses.{GivenIndex}
use Rattle.ir_values.specs.Values.{as_number}
use Rattle.ir_values.proofs.addresses.are_numbers.Given as goal

-- the indices that are left decide
abbrev pub invariant-loop-place : goal.invariant-loop-place
invariant-loop-place g l =
    list_all (λ (i : GivenIndex). is_some (as_number i.1)) (drop l.place (g.I.Indices.listed l.indices)) ≡ list_all (λ (i : GivenIndex). is_some (as_number i.1)) (g.I.Indices.listed l.indices)
