use Rattle.std.proofs.Common.{◌≡◌, drop}
use Rattle.ir_values.specs.Private.{leads_small}
use Rattle.ir_values.proofs.addresses.leads_inside.Given as goal

-- the indices that are left lead on
abbrev pub invariant-loop-place : goal.invariant-loop-place
invariant-loop-place g l = leads_small l.types l.ty (drop l.place (g.I.Indices.listed l.indices)) ≡ leads_small l.types l.of (drop l.start (g.I.Indices.listed l.indices))
