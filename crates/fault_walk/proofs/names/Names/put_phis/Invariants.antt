use Rattle.std.proofs.Common.{◌≡◌, drop, map}
use Rattle.fault_walk.specs.Names.{phi_thing, thing_by, with_things}
use Rattle.fault_walk.proofs.names.Names.put_phis.Given as goal

-- those that are left are put behind those that are there
abbrev pub invariant-loop-phi : goal.invariant-loop-phi
invariant-loop-phi l = with_things (thing_by l.self) (map phi_thing (drop l.phi-index l.phis)) ≡ with_things (thing_by l.fn.self) (map phi_thing l.phis)
