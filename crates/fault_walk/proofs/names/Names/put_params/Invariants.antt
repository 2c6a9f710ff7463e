use Rattle.std.proofs.Common.{◌≡◌, drop, map}
use Rattle.fault_walk.specs.Names.{param_thing, thing_by, with_things}
use Rattle.fault_walk.proofs.names.Names.put_params.Given as goal

-- those that are left are put behind those that are there
abbrev pub invariant-loop-param : goal.invariant-loop-param
invariant-loop-param l = with_things (thing_by l.self) (map param_thing (drop l.param-index l.params)) ≡ with_things (thing_by l.fn.self) (map param_thing l.params)
