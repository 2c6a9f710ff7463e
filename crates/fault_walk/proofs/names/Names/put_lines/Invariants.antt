use Rattle.std.proofs.Common.{◌≡◌, drop}
use Rattle.std.specs.List.{flat_map}
use Rattle.fault_walk.specs.Names.{line_things, thing_by, with_things}
use Rattle.fault_walk.proofs.names.Names.put_lines.Given as goal

-- those that are left are put behind those that are there
abbrev pub invariant-loop-line : goal.invariant-loop-line
invariant-loop-line l = with_things (thing_by l.self) (flat_map (line_things l.sight.types) (drop l.line-index l.lines)) ≡ with_things (thing_by l.fn.self) (flat_map (line_things l.sight.types) l.lines)
