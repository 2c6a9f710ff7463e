use Rattle.std.proofs.Common.{◌≡◌, drop}
use Rattle.std.specs.List.{flat_map}
use Rattle.named_modules.specs.Faults.{things_in}
use Rattle.fault_walk.specs.Names.{thing_by, with_things}
use Rattle.fault_walk.proofs.names.Names.put_blocks.Given as goal

-- those that are left are put behind those that are there
abbrev pub invariant-loop-block : goal.invariant-loop-block
invariant-loop-block l = with_things (thing_by l.self) (flat_map (things_in l.sight.types) (drop l.block-index l.blocks)) ≡ with_things (thing_by l.fn.self) (flat_map (things_in l.sight.types) l.blocks)
