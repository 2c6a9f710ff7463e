use Rattle.std.proofs.Common.{map, take}
use Rattle.ir_core.specs.Typing.{index_of}
use Rattle.fault_walk.specs.Indices.{IsPath}
use Rattle.fault_walk.proofs.names.leads_somewhere.Given as goal

-- those so far are the path's
abbrev pub invariant-loop-index : goal.invariant-loop-index
invariant-loop-index l = IsPath l.sight.types l.element.of (map index_of (take l.index-index l.element.indices)) l.path
