use Rattle.std.proofs.Common.{take}
use Rattle.std.specs.List.{flat_map}
use Rattle.ir_printer.specs.Told.{IsTold}
use Rattle.ir_printer.proofs.sink.push_each.Given as goal

abbrev pub invariant-loop-thing : goal.invariant-loop-thing
invariant-loop-thing g l = IsTold l.fn.text l.text (flat_map (g.P.Prints.printed l.by) (take l.thing-index l.things))
