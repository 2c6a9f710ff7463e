use Rattle.std.proofs.Common.{drop}
use Rattle.ir_typing.specs.ModuleLimits.Small.{AreClear}
use Rattle.ir_typing.proofs.module_limits.judged.are_named_clear.Given as goal

abbrev pub invariant-loop-named : goal.invariant-loop-named
invariant-loop-named l = AreClear l.«module».types (drop l.named-index l.types) → AreClear l.«module».types l.types
