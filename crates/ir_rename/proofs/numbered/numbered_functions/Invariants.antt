use Rattle.std.proofs.Common.{◌≡◌, ◌++◌, drop, map}
use Rattle.ir_rename.specs.Numbered.{numbered_function}
use Rattle.ir_rename.proofs.numbered.numbered_functions.Given as goal

abbrev pub invariant-loop-function : goal.invariant-loop-function
invariant-loop-function l = l.numbered.items ++ map numbered_function (drop l.function-index l.functions) ≡ map numbered_function l.functions
