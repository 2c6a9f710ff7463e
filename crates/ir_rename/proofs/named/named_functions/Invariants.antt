use Rattle.std.proofs.Common.{◌≡◌, ◌++◌, drop, map}
use Rattle.ir_rename.specs.Named.{named_function}
use Rattle.ir_rename.proofs.named.named_functions.Given as goal

abbrev pub invariant-loop-function : goal.invariant-loop-function
invariant-loop-function l = l.named.items ++ map named_function (drop l.function-index l.functions) ≡ map named_function l.functions
