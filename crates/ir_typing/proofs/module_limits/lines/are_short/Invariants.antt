use Rattle.std.proofs.Common.{◌≡◌, drop}
use Rattle.std.specs.List.{list_all}
use Rattle.ir_typing.specs.ModuleLimits.Lines.{is_short}
use Rattle.ir_typing.proofs.module_limits.lines.are_short.Given as goal

abbrev pub invariant-loop-function : goal.invariant-loop-function
invariant-loop-function l = list_all is_short (drop l.function-index l.functions) ≡ list_all is_short l.functions
