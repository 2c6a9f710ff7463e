use Rattle.std.proofs.Common.{◌≡◌, drop}
use Rattle.ir_core.specs.Typing as typing
use Rattle.ir_values.proofs.constants.contents_of.Given as goal

-- the globals that are left decide
abbrev pub invariant-loop-global : goal.invariant-loop-global
invariant-loop-global l = typing.contents_of (drop l.global-index l.globals) l.name ≡ typing.contents_of l.globals l.name
