use Rattle.std.proofs.Common.{◌≡◌, drop}
use Rattle.ir_values.specs.Constants as meaning
use Rattle.ir_values.proofs.constants.global_at.Given as goal

-- the globals that are left decide
abbrev pub invariant-loop-place : goal.invariant-loop-place
invariant-loop-place l = meaning.global_at l.place (drop l.place l.globals) l.name ≡ meaning.global_at 0 l.globals l.name
