use Rattle.std.proofs.Common.{◌≡◌, drop}
use Rattle.rules_memory.specs.Rows as rows
use Rattle.rules_memory.proofs.globals.global_named.Given as goal

-- the globals that are left decide
abbrev pub invariant-loop-global : goal.invariant-loop-global
invariant-loop-global l = rows.global_named (drop l.global-index l.globals) l.name ≡ rows.global_named l.globals l.name
