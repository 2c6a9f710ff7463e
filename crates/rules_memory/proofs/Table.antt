-- The table of rules is whole.
use Rattle.std.proofs.Common.{refl, arith}
use Rattle.std.specs.Prelude.{Contains}
use Rattle.rules_memory.specs.declared.rules.MemoryRule.{MemoryRule}
use Rattle.rules_memory.specs.declared.rules.MemoryRule.TheVariants as rule
use Rattle.rules_memory.specs.declared.rules.TheConstants.MemoryRule.{ALL}

pub all_stand_there : (r : MemoryRule) → Contains ALL r
all_stand_there rule.GepZero = (0, omega arith, refl)
all_stand_there rule.NoAliasUnique = (1, omega arith, refl)
all_stand_there rule.NoAliasSwap = (2, omega arith, refl)
all_stand_there rule.NoAliasDerived = (3, omega arith, refl)
all_stand_there rule.NoAliasGlobals = (4, omega arith, refl)
all_stand_there rule.PrivateDerived = (5, omega arith, refl)
all_stand_there rule.OkAlign = (6, omega arith, refl)
all_stand_there rule.OkCast = (7, omega arith, refl)
all_stand_there rule.OkGlobal = (8, omega arith, refl)
all_stand_there rule.LoadAlign = (9, omega arith, refl)
all_stand_there rule.LoadOk = (10, omega arith, refl)
