use Rattle.std.proofs.Common.{refl}
use Rattle.module_derivations.specs.Named.{RulesAreNamed}

pub rules_are_named : RulesAreNamed
rules_are_named = record { rules = refl; numbers = refl }
