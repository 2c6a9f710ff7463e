-- The table of rules is whole.
use Rattle.std.proofs.Common.{refl, arith}
use Rattle.std.specs.Prelude.{Contains}
use Rattle.rule_base.specs.declared.shipped.Rule.{Rule}
use Rattle.rule_base.specs.declared.shipped.Rule.TheVariants.{Refl, Trans, UndefConst, Subst, DropFlags, Fold}
use Rattle.rule_base.specs.declared.shipped.TheConstants.Rule.{ALL}

pub all_stand_there : (rule : Rule) → Contains ALL rule
all_stand_there Refl = (0, omega arith, refl)
all_stand_there Trans = (1, omega arith, refl)
all_stand_there UndefConst = (2, omega arith, refl)
all_stand_there Subst = (3, omega arith, refl)
all_stand_there DropFlags = (4, omega arith, refl)
all_stand_there Fold = (5, omega arith, refl)
