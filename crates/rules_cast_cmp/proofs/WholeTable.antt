-- The table of rules is whole.
use Rattle.std.proofs.Common.{refl, arith}
use Rattle.std.specs.Prelude.{Contains}
use Rattle.rules_cast_cmp.specs.declared.rules.CastCmpRule.{CastCmpRule}
use Rattle.rules_cast_cmp.specs.declared.rules.CastCmpRule.TheVariants as rule
use Rattle.rules_cast_cmp.specs.declared.rules.TheConstants.CastCmpRule.{ALL}

pub all_stand_there : (r : CastCmpRule) → Contains ALL r
all_stand_there rule.ZextZext = (0, omega arith, refl)
all_stand_there rule.SextSext = (1, omega arith, refl)
all_stand_there rule.TruncTrunc = (2, omega arith, refl)
all_stand_there rule.TruncExt = (3, omega arith, refl)
all_stand_there rule.SextZext = (4, omega arith, refl)
all_stand_there rule.IcmpSwap = (5, omega arith, refl)
all_stand_there rule.IcmpSelf = (6, omega arith, refl)
all_stand_there rule.IcmpDiff = (7, omega arith, refl)
all_stand_there rule.IcmpEdge = (8, omega arith, refl)
all_stand_there rule.IcmpOne = (9, omega arith, refl)
all_stand_there rule.SelectKnown = (10, omega arith, refl)
all_stand_there rule.SelectSame = (11, omega arith, refl)
all_stand_there rule.SelectBool = (12, omega arith, refl)
all_stand_there rule.SelectNot = (13, omega arith, refl)
all_stand_there rule.BitcastSame = (14, omega arith, refl)
all_stand_there rule.BitcastBitcast = (15, omega arith, refl)
