-- The table of rules is whole.
use Rattle.std.proofs.Common.{refl, arith}
use Rattle.std.specs.Prelude.{Contains}
use Rattle.rules_arith.specs.declared.rules.ArithRule.{ArithRule}
use Rattle.rules_arith.specs.declared.rules.ArithRule.TheVariants as rule
use Rattle.rules_arith.specs.declared.rules.TheConstants.ArithRule.{ALL}

pub all_stand_there : (r : ArithRule) → Contains ALL r
all_stand_there rule.Comm = (0, omega arith, refl)
all_stand_there rule.ZeroRight = (1, omega arith, refl)
all_stand_there rule.OneRight = (2, omega arith, refl)
all_stand_there rule.RemOne = (3, omega arith, refl)
all_stand_there rule.SelfZero = (4, omega arith, refl)
all_stand_there rule.SelfSame = (5, omega arith, refl)
all_stand_there rule.ZeroAbsorb = (6, omega arith, refl)
all_stand_there rule.OnesRight = (7, omega arith, refl)
all_stand_there rule.OrOnes = (8, omega arith, refl)
all_stand_there rule.ZeroShift = (9, omega arith, refl)
all_stand_there rule.SubToAdd = (10, omega arith, refl)
all_stand_there rule.NegNeg = (11, omega arith, refl)
all_stand_there rule.AddConst = (12, omega arith, refl)
all_stand_there rule.SubAdd = (13, omega arith, refl)
all_stand_there rule.AddSub = (14, omega arith, refl)
all_stand_there rule.MulPow = (15, omega arith, refl)
all_stand_there rule.UdivPow = (16, omega arith, refl)
all_stand_there rule.UremPow = (17, omega arith, refl)
all_stand_there rule.ShiftShift = (18, omega arith, refl)
all_stand_there rule.BitBit = (19, omega arith, refl)
all_stand_there rule.SubOnes = (20, omega arith, refl)
all_stand_there rule.AndOr = (21, omega arith, refl)
all_stand_there rule.OrAnd = (22, omega arith, refl)
all_stand_there rule.AddSelf = (23, omega arith, refl)
