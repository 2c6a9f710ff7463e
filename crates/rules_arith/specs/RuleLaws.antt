-- What a rule takes is sound, since each of its forms is lawful.
use Rattle.std.proofs.Common.{◌≡◌, true}
use Rattle.std.specs.List.{AllByRecursion}
use Rattle.ir_values.specs.Constants.{Scope}
use Rattle.erhl_assert.specs.declared.facts.Schema.{Schema}
use Rattle.erhl_assert.specs.Facts.{IsSound}
use Rattle.rule_forms.specs.Meaning.{IsLawful}
use Rattle.rule_forms.proofs.Arith.{add_const_lawful, add_self_lawful, and_and_lawful, and_or_lawful, ashr_ashr_lawful, lshr_lshr_lawful, mul_pow_lawful, neg_neg_lawful, or_or_lawful, shl_shl_lawful, sub_add_lawful, sub_ones_lawful, sub_to_add_lawful, udiv_pow_lawful, urem_pow_lawful, xor_xor_lawful}
use Rattle.rule_forms.proofs.Simple.{add_comm_lawful, add_sub_lawful, add_zero_lawful, and_absorb_lawful, and_comm_lawful, and_self_lawful, ashr_of_zero_lawful, ashr_zero_lawful, lshr_of_zero_lawful, lshr_zero_lawful, mul_absorb_lawful, mul_comm_lawful, mul_one_lawful, ones_right_lawful, or_and_lawful, or_comm_lawful, or_ones_lawful, or_self_lawful, or_zero_lawful, sdiv_one_lawful, shl_of_zero_lawful, shl_zero_lawful, srem_one_lawful, sub_self_lawful, sub_zero_lawful, udiv_one_lawful, urem_one_lawful, xor_comm_lawful, xor_self_lawful, xor_zero_lawful}
use Rattle.form_matching.proofs.Lifting.{lawful_are_sound}
use Rattle.rules_arith.specs.declared.rules.ArithRule.{ArithRule}
use Rattle.rules_arith.specs.declared.rules.ArithRule.TheVariants as rule
use Rattle.rules_arith.specs.Rules.{forms_of, takes_row}

pub all_lawful : (r : ArithRule) → AllByRecursion IsLawful (forms_of r)
all_lawful rule.Comm = (add_comm_lawful, (mul_comm_lawful, (and_comm_lawful, (or_comm_lawful, (xor_comm_lawful, tt)))))
all_lawful rule.ZeroRight = (add_zero_lawful, (sub_zero_lawful, (or_zero_lawful, (xor_zero_lawful, (shl_zero_lawful, (lshr_zero_lawful, (ashr_zero_lawful, tt)))))))
all_lawful rule.OneRight = (mul_one_lawful, (udiv_one_lawful, (sdiv_one_lawful, tt)))
all_lawful rule.RemOne = (urem_one_lawful, (srem_one_lawful, tt))
all_lawful rule.SelfZero = (sub_self_lawful, (xor_self_lawful, tt))
all_lawful rule.SelfSame = (and_self_lawful, (or_self_lawful, tt))
all_lawful rule.ZeroAbsorb = (mul_absorb_lawful, (and_absorb_lawful, tt))
all_lawful rule.OnesRight = (ones_right_lawful, tt)
all_lawful rule.OrOnes = (or_ones_lawful, tt)
all_lawful rule.ZeroShift = (shl_of_zero_lawful, (lshr_of_zero_lawful, (ashr_of_zero_lawful, tt)))
all_lawful rule.SubToAdd = (sub_to_add_lawful, tt)
all_lawful rule.NegNeg = (neg_neg_lawful, tt)
all_lawful rule.AddConst = (add_const_lawful, tt)
all_lawful rule.SubAdd = (sub_add_lawful, tt)
all_lawful rule.AddSub = (add_sub_lawful, tt)
all_lawful rule.MulPow = (mul_pow_lawful, tt)
all_lawful rule.UdivPow = (udiv_pow_lawful, tt)
all_lawful rule.UremPow = (urem_pow_lawful, tt)
all_lawful rule.ShiftShift = (shl_shl_lawful, (lshr_lshr_lawful, (ashr_ashr_lawful, tt)))
all_lawful rule.BitBit = (and_and_lawful, (or_or_lawful, (xor_xor_lawful, tt)))
all_lawful rule.SubOnes = (sub_ones_lawful, tt)
all_lawful rule.AndOr = (and_or_lawful, tt)
all_lawful rule.OrAnd = (or_and_lawful, tt)
all_lawful rule.AddSelf = (add_self_lawful, tt)

pub rule_is_sound : (r : ArithRule) (scope : Scope) (schema : Schema) → takes_row r scope schema ≡ true → IsSound scope schema
rule_is_sound r scope schema h = lawful_are_sound (forms_of r) (all_lawful r) scope schema h
