-- What a rule takes is sound, since each of its forms is lawful.
use Rattle.std.proofs.Common.{◌≡◌, true}
use Rattle.std.specs.List.{AllByRecursion}
use Rattle.ir_values.specs.Constants.{Scope}
use Rattle.erhl_assert.specs.declared.facts.Schema.{Schema}
use Rattle.erhl_assert.specs.Facts.{IsSound}
use Rattle.rule_forms.specs.Meaning.{IsLawful}
use Rattle.rule_forms.proofs.CastCmp.{select_bool_lawful, select_not_lawful, select_same_lawful, sext_sext_lawful, sext_zext_lawful, sgt_most_lawful, slt_least_lawful, sub_eq_lawful, sub_ne_lawful, swap_eq_lawful, swap_ne_lawful, swap_sle_lawful, swap_ugt_lawful, trunc_sext_lawful, trunc_trunc_lawful, trunc_zext_lawful, ugt_most_lawful, ult_zero_lawful, xor_eq_lawful, xor_ne_lawful, zext_zext_lawful}
use Rattle.rule_forms.proofs.Comparing.{bitcast_bitcast_lawful, bitcast_same_lawful, select_first_lawful, select_second_lawful, self_eq_lawful, self_ne_lawful, self_sge_lawful, self_sgt_lawful, self_sle_lawful, self_slt_lawful, self_uge_lawful, self_ugt_lawful, self_ule_lawful, self_ult_lawful, sge_least_lawful, sle_most_lawful, swap_sge_lawful, swap_sgt_lawful, swap_slt_lawful, swap_uge_lawful, swap_ule_lawful, swap_ult_lawful, uge_zero_lawful, ugt_zero_lawful, ule_most_lawful, ult_one_lawful}
use Rattle.form_matching.proofs.Lifting.{lawful_are_sound}
use Rattle.rules_cast_cmp.specs.declared.rules.CastCmpRule.{CastCmpRule}
use Rattle.rules_cast_cmp.specs.declared.rules.CastCmpRule.TheVariants as rule
use Rattle.rules_cast_cmp.specs.Rules.{forms_of, takes_row}

pub all_lawful : (r : CastCmpRule) → AllByRecursion IsLawful (forms_of r)
all_lawful rule.ZextZext = (zext_zext_lawful, tt)
all_lawful rule.SextSext = (sext_sext_lawful, tt)
all_lawful rule.TruncTrunc = (trunc_trunc_lawful, tt)
all_lawful rule.TruncExt = (trunc_zext_lawful, (trunc_sext_lawful, tt))
all_lawful rule.SextZext = (sext_zext_lawful, tt)
all_lawful rule.IcmpSwap = (swap_eq_lawful, (swap_ne_lawful, (swap_ugt_lawful, (swap_uge_lawful, (swap_ult_lawful, (swap_ule_lawful, (swap_sgt_lawful, (swap_sge_lawful, (swap_slt_lawful, (swap_sle_lawful, tt))))))))))
all_lawful rule.IcmpSelf = (self_eq_lawful, (self_ne_lawful, (self_ugt_lawful, (self_uge_lawful, (self_ult_lawful, (self_ule_lawful, (self_sgt_lawful, (self_sge_lawful, (self_slt_lawful, (self_sle_lawful, tt))))))))))
all_lawful rule.IcmpDiff = (sub_eq_lawful, (sub_ne_lawful, (xor_eq_lawful, (xor_ne_lawful, tt))))
all_lawful rule.IcmpEdge = (ult_zero_lawful, (ugt_most_lawful, (slt_least_lawful, (sgt_most_lawful, (uge_zero_lawful, (ule_most_lawful, (sge_least_lawful, (sle_most_lawful, tt))))))))
all_lawful rule.IcmpOne = (ult_one_lawful, (ugt_zero_lawful, tt))
all_lawful rule.SelectKnown = (select_first_lawful, (select_second_lawful, tt))
all_lawful rule.SelectSame = (select_same_lawful, tt)
all_lawful rule.SelectBool = (select_bool_lawful, tt)
all_lawful rule.SelectNot = (select_not_lawful, tt)
all_lawful rule.BitcastSame = (bitcast_same_lawful, tt)
all_lawful rule.BitcastBitcast = (bitcast_bitcast_lawful, tt)

pub rule_is_sound : (r : CastCmpRule) (scope : Scope) (schema : Schema) → takes_row r scope schema ≡ true → IsSound scope schema
rule_is_sound r scope schema h = lawful_are_sound (forms_of r) (all_lawful r) scope schema h
