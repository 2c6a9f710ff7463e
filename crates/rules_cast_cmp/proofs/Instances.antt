-- A rule takes exactly the instances of its forms.
use Rattle.std.specs.Prelude.{◌≡◌, ◌↔◌, true}
use Rattle.std.specs.List.{AllByRecursion}
use Rattle.ir_core.specs.declared.expressions.Reg.{Reg}
use Rattle.ir_values.specs.Constants.{Scope}
use Rattle.ir_core.specs.declared.operands.BinOp.TheVariants as op
use Rattle.ir_core.specs.declared.operands.CastOp.TheVariants as cast
use Rattle.ir_core.specs.declared.operands.Pred.TheVariants as pred
use Rattle.erhl_assert.specs.declared.facts.Schema.{Schema}
use Rattle.form_matching.specs.Exactness.{IsAnInstance, ReadsBack}
use Rattle.form_matching.specs.Instances.{Put}
use Rattle.form_matching.proofs.Exact.{lists_are_exact}
use Rattle.form_matching.proofs.ReadingBack.{bitcast_same_back, cast_cast_back, icmp_diff_back, icmp_swap_back, select_bool_back, select_first_back, select_not_back, select_same_back, select_second_back, self_eq_back, self_ne_back, self_sge_back, self_sgt_back, self_sle_back, self_slt_back, self_uge_back, self_ugt_back, self_ule_back, self_ult_back, sge_least_back, sgt_most_back, sle_most_back, slt_least_back, trunc_ext_back, uge_zero_back, ugt_most_back, ugt_zero_back, ule_most_back, ult_one_back, ult_zero_back}
use Rattle.rules_cast_cmp.specs.declared.rules.CastCmpRule.{CastCmpRule}
use Rattle.rules_cast_cmp.specs.declared.rules.CastCmpRule.TheVariants as rule
use Rattle.rules_cast_cmp.specs.Rules.{forms_of, takes_row}

all_read_back : (r : CastCmpRule) → AllByRecursion (λ form. (put : Put Reg) → ReadsBack form put) (forms_of r)
all_read_back rule.ZextZext = (cast_cast_back cast.ZExt cast.ZExt cast.ZExt, tt)
all_read_back rule.SextSext = (cast_cast_back cast.SExt cast.SExt cast.SExt, tt)
all_read_back rule.TruncTrunc = (cast_cast_back cast.Trunc cast.Trunc cast.Trunc, tt)
all_read_back rule.TruncExt = (trunc_ext_back cast.ZExt, (trunc_ext_back cast.SExt, tt))
all_read_back rule.SextZext = (cast_cast_back cast.ZExt cast.SExt cast.ZExt, tt)
all_read_back rule.IcmpSwap = (icmp_swap_back pred.Eq pred.Eq, (icmp_swap_back pred.Ne pred.Ne, (icmp_swap_back pred.Ugt pred.Ult, (icmp_swap_back pred.Uge pred.Ule, (icmp_swap_back pred.Ult pred.Ugt, (icmp_swap_back pred.Ule pred.Uge, (icmp_swap_back pred.Sgt pred.Slt, (icmp_swap_back pred.Sge pred.Sle, (icmp_swap_back pred.Slt pred.Sgt, (icmp_swap_back pred.Sle pred.Sge, tt))))))))))
all_read_back rule.IcmpSelf = (self_eq_back, (self_ne_back, (self_ugt_back, (self_uge_back, (self_ult_back, (self_ule_back, (self_sgt_back, (self_sge_back, (self_slt_back, (self_sle_back, tt))))))))))
all_read_back rule.IcmpDiff = (icmp_diff_back op.Sub pred.Eq, (icmp_diff_back op.Sub pred.Ne, (icmp_diff_back op.Xor pred.Eq, (icmp_diff_back op.Xor pred.Ne, tt))))
all_read_back rule.IcmpEdge = (ult_zero_back, (ugt_most_back, (slt_least_back, (sgt_most_back, (uge_zero_back, (ule_most_back, (sge_least_back, (sle_most_back, tt))))))))
all_read_back rule.IcmpOne = (ult_one_back, (ugt_zero_back, tt))
all_read_back rule.SelectKnown = (select_first_back, (select_second_back, tt))
all_read_back rule.SelectSame = (select_same_back, tt)
all_read_back rule.SelectBool = (select_bool_back, tt)
all_read_back rule.SelectNot = (select_not_back, tt)
all_read_back rule.BitcastSame = (bitcast_same_back, tt)
all_read_back rule.BitcastBitcast = (cast_cast_back cast.BitCast cast.BitCast cast.BitCast, tt)

pub rules_are_exact : (r : CastCmpRule) (scope : Scope) (schema : Schema) → (takes_row r scope schema ≡ true) ↔ IsAnInstance (forms_of r) schema.from schema.to
rules_are_exact r scope schema = lists_are_exact (forms_of r) (all_read_back r) schema.from schema.to
