-- The letters of each row of the table can be read back.
use Rattle.std.proofs.Common.{refl}
use Rattle.ir_core.specs.declared.expressions.Reg.{Reg}
use Rattle.ir_core.specs.declared.operands.BinOp.{BinOp}
use Rattle.rule_forms.specs.declared.forms.Place.TheVariants as place
use Rattle.ir_core.specs.declared.operands.CastOp.{CastOp}
use Rattle.ir_core.specs.declared.operands.Pred.{Pred}
use Rattle.ir_core.specs.declared.operands.BinOp.TheVariants as binop
use Rattle.ir_core.specs.declared.operands.Pred.TheVariants as pred
use Rattle.rule_forms.specs.declared.forms.Condition.TheVariants as condition
use Rattle.rule_forms.specs.Table as row
use Rattle.form_matching.specs.Exactness.{ReadsBack}
use Rattle.form_matching.specs.Instances.{Put}

pub comm_back : (o : BinOp) (put : Put Reg) → ReadsBack (row.comm o) put
comm_back o put = record { left = refl; right = refl; premise = refl; asks = refl }

pub zero_right_back : (o : BinOp) (put : Put Reg) → ReadsBack (row.zero_right o) put
zero_right_back o put = record { left = refl; right = refl; premise = refl; asks = refl }

pub one_right_back : (o : BinOp) (put : Put Reg) → ReadsBack (row.one_right o) put
one_right_back o put = record { left = refl; right = refl; premise = refl; asks = refl }

pub rem_one_back : (o : BinOp) (put : Put Reg) → ReadsBack (row.rem_one o) put
rem_one_back o put = record { left = refl; right = refl; premise = refl; asks = refl }

pub self_zero_back : (o : BinOp) (put : Put Reg) → ReadsBack (row.self_zero o) put
self_zero_back o put = record { left = refl; right = refl; premise = refl; asks = refl }

pub self_same_back : (o : BinOp) (put : Put Reg) → ReadsBack (row.self_same o) put
self_same_back o put = record { left = refl; right = refl; premise = refl; asks = refl }

pub zero_absorb_back : (o : BinOp) (put : Put Reg) → ReadsBack (row.zero_absorb o) put
zero_absorb_back o put = record { left = refl; right = refl; premise = refl; asks = refl }

pub ones_right_back : (put : Put Reg) → ReadsBack row.ones_right put
ones_right_back put = record { left = refl; right = refl; premise = refl; asks = refl }

pub or_ones_back : (put : Put Reg) → ReadsBack row.or_ones put
or_ones_back put = record { left = refl; right = refl; premise = refl; asks = refl }

pub zero_shift_back : (o : BinOp) (put : Put Reg) → ReadsBack (row.zero_shift o) put
zero_shift_back o put = record { left = refl; right = refl; premise = refl; asks = refl }

pub sub_to_add_back : (put : Put Reg) → ReadsBack row.sub_to_add put
sub_to_add_back put = record { left = refl; right = refl; premise = refl; asks = refl }

pub neg_neg_back : (put : Put Reg) → ReadsBack row.neg_neg put
neg_neg_back put = record { left = refl; right = refl; premise = refl; asks = refl }

pub add_const_back : (put : Put Reg) → ReadsBack row.add_const put
add_const_back put = record { left = refl; right = refl; premise = refl; asks = refl }

pub sub_add_back : (put : Put Reg) → ReadsBack row.sub_add put
sub_add_back put = record { left = refl; right = refl; premise = refl; asks = refl }

pub add_sub_back : (put : Put Reg) → ReadsBack row.add_sub put
add_sub_back put = record { left = refl; right = refl; premise = refl; asks = refl }

pub mul_pow_back : (put : Put Reg) → ReadsBack row.mul_pow put
mul_pow_back put = record { left = refl; right = refl; premise = refl; asks = refl }

pub udiv_pow_back : (put : Put Reg) → ReadsBack row.udiv_pow put
udiv_pow_back put = record { left = refl; right = refl; premise = refl; asks = refl }

pub urem_pow_back : (put : Put Reg) → ReadsBack row.urem_pow put
urem_pow_back put = record { left = refl; right = refl; premise = refl; asks = refl }

pub shift_shift_back : (o : BinOp) (put : Put Reg) → ReadsBack (row.shift_shift o) put
shift_shift_back o put = record { left = refl; right = refl; premise = refl; asks = refl }

pub sub_ones_back : (put : Put Reg) → ReadsBack row.sub_ones put
sub_ones_back put = record { left = refl; right = refl; premise = refl; asks = refl }

pub and_or_back : (put : Put Reg) → ReadsBack row.and_or put
and_or_back put = record { left = refl; right = refl; premise = refl; asks = refl }

pub or_and_back : (put : Put Reg) → ReadsBack row.or_and put
or_and_back put = record { left = refl; right = refl; premise = refl; asks = refl }

pub add_self_back : (put : Put Reg) → ReadsBack row.add_self put
add_self_back put = record { left = refl; right = refl; premise = refl; asks = refl }

pub cast_cast_back : (first : CastOp) (second : CastOp) (both : CastOp) (put : Put Reg) → ReadsBack (row.cast_cast first second both) put
cast_cast_back first second both put = record { left = refl; right = refl; premise = refl; asks = refl }

pub trunc_ext_back : (first : CastOp) (put : Put Reg) → ReadsBack (row.trunc_ext first) put
trunc_ext_back first put = record { left = refl; right = refl; premise = refl; asks = refl }

pub icmp_swap_back : (p : Pred) (q : Pred) (put : Put Reg) → ReadsBack (row.icmp_swap p q) put
icmp_swap_back p q put = record { left = refl; right = refl; premise = refl; asks = refl }

pub icmp_diff_back : (o : BinOp) (p : Pred) (put : Put Reg) → ReadsBack (row.icmp_diff o p) put
icmp_diff_back o p put = record { left = refl; right = refl; premise = refl; asks = refl }

pub select_same_back : (put : Put Reg) → ReadsBack row.select_same put
select_same_back put = record { left = refl; right = refl; premise = refl; asks = refl }

pub select_bool_back : (put : Put Reg) → ReadsBack row.select_bool put
select_bool_back put = record { left = refl; right = refl; premise = refl; asks = refl }

pub select_not_back : (put : Put Reg) → ReadsBack row.select_not put
select_not_back put = record { left = refl; right = refl; premise = refl; asks = refl }

pub bitcast_same_back : (put : Put Reg) → ReadsBack row.bitcast_same put
bitcast_same_back put = record { left = refl; right = refl; premise = refl; asks = refl }

pub and_and_back : (put : Put Reg) → ReadsBack (row.bit_bit binop.And condition.And) put
and_and_back put = record { left = refl; right = refl; premise = refl; asks = refl }

pub or_or_back : (put : Put Reg) → ReadsBack (row.bit_bit binop.Or condition.Or) put
or_or_back put = record { left = refl; right = refl; premise = refl; asks = refl }

pub xor_xor_back : (put : Put Reg) → ReadsBack (row.bit_bit binop.Xor condition.Xor) put
xor_xor_back put = record { left = refl; right = refl; premise = refl; asks = refl }

pub self_eq_back : (put : Put Reg) → ReadsBack (row.icmp_self pred.Eq place.One) put
self_eq_back put = record { left = refl; right = refl; premise = refl; asks = refl }

pub self_ne_back : (put : Put Reg) → ReadsBack (row.icmp_self pred.Ne place.Zero) put
self_ne_back put = record { left = refl; right = refl; premise = refl; asks = refl }

pub self_ugt_back : (put : Put Reg) → ReadsBack (row.icmp_self pred.Ugt place.Zero) put
self_ugt_back put = record { left = refl; right = refl; premise = refl; asks = refl }

pub self_uge_back : (put : Put Reg) → ReadsBack (row.icmp_self pred.Uge place.One) put
self_uge_back put = record { left = refl; right = refl; premise = refl; asks = refl }

pub self_ult_back : (put : Put Reg) → ReadsBack (row.icmp_self pred.Ult place.Zero) put
self_ult_back put = record { left = refl; right = refl; premise = refl; asks = refl }

pub self_ule_back : (put : Put Reg) → ReadsBack (row.icmp_self pred.Ule place.One) put
self_ule_back put = record { left = refl; right = refl; premise = refl; asks = refl }

pub self_sgt_back : (put : Put Reg) → ReadsBack (row.icmp_self pred.Sgt place.Zero) put
self_sgt_back put = record { left = refl; right = refl; premise = refl; asks = refl }

pub self_sge_back : (put : Put Reg) → ReadsBack (row.icmp_self pred.Sge place.One) put
self_sge_back put = record { left = refl; right = refl; premise = refl; asks = refl }

pub self_slt_back : (put : Put Reg) → ReadsBack (row.icmp_self pred.Slt place.Zero) put
self_slt_back put = record { left = refl; right = refl; premise = refl; asks = refl }

pub self_sle_back : (put : Put Reg) → ReadsBack (row.icmp_self pred.Sle place.One) put
self_sle_back put = record { left = refl; right = refl; premise = refl; asks = refl }

pub ult_zero_back : (put : Put Reg) → ReadsBack (row.icmp_edge pred.Ult place.Zero place.Zero) put
ult_zero_back put = record { left = refl; right = refl; premise = refl; asks = refl }

pub ugt_most_back : (put : Put Reg) → ReadsBack (row.icmp_edge pred.Ugt place.Ones place.Zero) put
ugt_most_back put = record { left = refl; right = refl; premise = refl; asks = refl }

pub slt_least_back : (put : Put Reg) → ReadsBack (row.icmp_edge pred.Slt place.Least place.Zero) put
slt_least_back put = record { left = refl; right = refl; premise = refl; asks = refl }

pub sgt_most_back : (put : Put Reg) → ReadsBack (row.icmp_edge pred.Sgt place.Most place.Zero) put
sgt_most_back put = record { left = refl; right = refl; premise = refl; asks = refl }

pub uge_zero_back : (put : Put Reg) → ReadsBack (row.icmp_edge pred.Uge place.Zero place.One) put
uge_zero_back put = record { left = refl; right = refl; premise = refl; asks = refl }

pub ule_most_back : (put : Put Reg) → ReadsBack (row.icmp_edge pred.Ule place.Ones place.One) put
ule_most_back put = record { left = refl; right = refl; premise = refl; asks = refl }

pub sge_least_back : (put : Put Reg) → ReadsBack (row.icmp_edge pred.Sge place.Least place.One) put
sge_least_back put = record { left = refl; right = refl; premise = refl; asks = refl }

pub sle_most_back : (put : Put Reg) → ReadsBack (row.icmp_edge pred.Sle place.Most place.One) put
sle_most_back put = record { left = refl; right = refl; premise = refl; asks = refl }

pub ult_one_back : (put : Put Reg) → ReadsBack (row.icmp_one pred.Ult place.One pred.Eq) put
ult_one_back put = record { left = refl; right = refl; premise = refl; asks = refl }

pub ugt_zero_back : (put : Put Reg) → ReadsBack (row.icmp_one pred.Ugt place.Zero pred.Ne) put
ugt_zero_back put = record { left = refl; right = refl; premise = refl; asks = refl }

pub select_first_back : (put : Put Reg) → ReadsBack (row.select_known place.One place.X) put
select_first_back put = record { left = refl; right = refl; premise = refl; asks = refl }

pub select_second_back : (put : Put Reg) → ReadsBack (row.select_known place.Zero place.Y) put
select_second_back put = record { left = refl; right = refl; premise = refl; asks = refl }
