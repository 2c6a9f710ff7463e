-- A rule takes exactly the instances of its forms.
use Rattle.std.specs.Prelude.{◌≡◌, ◌↔◌, true}
use Rattle.std.specs.List.{AllByRecursion}
use Rattle.ir_core.specs.declared.expressions.Reg.{Reg}
use Rattle.ir_values.specs.Constants.{Scope}
use Rattle.ir_core.specs.declared.operands.BinOp.TheVariants as op
use Rattle.erhl_assert.specs.declared.facts.Schema.{Schema}
use Rattle.form_matching.specs.Exactness.{IsAnInstance, ReadsBack}
use Rattle.form_matching.specs.Instances.{Put}
use Rattle.form_matching.proofs.Exact.{lists_are_exact}
use Rattle.form_matching.proofs.ReadingBack.{add_const_back, add_self_back, add_sub_back, and_and_back, and_or_back, comm_back, mul_pow_back, neg_neg_back, one_right_back, ones_right_back, or_and_back, or_ones_back, or_or_back, rem_one_back, self_same_back, self_zero_back, shift_shift_back, sub_add_back, sub_ones_back, sub_to_add_back, udiv_pow_back, urem_pow_back, xor_xor_back, zero_absorb_back, zero_right_back, zero_shift_back}
use Rattle.rules_arith.specs.declared.rules.ArithRule.{ArithRule}
use Rattle.rules_arith.specs.declared.rules.ArithRule.TheVariants as rule
use Rattle.rules_arith.specs.Rules.{forms_of, takes_row}

all_read_back : (r : ArithRule) → AllByRecursion (λ form. (put : Put Reg) → ReadsBack form put) (forms_of r)
all_read_back rule.Comm = (comm_back op.Add, (comm_back op.Mul, (comm_back op.And, (comm_back op.Or, (comm_back op.Xor, tt)))))
all_read_back rule.ZeroRight = (zero_right_back op.Add, (zero_right_back op.Sub, (zero_right_back op.Or, (zero_right_back op.Xor, (zero_right_back op.Shl, (zero_right_back op.LShr, (zero_right_back op.AShr, tt)))))))
all_read_back rule.OneRight = (one_right_back op.Mul, (one_right_back op.UDiv, (one_right_back op.SDiv, tt)))
all_read_back rule.RemOne = (rem_one_back op.URem, (rem_one_back op.SRem, tt))
all_read_back rule.SelfZero = (self_zero_back op.Sub, (self_zero_back op.Xor, tt))
all_read_back rule.SelfSame = (self_same_back op.And, (self_same_back op.Or, tt))
all_read_back rule.ZeroAbsorb = (zero_absorb_back op.Mul, (zero_absorb_back op.And, tt))
all_read_back rule.OnesRight = (ones_right_back, tt)
all_read_back rule.OrOnes = (or_ones_back, tt)
all_read_back rule.ZeroShift = (zero_shift_back op.Shl, (zero_shift_back op.LShr, (zero_shift_back op.AShr, tt)))
all_read_back rule.SubToAdd = (sub_to_add_back, tt)
all_read_back rule.NegNeg = (neg_neg_back, tt)
all_read_back rule.AddConst = (add_const_back, tt)
all_read_back rule.SubAdd = (sub_add_back, tt)
all_read_back rule.AddSub = (add_sub_back, tt)
all_read_back rule.MulPow = (mul_pow_back, tt)
all_read_back rule.UdivPow = (udiv_pow_back, tt)
all_read_back rule.UremPow = (urem_pow_back, tt)
all_read_back rule.ShiftShift = (shift_shift_back op.Shl, (shift_shift_back op.LShr, (shift_shift_back op.AShr, tt)))
all_read_back rule.BitBit = (and_and_back, (or_or_back, (xor_xor_back, tt)))
all_read_back rule.SubOnes = (sub_ones_back, tt)
all_read_back rule.AndOr = (and_or_back, tt)
all_read_back rule.OrAnd = (or_and_back, tt)
all_read_back rule.AddSelf = (add_self_back, tt)

pub rules_are_exact : (r : ArithRule) (scope : Scope) (schema : Schema) → (takes_row r scope schema ≡ true) ↔ IsAnInstance (forms_of r) schema.from schema.to
rules_are_exact r scope schema = lists_are_exact (forms_of r) (all_read_back r) schema.from schema.to
