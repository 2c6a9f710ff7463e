-- The rules of arithmetic, as lists of forms.
use Rattle.std.specs.Prelude.{ℕ, Bool, List, [], ◌∷◌, codes}
use Rattle.std.specs.List.{list_any}
use Rattle.ir_values.specs.Constants.{Scope}
use Rattle.ir_core.specs.declared.operands.BinOp.TheVariants as op
use Rattle.rule_forms.specs.declared.forms.Condition.TheVariants as condition
use Rattle.erhl_assert.specs.declared.facts.Schema.{Schema}
use Rattle.rule_forms.specs.declared.forms.Form.{Form}
use Rattle.rule_forms.specs.Table.{add_const, add_self, add_sub, and_or, bit_bit, comm, mul_pow, neg_neg, one_right, ones_right, or_and, or_ones, rem_one, self_same, self_zero, shift_shift, sub_add, sub_ones, sub_to_add, udiv_pow, urem_pow, zero_absorb, zero_right, zero_shift}
use Rattle.form_matching.specs.Instances.{fits}
use Rattle.rules_arith.specs.declared.rules.ArithRule.{ArithRule}
use Rattle.rules_arith.specs.declared.rules.ArithRule.TheVariants as rule

abbrev pub in_order : List ArithRule
in_order = rule.Comm ∷ rule.ZeroRight ∷ rule.OneRight ∷ rule.RemOne ∷ rule.SelfZero ∷ rule.SelfSame ∷ rule.ZeroAbsorb ∷ rule.OnesRight ∷ rule.OrOnes
    ∷ rule.ZeroShift ∷ rule.SubToAdd ∷ rule.NegNeg ∷ rule.AddConst ∷ rule.SubAdd ∷ rule.AddSub ∷ rule.MulPow ∷ rule.UdivPow ∷ rule.UremPow ∷ rule.ShiftShift
    ∷ rule.BitBit ∷ rule.SubOnes ∷ rule.AndOr ∷ rule.OrAnd ∷ rule.AddSelf ∷ []

-- the forms of a rule, each of which it takes
abbrev pub forms_of : ArithRule → List Form
forms_of rule.Comm = comm op.Add ∷ comm op.Mul ∷ comm op.And ∷ comm op.Or ∷ comm op.Xor ∷ []
forms_of rule.ZeroRight = zero_right op.Add ∷ zero_right op.Sub ∷ zero_right op.Or ∷ zero_right op.Xor ∷ zero_right op.Shl ∷ zero_right op.LShr
    ∷ zero_right op.AShr ∷ []
forms_of rule.OneRight = one_right op.Mul ∷ one_right op.UDiv ∷ one_right op.SDiv ∷ []
forms_of rule.RemOne = rem_one op.URem ∷ rem_one op.SRem ∷ []
forms_of rule.SelfZero = self_zero op.Sub ∷ self_zero op.Xor ∷ []
forms_of rule.SelfSame = self_same op.And ∷ self_same op.Or ∷ []
forms_of rule.ZeroAbsorb = zero_absorb op.Mul ∷ zero_absorb op.And ∷ []
forms_of rule.OnesRight = ones_right ∷ []
forms_of rule.OrOnes = or_ones ∷ []
forms_of rule.ZeroShift = zero_shift op.Shl ∷ zero_shift op.LShr ∷ zero_shift op.AShr ∷ []
forms_of rule.SubToAdd = sub_to_add ∷ []
forms_of rule.NegNeg = neg_neg ∷ []
forms_of rule.AddConst = add_const ∷ []
forms_of rule.SubAdd = sub_add ∷ []
forms_of rule.AddSub = add_sub ∷ []
forms_of rule.MulPow = mul_pow ∷ []
forms_of rule.UdivPow = udiv_pow ∷ []
forms_of rule.UremPow = urem_pow ∷ []
forms_of rule.ShiftShift = shift_shift op.Shl ∷ shift_shift op.LShr ∷ shift_shift op.AShr ∷ []
forms_of rule.BitBit = bit_bit op.And condition.And ∷ bit_bit op.Or condition.Or ∷ bit_bit op.Xor condition.Xor ∷ []
forms_of rule.SubOnes = sub_ones ∷ []
forms_of rule.AndOr = and_or ∷ []
forms_of rule.OrAnd = or_and ∷ []
forms_of rule.AddSelf = add_self ∷ []

abbrev pub rule_name : ArithRule → List ℕ
rule_name rule.Comm = codes "comm"
rule_name rule.ZeroRight = codes "zero_right"
rule_name rule.OneRight = codes "one_right"
rule_name rule.RemOne = codes "rem_one"
rule_name rule.SelfZero = codes "self_zero"
rule_name rule.SelfSame = codes "self_same"
rule_name rule.ZeroAbsorb = codes "zero_absorb"
rule_name rule.OnesRight = codes "ones_right"
rule_name rule.OrOnes = codes "or_ones"
rule_name rule.ZeroShift = codes "zero_shift"
rule_name rule.SubToAdd = codes "sub_to_add"
rule_name rule.NegNeg = codes "neg_neg"
rule_name rule.AddConst = codes "add_const"
rule_name rule.SubAdd = codes "sub_add"
rule_name rule.AddSub = codes "add_sub"
rule_name rule.MulPow = codes "mul_pow"
rule_name rule.UdivPow = codes "udiv_pow"
rule_name rule.UremPow = codes "urem_pow"
rule_name rule.ShiftShift = codes "shift_shift"
rule_name rule.BitBit = codes "bit_bit"
rule_name rule.SubOnes = codes "sub_ones"
rule_name rule.AndOr = codes "and_or"
rule_name rule.OrAnd = codes "or_and"
rule_name rule.AddSelf = codes "add_self"

-- a rule takes the instances of its forms, whatever the types and globals are
abbrev pub takes_row : ArithRule → Scope → Schema → Bool
takes_row r scope schema = list_any (λ form. fits form schema.from schema.to) (forms_of r)
