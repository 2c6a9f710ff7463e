-- The rules of conversions, comparisons and selections, as lists of forms.
use Rattle.std.specs.Prelude.{ℕ, Bool, List, [], ◌∷◌, codes}
use Rattle.std.specs.List.{list_any}
use Rattle.ir_values.specs.Constants.{Scope}
use Rattle.ir_core.specs.declared.operands.BinOp.TheVariants as op
use Rattle.ir_core.specs.declared.operands.CastOp.TheVariants as cast
use Rattle.ir_core.specs.declared.operands.Pred.TheVariants as pred
use Rattle.rule_forms.specs.declared.forms.Place.TheVariants as place
use Rattle.erhl_assert.specs.declared.facts.Schema.{Schema}
use Rattle.rule_forms.specs.declared.forms.Form.{Form}
use Rattle.rule_forms.specs.Table.{bitcast_same, cast_cast, icmp_diff, icmp_edge, icmp_one, icmp_self, icmp_swap, select_bool, select_known, select_not, select_same, trunc_ext}
use Rattle.form_matching.specs.Instances.{fits}
use Rattle.rules_cast_cmp.specs.declared.rules.CastCmpRule.{CastCmpRule}
use Rattle.rules_cast_cmp.specs.declared.rules.CastCmpRule.TheVariants as rule

abbrev pub in_order : List CastCmpRule
in_order = rule.ZextZext ∷ rule.SextSext ∷ rule.TruncTrunc ∷ rule.TruncExt ∷ rule.SextZext ∷ rule.IcmpSwap ∷ rule.IcmpSelf ∷ rule.IcmpDiff ∷ rule.IcmpEdge
    ∷ rule.IcmpOne ∷ rule.SelectKnown ∷ rule.SelectSame ∷ rule.SelectBool ∷ rule.SelectNot ∷ rule.BitcastSame ∷ rule.BitcastBitcast ∷ []

-- the forms of a rule, each of which it takes
abbrev pub forms_of : CastCmpRule → List Form
forms_of rule.ZextZext = cast_cast cast.ZExt cast.ZExt cast.ZExt ∷ []
forms_of rule.SextSext = cast_cast cast.SExt cast.SExt cast.SExt ∷ []
forms_of rule.TruncTrunc = cast_cast cast.Trunc cast.Trunc cast.Trunc ∷ []
forms_of rule.TruncExt = trunc_ext cast.ZExt ∷ trunc_ext cast.SExt ∷ []
forms_of rule.SextZext = cast_cast cast.ZExt cast.SExt cast.ZExt ∷ []
forms_of rule.IcmpSwap = icmp_swap pred.Eq pred.Eq ∷ icmp_swap pred.Ne pred.Ne ∷ icmp_swap pred.Ugt pred.Ult ∷ icmp_swap pred.Uge pred.Ule
    ∷ icmp_swap pred.Ult pred.Ugt ∷ icmp_swap pred.Ule pred.Uge ∷ icmp_swap pred.Sgt pred.Slt ∷ icmp_swap pred.Sge pred.Sle ∷ icmp_swap pred.Slt pred.Sgt
    ∷ icmp_swap pred.Sle pred.Sge ∷ []
forms_of rule.IcmpSelf = icmp_self pred.Eq place.One ∷ icmp_self pred.Ne place.Zero ∷ icmp_self pred.Ugt place.Zero ∷ icmp_self pred.Uge place.One
    ∷ icmp_self pred.Ult place.Zero ∷ icmp_self pred.Ule place.One ∷ icmp_self pred.Sgt place.Zero ∷ icmp_self pred.Sge place.One
    ∷ icmp_self pred.Slt place.Zero ∷ icmp_self pred.Sle place.One ∷ []
forms_of rule.IcmpDiff = icmp_diff op.Sub pred.Eq ∷ icmp_diff op.Sub pred.Ne ∷ icmp_diff op.Xor pred.Eq ∷ icmp_diff op.Xor pred.Ne ∷ []
forms_of rule.IcmpEdge = icmp_edge pred.Ult place.Zero place.Zero ∷ icmp_edge pred.Ugt place.Ones place.Zero ∷ icmp_edge pred.Slt place.Least place.Zero
    ∷ icmp_edge pred.Sgt place.Most place.Zero ∷ icmp_edge pred.Uge place.Zero place.One ∷ icmp_edge pred.Ule place.Ones place.One
    ∷ icmp_edge pred.Sge place.Least place.One ∷ icmp_edge pred.Sle place.Most place.One ∷ []
forms_of rule.IcmpOne = icmp_one pred.Ult place.One pred.Eq ∷ icmp_one pred.Ugt place.Zero pred.Ne ∷ []
forms_of rule.SelectKnown = select_known place.One place.X ∷ select_known place.Zero place.Y ∷ []
forms_of rule.SelectSame = select_same ∷ []
forms_of rule.SelectBool = select_bool ∷ []
forms_of rule.SelectNot = select_not ∷ []
forms_of rule.BitcastSame = bitcast_same ∷ []
forms_of rule.BitcastBitcast = cast_cast cast.BitCast cast.BitCast cast.BitCast ∷ []

abbrev pub rule_name : CastCmpRule → List ℕ
rule_name rule.ZextZext = codes "zext_zext"
rule_name rule.SextSext = codes "sext_sext"
rule_name rule.TruncTrunc = codes "trunc_trunc"
rule_name rule.TruncExt = codes "trunc_ext"
rule_name rule.SextZext = codes "sext_zext"
rule_name rule.IcmpSwap = codes "icmp_swap"
rule_name rule.IcmpSelf = codes "icmp_self"
rule_name rule.IcmpDiff = codes "icmp_diff"
rule_name rule.IcmpEdge = codes "icmp_edge"
rule_name rule.IcmpOne = codes "icmp_one"
rule_name rule.SelectKnown = codes "select_known"
rule_name rule.SelectSame = codes "select_same"
rule_name rule.SelectBool = codes "select_bool"
rule_name rule.SelectNot = codes "select_not"
rule_name rule.BitcastSame = codes "bitcast_same"
rule_name rule.BitcastBitcast = codes "bitcast_bitcast"

-- a rule takes the instances of its forms, whatever the types and globals are
abbrev pub takes_row : CastCmpRule → Scope → Schema → Bool
takes_row r scope schema = list_any (λ form. fits form schema.from schema.to) (forms_of r)
