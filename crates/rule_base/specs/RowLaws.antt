-- Whatever the shipped rules take is sound.
use Rattle.std.proofs.Common.{◌≡◌, true, ◌&&◌, List, [], ◌∷◌, refl, sym, ap, subst}
use Rattle.std.specs.List.{AllByRecursion}
use Rattle.ir_core.specs.declared.expressions.Expr.TheVariants.{Plain}
use Rattle.ir_core.specs.Types.{kind_of}
use Rattle.ir_core.specs.Expressions.{Expr0}
use Rattle.ir_values.specs.Constants.{Scope}
use Rattle.ir_core.specs.Same.{same_reg, same_expr}
use Rattle.ir_types.specs.NameLaws.{left_true, right_true}
use Rattle.ir_core.proofs.SameLaws.{same_reg_expr_true}
use Rattle.ir_values.specs.Operations.{IsOutcomeLessDefined}
use Rattle.ir_values.proofs.OperationLaws.{outcome_less_defined_trans}
use Rattle.erhl_assert.specs.declared.facts.Fact.{Fact}
use Rattle.erhl_assert.specs.declared.facts.Fact.TheVariants.{LessDef}
use Rattle.erhl_assert.specs.declared.facts.Schema.{Schema}
use Rattle.erhl_assert.specs.Sides.{SideState, read_reg, worth}
use Rattle.erhl_assert.specs.Facts.{IsSound, Holds, kind_of_expr}
use Rattle.rule_base.specs.declared.shipped.Rule.{Rule}
use Rattle.rule_base.specs.declared.shipped.Rule.TheVariants.{Refl, Trans, UndefConst, Subst, DropFlags, Fold}
use Rattle.rule_base.specs.Rows.{takes_row, have_one_type, is_refl, is_trans, is_undef, is_simple, is_undef_const, is_subst, is_drop_flags, is_fold}
use Rattle.rule_base.specs.OneType.{one_type}
use Rattle.rule_base.specs.SimpleLaws.{less_than_simple}
use Rattle.rule_base.specs.OperandLaws.{less_itself, subst_is_sound, drop_flags_is_sound}
use Rattle.rule_base.specs.FoldLaws.{fold_is_sound}

refl_is_sound : (side : SideState) (scope : Scope) (from : List Fact) (to : Fact) → is_refl scope from to ≡ true → Holds side to
refl_is_sound side scope [] (LessDef a b) h =
    let e : a ≡ b = same_reg_expr_true a b (right_true (have_one_type scope a b) (same_expr same_reg a b) h) in
    rw (← e) (refl, less_itself (worth side a))
refl_is_sound side scope from to h = absurd (cc)

trans_holds : (side : SideState) (a b c d e f : Expr0) → b ≡ c → e ≡ a → f ≡ d → Holds side (LessDef a b) → Holds side (LessDef c d) → Holds side (LessDef e f)
trans_holds side a b c d e f p q r first second =
    let k : kind_of_expr a ≡ kind_of_expr d = cc (ap kind_of_expr p, first.0, second.0) in
    let w : IsOutcomeLessDefined (worth side c) (worth side d) = second.1 in
    let v : IsOutcomeLessDefined (worth side b) (worth side d) = rw p w in
    rw (q, r) (k, outcome_less_defined_trans (worth side a) (worth side b) (worth side d) first.1 v)

trans_is_sound : (side : SideState) (scope : Scope) (from : List Fact) (to : Fact) → is_trans scope from to ≡ true → AllByRecursion (Holds side) from → Holds side to
trans_is_sound side scope (LessDef a b ∷ LessDef c d ∷ []) (LessDef e f) h all =
    let one = have_one_type scope a b in
    let other = have_one_type scope c d in
    let middle = same_expr same_reg b c in
    let first = same_expr same_reg e a in
    let last = same_expr same_reg f d in
    let h1 : (one && other && middle && first) ≡ true = left_true (one && other && middle && first) last h in
    let h2 : (one && other && middle) ≡ true = left_true (one && other && middle) first h1 in
    trans_holds side a b c d e f (same_reg_expr_true b c (right_true (one && other) middle h2))
    (same_reg_expr_true e a (right_true (one && other && middle) first h1))
    (same_reg_expr_true f d (right_true (one && other && middle && first) last h)) all.0 all.1.0
trans_is_sound side scope from to h all = absurd (cc)

undef_const_is_sound : (side : SideState) (from : List Fact) (to : Fact) → is_undef_const side.scope from to ≡ true → Holds side to
undef_const_is_sound side [] (LessDef (Plain a) (Plain b)) h =
    let both = have_one_type side.scope (Plain a) (Plain b) in
    let undef = is_undef a.atom in
    let simple = is_simple b.atom in
    let h1 : (both && undef) ≡ true = left_true (both && undef) simple h in
    let typed = one_type side.scope (Plain a) (Plain b) (left_true both undef h1) in
    let t : a.ty ≡ b.ty = typed.type in (
      ap kind_of t,
      rw t (less_than_simple side.scope (read_reg side) b.ty a.atom b.atom (right_true both undef h1) (right_true (both && undef) simple h) typed.target typed.right),
    )
undef_const_is_sound side from to h = absurd (cc)

pub row_is_sound : (rule : Rule) (scope : Scope) (schema : Schema) → takes_row rule scope schema ≡ true → IsSound scope schema
row_is_sound Refl scope schema h side same fine all = refl_is_sound side scope schema.from schema.to h
row_is_sound Trans scope schema h side same fine all = trans_is_sound side scope schema.from schema.to h all
row_is_sound UndefConst scope schema h side same fine all =
    undef_const_is_sound side schema.from schema.to (subst (λ s. is_undef_const s schema.from schema.to ≡ true) (sym same) h)
row_is_sound Subst scope schema h side same fine all =
    subst_is_sound side schema.from schema.to (subst (λ s. is_subst s schema.from schema.to ≡ true) (sym same) h) all
row_is_sound DropFlags scope schema h side same fine all =
    drop_flags_is_sound side schema.from schema.to (subst (λ s. is_drop_flags s schema.from schema.to ≡ true) (sym same) h)
row_is_sound Fold scope schema h side same fine all =
    fold_is_sound side schema.from schema.to (subst (λ s. is_fold s schema.from schema.to ≡ true) (sym same) h)
