-- What another rule makes than those that are read, or none: nothing is out of range in it.
use Rattle.std.proofs.Common.{◌≡◌, ◌∙◌, ◌++◌, ℕ, Bool, true, false, cond, List, [], Option, Some, None, refl, ap, sym, subst, rules}
use Rattle.std.specs.Prelude.{nat_eq}
use Rattle.expression_reader.specs.Ranges.{const_faults, const_faults_at_level, operand_faults, operation_faults, range_faults, value_faults}
use Rattle.expression_reader.specs.Types.{count_faults, count_faults_at_level}
use Rattle.ir_types.specs.declared.ty.Ty.{Ty}
use Rattle.module_derivations.specs.Ahead.{made_by}
use Rattle.module_derivations.specs.Empty.{no_operand, no_operation, no_type}
use Rattle.module_derivations.specs.Parts.{Part, if_rule}
use Rattle.module_derivations.specs.declared.rule.TheConstants as rule
use Rattle.module_grammar.specs.declared.constants.ConstText.{ConstText}
use Rattle.module_grammar.specs.declared.constants.ConstText as const
use Rattle.module_grammar.specs.declared.constants.ValueText.{ValueText}
use Rattle.module_grammar.specs.declared.lines.ExprText.{ExprText}
use Rattle.module_grammar.specs.declared.lines.OperationText.{OperationText}
use Rattle.module_grammar.specs.declared.types.TypeText.{TypeText}
use Rattle.name_claims.specs.declared.claims.Fault.{Fault}
use Rattle.named_modules.proofs.ConstKinds as constants
use Rattle.named_modules.proofs.TypeKinds as types
use Rattle.named_modules.specs.Types.{type_of}

differ : (p n : ℕ) → (p ≡ n → ⊥) → nat_eq p n ≡ false
differ p n h = search rules

-- what holds of both holds of what is made by this rule or another
either : {T : Type 0} (P : T → Type 0) (r : Option ℕ) (n : ℕ) (then other : T) → P then → P other → P (if_rule r n then other)
either P None n then other p q = q
either P (Some m) n then other p q = both (nat_eq m n)
  where
    both : (b : Bool) → P (cond b then other)
    both true = p
    both false = q

another : {T : Type 0} (r : Option ℕ) (n : ℕ) (then other : T) → (r ≡ Some n → ⊥) → other ≡ if_rule r n then other
another None n then other h = refl
another (Some m) n then other h = ap (λ b. cond b then other) (sym (differ m n (λ e. h (ap (λ m. Some m) e))))

-- what holds of the other holds where it isn't this rule
by_another : {T : Type 0} (P : T → Type 0) (r : Option ℕ) (n : ℕ) (then other : T) → (r ≡ Some n → ⊥) → P other → P (if_rule r n then other)
by_another P r n then other h q = subst P (another r n then other h) q

-- ---- types

abbrev IsCounted : TypeText → Type 0
IsCounted w = count_faults w ≡ []

pub no_counts :
    (r : Option ℕ) (s : List Part) → (r ≡ Some rule.ARRAY_TYPE → ⊥) → (r ≡ Some rule.STRUCT_TYPE → ⊥) → count_faults (made_by r s).base_type ≡ []
no_counts r s h k =
    either IsCounted r rule.INT_TYPE _ _ (types.at_int (List Fault) count_faults_at_level _)
    (either IsCounted r rule.NAMED_BASE _ _ (types.at_named (List Fault) count_faults_at_level _)
    (by_another IsCounted r rule.ARRAY_TYPE _ _ h
    (by_another IsCounted r rule.STRUCT_TYPE _ _ k (types.at_int (List Fault) count_faults_at_level _))))

pub no_types : (r : Option ℕ) (s : List Part) → (r ≡ Some rule.TYPES → ⊥) → (made_by r s).types ≡ []
no_types r s h = by_another (λ ws. ws ≡ []) r rule.TYPES _ _ h refl

pub no_more_types : (r : Option ℕ) (s : List Part) → (r ≡ Some rule.MORE_TYPES → ⊥) → (made_by r s).more_types ≡ []
no_more_types r s h = by_another (λ ws. ws ≡ []) r rule.MORE_TYPES _ _ h refl

-- ---- constants

pub no_more_consts : (r : Option ℕ) (s : List Part) → (r ≡ Some rule.MORE_CONSTS → ⊥) → (made_by r s).more_consts ≡ []
no_more_consts r s h = by_another (λ ws. ws ≡ []) r rule.MORE_CONSTS _ _ h refl

undef_fits : (t : Ty) → const_faults const.Undef t ≡ []
undef_fits t = ap (λ (f : Ty → List Fault). f t) (constants.at_undef (Ty → List Fault) const_faults_at_level)

pub no_const :
    (r : Option ℕ) (s : List Part) → (r ≡ Some rule.INT_CONST → ⊥) → (r ≡ Some rule.ELEMENT_CONST → ⊥) → (r ≡ Some rule.CAST_CONST → ⊥)
    → (t : Ty) → const_faults (made_by r s).constant t ≡ []
no_const r s h k l t =
    let P : ConstText → Type 0 = λ w. const_faults w t ≡ [] in
    by_another P r rule.INT_CONST _ _ h
    (either P r rule.NULL_CONST _ _ (ap (λ (f : Ty → List Fault). f t) (constants.at_null (Ty → List Fault) const_faults_at_level _))
    (either P r rule.UNDEF_CONST _ _ (undef_fits t)
    (either P r rule.GLOBAL_CONST _ _ (ap (λ (f : Ty → List Fault). f t) (constants.at_global (Ty → List Fault) const_faults_at_level _))
    (by_another P r rule.ELEMENT_CONST _ _ k (by_another P r rule.CAST_CONST _ _ l (undef_fits t))))))

pub no_value : (r : Option ℕ) (s : List Part) → (r ≡ Some rule.CONST_VALUE → ⊥) → (t : Ty) → value_faults t (made_by r s).value ≡ []
no_value r s h t =
    let P : ValueText → Type 0 = λ w. value_faults t w ≡ [] in
    by_another P r rule.CONST_VALUE _ _ h
    (either P r rule.LOCAL _ _ refl
    (either P r rule.OLD_REGISTER _ _ refl
    (either P r rule.GHOST_REGISTER _ _ refl (undef_fits t))))

-- ---- operations and expressions

pub no_indices : (r : Option ℕ) (s : List Part) → (r ≡ Some rule.INDICES → ⊥) → (made_by r s).indices ≡ []
no_indices r s h = by_another (λ ws. ws ≡ []) r rule.INDICES _ _ h refl

operand_fits : operand_faults no_operand ≡ []
operand_fits =
    ap (λ fs. fs ++ const_faults const.Undef (type_of no_type)) (types.at_int (List Fault) count_faults_at_level _) ∙ undef_fits (type_of no_type)

operation_fits : operation_faults no_operation ≡ []
operation_fits = ap (λ fs. fs ++ const_faults const.Undef (type_of no_type)) operand_fits ∙ undef_fits (type_of no_type)

pub another_operation :
    (r : Option ℕ) (s : List Part) → (r ≡ Some rule.BINARY → ⊥) → (r ≡ Some rule.COMPARE → ⊥) → (r ≡ Some rule.RESIZE → ⊥)
    → (r ≡ Some rule.BITCAST → ⊥) → (r ≡ Some rule.SELECT → ⊥) → operation_faults (made_by r s).operation ≡ []
another_operation r s h k l m n =
    let P : OperationText → Type 0 = λ w. operation_faults w ≡ [] in
    by_another P r rule.BINARY _ _ h
    (by_another P r rule.COMPARE _ _ k
    (by_another P r rule.RESIZE _ _ l
    (by_another P r rule.BITCAST _ _ m
    (by_another P r rule.SELECT _ _ n operation_fits))))

pub no_align : (r : Option ℕ) (s : List Part) → (r ≡ Some rule.ALIGN → ⊥) → (made_by r s).align ≡ None
no_align r s h = by_another (λ w. w ≡ None) r rule.ALIGN _ _ h refl

pub no_expression :
    (r : Option ℕ) (s : List Part) → (r ≡ Some rule.EXPRESSION_OPERAND → ⊥) → (r ≡ Some rule.EXPRESSION_OPERATION → ⊥)
    → (r ≡ Some rule.EXPRESSION_ELEMENT → ⊥) → (r ≡ Some rule.EXPRESSION_LOAD → ⊥) → range_faults (made_by r s).expr ≡ []
no_expression r s h k l m =
    let P : ExprText → Type 0 = λ w. range_faults w ≡ [] in
    by_another P r rule.EXPRESSION_OPERAND _ _ h
    (by_another P r rule.EXPRESSION_OPERATION _ _ k
    (by_another P r rule.EXPRESSION_ELEMENT _ _ l
    (by_another P r rule.EXPRESSION_LOAD _ _ m operand_fits)))
