-- What another rule makes than those that are read, where an expression stands.
use Rattle.std.proofs.Common.{◌≡◌, ℕ, List, [], Option, Some, refl}
use Rattle.module_derivations.specs.Ahead.{made_by}
use Rattle.module_derivations.specs.Empty.{no_operand}
use Rattle.module_derivations.specs.Parts.{Part}
use Rattle.module_derivations.specs.declared.rule.TheConstants as rule
use Rattle.module_grammar.specs.declared.lines.ExprText.{ExprText}
use Rattle.module_grammar.specs.declared.lines.ExprText.TheVariants as expression
use Rattle.module_walk.proofs.Rules.{by_another}

pub no_indices : (r : Option ℕ) (s : List Part) → (r ≡ Some rule.INDICES → ⊥) → (made_by r s).indices ≡ []
no_indices r s h = by_another (λ ws. ws ≡ []) r rule.INDICES _ _ h refl

pub another_expr :
    (r : Option ℕ) (s : List Part) → (r ≡ Some rule.EXPRESSION_OPERAND → ⊥) → (r ≡ Some rule.EXPRESSION_OPERATION → ⊥)
    → (r ≡ Some rule.EXPRESSION_ELEMENT → ⊥) → (r ≡ Some rule.EXPRESSION_LOAD → ⊥) → (made_by r s).expr ≡ expression.Plain no_operand
another_expr r s h k l m =
    let P : ExprText → Type 0 = λ w. w ≡ expression.Plain no_operand in
    by_another P r rule.EXPRESSION_OPERAND _ _ h
    (by_another P r rule.EXPRESSION_OPERATION _ _ k
    (by_another P r rule.EXPRESSION_ELEMENT _ _ l
    (by_another P r rule.EXPRESSION_LOAD _ _ m refl)))
