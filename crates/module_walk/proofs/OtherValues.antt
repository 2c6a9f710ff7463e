-- What another rule makes, or none, where a value stands.
use Rattle.std.proofs.Common.{◌≡◌, ◌∙◌, ℕ, List, Option, Some, None}
use Rattle.module_derivations.specs.Ahead.{made_by}
use Rattle.module_derivations.specs.Parts.{Part, if_rule}
use Rattle.module_derivations.specs.Empty.{no_value}
use Rattle.module_derivations.specs.declared.rule.TheConstants as rule
use Rattle.module_walk.proofs.Rules.{another}

pub another_value :
    (r : Option ℕ) (s : List Part) → (r ≡ Some rule.CONST_VALUE → ⊥) → (r ≡ Some rule.LOCAL → ⊥) → (r ≡ Some rule.OLD_REGISTER → ⊥)
    → (r ≡ Some rule.GHOST_REGISTER → ⊥) → (made_by r s).value ≡ no_value
another_value r s h k l m =
    another r rule.CONST_VALUE _ _ h ∙ another r rule.LOCAL _ _ k ∙ another r rule.OLD_REGISTER _ _ l
    ∙ another r rule.GHOST_REGISTER _ _ m
