-- What another rule makes than those that are read, where a line stands.
use Rattle.std.proofs.Common.{◌≡◌, ℕ, List, [], Option, Some, refl}
use Rattle.module_derivations.specs.Ahead.{made_by}
use Rattle.module_derivations.specs.Empty.{no_operation}
use Rattle.module_derivations.specs.Parts.{Part}
use Rattle.module_derivations.specs.declared.rule.TheConstants as rule
use Rattle.module_grammar.specs.declared.lines.AttachedText.{AttachedText}
use Rattle.module_grammar.specs.declared.lines.InstructionText.TheVariants as instruction
use Rattle.module_walk.proofs.Rules.{by_another}

pub another_attach :
    (r : Option ℕ) (s : List Part) → (r ≡ Some rule.OPERATION → ⊥) → (r ≡ Some rule.ELEMENT → ⊥) → (r ≡ Some rule.ALLOCA → ⊥)
    → (r ≡ Some rule.LOAD → ⊥) → (r ≡ Some rule.STORE → ⊥) → (r ≡ Some rule.TAIL_CALL → ⊥) → (r ≡ Some rule.CALL → ⊥)
    → (made_by r s).attach.instruction ≡ instruction.Operation no_operation
another_attach r s h k l m n o p =
    let P : AttachedText → Type 0 = λ w. w.instruction ≡ instruction.Operation no_operation in
    by_another P r rule.OPERATION _ _ h
    (by_another P r rule.ELEMENT _ _ k
    (by_another P r rule.ALLOCA _ _ l
    (by_another P r rule.LOAD _ _ m
    (by_another P r rule.STORE _ _ n
    (by_another P r rule.TAIL_CALL _ _ o
    (by_another P r rule.CALL _ _ p refl))))))

pub no_lines : (r : Option ℕ) (s : List Part) → (r ≡ Some rule.LINES → ⊥) → (made_by r s).lines ≡ []
no_lines r s h = by_another (λ ws. ws ≡ []) r rule.LINES _ _ h refl
