-- What another rule makes than those that are read, where a call stands.
use Rattle.std.proofs.Common.{◌≡◌, ℕ, List, [], Option, Some, None, refl}
use Rattle.module_derivations.specs.Ahead.{made_by}
use Rattle.module_derivations.specs.Parts.{Part}
use Rattle.module_derivations.specs.declared.rule.TheConstants as rule
use Rattle.module_grammar.specs.declared.lines.CallBodyText.{CallBodyText}
use Rattle.module_grammar.specs.declared.lines.VoidCallText.{VoidCallText}
use Rattle.module_grammar.specs.declared.lines.VoidCalleeText.{VoidCalleeText}
use Rattle.module_walk.proofs.Rules.{by_another, either}
use Rattle.module_walk.specs.Lines.{kept_call, kept_of_void}

pub no_more_arguments : (r : Option ℕ) (s : List Part) → (r ≡ Some rule.MORE_ARGUMENTS → ⊥) → (made_by r s).more_arguments ≡ []
no_more_arguments r s h = by_another (λ ws. ws ≡ []) r rule.MORE_ARGUMENTS _ _ h refl

pub no_arguments : (r : Option ℕ) (s : List Part) → (r ≡ Some rule.ARGUMENTS → ⊥) → (made_by r s).arguments ≡ []
no_arguments r s h = by_another (λ ws. ws ≡ []) r rule.ARGUMENTS _ _ h refl

pub no_void_call : (r : Option ℕ) (s : List Part) → (r ≡ Some rule.PLAIN_CALL → ⊥) → kept_of_void (made_by r s).void_call ≡ None
no_void_call r s h =
    let P : VoidCallText → Type 0 = λ w. kept_of_void w ≡ None in
    by_another P r rule.PLAIN_CALL _ _ h (either P r rule.DEBUG_CALL _ _ refl refl)

pub no_void_callee :
    (r : Option ℕ) (s : List Part) → (r ≡ Some rule.VOID_CALLEE → ⊥) → (r ≡ Some rule.STATED_CALLEE → ⊥)
    → kept_of_void (made_by r s).void_callee.call ≡ None
no_void_callee r s h k =
    let P : VoidCalleeText → Type 0 = λ w. kept_of_void w.call ≡ None in
    by_another P r rule.VOID_CALLEE _ _ h (by_another P r rule.STATED_CALLEE _ _ k refl)

pub no_call :
    (r : Option ℕ) (s : List Part) → (r ≡ Some rule.CONVENTION_CALL → ⊥) → (r ≡ Some rule.ATTRIBUTES_CALL → ⊥)
    → (r ≡ Some rule.TYPED_CALL → ⊥) → (r ≡ Some rule.CALL_OF_VOID → ⊥) → kept_call (made_by r s).call_body ≡ None
no_call r s h k l m =
    let P : CallBodyText → Type 0 = λ w. kept_call w ≡ None in
    by_another P r rule.CONVENTION_CALL _ _ h
    (by_another P r rule.ATTRIBUTES_CALL _ _ k
    (by_another P r rule.TYPED_CALL _ _ l
    (by_another P r rule.CALL_OF_VOID _ _ m refl)))
