-- What another rule makes than those that are read, where an operation stands.
use Rattle.std.proofs.Common.{◌≡◌, ◌∙◌, ◌||◌, ℕ, Bool, false, List, [], ◌∷◌, Option, Some, refl, ap, sym}
use Rattle.std.specs.List.{list_any}
use Rattle.ir_core.specs.declared.operands.Flags.{Flags}
use Rattle.module_derivations.specs.Ahead.{made_by}
use Rattle.module_derivations.specs.Empty.{no_operation, no_operator}
use Rattle.module_derivations.specs.Parts.{Part}
use Rattle.module_derivations.specs.declared.rule.TheConstants as rule
use Rattle.module_grammar.specs.declared.lines.OperationText.{OperationText}
use Rattle.module_grammar.specs.declared.lines.OperatorText.{OperatorText}
use Rattle.module_grammar.specs.declared.operators.FlagWord.{FlagWord}
use Rattle.module_walk.proofs.Or.{or_more, or_none}
use Rattle.module_walk.proofs.Rules.{by_another}
use Rattle.module_walk.specs.Operations.{flags_among, flags_from, no_flags, with_flag}
use Rattle.named_modules.specs.Lines.{is_nsw, is_nuw}

pub no_words : (r : Option ℕ) (s : List Part) → (r ≡ Some rule.FLAGS → ⊥) → (made_by r s).flags ≡ []
no_words r s h = by_another (λ ws. ws ≡ []) r rule.FLAGS _ _ h refl

pub another_operator :
    (r : Option ℕ) (s : List Part) → (r ≡ Some rule.OVERFLOW → ⊥) → (r ≡ Some rule.EXACT → ⊥) → (r ≡ Some rule.PLAIN → ⊥)
    → (made_by r s).operator ≡ no_operator
another_operator r s h k l =
    let P : OperatorText → Type 0 = λ w. w ≡ no_operator in
    by_another P r rule.OVERFLOW _ _ h (by_another P r rule.EXACT _ _ k (by_another P r rule.PLAIN _ _ l refl))

pub another_operation :
    (r : Option ℕ) (s : List Part) → (r ≡ Some rule.BINARY → ⊥) → (r ≡ Some rule.COMPARE → ⊥)
    → (r ≡ Some rule.RESIZE → ⊥) → (r ≡ Some rule.BITCAST → ⊥) → (r ≡ Some rule.SELECT → ⊥)
    → (made_by r s).operation ≡ no_operation
another_operation r s h k l m n =
    let P : OperationText → Type 0 = λ w. w ≡ no_operation in
    by_another P r rule.BINARY _ _ h
    (by_another P r rule.COMPARE _ _ k
    (by_another P r rule.RESIZE _ _ l
    (by_another P r rule.BITCAST _ _ m
    (by_another P r rule.SELECT _ _ n refl))))

-- ---- flags that are found one by one

flags : Bool → Bool → Bool → Flags
flags nuw nsw exact = record { nuw = nuw; nsw = nsw; exact = exact }

from : (f : Flags) (ws : List FlagWord) → flags_from f ws ≡ flags (f.nuw || list_any is_nuw ws) (f.nsw || list_any is_nsw ws) f.exact
unfolding flags
from f [] = ap (λ b. flags b f.nsw f.exact) (sym (or_none f.nuw)) ∙ ap (λ b. flags (f.nuw || false) b f.exact) (sym (or_none f.nsw))
from f (w ∷ ws) =
    from (with_flag f w) ws
    ∙ ap (λ b. flags b ((f.nsw || is_nsw w) || list_any is_nsw ws) f.exact) (or_more f.nuw (is_nuw w) (list_any is_nuw ws))
    ∙ ap (λ b. flags (f.nuw || (is_nuw w || list_any is_nuw ws)) b f.exact) (or_more f.nsw (is_nsw w) (list_any is_nsw ws))

pub flags_are : (ws : List FlagWord) → flags_from no_flags ws ≡ flags_among ws
unfolding flags
flags_are ws = from no_flags ws
