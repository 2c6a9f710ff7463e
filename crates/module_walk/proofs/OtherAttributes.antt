-- What another rule makes than those that are read, where an attribute stands.
use Rattle.std.proofs.Common.{◌≡◌, ◌∙◌, ◌||◌, ℕ, Bool, false, List, [], ◌∷◌, Option, Some, refl, ap, sym}
use Rattle.std.specs.List.{list_any}
use Rattle.ir_core.specs.declared.functions.Extensions.{Extensions}
use Rattle.ir_core.specs.Modules.{not_extended}
use Rattle.module_derivations.specs.Ahead.{made_by}
use Rattle.module_derivations.specs.Parts.{Part}
use Rattle.module_derivations.specs.declared.rule.TheConstants as rule
use Rattle.module_grammar.specs.declared.attributes.ParamAttributeText.{ParamAttributeText}
use Rattle.module_grammar.specs.declared.attributes.ParamAttributeText.TheVariants as attribute
use Rattle.module_grammar.specs.declared.operators.ExtensionWord.{ExtensionWord}
use Rattle.module_grammar.specs.declared.operators.ExtensionWord.TheVariants.{Signed, Zero}
use Rattle.module_walk.proofs.Or.{or_more, or_none}
use Rattle.module_walk.proofs.Rules.{by_another, either}
use Rattle.module_walk.specs.Attributes.{either_extension, extension_by, extensions_from, extensions_in}
use Rattle.named_modules.specs.Extended.{with_attributes}
use Rattle.named_modules.specs.Values.{extensions_of, is_signed, is_zeroed}

pub extended : (w : ExtensionWord) → extension_by w ≡ extensions_in (attribute.Extension w)
extended Signed = refl
extended Zero = refl

is_none : ParamAttributeText → Type 0
is_none a = not_extended ≡ extensions_in a

pub no_extension : (r : Option ℕ) (s : List Part) → (r ≡ Some rule.EXTENSION → ⊥) → not_extended ≡ extensions_in (made_by r s).param_attribute
unfolding is_none
no_extension r s h =
    by_another is_none r rule.EXTENSION _ _ h
    (either is_none r rule.PARAM_WORD _ _ refl
    (either is_none r rule.PARAM_ACCESS _ _ refl
    (either is_none r rule.SIZED _ _ refl
    (either is_none r rule.PARAM_ALIGN _ _ refl
    refl))))

pub no_attributes : (r : Option ℕ) (s : List Part) → (r ≡ Some rule.PARAM_ATTRIBUTES → ⊥) → (made_by r s).param_attributes ≡ []
no_attributes r s h = by_another (λ ws. ws ≡ []) r rule.PARAM_ATTRIBUTES _ _ h refl

-- ---- those that are found

both : Bool → Bool → Extensions
both signed zero = record { signed = signed; zero = zero }

from : (found : Extensions) (ws : List ParamAttributeText) → extensions_from found ws ≡ with_attributes found ws
unfolding both
from found [] = ap (λ b. both b found.zero) (sym (or_none found.signed)) ∙ ap (both (found.signed || false)) (sym (or_none found.zero))
from found (a ∷ ws) =
    from (either_extension found (extensions_in a)) ws
    ∙ ap (λ b. both b ((found.zero || is_zeroed a) || list_any is_zeroed ws)) (or_more found.signed (is_signed a) (list_any is_signed ws))
    ∙ ap (both (found.signed || (is_signed a || list_any is_signed ws))) (or_more found.zero (is_zeroed a) (list_any is_zeroed ws))

pub found_among : (ws : List ParamAttributeText) → extensions_from not_extended ws ≡ extensions_of ws
found_among ws = from not_extended ws

pub found_behind : (a : ParamAttributeText) (ws : List ParamAttributeText) → extensions_from (extensions_in a) ws ≡ extensions_of (a ∷ ws)
found_behind a ws = from (extensions_in a) ws
