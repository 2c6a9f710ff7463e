-- Initialisers are calm rows of tokens; types and attributes begin with no parenthesis.
use Rattle.std.proofs.Common.{◌≡◌, true, false, List, [], ◌∷◌, ◌++◌, ap, refl}
use Rattle.std.specs.Prelude.{nat_eq}
use Rattle.std.specs.List.{AllByRecursion, flat_map}
use Rattle.module_grammar.specs.declared.attributes.ParamAttributeText.{ParamAttributeText}
use Rattle.module_grammar.specs.declared.attributes.ParamAttributeText.TheVariants as attribute
use Rattle.module_grammar.specs.declared.constants.InitText.{InitText}
use Rattle.module_grammar.specs.declared.types.TypeText.{TypeText}
use Rattle.module_grammar.specs.Attributes.{param_attribute}
use Rattle.module_grammar.specs.Constants as constants
use Rattle.module_grammar.specs.Symbols.{Extension, Symbol, access_word, align as align_word, kind_of, open_paren, param_word, sized_word}
use Rattle.module_grammar.specs.Types as types
use Rattle.printed_modules.proofs.Laid.{AreCalm, IsShut, row_calm}
use Rattle.printed_tokens.proofs.Calm as tokens

pub calm_init : (w : InitText) → AreCalm (constants.init w)
calm_init w = row_calm (constants.init w) (tokens.calm_init w)

-- ---- rows that begin with no parenthesis

pub no_paren : (s : Symbol) → nat_eq (kind_of s) (kind_of open_paren) ≡ false → s ≡ open_paren → ⊥
no_paren s other is = let same : nat_eq (kind_of s) (kind_of open_paren) ≡ true = ap (λ x. nat_eq (kind_of x) (kind_of open_paren)) is in cc

shut_row : (ss : List Symbol) → AllByRecursion tokens.IsOfTypes ss → IsShut ss
shut_row [] all = tt
shut_row (s ∷ ss) all = no_paren s all.0.1

pub shut_type : (w : TypeText) → IsShut (types.ty w)
shut_type w = shut_row (types.ty w) (tokens.of_types w)

shut_attribute : (w : ParamAttributeText) (more : List Symbol) → IsShut (param_attribute w ++ more)
shut_attribute (attribute.Extension word) more = no_paren (Extension word) refl
shut_attribute attribute.Word more = no_paren param_word refl
shut_attribute attribute.Access more = no_paren access_word refl
shut_attribute (attribute.Sized n) more = no_paren sized_word refl
shut_attribute (attribute.Align n) more = no_paren align_word refl

pub shut_attributes : (ws : List ParamAttributeText) → IsShut (flat_map param_attribute ws)
shut_attributes [] = tt
shut_attributes (w ∷ ws) = shut_attribute w (flat_map param_attribute ws)
