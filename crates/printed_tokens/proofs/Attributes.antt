-- Printed attributes are the symbols of those that say it: before a type, and behind one.
use Rattle.std.proofs.Common.{◌≡◌, Bool, true, false, ℕ, List, [], ◌∷◌, ◌++◌, refl}
use Rattle.std.specs.List.{flat_map}
use Rattle.ir_core.specs.declared.functions.Extensions.{Extensions}
use Rattle.ir_core.specs.Words as words
use Rattle.module_grammar.specs.declared.attributes.ParamAttributeText.{ParamAttributeText}
use Rattle.module_grammar.specs.declared.attributes.ParamAttributeText.TheVariants as attribute
use Rattle.module_grammar.specs.declared.operators.ExtensionWord.{ExtensionWord}
use Rattle.module_grammar.specs.declared.operators.ExtensionWord.TheVariants.{Signed, Zero}
use Rattle.module_grammar.specs.declared.words.Language.{Language}
use Rattle.module_grammar.specs.Attributes.{param_attribute}
use Rattle.module_grammar.specs.Symbols.{Symbol, Extension}
use Rattle.named_modules.specs.Values.{extensions_of}
use Rattle.ir_printer.specs.Printed.{behind_space, extended_text, extensions_text}
use Rattle.printed_tokens.proofs.Marks as marks
use Rattle.printed_tokens.proofs.Prints.{IsFixed, Prints, before, both, empty, read_as}
use Rattle.printed_tokens.proofs.ReadTexts.{Any, Stops}
use Rattle.printed_tokens.proofs.WordSymbols.{at_any, extension_is, extension_said, extension_text}
use Rattle.ir_printer.specs.ExpressionPrinter.Printed.{printed_flag}

-- the attributes that say it
abbrev pub set_words : Bool → ExtensionWord → List ParamAttributeText
set_words true e = attribute.Extension e ∷ []
set_words false e = []

abbrev pub words_of : Extensions → List ParamAttributeText
words_of e = set_words e.signed Signed ++ set_words e.zero Zero

abbrev written_word : Bool → ExtensionWord → List Symbol
written_word set e = flat_map param_attribute (set_words set e)

words_written : (signed zero : Bool) → written_word signed Signed ++ written_word zero Zero ≡ flat_map param_attribute (set_words signed Signed ++ set_words zero Zero)
words_written true true = refl
words_written true false = refl
words_written false true = refl
words_written false false = refl

words_named : (signed zero : Bool) → extensions_of (set_words signed Signed ++ set_words zero Zero) ≡ record { signed = signed; zero = zero }
words_named true true = refl
words_named true false = refl
words_named false true = refl
words_named false false = refl

-- words behind spaces, or nothing, don't go on as a word or a number does
pub extended_stops : (e : Extensions) (rest : List ℕ) → Stops rest → Stops (extended_text e ++ rest)
extended_stops e rest stop = by_flags e.signed e.zero
  where
    by_flags : (signed zero : Bool) → Stops ((behind_space signed words.signext_word ++ behind_space zero words.zeroext_word) ++ rest)
    by_flags true zero = refl
    by_flags false true = refl
    by_flags false false = stop

module _ (language : Language) where
  extension_alone : (e : ExtensionWord) → IsFixed language Stops (extension_text e) (Extension e ∷ [])
  extension_alone e = marks.word language (extension_text e) (Extension e) (extension_is e) (at_any language (extension_text e) _ (extension_said language e))

  extension : (e : ExtensionWord) → IsFixed language Any (extension_text e ++ 32 ∷ []) (Extension e ∷ [])
  extension e = marks.word_and_space language (extension_text e) (Extension e) (extension_is e) (at_any language (extension_text e) _ (extension_said language e))

  front : (set : Bool) (e : ExtensionWord) → IsFixed language Any (printed_flag set (extension_text e)) (written_word set e)
  front true e = extension e
  front false e = empty language Any

  back : (set : Bool) (e : ExtensionWord) → IsFixed language Stops (behind_space set (extension_text e)) (written_word set e)
  back true e = before language (marks.space language) (extension_alone e)
  back false e = empty language Stops

  back_stops : (set : Bool) (e : ExtensionWord) (rest : List ℕ) → Stops rest → Stops (behind_space set (extension_text e) ++ rest)
  back_stops true e rest stop = refl
  back_stops false e rest stop = stop

  -- `signext zeroext `, before a type
  pub extensions : (e : Extensions) → Prints language Any (flat_map param_attribute) (λ (ws : List ParamAttributeText). extensions_of ws ≡ e) (extensions_text e)
  extensions e =
      read_as language (flat_map param_attribute) (λ (ws : List ParamAttributeText). extensions_of ws ≡ e) (λ t. words_of e) (λ t named. words_written e.signed e.zero) (λ t named. words_named e.signed e.zero)
      (both language (front e.signed Signed) (front e.zero Zero) (λ rest end. tt))

  -- ` signext zeroext`, behind a type
  pub extended : (e : Extensions) → Prints language Stops (flat_map param_attribute) (λ (ws : List ParamAttributeText). extensions_of ws ≡ e) (extended_text e)
  extended e =
      read_as language (flat_map param_attribute) (λ (ws : List ParamAttributeText). extensions_of ws ≡ e) (λ t. words_of e) (λ t named. words_written e.signed e.zero) (λ t named. words_named e.signed e.zero)
      (both language (back e.signed Signed) (back e.zero Zero) (back_stops e.zero Zero))
