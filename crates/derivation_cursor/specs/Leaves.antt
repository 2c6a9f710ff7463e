-- What a token says that is a word.
use Rattle.std.specs.Prelude.{◌≡◌, ℕ, List}
use Rattle.ir_lexer.specs.declared.token.Kind.{Kind}
use Rattle.ir_lexer.specs.declared.token.Kind.TheVariants as kind
use Rattle.module_derivations.specs.Said.{width_of, truth_of, overflow_of, exact_of, plain_of, resize_of, pred_of, flag_of, linkage_of, extension_of, holding_of}
use Rattle.module_grammar.specs.Symbols.{Symbol}
use Rattle.module_grammar.specs.Words.{word_of}
use Rattle.module_grammar.specs.declared.words.Language.{Language}
use Rattle.module_grammar.specs.declared.words.Word.{Word}
use Rattle.module_grammar.specs.declared.words.Word.TheVariants.{Foreign}

-- the word that a token of this kind is, which is no word of the grammar where the kind is another
abbrev pub word_in : Language → Kind → List ℕ → Word
word_in language kind.Word bytes = word_of language bytes
word_in language _ bytes = Foreign

-- as each kind of word, one symbol says what the other does
pub record IsAsWord (s word : Symbol) : Type 0 where
  pub width : width_of s ≡ width_of word
  pub truth : truth_of s ≡ truth_of word
  pub overflow : overflow_of s ≡ overflow_of word
  pub exact : exact_of s ≡ exact_of word
  pub plain : plain_of s ≡ plain_of word
  pub resize : resize_of s ≡ resize_of word
  pub pred : pred_of s ≡ pred_of word
  pub flag : flag_of s ≡ flag_of word
  pub linkage : linkage_of s ≡ linkage_of word
  pub extension : extension_of s ≡ extension_of word
  pub holding : holding_of s ≡ holding_of word
