-- The examples of words and symbols, computed.
use Rattle.std.proofs.Common.{refl}
use Rattle.module_grammar.specs.Spelled.{mark_symbol}
use Rattle.module_grammar.specs.WordExamples.{SymbolsAreSaid, WordsAreSaid, WordsStandOnce}
use Rattle.module_grammar.specs.Words.{word_said}

pub words_are_said : WordsAreSaid
unfolding word_said
words_are_said = record {
  width = refl;
  wide = refl;
  zero = refl;
  padded = refl;
  operator = refl;
  predicate = refl;
  alone = refl;
  truth = refl;
  linkage = refl;
  holding = refl;
  conversion = refl;
  property = refl;
  of_both = refl;
  of_functions = refl;
  other = refl;
  untagged = refl;
  old_word = refl;
  ghost_word = refl;
  both = refl;
}

pub symbols_are_said : SymbolsAreSaid
unfolding word_said mark_symbol
symbols_are_said = record {
  global = refl;
  debug = refl;
  bytes = refl;
  text = refl;
  group_of = refl;
  run = refl;
  null = refl;
  end = refl;
  bracket = refl;
  angle = refl;
}

pub words_stand_once : WordsStandOnce
words_stand_once = refl
