-- Examples of what words are, and of what symbols tokens are.
use Rattle.std.specs.Prelude.{◌≡◌, ℕ, Bool, true, not, ◌&&◌, List, [], ◌∷◌, ◌++◌, codes}
use Rattle.std.specs.List.{list_any}
use Rattle.std.specs.Str.{bytes_eq}
use Rattle.ir_types.specs.declared.names.Name.TheVariants as name
use Rattle.ir_core.specs.declared.operands.Pred.TheVariants.{Ult}
use Rattle.ir_lexer.specs.declared.token.TokenKind.TheVariants as kind
use Rattle.module_grammar.specs.declared.items.HoldingWord.TheVariants.{Constant}
use Rattle.module_grammar.specs.declared.operators.LinkageWord.TheVariants.{AvailableExternally}
use Rattle.module_grammar.specs.declared.operators.OverflowOp.TheVariants.{Mul}
use Rattle.module_grammar.specs.declared.words.KeyWord.TheVariants as key
use Rattle.module_grammar.specs.declared.words.Language.TheVariants.{Ir, Logic}
use Rattle.module_grammar.specs.declared.words.Word.TheVariants as word
use Rattle.module_grammar.specs.Spelled.{at, symbol_at}
use Rattle.module_grammar.specs.Symbols.{Global, Debug, Bytes, Bracket, Null, foreign, group, metadata, string, unreachable}
use Rattle.module_grammar.specs.Words.{Entry, logic_words, word_of, words}

pub record WordsAreSaid : Type 0 where
  pub width : word_of Ir (codes "i64") ≡ word.Width 64
  pub wide : word_of Ir (codes "i65") ≡ word.Foreign
  pub zero : word_of Ir (codes "i0") ≡ word.Foreign
  pub padded : word_of Ir (codes "i08") ≡ word.Foreign
  pub operator : word_of Ir (codes "mul") ≡ word.Overflow Mul
  pub predicate : word_of Ir (codes "ult") ≡ word.Pred Ult
  pub alone : word_of Ir (codes "exact") ≡ word.Key key.Exact
  pub truth : word_of Ir (codes "true") ≡ word.Truth true
  pub linkage : word_of Ir (codes "available_externally") ≡ word.Linkage AvailableExternally
  pub holding : word_of Ir (codes "constant") ≡ word.Holding Constant
  pub conversion : word_of Ir (codes "bitcast") ≡ word.BitCast
  pub property : word_of Ir (codes "triple") ≡ word.Key key.Property
  pub of_both : word_of Ir (codes "readnone") ≡ word.Key key.AccessWord
  pub of_functions : word_of Ir (codes "uwtable") ≡ word.Key key.FunctionWord
  pub other : word_of Ir (codes "fence") ≡ word.Foreign
  pub untagged : word_of Ir (codes "old") ≡ word.Foreign
  pub old_word : word_of Logic (codes "old") ≡ word.Key key.Old
  pub ghost_word : word_of Logic (codes "ghost") ≡ word.Key key.Ghost
  pub both : word_of Logic (codes "mul") ≡ word.Overflow Mul

-- none of the entries is of the word of an earlier one
abbrev pub all_once : List Entry → Bool
all_once [] = true
all_once (e ∷ es) = not (list_any (λ (f : Entry). bytes_eq e.0 f.0) es) && all_once es

-- so the order of the words doesn't matter
abbrev pub WordsStandOnce : Type 0
WordsStandOnce = all_once (words ++ logic_words) ≡ true

-- `c"x"` and `c "x"`
abbrev pub touching : List ℕ
touching = 99 ∷ 34 ∷ 120 ∷ 34 ∷ []

abbrev pub apart : List ℕ
apart = 99 ∷ 32 ∷ 34 ∷ 120 ∷ 34 ∷ []

pub record SymbolsAreSaid : Type 0 where
  pub global : symbol_at Ir [] (kind.Global (name.Text (codes "llvm.dbg"))) 0 9 ≡ Global (at (name.Text (codes "llvm.dbg")) 0 9)
  pub debug : symbol_at Ir [] (kind.Global (name.Text (codes "llvm.dbg.x"))) 0 11 ≡ Debug (at (name.Text (codes "llvm.dbg.x")) 0 11)
  pub bytes : symbol_at Ir touching (kind.Text (codes "x")) 1 4 ≡ Bytes (at (codes "x") 1 4)
  pub text : symbol_at Ir apart (kind.Text (codes "x")) 2 5 ≡ string
  pub group_of : symbol_at Ir [] (kind.Attribute (codes "7")) 0 2 ≡ group
  pub run : symbol_at Ir [] (kind.Metadata (codes "dbg")) 0 4 ≡ metadata
  pub null : symbol_at Ir [] (kind.Word (codes "null")) 7 11 ≡ Null 7
  pub end : symbol_at Ir [] (kind.Word (codes "unreachable")) 0 11 ≡ unreachable
  pub bracket : symbol_at Ir [] (kind.Mark 91) 7 8 ≡ Bracket 7
  pub angle : symbol_at Ir [] (kind.Mark 60) 7 8 ≡ foreign
