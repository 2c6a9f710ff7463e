-- What a reader of tokens of the whole grammar answers.
use Rattle.std.specs.Prelude.{◌≡◌, ℕ, List, [], ◌∷◌, map, Result, Ok, Err}
use Rattle.module_derivations.specs.FlatMarks.Flat.{mark_of}
use Rattle.module_derivations.specs.Ahead.{ahead, seen}
use Rattle.module_grammar.specs.Sorts.{Sort, Holds}
use Rattle.module_grammar.specs.Symbols.{Symbol, kind_of}
use Rattle.module_grammar.specs.Texts.{IsWritten}
use Rattle.module_grammar.specs.Tokens.{token_grammar}
use Rattle.module_spelling.specs.Context.{AreKinds, all_seen}
use Rattle.module_spelling.specs.Faults.{IsStuck, PassesLimit}
use Rattle.module_spelling.specs.Opened.{IsWithin}
use Rattle.derivation_writer.specs.declared.read_marks.unread.Unread.{Unread}
use Rattle.derivation_writer.specs.declared.read_marks.unread.Unread.TheVariants as unread
use Rattle.predictive.specs.Grammar.{Forest, Forms, yield}
use Rattle.predictive.specs.declared.symbol.Symbol.TheVariants.{Non}

-- the symbols are written of a thing of this sort, which is of this number in the grammar, and no token passes a limit
pub record IsReadAs (s : Sort) (n : ℕ) (symbols : List Symbol) (tree : Holds s) : Type 0 where
  pub written : IsWritten s tree symbols
  pub derivation : Forest
  pub formed : Forms token_grammar derivation (Non n ∷ [])
  pub yields : yield derivation ≡ map kind_of symbols
  pub within : IsWithin derivation

-- The tree that is written in the symbols, within the limits; or the first token that isn't expected, before which no limit is passed; or the
-- limit that a token passes before anything isn't expected.
abbrev pub IsReading : (s : Sort) → ℕ → List Symbol → Result (Holds s) Unread → Type 0
IsReading s n symbols (Ok tree) = IsReadAs s n symbols tree
IsReading s n symbols (Err (unread.Stuck k)) = IsStuck n (map kind_of symbols) k
IsReading s n symbols (Err (unread.Limit l)) = (k : ℕ) × PassesLimit n (map kind_of symbols) k l

-- what stands in front of the marks, in a text whose tokens are these by themselves
abbrev pub read_off : (s : Sort) → List Symbol → Result (List ℕ) Unread → Result (Holds s) Unread
read_off s own (Ok numbers) = Ok (seen s (ahead own (map mark_of numbers)))
read_off s own (Err u) = Err u

-- The marks of the derivation of tokens of these kinds, or why they have none: of whichever symbols these are the kinds, what stands in front of
-- the marks is the tree that is written in them.
abbrev pub IsMarked : Sort → ℕ → List ℕ → Result (List ℕ) Unread → Type 0
IsMarked s n kinds read = (own : List Symbol) → AreKinds own kinds → IsReading s n (all_seen own kinds) (read_off s own read)
