-- Where a walk stands in a derivation, and how it goes on.
use Rattle.std.specs.Prelude.{◌≡◌, ◌≤◌, ◌<◌, ℕ, List, [], ◌∷◌, length, map, Option, Some, None}
use Rattle.derivation_cursor.specs.declared.cursor.Cursor.{Cursor}
use Rattle.ir_lexer.specs.declared.token.Token.{Token}
use Rattle.module_derivations.specs.FlatMarks.Flat.{Mark, behind, mark_of, skip}
use Rattle.module_derivations.specs.Ahead.{ahead, arity, made_by}
use Rattle.module_derivations.specs.Empty.{made, said}
use Rattle.module_derivations.specs.Parts.{Part}
use Rattle.module_grammar.specs.Spelled.{symbol_in}
use Rattle.module_grammar.specs.Symbols.{Symbol, foreign}

abbrev pub symbols_of : Cursor → List Symbol
symbols_of c = map (symbol_in c.language c.text.now) c.tokens.now

-- what stands ahead
abbrev pub ahead_of : Cursor → List Part
ahead_of c = ahead (symbols_of c) (map mark_of c.numbers.now)

-- the text, which stays
pub record SameText (old new : Cursor) : Type 0 where
  pub language : new.language ≡ old.language
  pub text : new.text ≡ old.text
  pub tokens : new.tokens ≡ old.tokens

-- the mark that is taken, if there is one
abbrev pub IsStep : Option Mark → List ℕ → List ℕ → Type 0
IsStep None old new = (old ≡ []) × (new ≡ [])
IsStep (Some m) old new = (n : ℕ) × (m ≡ mark_of n) × (old ≡ n ∷ new)

-- what is left where a rule has begun, or none has
abbrev pub passed : Option ℕ → List Part → List Part
passed None s = s
passed (Some p) s = skip (arity p) s

-- the part in front is passed
pub record Passes (old new : Cursor) : Type 0 where
  pub same : SameText old new
  pub behind : ahead_of new ≡ behind (ahead_of old)
  pub shorter : length new.numbers.now ≤ length old.numbers.now

abbrev pub IsShorter : Option ℕ → Cursor → Cursor → Type 0
IsShorter None old new = length new.numbers.now ≤ length old.numbers.now
IsShorter (Some p) old new = length new.numbers.now < length old.numbers.now

-- the rule that begins in front is taken
pub record Opens (rule : Option ℕ) (old new : Cursor) : Type 0 where
  pub same : SameText old new
  pub made : made (ahead_of old) ≡ made_by rule (ahead_of new)
  pub behind : behind (ahead_of old) ≡ passed rule (ahead_of new)
  pub shorter : IsShorter rule old new

pub record Closes (rule : Option ℕ) (old new : Cursor) : Type 0 where
  pub same : SameText old new
  pub behind : ahead_of new ≡ passed rule (ahead_of old)
  pub shorter : length new.numbers.now ≤ length old.numbers.now

-- so many parts are passed
pub record PassesAll (count : ℕ) (old new : Cursor) : Type 0 where
  pub same : SameText old new
  pub behind : ahead_of new ≡ skip count (ahead_of old)
  pub shorter : length new.numbers.now ≤ length old.numbers.now

-- what a token says, or none does
abbrev pub symbol_by : Cursor → Option Token → Symbol
symbol_by c None = foreign
symbol_by c (Some t) = symbol_in c.language c.text.now t

-- the token in front is taken; what is no token says nothing, and is passed
pub record Takes (token : Option Token) (old new : Cursor) : Type 0 where
  pub said : said (ahead_of old) ≡ symbol_by old token
  pub passes : Passes old new
