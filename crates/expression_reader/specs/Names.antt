-- What a text of one name spells (LangRef 3.7, Identifiers), and what is first at fault in it: its length, then its tokens, then the first token that
-- isn't expected, since one name is one token.
use Rattle.std.specs.Prelude.{◌≡◌, ◌<◌, ℕ, ◌-◌, true, false, List, [], ◌∷◌, length, is_some, if◌then◌else◌, Option, None, Some, Ok, slice_get}
use Rattle.ir_core.specs.declared.limits.Limit.TheVariants as limit
use Rattle.ir_core.specs.Limits.{text_limit}
use Rattle.ir_lexer.specs.Cut.{Placed as PlacedToken, cut}
use Rattle.ir_lexer.specs.LeftOut.{is_left_out}
use Rattle.ir_lexer.specs.declared.fault.TextFault.{TextFault}
use Rattle.ir_lexer.specs.declared.fault.TextFault.TheVariants as fault
use Rattle.ir_lexer.specs.declared.token.LexFault.TheVariants as lexer
use Rattle.ir_lexer.specs.declared.token.TokenKind.{TokenKind}
use Rattle.ir_lexer.specs.declared.token.TokenKind.TheVariants as kind
use Rattle.ir_types.specs.declared.names.Name.{Name}
use Rattle.ir_types.specs.declared.names.Sigil.{Sigil}
use Rattle.ir_types.specs.declared.names.Sigil.TheVariants.{Local, Global}
use Rattle.module_texts.specs.Texts.{HasLexFault, is_left_out_at, place_at}
use Rattle.expression_reader.specs.Types.{OfTokens}

-- ---- what is spelled

-- the name behind the sigil that a token says, if it says one
abbrev pub said_name : Sigil → TokenKind → Option Name
said_name Local (kind.Local name) = Some name
said_name Global (kind.Global name) = Some name
said_name sigil k = None

-- The text is cut into one token, which says this name behind the sigil: ` %7 ; seven` spells the local name 7.
pub record SpellsName (sigil : Sigil) (bytes : List ℕ) (name : Name) : Type 0 where
  pub token : PlacedToken
  pub cut : cut 0 0 bytes ≡ Ok (token ∷ [])
  pub says : said_name sigil token.kind ≡ Some name

-- ---- what is at fault

-- behind a name nothing is expected
abbrev pub behind_name : List PlacedToken → Option ℕ
behind_name [] = None
behind_name (t ∷ more) = Some 1

-- The index of the first token that isn't expected, where one name is; where tokens are missing that of the end.
abbrev pub unexpected : Sigil → List PlacedToken → Option ℕ
unexpected sigil [] = Some 0
unexpected sigil (t ∷ more) = if is_some (said_name sigil t.kind) then behind_name more else Some 0

-- The first fault of a text of one name. Want of memory says nothing of it.
--
-- Of `%x %y` it is `Expected` at 3, of an empty text at 0, of `float` `LeftOut` at 0.
abbrev pub IsNameFault : Sigil → List ℕ → TextFault → Type 0
IsNameFault sigil bytes (fault.Limit limit.Text) = text_limit < length bytes
IsNameFault sigil bytes (fault.Limit _) = ⊥
IsNameFault sigil bytes (fault.BadByte place) = HasLexFault bytes (lexer.BadByte place)
IsNameFault sigil bytes (fault.BadString place) = HasLexFault bytes (lexer.BadString place)
IsNameFault sigil bytes (fault.BadNumber place) = HasLexFault bytes (lexer.BadNumber place)
IsNameFault sigil bytes (fault.Expected place) =
    OfTokens bytes (λ tokens.
    (k : ℕ) × (unexpected sigil tokens ≡ Some k) × (is_left_out_at tokens k ≡ false) × (place ≡ place_at (length bytes) tokens k))
IsNameFault sigil bytes (fault.LeftOut place size) =
    OfTokens bytes (λ tokens.
    (k : ℕ) × (t : PlacedToken) × (unexpected sigil tokens ≡ Some k) × (slice_get tokens k ≡ Some t) × (is_left_out t.kind ≡ true) × (place ≡ t.start)
    × (size ≡ t.end - t.start))
IsNameFault sigil bytes fault.Memory = Unit {0}
IsNameFault sigil bytes _ = ⊥
