-- What a text of one type spells (LangRef 3.7, Type System), and what is first at fault in it: its length, then its tokens, then the grammar and the
-- limit on depths, then its counts. No module stands around it: names in it stand as they are.
use Rattle.std.specs.Prelude.{◌≡◌, ◌<◌, ℕ, ◌-◌, true, false, List, [], ◌++◌, length, map, Ok, Some, slice_get}
use Rattle.std.specs.List.{flat_map}
use Rattle.ir_core.specs.declared.limits.Limit.TheVariants as limit
use Rattle.ir_core.specs.Limits.{text_limit}
use Rattle.ir_lexer.specs.Cut.{Placed as PlacedToken, cut}
use Rattle.ir_lexer.specs.declared.token.LexFault.TheVariants as lexer
use Rattle.ir_types.specs.declared.ty.Ty.{Ty}
use Rattle.module_grammar.specs.Sorts.{AnyType}
use Rattle.module_grammar.specs.Symbols.{kind_of}
use Rattle.module_grammar.specs.declared.types.TypeText.{TypeText, fold-TypeText}
use Rattle.module_grammar.specs.declared.types.TypeText.TheOpen.{TypeText-F}
use Rattle.module_grammar.specs.declared.types.TypeText.TheOpen as types
use Rattle.module_spelling.specs.Faults.{IsFirstOf, IsStuck, PassesLimit}
use Rattle.module_texts.specs.Texts.{HasLexFault, HasTokens, is_left_out_at, own_symbols, place_at}
use Rattle.ir_lexer.specs.LeftOut.{is_left_out}
use Rattle.derivation_writer.specs.ReadMarks.Reading.{IsReadAs}
use Rattle.name_claims.specs.declared.claims.Fault.{Fault}
use Rattle.name_claims.specs.declared.claims.Reason.TheVariants as reason
use Rattle.named_modules.specs.Faults.{at, unless}
use Rattle.named_modules.specs.Types.{is_count, type_of}
use Rattle.ir_lexer.specs.declared.fault.TextFault.{TextFault}
use Rattle.ir_lexer.specs.declared.fault.TextFault.TheVariants as fault

-- ---- counts

abbrev pub count_faults_at_level : TypeText-F (List Fault) → List Fault
count_faults_at_level (types.Int width) = []
count_faults_at_level (types.Named x) = []
count_faults_at_level (types.Ptr star target) = target
count_faults_at_level (types.Array start (count, element)) = unless (is_count count.what) (at count reason.WrongType) ++ element
count_faults_at_level (types.Struct start fields) = flat_map (λ fs. fs) fields

-- each count of arrays that is none: not from 0 to 2^64 - 1
abbrev pub count_faults : TypeText → List Fault
count_faults = fold-TypeText (List Fault) count_faults_at_level

-- ---- what is spelled

-- the number of types in the grammar
abbrev pub type_number : ℕ
type_number = 33

-- these tokens, each the symbol that it is by itself, are written of this type, within the limits
abbrev pub AreOfType : List ℕ → List PlacedToken → TypeText → Type 0
AreOfType bytes tokens tree = IsReadAs AnyType type_number (own_symbols bytes tokens) tree

-- The text is cut into tokens, which are written of a type whose counts are counts.
--
-- `[4 x %pair*]` spells the array of four pointers to `%pair`, whatever that is; `[-1 x i8]` spells none.
pub record SpellsType (bytes : List ℕ) (t : Ty) : Type 0 where
  pub tokens : List PlacedToken
  pub cut : cut 0 0 bytes ≡ Ok tokens
  pub tree : TypeText
  pub read : AreOfType bytes tokens tree
  pub counts : count_faults tree ≡ []
  pub same : t ≡ type_of tree

-- ---- what is at fault

-- this is so of the tokens of the text
abbrev pub OfTokens : List ℕ → (List PlacedToken → Type 0) → Type 0
OfTokens bytes P = (tokens : List PlacedToken) × HasTokens bytes tokens × P tokens

abbrev pub own_kinds : List ℕ → List PlacedToken → List ℕ
own_kinds bytes tokens = map kind_of (own_symbols bytes tokens)

-- a token passes the limit on depths, and up to it all is expected
abbrev pub PassesDepth : List ℕ → Type 0
PassesDepth bytes = OfTokens bytes (λ tokens. (k : ℕ) × PassesLimit type_number (own_kinds bytes tokens) k limit.Depth)

-- the token of this index is the first that isn't expected, and none before it is too deep
abbrev pub IsStuckAt : List ℕ → List PlacedToken → ℕ → Type 0
IsStuckAt bytes tokens k = IsStuck type_number (own_kinds bytes tokens) k

-- the type that is written has this as the first fault of its counts
abbrev pub IsCountFault : List ℕ → Fault → Type 0
IsCountFault bytes f = OfTokens bytes (λ tokens. (tree : TypeText) × AreOfType bytes tokens tree × IsFirstOf (count_faults tree) f)

-- The first fault of a text of one type. Want of memory says nothing of it.
--
-- Of `[4 y i8]` it is `Expected` at 3, of `[-1 x i8` at 8, as the grammar comes before counts; of `[-1 x i8]` it is `WrongType` at 1.
abbrev pub IsTypeFault : List ℕ → TextFault → Type 0
IsTypeFault bytes (fault.Limit limit.Text) = text_limit < length bytes
IsTypeFault bytes (fault.Limit limit.Depth) = PassesDepth bytes
IsTypeFault bytes (fault.Limit _) = ⊥
IsTypeFault bytes (fault.BadByte place) = HasLexFault bytes (lexer.BadByte place)
IsTypeFault bytes (fault.BadString place) = HasLexFault bytes (lexer.BadString place)
IsTypeFault bytes (fault.BadNumber place) = HasLexFault bytes (lexer.BadNumber place)
IsTypeFault bytes (fault.Expected place) =
    OfTokens bytes (λ tokens.
    (k : ℕ) × IsStuckAt bytes tokens k × (is_left_out_at tokens k ≡ false) × (place ≡ place_at (length bytes) tokens k))
IsTypeFault bytes (fault.LeftOut place size) =
    OfTokens bytes (λ tokens.
    (k : ℕ) × (t : PlacedToken) × IsStuckAt bytes tokens k × (slice_get tokens k ≡ Some t) × (is_left_out t.kind ≡ true) × (place ≡ t.start)
    × (size ≡ t.end - t.start))
IsTypeFault bytes (fault.WrongType place) = (f : Fault) × IsCountFault bytes f × (place ≡ f.start)
IsTypeFault bytes fault.Memory = Unit {0}
IsTypeFault bytes _ = ⊥
