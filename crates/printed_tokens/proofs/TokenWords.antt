-- Words of these proofs: tokens without their places, by their kinds, and of a string whether the byte before it is `c`.
use Rattle.std.specs.Prelude.{ℕ, ◌-◌, ◌==◌, ◌&&◌, Bool, true, false, List, [], ◌∷◌, ◌++◌, map, get_or, Option, Some, None, Ok, Err, if◌then◌else◌}
use Rattle.ir_types.specs.declared.names.Name.{Name}
use Rattle.ir_types.specs.declared.names.Sigil.{Sigil}
use Rattle.ir_types.specs.declared.names.Sigil.TheVariants as sigil
use Rattle.ir_core.specs.declared.operands.Flags.{Flags}
use Rattle.ir_core.specs.Words as words
use Rattle.ir_lexer.specs.declared.token.TokenKind.{TokenKind}
use Rattle.ir_lexer.specs.declared.token.TokenKind.TheVariants as kind
use Rattle.ir_lexer.specs.Cut.{Cut, Placed, cut}

-- A token by its kind, and whether the byte before it is `c`, which is told of strings alone.
abbrev pub Seen : Type 0
Seen = TokenKind × Bool

abbrev pub is_text : TokenKind → Bool
is_text (kind.Text bytes) = true
is_text k = false

-- what is seen of a token that begins at this place of the text
abbrev pub seen_at : List ℕ → TokenKind → ℕ → Seen
seen_at text k start = (k, is_text k && (get_or text (start - 1) 0 == 99))

abbrev pub seen_in : List ℕ → Placed → Seen
seen_in text t = seen_at text t.kind t.start

-- what is seen of what was cut out of the text
abbrev pub seen_cut : List ℕ → Cut → Option (List Seen)
seen_cut text (Ok tokens) = Some (map (seen_in text) tokens)
seen_cut text (Err fault) = None

-- what is seen of a text of any length; of a text with a fault, nothing
abbrev pub tokens_of : List ℕ → Option (List Seen)
tokens_of text = seen_cut text (cut 0 0 text)

-- a token that is no string
abbrev pub alone : TokenKind → Seen
alone k = (k, false)

abbrev pub word : List ℕ → Seen
word w = alone (kind.Word w)

-- the word of a flag that is set
abbrev pub flag : Bool → List ℕ → List Seen
flag set w = if set then word w ∷ [] else []

abbrev pub flags : Flags → List Seen
flags f = flag f.nuw words.nuw_word ++ (flag f.nsw words.nsw_word ++ flag f.exact words.exact_word)

-- the kind of a name behind its sigil
abbrev pub name_kind : Sigil → Name → TokenKind
name_kind sigil.Local n = kind.Local n
name_kind sigil.Global n = kind.Global n

-- a name behind its sigil
abbrev pub name : Sigil → Name → Seen
name s n = alone (name_kind s n)

-- a string behind `c`
abbrev pub bytes : List ℕ → Seen
bytes text = (kind.Text text, true)
