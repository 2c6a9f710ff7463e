-- Words of private functions: the slot where a word is looked for, of which no two of the grammar's words have the same.
use Rattle.std.specs.Prelude.{◌≡◌, ℕ, map, ◌+◌, ◌-◌, ◌*◌, ◌/◌, ◌%◌, List, [], length, get_or, if◌then◌else◌}
use Rattle.std.specs.Borrow.{Bor}
use Rattle.std.specs.Str.{bytes_eq}
use Rattle.module_grammar.specs.declared.words.Word.{Word}
use Rattle.module_grammar.specs.declared.words.Word.TheVariants.{Foreign}
use Rattle.module_grammar.specs.Words.{Entry, found_in, words}

-- what a word is by all of them
unfoldable pub said_named : List ℕ → Word
said_named w = found_in words Foreign w

-- by its first byte, the last, the one in the middle and its length
unfoldable pub slot : List ℕ → ℕ
slot w =
    ((get_or w 0 0 + get_or w (length w - 1) 0) * 56 + get_or w (length w / 2) 0 * 15 + length w % 32 * 48) % 512

abbrev pub entry_of : Bor (List ℕ) × Word → Entry
entry_of pair = (pair.0.now, pair.1)

abbrev pub nothing : Entry
nothing = ([], Foreign)

-- what a word is by one entry
abbrev pub said_as : Entry → List ℕ → Word
said_as e w = if bytes_eq w e.0 then e.1 else Foreign

-- by slots the numbers of the words: each word is the one whose number its slot has, counted from 0
abbrev pub AreOfSlots : List ℕ → Type 0
AreOfSlots numbers = map (λ (e : Entry). get_or words (get_or numbers (slot e.0) 0) nothing) words ≡ words
