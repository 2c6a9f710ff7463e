-- The laws of what texts of one name spell and of what is at fault in them.
use Rattle.std.specs.Prelude.{◌≡◌, ◌⊎◌, ℕ, List}
use Rattle.ir_types.specs.declared.names.Name.{Name}
use Rattle.ir_types.specs.declared.names.Sigil.{Sigil}
use Rattle.module_texts.specs.Texts.{IsShort}
use Rattle.ir_lexer.specs.declared.fault.TextFault.{TextFault}
use Rattle.ir_lexer.specs.declared.fault.TextFault.TheVariants as fault
use Rattle.expression_reader.specs.Names.{IsNameFault, SpellsName}

-- behind a sigil no text spells two names
abbrev pub NamesAreOne : Type 0
NamesAreOne = (sigil : Sigil) (bytes : List ℕ) (a b : Name) → SpellsName sigil bytes a → SpellsName sigil bytes b → a ≡ b

-- a fault of the text, and not want of memory
abbrev pub IsToldFault : Sigil → List ℕ → TextFault → Type 0
IsToldFault sigil bytes f = IsNameFault sigil bytes f × (f ≡ fault.Memory → ⊥)

-- a short text that has a fault spells no name
abbrev pub FaultsExclude : Type 0
FaultsExclude = (sigil : Sigil) (bytes : List ℕ) (f : TextFault) (name : Name) → IsShort bytes → IsToldFault sigil bytes f → SpellsName sigil bytes name → ⊥

-- two faults that are told of a text are one: of one kind, at one place and, where a word is left out, of one length
abbrev pub NameFaultsAreOne : Type 0
NameFaultsAreOne = (sigil : Sigil) (bytes : List ℕ) (f g : TextFault) → IsToldFault sigil bytes f → IsToldFault sigil bytes g → f ≡ g

-- each text is short and spells a name, or something is first at fault in it that isn't want of memory
abbrev pub EachNameIsJudged : Type 0
EachNameIsJudged =
    (sigil : Sigil) (bytes : List ℕ) → ((name : Name) × IsShort bytes × SpellsName sigil bytes name) ⊎ ((f : TextFault) × IsToldFault sigil bytes f)
