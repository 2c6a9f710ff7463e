-- The laws of what texts of one type spell and of what is at fault in them.
use Rattle.std.specs.Prelude.{◌≡◌, ◌⊎◌, ℕ, List}
use Rattle.ir_types.specs.declared.ty.Ty.{Ty}
use Rattle.module_texts.specs.Texts.{IsShort}
use Rattle.ir_lexer.specs.declared.fault.TextFault.{TextFault}
use Rattle.ir_lexer.specs.declared.fault.TextFault.TheVariants as fault
use Rattle.expression_reader.specs.Types.{IsTypeFault, SpellsType}

-- no text spells two types
abbrev pub TypesAreOne : Type 0
TypesAreOne = (bytes : List ℕ) (a b : Ty) → SpellsType bytes a → SpellsType bytes b → a ≡ b

-- a fault of the text, and not want of memory
abbrev pub IsToldFault : List ℕ → TextFault → Type 0
IsToldFault bytes f = IsTypeFault bytes f × (f ≡ fault.Memory → ⊥)

-- a short text that has a fault spells no type
abbrev pub FaultsExclude : Type 0
FaultsExclude = (bytes : List ℕ) (f : TextFault) (t : Ty) → IsShort bytes → IsToldFault bytes f → SpellsType bytes t → ⊥

-- two faults that are told of a text are one: of one kind, at one place and, where a word is left out, of one length
abbrev pub TypeFaultsAreOne : Type 0
TypeFaultsAreOne = (bytes : List ℕ) (f g : TextFault) → IsToldFault bytes f → IsToldFault bytes g → f ≡ g

-- each text is short and spells a type, or something is first at fault in it that isn't want of memory
abbrev pub EachTypeIsJudged : Type 0
EachTypeIsJudged =
    (bytes : List ℕ) → ((t : Ty) × IsShort bytes × SpellsType bytes t) ⊎ ((f : TextFault) × IsToldFault bytes f)
