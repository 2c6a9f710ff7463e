-- The laws of what texts spell and of what is at fault in them.
use Rattle.std.specs.Prelude.{◌≡◌, ℕ, List}
use Rattle.ir_core.specs.declared.modules.Module.{Module}
use Rattle.module_spelling.specs.Spells.{Spells}
use Rattle.ir_lexer.specs.declared.fault.TextFault.{TextFault}
use Rattle.ir_lexer.specs.declared.fault.TextFault.TheVariants as fault
use Rattle.module_texts.specs.Texts.{IsShort, IsTextFault}

-- no text spells two modules
abbrev pub ModulesAreOne : Type 0
ModulesAreOne = (bytes : List ℕ) (a b : Module) → Spells bytes a → Spells bytes b → a ≡ b

-- a fault of the text, and not want of memory
abbrev pub IsToldFault : List ℕ → TextFault → Type 0
IsToldFault bytes f = IsTextFault bytes f × (f ≡ fault.Memory → ⊥)

-- a short text that has a fault spells nothing
abbrev pub FaultsExclude : Type 0
FaultsExclude = (bytes : List ℕ) (f : TextFault) (m : Module) → IsShort bytes → IsToldFault bytes f → Spells bytes m → ⊥

-- one fault, with all that is told of it
abbrev pub IsAlike : TextFault → TextFault → Type 0
IsAlike (fault.BadByte p) (fault.BadByte q) = p ≡ q
IsAlike (fault.BadString p) (fault.BadString q) = p ≡ q
IsAlike (fault.BadNumber p) (fault.BadNumber q) = p ≡ q
IsAlike (fault.Expected p) (fault.Expected q) = p ≡ q
IsAlike (fault.LeftOut p m) (fault.LeftOut q n) = (p ≡ q) × (m ≡ n)
IsAlike (fault.Unknown p m) (fault.Unknown q n) = (p ≡ q) × (m ≡ n)
IsAlike (fault.Twice p m) (fault.Twice q n) = (p ≡ q) × (m ≡ n)
IsAlike (fault.WrongNumber p due) (fault.WrongNumber q expected) = (p ≡ q) × (due ≡ expected)
IsAlike (fault.WrongType p) (fault.WrongType q) = p ≡ q
IsAlike (fault.Limit l) (fault.Limit m) = l ≡ m
IsAlike _ _ = ⊥

-- two faults that are told of a text are one: there is one first fault
abbrev pub FaultsAreOne : Type 0
FaultsAreOne = (bytes : List ℕ) (f g : TextFault) → IsToldFault bytes f → IsToldFault bytes g → IsAlike f g
