-- The first faults of one text are of one kind, and a text with a fault spells no well-formed module.
use Rattle.std.specs.Prelude.{◌≡◌, ◌≤◌, ℕ, List, length}
use Rattle.ir_core.specs.declared.modules.Module.{Module}
use Rattle.ir_core.specs.Limits.{text_limit}
use Rattle.ir_lexer.specs.declared.fault.TextFault.{TextFault}
use Rattle.ir_lexer.specs.declared.fault.TextFault.TheVariants as text
use Rattle.ir_reader.specs.declared.fault.ModuleFault.{ModuleFault}
use Rattle.ir_reader.specs.declared.fault.ModuleFault.TheVariants as fault
use Rattle.ir_reader.specs.Faults.{IsAtFault, SpellsWellFormed}

-- what a fault says: a limit is passed, the text spells no module, the module isn't well-formed, or nothing
pub data FaultKind : Type 0 where
  PastLimit : FaultKind
  Misspelled : FaultKind
  IllFormed : FaultKind
  Silent : FaultKind

abbrev pub text_kind : TextFault → FaultKind
text_kind (text.Limit limit) = PastLimit
text_kind text.Memory = Silent
text_kind _ = Misspelled

abbrev pub fault_kind : ModuleFault → FaultKind
fault_kind (fault.Text f) = text_kind f
fault_kind (fault.Shape f) = IllFormed
fault_kind (fault.Undefined function u) = IllFormed
fault_kind fault.Memory = Silent

-- Of a text of at most 2 to the 24 bytes no two faults are of two kinds, but for want of memory. So `define i32 @f() { ret i32 %x }`,
-- which has an unknown name, passes no limit, and isn't spelled either.
abbrev pub FaultsAreOfOneKind : Type 0
FaultsAreOfOneKind =
    (bytes : List ℕ) (f g : ModuleFault) → length bytes ≤ text_limit → IsAtFault bytes f → IsAtFault bytes g → fault_kind f ≡ fault_kind g

-- such a text with a fault spells no well-formed module
abbrev pub FaultsExcludeModules : Type 0
FaultsExcludeModules = (bytes : List ℕ) (f : ModuleFault) (m : Module) → length bytes ≤ text_limit → IsAtFault bytes f → SpellsWellFormed bytes m → ⊥

-- Of such a text there is one fault, and all that is told of it is one: its place, and with a register that isn't defined the function and the
-- path.
abbrev pub ModuleFaultsAreOne : Type 0
ModuleFaultsAreOne = (bytes : List ℕ) (f g : ModuleFault) → length bytes ≤ text_limit → IsAtFault bytes f → IsAtFault bytes g → f ≡ g
