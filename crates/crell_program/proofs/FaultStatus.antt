-- The status of an answer to a module's fault.
use Rattle.std.proofs.Common.{◌≡◌, ◌∙◌, ◌≤◌, ℕ, List, length, refl, sym, ap, arith}
use Rattle.ir_core.specs.Limits.{text_limit}
use Rattle.ir_lexer.specs.declared.fault.TextFault.{TextFault}
use Rattle.ir_lexer.specs.declared.fault.TextFault.TheVariants as text
use Rattle.ir_reader.specs.declared.fault.ModuleFault.{ModuleFault}
use Rattle.ir_reader.specs.declared.fault.ModuleFault.TheVariants as faults
use Rattle.ir_reader.specs.Laws.{FaultKind, PastLimit, Misspelled, IllFormed, Silent, fault_kind, text_kind}
use Rattle.crell_program.specs.CrellAnswers.Answer.{text_fault, module_fault}
use Rattle.ir_reader.specs.Faults.{IsAtFault}
use Rattle.ir_reader.specs.Laws.{FaultsAreOfOneKind}
use Rattle.crell_program.specs.Statuses.{module_status, text_status}

abbrev kind_status : FaultKind → ℕ
kind_status PastLimit = 9
kind_status Misspelled = 3
kind_status IllFormed = 4
kind_status Silent = 8

by_text_kind : (f : TextFault) → text_status f ≡ kind_status (text_kind f)
by_text_kind (text.Limit limit) = refl
by_text_kind text.Memory = refl
by_text_kind (text.BadByte place) = refl
by_text_kind (text.BadString place) = refl
by_text_kind (text.BadNumber place) = refl
by_text_kind (text.Expected place) = refl
by_text_kind (text.LeftOut place size) = refl
by_text_kind (text.Unknown place size) = refl
by_text_kind (text.Twice place size) = refl
by_text_kind (text.WrongNumber place expected) = refl
by_text_kind (text.WrongType place) = refl

by_kind : (f : ModuleFault) → module_status f ≡ kind_status (fault_kind f)
by_kind (faults.Text f) = by_text_kind f
by_kind (faults.Shape f) = refl
by_kind (faults.Undefined function u) = refl
by_kind faults.Memory = refl

kind_isnt_zero : (k : FaultKind) → kind_status k ≡ 0 → ⊥
kind_isnt_zero PastLimit z = absurd (omega (arith, z))
kind_isnt_zero Misspelled z = absurd (omega (arith, z))
kind_isnt_zero IllFormed z = absurd (omega (arith, z))
kind_isnt_zero Silent z = absurd (omega (arith, z))

pub fault_status_isnt_zero : (f : ModuleFault) → module_status f ≡ 0 → ⊥
fault_status_isnt_zero f z = kind_isnt_zero (fault_kind f) (sym (by_kind f) ∙ z)

text_fault_status : (f : TextFault) (bytes file : List ℕ) → (text_fault f bytes file).status ≡ text_status f
text_fault_status (text.Limit limit) bytes file = refl
text_fault_status text.Memory bytes file = refl
text_fault_status (text.BadByte place) bytes file = refl
text_fault_status (text.BadString place) bytes file = refl
text_fault_status (text.BadNumber place) bytes file = refl
text_fault_status (text.Expected place) bytes file = refl
text_fault_status (text.LeftOut place size) bytes file = refl
text_fault_status (text.Unknown place size) bytes file = refl
text_fault_status (text.Twice place size) bytes file = refl
text_fault_status (text.WrongNumber place expected) bytes file = refl
text_fault_status (text.WrongType place) bytes file = refl

pub module_fault_status : (f : ModuleFault) (bytes file : List ℕ) → (module_fault f bytes file).status ≡ module_status f
module_fault_status (faults.Text f) bytes file = text_fault_status f bytes file
module_fault_status (faults.Shape f) bytes file = refl
module_fault_status (faults.Undefined function u) bytes file = refl
module_fault_status faults.Memory bytes file = refl

-- the first faults of a text have one status
pub one_status : FaultsAreOfOneKind → (bytes : List ℕ) (f g : ModuleFault) → length bytes ≤ text_limit → IsAtFault bytes f → IsAtFault bytes g
    → module_status f ≡ module_status g
one_status kinds bytes f g short p q = by_kind f ∙ ap kind_status (kinds bytes f g short p q) ∙ sym (by_kind g)
