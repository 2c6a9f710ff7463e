-- What is passed to a function that is called.
use Rattle.std.proofs.Common.{◌≡◌, ℕ, ◌<◌, ◌≤◌, ◌+◌, List, [], ◌∷◌, length, get_or, drop, refl, sym, ap, ◌∙◌}
use Rattle.std.proofs.Math.ListN.{drop_of_length-le}
use Rattle.ir_core.specs.declared.functions.Argument.{Argument}
use Rattle.ir_core.specs.declared.functions.Param.{Param}
use Rattle.ir_core.specs.declared.values.Value.{Value}
use Rattle.ir_core.specs.Types.{kind_of}
use Rattle.ir_values.specs.Constants.{Scope}
use Rattle.ir_machine.specs.Machine.{arguments_of, at_kind, passed}
use Rattle.ir_machine.specs.Registers.{Registers, operand_value, read, set}
use Rattle.ir_machine.proofs.Standing.{drop_at}

pub passed_next : (scope : Scope) (old : Registers) (ps : List Param) (args : List Argument) (i : ℕ) (p : Param) (a : Argument) (v : Value) (registers : Registers)
    → i < length ps → p ≡ get_or ps i p → i < length args → a ≡ get_or args i a → v ≡ operand_value scope (read old) a.operand
    → passed (drop i ps) (arguments_of scope old (drop i args)) registers
    ≡ passed (drop (i + 1) ps) (arguments_of scope old (drop (i + 1) args)) (set registers p.name (kind_of p.ty) (at_kind (kind_of p.ty) (kind_of a.operand.ty) v))
passed_next scope old ps args i p a v registers within is inside at worth =
    ap (λ (l : List Param). passed l (arguments_of scope old (drop i args)) registers) (drop_at ps i p within is)
    ∙ ap (λ (l : List Argument). passed (p ∷ drop (i + 1) ps) (arguments_of scope old l) registers) (drop_at args i a inside at)
    ∙ ap (λ (v : Value). passed (drop (i + 1) ps) (arguments_of scope old (drop (i + 1) args)) (set registers p.name (kind_of p.ty) (at_kind (kind_of p.ty) (kind_of a.operand.ty) v))) (sym worth)

pub none_passed : (ps : List Param) (registers : Registers) → passed ps [] registers ≡ registers
none_passed [] registers = refl
none_passed (p ∷ ps) registers = refl

-- nothing is left to be passed
pub none_left : (scope : Scope) (old : Registers) (ps : List Param) (args : List Argument) (i : ℕ) (registers : Registers) → length args ≤ i
    → passed (drop i ps) (arguments_of scope old (drop i args)) registers ≡ registers
none_left scope old ps args i registers past =
    ap (λ (l : List Argument). passed (drop i ps) (arguments_of scope old l) registers) (drop_of_length-le args past) ∙ none_passed (drop i ps) registers
