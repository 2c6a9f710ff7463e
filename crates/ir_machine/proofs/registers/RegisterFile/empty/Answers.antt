use Rattle.std.proofs.Common.{List, [], ◌≡◌, ◌++◌, ap, ◌∙◌, sym, subst}
use Rattle.ir_machine.specs.Kept.{kept_registers}
use Rattle.ir_machine.specs.Registers.{AreInKind}
use Rattle.ir_machine.proofs.Entries.{Entries}
use Rattle.ir_machine.proofs.InKind.{no_registers_in_kind}
use Rattle.ir_machine.proofs.registers.RegisterFile.empty.Goals as goal

pub invariant_of-result : goal.invariant_of-result
invariant_of-result c =
    let none : c.new.result.items ++ c.new-2.result.entries ≡ [] = ap (λ (l : Entries). l ++ c.new-2.result.entries) c.new.ensures.items ∙ c.new-2.ensures.empty in
    record { in_kind = subst (λ (l : Entries). AreInKind (kept_registers l)) (sym none) no_registers_in_kind }
