use Rattle.std.proofs.Common.{◌≡◌, ◌&&◌, true, [], sym, subst}
use Rattle.std.specs.List.{list_all}
use Rattle.ir_types.specs.NameLaws.{left_true, right_true}
use Rattle.ir_core.specs.declared.expressions.Reg.{Reg}
use Rattle.ir_core.specs.declared.operands.Operand.{Operand}
use Rattle.ir_core.specs.declared.values.Value.TheVariants.{Poison}
use Rattle.ir_values.specs.declared.operations.Outcome.TheVariants.{Gives}
use Rattle.ir_machine.specs.State.{no_scope}
use Rattle.rule_base.specs.NumberLaws.{no_element}
use Rattle.rule_base.specs.Rows.{is_number, is_over_numbers, folded}
use Rattle.rule_base.proofs.folding.folded.Goals as goal

-- src/folding.rt:135:1
pub returns-in-Binary : goal.returns-in-Binary
returns-in-Binary c =
    let b = c.in-Binary.binary in
    let l = is_number b.left in
    let r = is_number b.right in
    subst (λ e. is_over_numbers e ≡ true → c.folded_binary.result ≡ folded e) (sym c.in-Binary.is)
    (λ h. c.folded_binary.ensures (left_true l (r && true) h) (left_true r true (right_true l (r && true) h)))

-- src/folding.rt:135:1
pub returns-in-Element : goal.returns-in-Element
returns-in-Element c =
    let e = c.in-Element.field-0 in
    subst (λ x. is_over_numbers x ≡ true → Gives Poison ≡ folded x) (sym c.in-Element.is)
    (λ h. sym (no_element no_scope (λ k r. Poison) [] e (left_true (is_number e.base.atom) (list_all (λ (o : Operand Reg). is_number o.atom) e.indices) h)))
