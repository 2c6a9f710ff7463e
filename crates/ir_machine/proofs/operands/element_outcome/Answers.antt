use Rattle.std.proofs.Common.{◌∙◌, refl, List, map, sym, subst}
use Rattle.std.specs.List.{AllByRecursion}
use Rattle.ir_types.specs.declared.names.Name.{Name}
use Rattle.ir_core.specs.declared.operands.Operand.{Operand}
use Rattle.ir_core.specs.Types.{kind_of}
use Rattle.ir_values.specs.Addresses.{IsIndex}
use Rattle.ir_values.specs.Operations.{GivesInKind}
use Rattle.ir_values.specs.declared.operations.Outcome.TheVariants.{Gives}
use Rattle.ir_machine.specs.Places.{registers_in}
use Rattle.ir_machine.specs.Registers.{index_value, read}
use Rattle.ir_machine.specs.State.{scope_of}
use Rattle.ir_machine.proofs.InKind.{address_in_kind, indices_in_kind}
use Rattle.ir_machine.proofs.operands.element_outcome.Goals as goal

pub address_of-requires-clause-indices : goal.address_of-requires-clause-indices
address_of-requires-clause-indices c =
    let scope = scope_of c.args.«module».now in
    let registers = c.args.registers.now in
    subst (λ (os : List (Operand Name)). AllByRecursion IsIndex (map (index_value scope (read (registers_in registers))) os)) (sym c.as_slice.ensures)
    (indices_in_kind scope (registers_in registers) registers.in_kind c.args.element.now (sym c.is_stated.ensures ∙ c.if-not-is_stated.false))

pub returns-clause-in_kind : goal.returns-clause-in_kind
returns-clause-in_kind c =
    let e = c.args.element.now in
    let types = c.args.«module».now.types in
    let indices = map (index_value (scope_of c.args.«module».now) (read (registers_in c.args.registers.now))) c.as_slice.result.now in
    subst (λ v. GivesInKind (kind_of e.to) (Gives v)) (sym c.address_of.ensures)
    (address_in_kind types e c.operand_value-base.result c.size_at-size.result indices (sym c.is_stated.ensures ∙ c.if-not-is_stated.false))

pub returns-clause-value : goal.returns-clause-value
returns-clause-value c =
    let stated = sym c.is_stated.ensures ∙ c.if-not-is_stated.false in
    rw (stated, c.address_of.ensures, c.size_at-size.ensures, c.operand_value-base.ensures.value, c.as_slice.ensures) refl
