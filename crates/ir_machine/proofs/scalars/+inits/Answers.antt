use Rattle.std.proofs.Common.{◌∙◌, ◌++◌, map, ap, sym}
use Rattle.ir_values.specs.Constants.{scope_of}
use Rattle.ir_machine.specs.declared.scalars.Scalar.{Scalar}
use Rattle.ir_machine.specs.Scalars.{scalars_of, values_of}
use Rattle.ir_machine.specs.Walks.{values_in}
use Rattle.ir_machine.proofs.Initials.{of_array, of_const, of_struct}
use Rattle.ir_machine.proofs.Walking.{on_ok}
use Rattle.ir_machine.proofs.scalars.+inits.Goals as goal

pub put_init-returns-in_ok-scalars-in-Const : goal.put_init-returns-in_ok-scalars-in-Const
put_init-returns-in_ok-scalars-in-Const t c =
    let scope = scope_of c.args.«module».now in
    let ty = c.args.ty.now in
    on_ok c.put_value.result _ _
    (λ h. h ∙ ap (λ l. c.args.values.now.items ++ l)
    (ap (map (λ (s : Scalar). c.held_value.result)) (c.deref.ensures.value ∙ c.in_ok-scalars-in-Const.ensures)
    ∙ ap (λ v. map (λ (s : Scalar). v) (scalars_of scope.types ty)) c.held_value.ensures
    ∙ sym (of_const scope ty c.in-Const.constant) ∙ ap (λ i. values_of scope i ty) (sym c.in-Const.is)))
    c.put_value.ensures

pub put_init-returns-in-Array : goal.put_init-returns-in-Array
put_init-returns-in-Array t c =
    let scope = scope_of c.args.«module».now in
    let ty = c.args.ty.now in
    on_ok c.put_parts.result _ _
    (λ h. h ∙ ap (λ l. c.args.values.now.items ++ l)
    (ap (values_in scope) (c.as_slice-in-Array.ensures ∙ c.get.ensures) ∙ sym (of_array scope ty c.in-Array.parts) ∙ ap (λ i. values_of scope i ty) (sym c.in-Array.is)))
    c.put_parts.ensures

pub put_init-returns-in-Struct : goal.put_init-returns-in-Struct
put_init-returns-in-Struct t c =
    let scope = scope_of c.args.«module».now in
    let ty = c.args.ty.now in
    on_ok c.put_parts-in-Struct.result _ _
    (λ h. h ∙ ap (λ l. c.args.values.now.items ++ l)
    (ap (values_in scope) (c.as_slice-in-Struct.ensures ∙ c.get-in-Struct.ensures) ∙ sym (of_struct scope ty c.in-Struct.parts) ∙ ap (λ i. values_of scope i ty) (sym c.in-Struct.is)))
    c.put_parts-in-Struct.ensures
