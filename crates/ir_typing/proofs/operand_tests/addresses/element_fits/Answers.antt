use Rattle.std.proofs.Common.{◌≡◌, ◌≤◌, ◌∙◌, List, Option, Some, length, map, sym, ap, subst}
use Rattle.std.specs.Borrow.{Bor}
use Rattle.std.specs.Option.{option_copied, option_map}
use Rattle.ir_core.specs.declared.operands.Operand.{Operand}
use Rattle.ir_core.specs.Typing.{element_type, index_of}
use Rattle.ir_types.specs.declared.named.NamedTy.{NamedTy}
use Rattle.ir_types.specs.declared.names.Name.{Name}
use Rattle.ir_types.specs.declared.ty.Ty.{Ty, Ptr}
use Rattle.ir_typing.proofs.OperandTests.AtOnce.{fits_at_once, there_by_length}
use Rattle.ir_typing.proofs.operand_tests.addresses.element_fits.Goals as goal
use Rattle.ir_typing.proofs.operand_tests.addresses.element_fits.Goals.{then-points_to, else-points_to}

pub returns-then-points_to-2 : goal.returns-then-points_to-2
returns-then-points_to-2 c =
    let m = c.args.beside.now in
    let e = c.args.element.now in
    let x = c.in-Named-len2-up.field-0-0 in
    let u = c.in-Some.pointed.now in
    let of_is = c.in-Named-len2-up.is-0 in
    let long = subst (λ (os : List (Operand Name)). 2 ≤ length os) c.as_slice.ensures c.in-Named-len2-up.len_at_least in
    let leads : element_type m.types e.of (map index_of e.indices) ≡ Some (Ptr u) =
    sym (c.pointed_by_operands.ensures ∙ ap (λ (ts : List NamedTy). element_type ts e.of (map index_of c.as_slice-in-Named-len2-up.result.now)) c.types.ensures
    ∙ ap (λ (os : List (Operand Name)). element_type m.types e.of (map index_of os)) c.as_slice-in-Named-len2-up.ensures)
    ∙ ap (λ (o : Option (Bor Ty)). option_map Ptr (option_copied o)) c.in-Some.is in
    let there = there_by_length m e x of_is u long leads in
    let second = c.if-points_to-2.true in
    elim c.if-points_to.branch [
      | then-points_to w ↦ (λ yes.
          fits_at_once m e x of_is u leads there (sym c.points_to.ensures ∙ w.if-points_to.true)
          (sym w.points_to-then-points_to.ensures ∙ sym w.value-is ∙ second) (c.names_sized.ensures yes x there))
      | else-points_to w ↦ (let not_so = w.value-is in cc)
    ]
