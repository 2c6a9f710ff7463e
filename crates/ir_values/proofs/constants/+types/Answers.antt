use Rattle.std.proofs.Common.{◌∙◌, false, true, refl, sym, ap}
use Rattle.ir_values.specs.ConstantParts.{is_recast, leads_to}
use Rattle.ir_values.specs.Constants.{is_of_type, scope_of}
use Rattle.ir_values.proofs.ConstantWalks.{cast_found, element_found}
use Rattle.ir_values.proofs.constants.+types.Goals as goal

pub is_of_type-returns-then-are_of_types : goal.is_of_type-returns-then-are_of_types
is_of_type-returns-then-are_of_types t c =
    let scope = scope_of c.args.«module».now in
    element_found scope c.args.ty.now c.in-Element.element c.get-element.result.now c.as_slice-parts.result.now true c.leads_to.result
    c.get-element.ensures c.as_slice-parts.ensures (sym c.if-are_of_types.true ∙ c.are_of_types.ensures) c.leads_to.ensures
    ∙ ap (is_of_type scope c.args.ty.now) (sym c.in-Element.is)

pub is_of_type-returns-else-are_of_types : goal.is_of_type-returns-else-are_of_types
is_of_type-returns-else-are_of_types t c =
    let scope = scope_of c.args.«module».now in
    c.if-are_of_types.false
    ∙ element_found scope c.args.ty.now c.in-Element.element c.get-element.result.now c.as_slice-parts.result.now false (leads_to scope.types c.get-element.result.now.1 c.as_slice-parts.result.now c.args.ty.now)
    c.get-element.ensures c.as_slice-parts.ensures (sym c.if-are_of_types.false ∙ c.are_of_types.ensures) refl
    ∙ ap (is_of_type scope c.args.ty.now) (sym c.in-Element.is)

pub is_of_type-returns-then-are_of_types-2 : goal.is_of_type-returns-then-are_of_types-2
is_of_type-returns-then-are_of_types-2 t c =
    let scope = scope_of c.args.«module».now in
    cast_found scope c.args.ty.now c.in-Cast.cast c.get-cast.result.now c.as_slice-parts-in-Cast.result.now true c.is_recast.result
    c.get-cast.ensures c.as_slice-parts-in-Cast.ensures (sym c.if-are_of_types-2.true ∙ c.are_of_types-in-Cast.ensures) c.is_recast.ensures
    ∙ ap (is_of_type scope c.args.ty.now) (sym c.in-Cast.is)

pub is_of_type-returns-else-are_of_types-2 : goal.is_of_type-returns-else-are_of_types-2
is_of_type-returns-else-are_of_types-2 t c =
    let scope = scope_of c.args.«module».now in
    c.if-are_of_types-2.false
    ∙ cast_found scope c.args.ty.now c.in-Cast.cast c.get-cast.result.now c.as_slice-parts-in-Cast.result.now false (is_recast c.get-cast.result.now.0 c.as_slice-parts-in-Cast.result.now c.args.ty.now)
    c.get-cast.ensures c.as_slice-parts-in-Cast.ensures (sym c.if-are_of_types-2.false ∙ c.are_of_types-in-Cast.ensures) refl
    ∙ ap (is_of_type scope c.args.ty.now) (sym c.in-Cast.is)
