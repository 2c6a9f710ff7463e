use Rattle.std.proofs.Common.{◌∙◌, false, true, refl, sym, ap}
use Rattle.ir_typing.specs.ModuleLimits.Small.{constant_small, constants_small}
use Rattle.ir_typing.proofs.ModuleLimits.Small.{element_found}
use Rattle.ir_typing.proofs.module_limits.sizes.+constants.Goals as goal

pub is_constant_small-returns-then-is_address_small : goal.is_constant_small-returns-then-is_address_small
is_constant_small-returns-then-is_address_small t c =
    let types = c.args.«module».now.types in
    element_found types c.in-Element.element c.get-element.result.now c.as_slice.result.now c.as_slice-then-is_address_small.result.now true
    c.are_constants_small.result c.get-element.ensures c.as_slice.ensures (sym c.if-is_address_small.true ∙ c.is_address_small.ensures)
    c.as_slice-then-is_address_small.ensures c.are_constants_small.ensures
    ∙ ap (constant_small types) (sym c.in-Element.is)

pub is_constant_small-returns-else-is_address_small : goal.is_constant_small-returns-else-is_address_small
is_constant_small-returns-else-is_address_small t c =
    let types = c.args.«module».now.types in
    let parts = c.as_slice.result.now in
    c.if-is_address_small.false
    ∙ element_found types c.in-Element.element c.get-element.result.now parts parts false (constants_small types parts) c.get-element.ensures
    c.as_slice.ensures (sym c.if-is_address_small.false ∙ c.is_address_small.ensures) c.as_slice.ensures refl
    ∙ ap (constant_small types) (sym c.in-Element.is)
