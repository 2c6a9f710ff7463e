use Rattle.std.proofs.Common.{Bool, refl, rules, subst}
use Rattle.ir_core.specs.NameIndexes.Among.{is_among}
use Rattle.ir_shape.specs.Shape.{IsFirstOf, in_declaration, in_declarations}
use Rattle.ir_shape.proofs.Found.{in_that}
use Rattle.ir_shape.proofs.modules.declarations_fit.Goals as goal

pub returns-in_err-declaration_fits-clause-fault : goal.returns-in_err-declaration_fits-clause-fault
returns-in_err-declaration_fits-clause-fault c =
    let m = c.args.beside.now in
    let e = c.in_err-declaration_fits.field-0.0 in
    let d = c.declaration-item.result in
    let fault = subst (λ (taken : Bool). IsFirstOf (in_declaration m taken d) e) c.in_ok-taken.ensures.taken c.in_err-declaration_fits.ensures.fault in
    let there = in_that (in_declarations m c.loop-declaration.names) (in_declaration m (is_among d.name c.loop-declaration.names) d) _ c.args.declarations.now
    c.loop-declaration.declaration-index d _ c.loop-declaration-test.true c.declaration-item.is refl c.loop-declaration.invariant.1 e fault in
    search (rules, there)
