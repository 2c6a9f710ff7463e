use Rattle.std.proofs.Common.{Bool, refl, rules, subst}
use Rattle.ir_core.specs.NameIndexes.Among.{is_among}
use Rattle.ir_shape.specs.Shape.{IsFirstOf, in_type, in_types}
use Rattle.ir_shape.proofs.Found.{in_that}
use Rattle.ir_shape.proofs.named.types_fit.Goals as goal

pub returns-in_err-type_fits-clause-fault : goal.returns-in_err-type_fits-clause-fault
returns-in_err-type_fits-clause-fault c =
    let m = c.args.beside.now in
    let e = c.in_err-type_fits.field-0.0 in
    let t = c.named-item.result in
    let fault = subst (λ (taken : Bool). IsFirstOf (in_type m taken t) e) c.in_ok-taken.ensures.taken c.in_err-type_fits.ensures.fault in
    let there = in_that (in_types m c.loop-named.names) (in_type m (is_among t.name c.loop-named.names) t) _ c.args.types.now c.loop-named.named-index t _
    c.loop-named-test.true c.named-item.is refl c.loop-named.invariant e fault in
    search (rules, there)
