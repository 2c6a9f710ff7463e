use Rattle.std.proofs.Common.{◌∙◌, Bool, not, None, Option, ap, refl, rules, subst}
use Rattle.ir_core.specs.NameIndexes.Among.{is_among}
use Rattle.ir_typing.specs.OperandTests.Inits.{global_var_kind}
use Rattle.ir_typing.specs.declared.shape_kinds.kind.ShapeKind.{ShapeKind}
use Rattle.ir_shape.specs.Shape.{IsFirstOf, fault_at, in_globals}
use Rattle.ir_shape.proofs.Found.{in_that}
use Rattle.ir_shape.proofs.modules.globals_fit.Goals as goal

pub returns-in_err-header_fits-clause-fault : goal.returns-in_err-header_fits-clause-fault
returns-in_err-header_fits-clause-fault c =
    let m = c.args.beside.now in
    let e = c.in_err-header_fits.field-0.0 in
    let g = c.global-item.result in
    let fault = subst (λ (kind : Option ShapeKind). IsFirstOf (fault_at g.name None kind) e)
    (c.global_var_kind.ensures ∙ ap (λ (taken : Bool). global_var_kind m (not taken) g) c.in_ok-taken.ensures.taken) c.in_err-header_fits.ensures.fault in
    let there = in_that (in_globals m c.loop-global.names) (fault_at g.name None (global_var_kind m (not (is_among g.name c.loop-global.names)) g)) _ c.args.globals.now
    c.loop-global.global-index g _ c.loop-global-test.true c.global-item.is refl c.loop-global.invariant.1 e fault in
    search (rules, there)
