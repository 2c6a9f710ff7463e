use Rattle.std.proofs.Common.{◌≡◌, ◌++◌, List, [], IfErr, rules, subst}
use Rattle.ir_core.specs.declared.modules.Module.{Module}
use Rattle.ir_types.specs.declared.named.NamedTy.{NamedTy}
use Rattle.ir_shape.specs.Shape.{IsFirstOf, faults_of, in_functions, in_globals, in_types, with_globals}
use Rattle.ir_shape.proofs.Found.{further, others_decide}
use Rattle.ir_shape.proofs.modules.module_fits.Goals as goal

pub returns-in_err-types_fit-clause-fault : goal.returns-in_err-types_fit-clause-fault
returns-in_err-types_fit-clause-fault c =
    let m = c.args.module.now in
    let e = c.in_err-types_fit.field-0.0 in
    let first = subst (λ (beside : Module). IsFirstOf (in_types beside [] c.as_slice.result.now) e) c.in_ok-beside.ensures c.in_err-types_fit.ensures.fault in
    let told = subst (λ (ts : List NamedTy). IsFirstOf (in_types m [] ts) e) c.as_slice.ensures first in
    let this : IsFirstOf (faults_of m) e = further (in_types m [] m.types) _ e told in
    search (rules, this)

pub returns-clause-fault : goal.returns-clause-fault
returns-clause-fault c =
    let m = c.args.module.now in
    let r = c.values_fit.result in
    let first = subst (λ (beside : Module). in_types beside [] c.as_slice.result.now ≡ []) c.in_ok-beside.ensures c.in_ok-types_fit.ensures.fits in
    let none = subst (λ (ts : List NamedTy). in_types m [] ts ≡ []) c.as_slice.ensures first in
    let rest = subst (λ (beside : Module). IfErr r (IsFirstOf (in_globals beside [] m.globals ++ in_functions beside (with_globals [] m.globals) 0 m.declarations m.functions))) c.in_ok-beside.ensures c.values_fit.ensures.fault in
    others_decide (in_types m [] m.types) _ none r rest
