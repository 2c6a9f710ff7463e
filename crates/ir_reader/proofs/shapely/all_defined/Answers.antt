use Rattle.std.proofs.Common.{rules, ◌≡◌, ◌+◌, suc, subst, take, arith}
use Rattle.std.specs.List.{AllByRecursion}
use Rattle.ir_core.specs.WellFormed.{HasFunctionShape, IsFunctionDefined}
use Rattle.ir_reader.proofs.First.{all_at, first_at, one_more_such}
use Rattle.ir_reader.proofs.shapely.all_defined.Goals as goal

pub returns-in-Err-Undefined-clause-undefined : goal.returns-in-Err-Undefined-clause-undefined
returns-in-Err-Undefined-clause-undefined c =
    let f = c.function-item.result in
    let found = c.in-Err-Undefined.ensures.undefined c.in-Err-Undefined.undefined c.in-Err-Undefined.field-0-is in (
      f,
      first_at IsFunctionDefined c.args.functions.now c.loop-function.function-index f c.loop-function-test.true c.function-item.is c.loop-function.invariant (c.undefined_uses_are_faults.ensures c.args._module.now f _ (all_at (HasFunctionShape c.args._module.now) c.args.functions.now c.loop-function.function-index f c.loop-function-test.true c.function-item.is c.requires) found),
      c.in-Err-Undefined.ensures.undefined _ (search rules),
      c.in_ok-copy-in-Err-Undefined.ensures,
    )

pub loop-function-preserved : goal.loop-function-preserved
loop-function-preserved c =
    let k = c.loop-function.function-index in
    let next : suc k ≡ k + 1 = omega arith in
    subst (λ n. AllByRecursion IsFunctionDefined (take n c.args.functions.now)) next
    (one_more_such IsFunctionDefined c.args.functions.now k c.function-item.result c.loop-function-test.true c.function-item.is c.loop-function.invariant c.in-Ok.ensures.defined)
