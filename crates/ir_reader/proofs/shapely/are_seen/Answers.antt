use Rattle.std.proofs.Common.{◌≡◌, ◌∙◌, ◌<◌, true, false, length, sym, rules}
use Rattle.ir_reader.proofs.Seen.{one_more_defined, one_more_new, one_more_shapely}
use Rattle.ir_reader.proofs.shapely.are_seen.Goals as goal

pub loop-function-preserved : goal.loop-function-preserved
loop-function-preserved c =
    let fs = c.args.functions.now in
    let k = c.loop-function.function-index in
    let f = c.function-item.result in
    let free : c.in_ok-take.field-0 ≡ false = search rules in
    let yes : c.in_ok-is_whole_and_defined.field-0 ≡ true = search rules in
    let within : k < length fs = search rules in (
      one_more_new fs k f within c.function-item.is c.loop-function.names _ (sym c.in_ok-take.ensures.taken ∙ free) c.in_ok-take.ensures.names
          ∙ c.loop-function.invariant.0,
      λ more. c.loop-function.invariant.1 (one_more_shapely fs k f within c.function-item.is c.args._module.now (c.in_ok-is_whole_and_defined.ensures.shape yes c.args._module.now) more),
      λ more. c.loop-function.invariant.2 (one_more_defined fs k f within c.function-item.is (c.in_ok-is_whole_and_defined.ensures.defined yes) more),
    )
