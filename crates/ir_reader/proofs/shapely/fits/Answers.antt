use Rattle.std.proofs.Common.{◌≡◌, true, rules}
use Rattle.ir_reader.proofs.Among.{always_ok, of_shape, undefined_is_first}
use Rattle.ir_reader.proofs.shapely.fits.Goals as goal

pub returns-then-branch-clause-faultless : goal.returns-then-branch-clause-faultless
returns-then-branch-clause-faultless c =
    let yes : c.in_ok-is_seen.field-0 ≡ true = search rules in
    c.in_ok-is_seen.ensures.faultless yes

pub returns-then-branch-clause-defined : goal.returns-then-branch-clause-defined
returns-then-branch-clause-defined c =
    let yes : c.in_ok-is_seen.field-0 ≡ true = search rules in
    c.in_ok-is_seen.ensures.defined yes

pub returns-clause-faultless : goal.returns-clause-faultless
returns-clause-faultless c = always_ok c.all_defined.result _ (search rules)

pub returns-clause-fault : goal.returns-clause-fault
returns-clause-fault c = undefined_is_first c.args.module.now (search rules) c.all_defined.result (search rules)

pub returns-in_err-shaped-clause-fault : goal.returns-in_err-shaped-clause-fault
returns-in_err-shaped-clause-fault c =
    let here = of_shape c.args.module.now c.in_err-shaped.field-0.0 c.in_err-shaped.ensures.fault in
    search (rules, here)
