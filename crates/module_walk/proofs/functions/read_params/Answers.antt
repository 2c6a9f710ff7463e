use Rattle.std.proofs.Common.{◌≡◌, [], ap, rules}
use Rattle.derivation_cursor.specs.At.{ahead_of}
use Rattle.module_walk.specs.Counted.{names_of_params}
use Rattle.module_derivations.specs.Empty.{made}
use Rattle.module_walk.proofs.Onto.{all_due}
use Rattle.module_walk.proofs.Others.{no_more_params}
use Rattle.module_walk.proofs.functions.read_params.Goals as goal

pub returns-in_default-rule-clause-due : goal.returns-in_default-rule-clause-due
returns-in_default-rule-clause-due c =
    let left = (made (ahead_of c.loop-c.c)).more_params in
    let none : left ≡ [] = search (rules, no_more_params) in
    all_due 0 c.loop-c.due (names_of_params left) (names_of_params (made (ahead_of c.args.c.now)).params) c.loop-c.invariant.small (ap names_of_params none) c.loop-c.invariant.due
