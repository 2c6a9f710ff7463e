use Rattle.std.proofs.Common.{◌≡◌, [], ap, sym, Some, rules}
use Rattle.derivation_cursor.specs.At.{ahead_of}
use Rattle.fault_walk.proofs.Other.{no_count, no_count_faults}
use Rattle.fault_walk.specs.Lines.{counted, counted_faults}
use Rattle.fault_walk.specs.Told.{faults_more}
use Rattle.module_derivations.specs.Empty.{made}
use Rattle.module_grammar.specs.Joined.{count_from}
use Rattle.fault_walk.proofs.blocks.note_next_count.Goals as goal

pub returns-in_default-clause-count : goal.returns-in_default-clause-count
returns-in_default-clause-count c =
    let none : counted (count_from (made (ahead_of c.args.c.now)).next_count).count ≡ Some 1 = search (rules, no_count) in
    sym none

pub returns-in_default-clause-told : goal.returns-in_default-clause-told
returns-in_default-clause-told c =
    let h = c.args.sight.now in
    let s = ahead_of c.args.c.now in
    let t = c.args.told.now in
    let none : counted_faults h (count_from (made s).next_count) ≡ [] = search (rules, no_count_faults) in
    sym (ap (λ fs. faults_more fs t) none)
