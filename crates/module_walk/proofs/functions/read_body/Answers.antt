use Rattle.std.proofs.Common.{◌≡◌, [], rules}
use Rattle.derivation_cursor.specs.At.{ahead_of}
use Rattle.module_derivations.specs.Empty.{made}
use Rattle.module_walk.proofs.Bodies.{last_body, last_due, last_lines, no_due}
use Rattle.module_walk.proofs.Others.{no_behind_register, no_body}
use Rattle.module_walk.proofs.functions.read_body.Goals as goal

pub returns-in_default-rule-clause-lines : goal.returns-in_default-rule-clause-lines
returns-in_default-rule-clause-lines c =
    let register = c.in_ok-register-in-Some-eq185.register in
    let left = (made (ahead_of c.loop-alloc.c)).body in
    let last : left ≡ last_body register = search (rules, no_behind_register) in
    last_lines c.args.types.now c.args.due c.loop-alloc.behind register left (made (ahead_of c.args.c.now)).body c.in_ok-lines-in_default-rule.lines
    last c.loop-alloc.invariant.due c.loop-alloc.invariant.lines c.in_ok-lines-in_default-rule.ensures.lines

pub returns-in_default-rule-clause-due : goal.returns-in_default-rule-clause-due
returns-in_default-rule-clause-due c =
    let register = c.in_ok-register-in-Some-eq185.register in
    let left = (made (ahead_of c.loop-alloc.c)).body in
    let last : left ≡ last_body register = search (rules, no_behind_register) in
    last_due c.args.types.now c.args.due c.loop-alloc.behind c.in_ok-lines-in_default-rule.next register left (made (ahead_of c.args.c.now)).body
    last c.loop-alloc.invariant.due c.loop-alloc.invariant.lines c.in_ok-lines-in_default-rule.ensures.due

pub returns-in_default-clause-due : goal.returns-in_default-clause-due
returns-in_default-clause-due c =
    let left = (made (ahead_of c.loop-alloc.c)).body in
    let none : left ≡ record { phis = []; lines = [] } = search (rules, no_body) in
    no_due c.args.types.now c.args.due c.loop-alloc.behind left (made (ahead_of c.args.c.now)).body
    c.loop-alloc.invariant.small none c.loop-alloc.invariant.due c.loop-alloc.invariant.lines
