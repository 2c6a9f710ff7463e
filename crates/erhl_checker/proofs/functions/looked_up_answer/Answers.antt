use Rattle.std.proofs.Common.{map, rules}
use Rattle.ir_machine.specs.State.{scope_of}
use Rattle.line_align.specs.Lent.{lent_block}
use Rattle.erhl_checker.proofs.CheckedPair.Progressing.{answers_so}
use Rattle.erhl_checker.proofs.Reaching.{aligned_under, differs_under}
use Rattle.erhl_checker.proofs.functions.looked_up_answer.Goals as goal

pub returns-in-Ok : goal.returns-in-Ok
returns-in-Ok g c =
    answers_so (aligned_under _ (scope_of c.args.«module».now) c.args.source.now c.args.target.now c.args.hint.now c.as_slice-given.result.now (search rules)
    (map lent_block c.as_slice-aligned.result.now) (search rules)) c.aligned_answer.result c.aligned_answer.ensures

pub returns-in-Differs : goal.returns-in-Differs
returns-in-Differs g c =
    differs_under _ (scope_of c.args.«module».now) c.args.source.now c.args.target.now c.args.hint.now c.in_ok-hints.hints (search rules)
    c.in-Err.end c.in-Differs.block c.in-Differs.is c.in-Err.ensures
