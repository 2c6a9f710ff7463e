use Rattle.std.proofs.Common.{rules}
use Rattle.erhl_checker.proofs.CheckedPair.Progressing.{answers_so}
use Rattle.erhl_checker.proofs.Reaching.{module_under}
use Rattle.erhl_checker.proofs.modules.definitions_answer.Goals as goal

pub returns-in_ok-nothing : goal.returns-in_ok-nothing
returns-in_ok-nothing g c =
    answers_so (module_under _ c.args.source.now c.args.target.now c.args.hints.now c.in_ok-hints.hints c.as_slice-functions.result.now c.as_slice-others.result.now
    (search rules) (search rules) (search rules) (search rules)) c.functions_answer.result c.functions_answer.ensures
