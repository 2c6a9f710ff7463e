use Rattle.crell_program.proofs.Inner.{judged_refined, limit_is_checked, limit_isnt_zero, verdict_is_checked}
use Rattle.crell_program.proofs.judging.judge_settled.Goals as goal

pub returns-in-Ok-clause-refines : goal.returns-in-Ok-clause-refines
returns-in-Ok-clause-refines g c =
    judged_refined c.args.source.now c.args.target.now c.in-Ok.verdict
    (c.in-Ok.ensures.refines (c.shapes_keep_phis_apart.ensures c.args.source.now c.requires.source) (c.shapes_keep_phis_apart.ensures c.args.target.now c.requires.target))
    _ c.verdict_answer.ensures

pub returns-in-Ok-clause-verdict : goal.returns-in-Ok-clause-verdict
returns-in-Ok-clause-verdict g c = verdict_is_checked _ c.args.file.now c.in-Ok.verdict c.in-Ok.ensures.verdict _ c.verdict_answer.ensures

pub returns-in-Err-Limit-clause-verdict : goal.returns-in-Err-Limit-clause-verdict
returns-in-Err-Limit-clause-verdict g c =
    let both = c.in-Err-Limit.ensures.limit c.in-Err-Limit.limit c.in-Err-Limit.field-0-is in
    limit_is_checked _ c.args.file.now c.in-Err-Limit.limit both.0 both.1 _ c.past_limit.ensures

pub returns-in-Err-Limit-clause-refines : goal.returns-in-Err-Limit-clause-refines
returns-in-Err-Limit-clause-refines g c =
    limit_isnt_zero c.args.source.now c.args.target.now c.args.file.now c.in-Err-Limit.limit _ c.past_limit.ensures
