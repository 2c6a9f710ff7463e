use Rattle.erhl_assert.specs.declared.facts.Side.TheVariants.{Src, Tgt}
use Rattle.erhl_assert.specs.Growth.{adds_all}
use Rattle.erhl_assert.specs.Steps.{choice}
use Rattle.erhl_checker.proofs.HintSteps.Stepping.{follows_then}
use Rattle.erhl_checker.proofs.hint_steps.steps.add_choices.Goals as goal

pub returns : goal.returns
returns c =
    let facts = choice c.args.register.now c.args.expr.now in
    follows_then (adds_all Src facts c.args.known.now) (adds_all Tgt facts) c.add_choice.new.known c.in_ok-add_choice.ensures c.add_choice-2.result c.add_choice-2.new.known c.add_choice-2.ensures
