use Rattle.std.proofs.Common.{◌∙◌}
use Rattle.std.specs.Option.{option_map}
use Rattle.fact_sets.proofs.ErhlSides.Telling.{from_end}
use Rattle.fact_sets.proofs.erhl_sides.leaving.first_left_over.Goals as goal

pub loop-done-preserved : goal.loop-done-preserved
loop-done-preserved c =
    c.in_ok-first.ensures
    ∙ from_end c.args.wanted.now c.args.registers.now c.loop-done.done c.index-registers-registers.result (option_map (λ p. p.register.now) c.loop-done.first)
    c.loop-done-test.true c.index-registers-registers.is c.loop-done.invariant
