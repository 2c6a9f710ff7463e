use Rattle.std.proofs.Common.{◌≡◌, ◌∙◌, ap, arith}
use Rattle.fault_walk.specs.Parts.{is_power_below}
use Rattle.fault_walk.proofs.constants.is_any_power.Goals as goal

pub returns : goal.returns
returns c =
    let all : c.loop-exponent.exponent ≡ 30 = omega (arith, c.loop-exponent-test.false, c.loop-exponent.auto.exponent-end) in
    c.loop-exponent.invariant ∙ ap (λ n. is_power_below n c.args.magnitude) all
