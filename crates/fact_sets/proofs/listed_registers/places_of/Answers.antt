use Rattle.std.proofs.Common.{◌≡◌, ◌+◌, ◌-◌, ◌<◌, ◌∙◌, ℕ, Option, Some, cond, length, refl, ap, arith}
use Rattle.ir_core.specs.declared.expressions.Reg.{Reg}
use Rattle.ir_core.specs.Same.{same_reg}
use Rattle.fact_sets.proofs.Placing.{behind_more, place_behind, all_placed, from_there}
use Rattle.fact_sets.proofs.listed_registers.places_of.Goals as goal

pub loop-at-init : goal.loop-at-init
loop-at-init c = (omega arith, from_there c.in_ok-places.places c.args.registers.now c.in_ok-places.ensures _ refl)

pub loop-at-preserved : goal.loop-at-preserved
loop-at-preserved c =
    let rs = c.args.registers.now in
    let k = c.loop-at.at - 1 in
    let one = c.index-registers-at.result in
    let next : c.loop-at.at ≡ k + 1 = omega arith in
    let inside : k < length rs = omega (arith, c.loop-at.invariant.0) in (
      omega (arith, c.loop-at.invariant.0),
      λ r.
          c.in_ok-put.ensures r
          ∙ ap (λ (rest : Option ℕ). cond (same_reg r one) (Some k) rest) (c.loop-at.invariant.1 r ∙ ap (λ n. place_behind r n rs) next)
          ∙ ap (λ (x : Reg). cond (same_reg r x) (Some k) (place_behind r (k + 1) rs)) c.index-registers-at.is
          ∙ behind_more r rs k one inside,
    )

pub returns : goal.returns
returns c =
    let none : c.loop-at.at ≡ 0 = omega arith in
    all_placed c.loop-at.places c.args.registers.now (λ r. c.loop-at.invariant.1 r ∙ ap (λ n. place_behind r n c.args.registers.now) none)
