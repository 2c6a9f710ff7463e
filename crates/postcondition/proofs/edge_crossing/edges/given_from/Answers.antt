use Rattle.std.proofs.Common.{◌∙◌, ◌+◌, ◌∷◌, Bool, List, ◌||◌, drop, ap, sym, arith}
use Rattle.std.proofs.lemmas.List.{at_drop_more, at_drop_all}
use Rattle.ir_types.specs.declared.names.Name.{Name}
use Rattle.ir_core.specs.declared.functions.Phi.{Phi}
use Rattle.ir_core.specs.declared.expressions.Reg.TheVariants.{Now}
use Rattle.erhl_assert.specs.declared.facts.Fact.TheVariants.{Unique}
use Rattle.postcondition.specs.EdgeCrossing.Crossing.{has_given, is_shared}
use Rattle.postcondition.proofs.EdgeCrossing.Sharing.{none_yet, one_more, all_given}
use Rattle.postcondition.proofs.edge_crossing.edges.given_from.Goals as goal

pub loop-phi-init : goal.loop-phi-init
loop-phi-init c = none_yet c.args.from.now c.args.phis.now c.in_ok-given.given c.in_ok-given.ensures

pub loop-phi-preserved : goal.loop-phi-preserved
loop-phi-preserved c =
    let phis = c.args.phis.now in
    let i = c.loop-phi.phi-index in
    let p = c.phi-item.result in
    let rest : Name → List Phi → Bool = λ x ps. has_given c.loop-phi.given x || is_shared c.args.from.now ps (Unique (Now x)) in
    one_more c.args.from.now phis c.loop-phi.given c.add_given.new.given p (drop (i + 1) phis)
    (λ x. ap (λ (q : Phi). rest x (q ∷ drop (i + 1) phis)) c.phi-item.is ∙ sym (at_drop_more (rest x) phis i p c.loop-phi-test.true) ∙ c.loop-phi.invariant x)
    c.in_ok-add_given.ensures

pub returns : goal.returns
returns c =
    let phis = c.args.phis.now in
    let rest : Name → List Phi → Bool = λ x ps. has_given c.loop-phi.given x || is_shared c.args.from.now ps (Unique (Now x)) in
    all_given c.args.from.now phis c.loop-phi.given (λ x. sym (at_drop_all (rest x) phis c.loop-phi.phi-index (omega arith)) ∙ c.loop-phi.invariant x)
