use Rattle.std.proofs.Common.{◌∙◌, List, subst}
use Rattle.erhl_assert.specs.declared.facts.Fact.{Fact}
use Rattle.fact_sets.specs.Shields.{AreShields}
use Rattle.fact_sets.proofs.Shielding.{stored_asks}
use Rattle.fact_sets.proofs.indexed_set.IndexedSet.store.Goals as goal

pub returns : goal.returns
returns c =
    let some = c.self.inside.shields.keys in
    let load = c.self.inside.may_load in
    let part = c.self.inside.may_part in
    let are = subst (λ (fs : List Fact). AreShields some load part fs) c.self.view_is c.self.invariant.1 in
    c.change.ensures ∙ stored_asks some load part c.args.self.now are c.is_unique.result c.is_now_or_constant.result c.args.address.now c.is_unique.ensures c.is_now_or_constant.ensures
