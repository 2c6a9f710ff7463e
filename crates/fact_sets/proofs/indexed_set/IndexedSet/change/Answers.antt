use Rattle.std.proofs.Common.{◌∙◌, ap, filter, subst, sym}
use Rattle.std.specs.List.{list_all}
use Rattle.erhl_assert.specs.declared.facts.Fact.{Fact}
use Rattle.erhl_assert.specs.Facts.{fact_names}
use Rattle.erhl_assert.specs.Kills.{loads_of, with_loads}
use Rattle.fact_sets.specs.Names.{IsIndexed}
use Rattle.fact_sets.specs.Shields.{shields}
use Rattle.fact_sets.proofs.Indexing.{left_indexed}
use Rattle.fact_sets.proofs.Shielding.{none_leaves, shields_stay}
use Rattle.fact_sets.proofs.indexed_set.IndexedSet.change.Goals as goal

pub invariant_of-self : goal.invariant_of-self
invariant_of-self g c =
    let test = g.C.Change.leaves c.args.change.now c.self.inside.shields.keys in
    let kept = c.keep_left.ensures in (
      subst (λ facts. IsIndexed fact_names c.self.inside.named.keys facts) (sym kept)
          (left_indexed fact_names c.self.inside.named.keys (λ (f : Fact). list_all test (loads_of f)) c.self.inside.facts.keys c.self.invariant.0),
      shields_stay test c.self.inside.shields.keys c.self.inside.may_load c.self.inside.may_part c.self.inside.facts.keys c.keep_left.new.facts.keys c.self.invariant.1 kept,
    )

pub returns-else-self : goal.returns-else-self
returns-else-self g c =
    let test = g.C.Change.leaves c.args.change.now (filter shields c.args.self.now) in
    let facts = c.self.view_is in
    sym (sym (ap (with_loads test) facts)
    ∙ (none_leaves test c.self.inside.shields.keys c.self.inside.may_load c.self.inside.may_part c.self.inside.facts.keys c.self.invariant.1 c.if-self.false ∙ facts))
