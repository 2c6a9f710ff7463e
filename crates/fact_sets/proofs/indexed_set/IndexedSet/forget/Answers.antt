use Rattle.std.proofs.Common.{◌∙◌, ap, subst, sym, not, filter, rules}
use Rattle.std.proofs.lemmas.Fn.{filter_same}
use Rattle.erhl_assert.specs.declared.facts.Fact.{Fact}
use Rattle.erhl_assert.specs.Facts.{fact_names, without_naming}
use Rattle.fact_sets.specs.Names.{IsIndexed}
use Rattle.fact_sets.proofs.Indexing.{left_indexed, none_left_out}
use Rattle.fact_sets.proofs.Shielding.{shields_left}
use Rattle.fact_sets.proofs.indexed_set.IndexedSet.forget.Goals as goal

pub invariant_of-self : goal.invariant_of-self
invariant_of-self c =
    let test = λ (f : Fact). not (fact_names c.args.register.now f) in
    let kept = filter_same _ test _ (λ x b f k. search rules) _ _ c.retain.ensures.filtered in
    let shields = filter_same _ test _ (λ x b f k. search rules) _ _ c.retain-then-contains.ensures.filtered in (
      subst (λ facts. IsIndexed fact_names c.self.inside.named.keys facts) (sym kept) (left_indexed fact_names _ test _ c.self.invariant.0),
      shields_left test _ _ _ _ _ _ c.self.invariant.1 shields kept,
    )

pub returns-then-contains : goal.returns-then-contains
returns-then-contains c =
    let test = λ (f : Fact). not (fact_names c.args.register.now f) in
    filter_same _ test _ (λ x b f k. search rules) _ _ c.retain.ensures.filtered ∙ ap (filter test) c.self.view_is

pub returns-else-contains : goal.returns-else-contains
returns-else-contains c =
    let facts = c.self.view_is in
    sym (sym (ap (without_naming c.args.register.now) facts) ∙ (none_left_out fact_names _ _ c.args.register.now c.self.invariant.0 (search rules) ∙ facts))
