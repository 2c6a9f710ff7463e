use Rattle.std.proofs.Common.{◌∙◌, ap, subst, sym, not, filter, rules}
use Rattle.erhl_assert.specs.declared.facts.Fact.{Fact}
use Rattle.erhl_assert.specs.declared.fact_set.Kill.TheVariants as kill
use Rattle.erhl_assert.specs.Facts.{fact_names}
use Rattle.erhl_assert.specs.Kills.{is_unique_of, killed}
use Rattle.fact_sets.specs.Names.{IsIndexed}
use Rattle.fact_sets.proofs.Indexing.{left_indexed}
use Rattle.fact_sets.proofs.Shielding.{not_shared, one_shared, shields_left}
use Rattle.fact_sets.proofs.indexed_set.IndexedSet.share.Goals as goal

pub invariant_of-self : goal.invariant_of-self
invariant_of-self c =
    let r = c.args.register.now in
    let test = λ (f : Fact). not (is_unique_of r f) in
    let facts = c.self.inside.facts.keys in
    let some = c.self.inside.shields.keys in
    let kept = one_shared r facts c.shift_remove.new.self.keys c.shift_remove.ensures.keys c.shift_remove.ensures.updates.1 in
    let shields = one_shared r some c.shift_remove-then-has_unique.new.self.keys c.shift_remove-then-has_unique.ensures.keys c.shift_remove-then-has_unique.ensures.updates.1 in (
      subst (λ fs. IsIndexed fact_names c.self.inside.named.keys fs) (sym kept) (left_indexed fact_names c.self.inside.named.keys test facts c.self.invariant.0),
      shields_left test some c.shift_remove-then-has_unique.new.self.keys c.self.inside.may_load c.self.inside.may_part facts c.shift_remove.new.self.keys c.self.invariant.1 shields kept,
    )

pub returns-then-has_unique : goal.returns-then-has_unique
returns-then-has_unique c =
    let r = c.args.register.now in
    one_shared r c.self.inside.facts.keys c.shift_remove.new.self.keys c.shift_remove.ensures.keys c.shift_remove.ensures.updates.1
    ∙ ap (filter (λ (f : Fact). not (is_unique_of r f))) c.self.view_is

pub returns-else-has_unique : goal.returns-else-has_unique
returns-else-has_unique c =
    let facts = c.self.view_is in
    let none = not_shared c.self.inside.shields.keys c.self.inside.may_load c.self.inside.may_part c.self.inside.facts.keys c.self.invariant.1 c.args.register.now (search rules) in
    sym (sym (ap (killed (kill.Unique c.args.register.now)) facts) ∙ none ∙ facts)
