use Rattle.std.proofs.Common.{◌≡◌, List, subst, sym, rules, false}
use Rattle.ir_types.specs.declared.names.Name.{Name}
use Rattle.erhl_assert.specs.declared.facts.Fact.{Fact}
use Rattle.erhl_assert.specs.Facts.{fact_names, with_fact}
use Rattle.fact_sets.specs.Names.{IsIndexed, with_named}
use Rattle.fact_sets.specs.Shields.{shields}
use Rattle.fact_sets.proofs.RegisterNames.{fact_indexed}
use Rattle.fact_sets.proofs.Shielding.{with_other, with_shield}
use Rattle.fact_sets.proofs.indexed_set.IndexedSetFactSet.add.Goals as goal

one_indexed : (few many : List Name) (f : Fact) (fs gs : List Fact) → IsIndexed fact_names few fs → many ≡ with_named f few → gs ≡ with_fact f fs → IsIndexed fact_names many gs
one_indexed few many f fs gs indexed names facts =
    subst (λ ns. IsIndexed fact_names ns gs) (sym names) (subst (λ hs. IsIndexed fact_names (with_named f few) hs) (sym facts) (fact_indexed few fs f indexed))

pub invariant_of-self-then-shields : goal.invariant_of-self-then-shields
invariant_of-self-then-shields c =
    let before = c.self.inside.facts.keys in
    let after = c.add_shield.new.facts.keys in (
      one_indexed c.self.inside.named.keys c.add_named.new.names.keys c.args.fact before after c.self.invariant.0 c.in_ok-add_named.ensures.ok c.in_ok-add_shield.ensures.ok,
      with_shield c.self.inside.shields.keys c.self.inside.may_load c.may_load_with-self-inside.result c.self.inside.may_part c.may_part_with-self-inside.result c.args.fact before after
          c.self.invariant.1 c.may_load_with-self-inside.ensures c.may_part_with-self-inside.ensures c.add_shield.new.some.keys c.in_ok-add_shield.ensures.all c.in_ok-add_shield.ensures.ok,
    )

pub invariant_of-self-2 : goal.invariant_of-self-2
invariant_of-self-2 c =
    let before = c.self.inside.facts.keys in
    let after = c.insert.new.self.keys in
    let other : shields c.args.fact ≡ false = search rules in (
      one_indexed c.self.inside.named.keys c.add_named.new.names.keys c.args.fact before after c.self.invariant.0 c.in_ok-add_named.ensures.ok c.in_ok-insert.ensures.keys,
      with_other c.self.inside.shields.keys c.self.inside.may_load c.may_load_with-self-inside.result c.self.inside.may_part c.may_part_with-self-inside.result c.args.fact before after
          c.self.invariant.1 c.may_load_with-self-inside.ensures c.may_part_with-self-inside.ensures other c.in_ok-insert.ensures.keys,
    )
