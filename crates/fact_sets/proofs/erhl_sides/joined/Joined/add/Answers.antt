use Rattle.std.proofs.Common.{true, false, refl}
use Rattle.fact_sets.proofs.ErhlSides.Joining.{all_told, more_unique, nothing_near, one_told, one_near, one_unique}
use Rattle.fact_sets.proofs.erhl_sides.joined.Joined.add.Goals as goal

pub invariant_of-self-2 : goal.invariant_of-self-2
invariant_of-self-2 g c =
    let before = g.S.FactSet.contents c.self.inside.facts in
    let after = g.S.FactSet.contents c.add.new.self in (
      one_told c.may_join_with-may_join.result c.self.inside.is_whole c.self.inside.may_join c.args.fact before after c.self.invariant.0 c.may_join_with-may_join.ensures c.in_ok-add.ensures.ok,
      (
        one_near c.self.inside.is_whole c.self.inside.near c.keep_near.new.near c.args.fact before after c.self.invariant.1.0 c.in_ok-keep_near.ensures c.in_ok-add.ensures.ok,
        one_unique c.may_be_unique_with-self-inside.result c.self.inside.may_be_unique c.args.fact before after c.self.invariant.1.1 c.may_be_unique_with-self-inside.ensures c.in_ok-add.ensures.ok,
      ),
    )

pub invariant_of-self : goal.invariant_of-self
invariant_of-self g c =
    let before = g.S.FactSet.contents c.self.inside.facts in (
      all_told true false before refl refl,
      (
        nothing_near false c.keep_near.new.near before refl,
        more_unique c.may_be_unique_with-self-inside.result c.self.inside.may_be_unique c.args.fact before before c.self.invariant.1.1 c.may_be_unique_with-self-inside.ensures refl,
      ),
    )

pub invariant_of-self-in_err-add : goal.invariant_of-self-in_err-add
invariant_of-self-in_err-add g c =
    let before = g.S.FactSet.contents c.self.inside.facts in
    let after = g.S.FactSet.contents c.add.new.self in (
      all_told true false after refl refl,
      (
        nothing_near false c.keep_near.new.near after refl,
        more_unique c.may_be_unique_with-self-inside.result c.self.inside.may_be_unique c.args.fact before after c.self.invariant.1.1 c.may_be_unique_with-self-inside.ensures c.in_err-add.ensures.err,
      ),
    )
