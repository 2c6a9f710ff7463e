use Rattle.std.proofs.Common.{rules}
use Rattle.ir_core.specs.declared.expressions.Reg.TheVariants.{Now}
use Rattle.ir_core.specs.Expressions.{map_atom}
use Rattle.fact_sets.specs.Near.{found_under}
use Rattle.fact_sets.proofs.ErhlSides.Joining.{all_near}
use Rattle.fact_sets.proofs.erhl_sides.joined.Joined.near.Goals as goal

pub returns-then-self : goal.returns-then-self
returns-then-self g c =
    all_near c.self.inside.is_whole c.self.inside.near (found_under (map_atom Now c.args.atom.now)) c.near.result.now (g.S.FactSet.contents c.self.inside.facts) c.args.self.now
    c.self.invariant.1.0 (search rules) c.near.ensures (search rules)
