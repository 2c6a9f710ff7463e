use Rattle.std.proofs.Common.{◌∙◌, ap, sym}
use Rattle.erhl_assert.specs.declared.fact_set.Kill.{Kill}
use Rattle.erhl_assert.specs.Kills.{killed}
use Rattle.fact_sets.proofs.Shielding.{called_asks}
use Rattle.fact_sets.proofs.indexed_set.IndexedSetFactSet.kill.Goals as goal

pub returns-in-Stored : goal.returns-in-Stored
returns-in-Stored c = c.store.ensures ∙ ap (λ (k : Kill). killed k c.args.self.now) (sym c.in-Stored.is)

pub returns-in-Called : goal.returns-in-Called
returns-in-Called c = c.change.ensures ∙ called_asks c.args.self.now ∙ ap (λ (k : Kill). killed k c.args.self.now) (sym c.in-Called.is)
