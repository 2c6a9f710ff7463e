use Rattle.fact_sets.proofs.erhl_sides.sides.Sides.first_missing.Goals as goal

pub returns : goal.returns
returns g c = c.first_absent.ensures
