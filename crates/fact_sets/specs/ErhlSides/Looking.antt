-- Words of private functions. The facts that are looked at.
use Rattle.std.specs.Prelude.{Bool, true, false, List}
use Rattle.erhl_assert.specs.declared.facts.Fact.{Fact}
use Rattle.erhl_assert.specs.Facts.{without}
use Rattle.erhl_assert.specs.Edges.{is_old}

-- all, or those that name no old register
abbrev pub looked_at : Bool → List Fact → List Fact
looked_at true fs = without is_old fs
looked_at false fs = fs
