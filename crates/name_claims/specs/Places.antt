-- Words of private functions: how the first definition of a name is found.
use Rattle.std.specs.Prelude.{List}
use Rattle.name_claims.specs.declared.claims.Definition.{Definition}
use Rattle.name_claims.specs.declared.places.Places.{Places}
use Rattle.name_claims.specs.declared.places.Places.TheVariants as by
use Rattle.name_claims.specs.Indexes.{Indexes}

-- a walk finds it in any definitions, an index in those that it is of
abbrev pub Tells : Places → List Definition → Type 0
Tells by.Walk ds = Unit {0}
Tells (by.Index index) ds = Indexes index ds
