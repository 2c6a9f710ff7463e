use Rattle.ir_shape.proofs.ShapeLaws.StatedExamples.{stated_types}
use Rattle.ir_shape.proofs.ShapeLaws.TypeExamples.{named_types}
use Rattle.ir_shape.proofs.shape_laws.laws.examples_of_type_faults.Goals as goal

pub returns-clause-named : goal.returns-clause-named
returns-clause-named c = named_types

pub returns-clause-stated : goal.returns-clause-stated
returns-clause-stated c = stated_types
