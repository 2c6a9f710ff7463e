use Rattle.ir_shape.proofs.ShapeLaws.Shapely.{faultless_functions_have_shape, shapely_functions_are_faultless}
use Rattle.ir_shape.proofs.shape_laws.laws.functions_have_shape_or_a_fault.Goals as goal

pub returns-clause-faultless : goal.returns-clause-faultless
returns-clause-faultless c = faultless_functions_have_shape

pub returns-clause-shapely : goal.returns-clause-shapely
returns-clause-shapely c = shapely_functions_are_faultless
