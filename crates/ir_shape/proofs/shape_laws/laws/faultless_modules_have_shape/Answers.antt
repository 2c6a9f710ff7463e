use Rattle.ir_shape.proofs.ShapeLaws.Shapely.{faultless_modules_have_shape}
use Rattle.ir_shape.proofs.shape_laws.laws.faultless_modules_have_shape.Goals as goal

pub returns : goal.returns
returns c = faultless_modules_have_shape
