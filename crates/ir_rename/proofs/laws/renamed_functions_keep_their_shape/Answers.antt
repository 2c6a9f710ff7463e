use Rattle.ir_rename.proofs.Defines.{keeps_defined}
use Rattle.ir_rename.proofs.Shapes.{keeps_shape}
use Rattle.ir_rename.proofs.laws.renamed_functions_keep_their_shape.Goals as goal

pub returns-clause-shape : goal.returns-clause-shape
returns-clause-shape c = keeps_shape

pub returns-clause-defined : goal.returns-clause-defined
returns-clause-defined c = keeps_defined
