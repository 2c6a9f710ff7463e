use Rattle.std.proofs.Common.{arith}
use Rattle.std.proofs.lemmas.Grind.{common_steps}
use Rattle.ir_shape.proofs.modules.count_before.Goals as goal

pub returns-then-declarations-i-clause-them : goal.returns-then-declarations-i-clause-them
returns-then-declarations-i-clause-them c = grind (arith, common_steps)

pub returns-then-declarations-i-clause-rest : goal.returns-then-declarations-i-clause-rest
returns-then-declarations-i-clause-rest c = grind (arith, common_steps)
