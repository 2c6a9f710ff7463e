use Rattle.std.proofs.Common.{rules}
use Rattle.crell_program.proofs.crell_answers.answer.unfit.Goals as goal

pub returns : goal.returns
returns c = search rules
