use Rattle.crell_program.proofs.Inner.{refined, refined_modules}
use Rattle.crell_program.proofs.laws.refinement_is_of_modules.Goals as goal

pub returns : goal.returns
returns c source target s t sp tp = (refined_modules source target s t sp tp, refined source target s t sp tp)
