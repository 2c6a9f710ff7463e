use Rattle.predictive.specs.GrammarDecides.Selects.{unambiguous}
use Rattle.predictive.proofs.laws.is_unambiguous.Goals as goal

pub returns : goal.returns
returns c = unambiguous
