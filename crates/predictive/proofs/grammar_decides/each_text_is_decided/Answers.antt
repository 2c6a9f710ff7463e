use Rattle.predictive.specs.GrammarDecides.Decision.{decided}
use Rattle.predictive.proofs.grammar_decides.each_text_is_decided.Goals as goal

pub returns : goal.returns
returns c = decided
