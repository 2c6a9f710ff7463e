-- One token ahead decides each choice of the grammar.
use Rattle.module_grammar.proofs.Predictive.{is_predictive}
use Rattle.module_grammar.specs.Sets.{sets}
use Rattle.module_grammar.specs.Tokens.{token_grammar}
use Rattle.predictive.specs.Predictive.{IsPredictive}

pub lawful : IsPredictive token_grammar sets
lawful = is_predictive
