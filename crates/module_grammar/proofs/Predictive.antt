-- One token ahead decides each choice of the grammar of tokens, by the computed test.
use Rattle.std.proofs.Common.{refl}
use Rattle.module_grammar.specs.Sets.{listing, sets}
use Rattle.module_grammar.specs.Tokens.{token_grammar}
use Rattle.predictive.proofs.ByTest.{by_test}
use Rattle.predictive.specs.Predictive.{IsPredictive}

pub is_predictive : IsPredictive token_grammar sets
is_predictive = by_test listing refl
