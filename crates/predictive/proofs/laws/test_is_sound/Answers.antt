use Rattle.predictive.proofs.ByTest.{by_test}
use Rattle.predictive.proofs.laws.test_is_sound.Goals as goal

pub returns : goal.returns
returns c = by_test
