use Rattle.renaming_laws.proofs.FirstWays.{ways_have_a_first}
use Rattle.renaming_laws.proofs.judging.ways_have_a_first.Goals as goal

pub returns : goal.returns
returns c g closed to = ways_have_a_first g closed to
