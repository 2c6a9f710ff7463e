use Rattle.definedness.proofs.OneFirst.{first_undefined_is_one}
use Rattle.definedness.proofs.laws.first_undefined_is_one.Goals as goal

pub returns : goal.returns
returns c f u v known this that = first_undefined_is_one f u v known this that
