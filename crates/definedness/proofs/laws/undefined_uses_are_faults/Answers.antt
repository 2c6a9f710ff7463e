use Rattle.definedness.proofs.NotDefined.{undefined_uses_are_faults}
use Rattle.definedness.proofs.laws.undefined_uses_are_faults.Goals as goal

pub returns : goal.returns
returns c m f u shape is defined = undefined_uses_are_faults m f u shape is defined
