use Rattle.std.proofs.Common.{refl}
use Rattle.form_matching.proofs.letters.within_arms.Goals as goal

pub returns : goal.returns
returns g c = rw (c.at-2.ensures, c.at.ensures, c.at-letters.ensures, c.at_type-letters.ensures) refl
