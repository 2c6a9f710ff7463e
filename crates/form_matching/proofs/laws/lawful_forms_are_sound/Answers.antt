use Rattle.form_matching.proofs.Lifting.{lawful_is_sound}
use Rattle.form_matching.proofs.laws.lawful_forms_are_sound.Goals as goal

pub returns : goal.returns
returns c = lawful_is_sound
