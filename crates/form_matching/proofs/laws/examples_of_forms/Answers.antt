use Rattle.form_matching.proofs.Examples.{forms_take_these}
use Rattle.form_matching.proofs.laws.examples_of_forms.Goals as goal

pub returns : goal.returns
returns c = forms_take_these
