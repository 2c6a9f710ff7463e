use Rattle.form_matching.proofs.Exact.{fits_instance, instance_fits}
use Rattle.form_matching.proofs.laws.forms_are_matched_exactly.Goals as goal

pub returns-clause-instances : goal.returns-clause-instances
returns-clause-instances c = fits_instance

pub returns-clause-all : goal.returns-clause-all
returns-clause-all c = instance_fits
