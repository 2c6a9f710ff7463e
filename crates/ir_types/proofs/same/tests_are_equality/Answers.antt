use Rattle.ir_types.proofs.SameLaws as law
use Rattle.ir_types.proofs.same.tests_are_equality.Goals as goal

pub returns-clause-names : goal.returns-clause-names
returns-clause-names c = law.equality _ law.same_name_true law.same_name_refl

pub returns-clause-types : goal.returns-clause-types
returns-clause-types c = law.equality _ law.same_ty_true law.same_ty_refl
