use Rattle.ir_reader.proofs.Agree.{kinds, no_module}
use Rattle.ir_reader.proofs.fault_laws.first_faults_agree.Goals as goal

pub returns-clause-kinds : goal.returns-clause-kinds
returns-clause-kinds c bytes f g short p q =
    kinds c.faults_and_spelling_exclude.ensures c.faults_are_one.ensures c.texts_spell_one.ensures c.modules_with_shape_are_faultless.ensures bytes short f g p.0 p.1 q.0 q.1

pub returns-clause-spelled : goal.returns-clause-spelled
returns-clause-spelled c bytes f m short p s =
    no_module c.faults_and_spelling_exclude.ensures c.faults_are_one.ensures c.texts_spell_one.ensures c.modules_with_shape_are_faultless.ensures bytes short f m p.0 p.1 s
