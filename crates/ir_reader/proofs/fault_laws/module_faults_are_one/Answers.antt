use Rattle.module_spelling.specs.Spells.{Spells}
use Rattle.module_texts.specs.Texts.{IsTextFault}
use Rattle.ir_reader.proofs.OneFault.{alike_is_same, as_fault, one_fault}
use Rattle.ir_reader.proofs.fault_laws.module_faults_are_one.Goals as goal

pub returns : goal.returns
returns c bytes f g short p q =
    one_fault (IsTextFault bytes) (Spells bytes)
    (λ a b is too. alike_is_same a b (c.faults_are_one.ensures bytes a b is too))
    (λ a m is spells. c.faults_and_spelling_exclude.ensures bytes a m short is spells)
    (c.texts_spell_one.ensures bytes)
    c.faultless_modules_have_shape.ensures c.shape_knows_labels.ensures c.first_undefined_is_one.ensures
    f g (as_fault bytes f p.0 p.1) (as_fault bytes g q.0 q.1)
