use Rattle.renaming_laws.proofs.Texts.{of_text}
use Rattle.renaming_laws.proofs.judging.texts_are_judged.Goals as goal

pub returns : goal.returns
returns c bytes are_bytes =
    of_text c.shape_knows_labels.ensures c.undefined_uses_are_faults.ensures c.functions_are_judged.ensures c.faultless_modules_have_shape.ensures
    c.spelled_modules_are_in_range.ensures c.spelled_modules_are_within.ensures c.each_text_is_judged.ensures bytes are_bytes
