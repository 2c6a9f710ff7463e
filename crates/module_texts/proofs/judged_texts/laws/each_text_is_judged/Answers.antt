-- Each step is decided, and the laws say what follows where nothing is at fault.
use Rattle.module_texts.proofs.JudgedTexts.Judging.{judged}
use Rattle.module_texts.proofs.judged_texts.laws.each_text_is_judged.Goals as goal

pub returns : goal.returns
returns c = judged (record {
  called_once = c.written_once.ensures.called;
  declared_once = c.written_once.ensures.declared;
  marks = c.marks_the_first.ensures;
  named = c.faultless_trees_name_what_is_built.ensures;
  short = c.within_trees_are_short.ensures;
  called = c.called_names_stand.ensures;
  declared = c.declared_names_stand.ensures;
  rest = c.names_rest_on_these_alone.ensures;
})
