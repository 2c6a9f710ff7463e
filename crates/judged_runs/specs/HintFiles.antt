-- Each hint file is of its form, or something is first at fault in it.
use Rattle.std.specs.Prelude.{◌⊎◌, ℕ, List}
use Rattle.json_forms.specs.declared.failure.Fault.{Fault}
use Rattle.hint_format.specs.Form.{HintsOf, IsHintFault}
use Rattle.erhl_assert.specs.declared.hints.Hints.{Hints}

-- `{"format":1,"functions":{}}` is the text of hints; `{"format":1}` is itself at fault
abbrev pub HintFilesAreJudged : Type 0
HintFilesAreJudged = (bytes : List ℕ) → ((h : Hints) × HintsOf bytes h) ⊎ ((f : Fault) × IsHintFault bytes f)
