use Rattle.std.proofs.Common.{◌≡◌, ◌++◌, drop}
use Rattle.crell_program.specs.CrellAnswers.Answer.{path_text}
use Rattle.crell_program.proofs.crell_answers.faults.push_path.Given as goal

-- what is written and the names that are left make up the whole
abbrev pub invariant-loop-name : goal.invariant-loop-name
invariant-loop-name l = l.text.items ++ path_text (drop l.name-index l.names) ≡ l.initial.text.items ++ path_text l.names
