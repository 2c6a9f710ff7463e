-- The reader's own leaves are such as the form wants.
use Rattle.std.proofs.Common.{sym, ◌∙◌}
use Rattle.hint_format.proofs.Readings.{read_by_leaves, no_other_hints, no_hints, fault_held}
use Rattle.hint_format.proofs.hints.read_hints.Goals as goal

pub returns-in-Ok-clause-ok : goal.returns-in-Ok-clause-ok
returns-in-Ok-clause-ok c = read_by_leaves c.args.text.now _ c.in-Ok.ensures

pub returns-in-Ok-clause-only : goal.returns-in-Ok-clause-only
returns-in-Ok-clause-only c = λ other is. no_other_hints c.args.text.now c.in-Ok.hints other (read_by_leaves c.args.text.now _ c.in-Ok.ensures) is

pub returns-in-Err-clause-fault : goal.returns-in-Err-clause-fault
returns-in-Err-clause-fault c = λ fault told. fault_held c.args.text.now c.in-Err.failure c.in-Err.ensures fault (sym c.hint_fault.ensures ∙ told)

pub returns-in-Err-clause-refused : goal.returns-in-Err-clause-refused
returns-in-Err-clause-refused c = λ fault told hints is.
    no_hints c.args.text.now fault hints (fault_held c.args.text.now c.in-Err.failure c.in-Err.ensures fault (sym c.hint_fault.ensures ∙ told)) is
