-- What is noted of a second walk from the same place.
use Rattle.std.proofs.Common.{None, ap, ◌∙◌}
use Rattle.derivation_cursor.specs.At.{ahead_of}
use Rattle.derivation_cursor.specs.declared.cursor.Cursor.{Cursor}
use Rattle.expression_reader.proofs.Spelled.{count_fault_by}
use Rattle.expression_reader.proofs.readers.type_ahead.Goals as goal
use Rattle.expression_reader.specs.Types.{count_faults}
use Rattle.fault_walk.specs.Told.{noted}
use Rattle.module_derivations.specs.Types.{any_type}

pub returns-clause-fault : goal.returns-clause-fault
returns-clause-fault c =
    count_fault_by c.noted_faults_come_first.ensures.first c.args.c.text.now (any_type (ahead_of c.args.c)) c.in_ok-first_of_counts.field-0 c.in-Some.fault
    c.requires
    (c.in_ok-first_of_counts.ensures ∙ ap (λ (k : Cursor). noted (count_faults (any_type (ahead_of k))) None) c.fork.ensures)
    c.in-Some.is
