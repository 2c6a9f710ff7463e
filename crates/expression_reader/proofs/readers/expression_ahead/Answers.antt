-- What is noted of a second walk from the same place.
use Rattle.std.proofs.Common.{None, ap, ◌∙◌}
use Rattle.derivation_cursor.specs.At.{ahead_of}
use Rattle.derivation_cursor.specs.declared.cursor.Cursor.{Cursor}
use Rattle.expression_reader.proofs.Spelled.{fault_by, spelled_by}
use Rattle.expression_reader.proofs.readers.expression_ahead.Goals as goal
use Rattle.expression_reader.specs.Ranges.{range_faults}
use Rattle.fault_walk.specs.Told.{noted}
use Rattle.module_derivations.specs.Empty.{made}

pub returns-in-None-clause-spelled : goal.returns-in-None-clause-spelled
returns-in-None-clause-spelled c =
    spelled_by c.noted_faults_come_first.ensures.none c.args.c.text.now (made (ahead_of c.args.c)).expr c.in_ok-first_of_ranges.field-0
    c.in_ok-read_expression-in-None.field-0 c.requires
    (c.in_ok-first_of_ranges.ensures ∙ ap (λ (k : Cursor). noted (range_faults (made (ahead_of k)).expr) None) c.fork.ensures)
    c.in-None.is c.in_ok-read_expression-in-None.ensures.built

pub returns-clause-fault : goal.returns-clause-fault
returns-clause-fault c =
    fault_by c.noted_faults_come_first.ensures.first c.args.c.text.now (made (ahead_of c.args.c)).expr c.in_ok-first_of_ranges.field-0 c.in-Some.fault
    c.requires
    (c.in_ok-first_of_ranges.ensures ∙ ap (λ (k : Cursor). noted (range_faults (made (ahead_of k)).expr) None) c.fork.ensures)
    c.in-Some.is
