use Rattle.derivation_writer.proofs.ReadMarks.Whole.{run_stopped}
use Rattle.derivation_writer.proofs.read_marks.reader.run.Goals as goal

pub returns-in-Err : goal.returns-in-Err
returns-in-Err c =
    run_stopped c.args.start c.args.kinds.now c.in_ok-stop.field-0 c.in-Err.stop c.in-Err.is c.in_ok-stop.ensures c.unread_by.result c.unread_by.ensures
