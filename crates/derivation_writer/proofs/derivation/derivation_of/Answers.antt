use Rattle.derivation_writer.proofs.Derived.{derived, run_said, stopped}
use Rattle.derivation_writer.proofs.derivation.derivation_of.Goals as goal

pub returns-in-Some : goal.returns-in-Some
returns-in-Some c =
    stopped c.args.start c.args.kinds.now _ c.stop_by.result c.in-Some.stop c.in-Some.is
    (run_said c.args.start c.requires.may_end c.requires.other c.args.kinds.now c.new-reading.result c.parse.new.actions c.new-reading.ensures
    c.limit.result c.limit.ensures c.in_ok-fault.fault c.in_ok-fault.ensures.answer c.in_ok-fault.ensures.mark c.stop_by.result c.stop_by.ensures)

pub returns-in-None : goal.returns-in-None
returns-in-None c =
    derived c.args.start c.args.kinds.now c.parse.new.actions.writer _ c.stop_by.result c.in-None.is
    (run_said c.args.start c.requires.may_end c.requires.other c.args.kinds.now c.new-reading.result c.parse.new.actions c.new-reading.ensures
    c.limit.result c.limit.ensures c.in_ok-fault.fault c.in_ok-fault.ensures.answer c.in_ok-fault.ensures.mark c.stop_by.result c.stop_by.ensures)
    c.into_numbers.result c.into_numbers.ensures
