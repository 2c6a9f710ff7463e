use Rattle.crell_program.proofs.Inner.{fault_listed, fault_spelled, listing_judged, one_spelled}
use Rattle.crell_program.proofs.program.list_text.Goals as goal

pub returns-in-Ok-clause-due : goal.returns-in-Ok-clause-due
returns-in-Ok-clause-due c =
    listing_judged c.args.listing c.args.file.now c.args.text.now c.listed.result c.in-Ok.module (c.in-Ok.ensures.spelled, c.in-Ok.ensures.only) c.listed.ensures

pub returns-in-Ok-clause-spelled : goal.returns-in-Ok-clause-spelled
returns-in-Ok-clause-spelled c =
    one_spelled c.args.listing c.args.file.now c.args.text.now c.listed.result c.in-Ok.module (c.in-Ok.ensures.spelled, c.in-Ok.ensures.only) c.listed.ensures

pub returns-in-Err-clause-due : goal.returns-in-Err-clause-due
returns-in-Err-clause-due c =
    fault_listed c.args.listing c.args.file.now c.args.text.now c.in-Err.fault c.in-Err.ensures.fault c.module_fault.result c.module_fault.ensures.said c.module_fault.ensures.answer

pub returns-in-Err-clause-spelled : goal.returns-in-Err-clause-spelled
returns-in-Err-clause-spelled c =
    fault_spelled c.args.file.now c.args.text.now c.in-Err.fault c.module_fault.result c.module_fault.ensures.answer
