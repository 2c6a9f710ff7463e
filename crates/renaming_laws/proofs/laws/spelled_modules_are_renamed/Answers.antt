use Rattle.ir_rename.specs.Named.{named_all}
use Rattle.ir_rename.specs.Numbered.{numbered_in_order}
use Rattle.renaming_laws.proofs.Whole.{spelled_again}
use Rattle.renaming_laws.proofs.laws.spelled_modules_are_renamed.Goals as goal

pub returns-clause-named : goal.returns-clause-named
returns-clause-named c =
    spelled_again named_all c.named_modules_can_be_run.ensures.read c.spelled_modules_are_in_range.ensures c.spelled_modules_are_within.ensures

pub returns-clause-numbered : goal.returns-clause-numbered
returns-clause-numbered c =
    spelled_again numbered_in_order c.numbered_modules_can_be_run.ensures.read c.spelled_modules_are_in_range.ensures c.spelled_modules_are_within.ensures
