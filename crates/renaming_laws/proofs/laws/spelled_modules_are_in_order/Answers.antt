-- The definition of what is spelled says it, list by list.
use Rattle.printed_modules.proofs.InOrder.{spelled_in_order}
use Rattle.renaming_laws.proofs.laws.spelled_modules_are_in_order.Goals as goal

pub returns : goal.returns
returns c = spelled_in_order
