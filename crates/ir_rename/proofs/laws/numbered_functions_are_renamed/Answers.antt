use Rattle.ir_rename.proofs.Numberings.{numbered_is_in_order, numbering_renames, order_stays}
use Rattle.ir_rename.proofs.laws.numbered_functions_are_renamed.Goals as goal

pub returns-clause-renamed : goal.returns-clause-renamed
returns-clause-renamed c = numbering_renames

pub returns-clause-ordered : goal.returns-clause-ordered
returns-clause-ordered c = numbered_is_in_order

pub returns-clause-kept : goal.returns-clause-kept
returns-clause-kept c = order_stays
