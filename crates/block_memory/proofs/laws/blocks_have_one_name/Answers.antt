use Rattle.block_memory.proofs.NamesShown.{pointers_are_shown_again}
use Rattle.block_memory.proofs.laws.blocks_have_one_name.Goals as goal

pub returns-clause-again : goal.returns-clause-again
returns-clause-again c = pointers_are_shown_again
