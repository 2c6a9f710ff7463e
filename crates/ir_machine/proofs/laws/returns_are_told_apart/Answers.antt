use Rattle.ir_machine.proofs.Refining.{poison_is_no_number, wrong_is_refined, arguments_are_seen}
use Rattle.ir_machine.proofs.laws.returns_are_told_apart.Goals as goal

pub returns-clause-poison : goal.returns-clause-poison
returns-clause-poison c = poison_is_no_number

pub returns-clause-wrong : goal.returns-clause-wrong
returns-clause-wrong c = wrong_is_refined

pub returns-clause-argument : goal.returns-clause-argument
returns-clause-argument c = arguments_are_seen
