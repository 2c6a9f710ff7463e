use Rattle.definedness.specs.DefinitionLists.Examples.{circle, diamond, loop, unreached}
use Rattle.ir_core.specs.FlowExamples.{one_arm}
use Rattle.definedness.proofs.DefinitionLists.Listing.{lists_are}
use Rattle.definedness.proofs.definition_lists.laws.examples_of_definitions.Goals as goal

pub returns : goal.returns
returns c = record {
  one_arm = lists_are one_arm;
  diamond = lists_are diamond;
  loop = lists_are loop;
  unreached = lists_are unreached;
  circle = lists_are circle;
}
