use Rattle.std.proofs.Common.{map, take}
use Rattle.erhl_checker.specs.HintLists.{diff_of, AreNumbered}
use Rattle.erhl_checker.proofs.hint_lists.HintLists.of.Given as goal

abbrev pub invariant-loop-block : goal.invariant-loop-block
invariant-loop-block l = AreNumbered l.lists.items l.numbers.items (map diff_of (take l.block-index l.blocks))
