use Rattle.std.proofs.Common.{◌≡◌, map, take, drop}
use Rattle.erhl_checker.specs.HintLists.{diff_of, AreNumbered}
use Rattle.erhl_checker.proofs.hint_lists.list_all.Given as goal

abbrev pub invariant-loop-block : goal.invariant-loop-block
invariant-loop-block l = (l.listed.items ≡ take l.block-index l.blocks) × AreNumbered l.lists l.rest (map diff_of (drop l.block-index l.blocks))
