use Rattle.std.proofs.Common.{◌≡◌, drop}
use Rattle.ir_types.specs.Same.{same_list}
use Rattle.erhl_checker.specs.Alike.{blocks_alike}
use Rattle.erhl_checker.proofs.alike.all_blocks_alike.Given as goal

abbrev pub invariant-loop-b : goal.invariant-loop-b
invariant-loop-b l = same_list blocks_alike (drop l.b-index l.source) l.rest ≡ same_list blocks_alike l.source l.target
