use Rattle.std.proofs.Common.{◌≡◌, ◌++◌, drop}
use Rattle.postcondition.proofs.block_phis.phis.indexed.Given as goal

abbrev pub invariant-loop-phi : goal.invariant-loop-phi
invariant-loop-phi l = l.found.items ++ drop l.phi-index l.phis ≡ l.phis
