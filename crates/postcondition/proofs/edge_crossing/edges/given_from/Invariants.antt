use Rattle.std.proofs.Common.{drop}
use Rattle.postcondition.proofs.EdgeCrossing.Sharing.{AreGivenWith}
use Rattle.postcondition.proofs.edge_crossing.edges.given_from.Given as goal

abbrev pub invariant-loop-phi : goal.invariant-loop-phi
invariant-loop-phi l = AreGivenWith l.from l.phis l.given (drop l.phi-index l.phis)
