use Rattle.std.proofs.Common.{◌≡◌, ◌++◌, drop, map}
use Rattle.ir_core.specs.declared.functions.Phi.{Phi}
use Rattle.postcondition.proofs.block_phis.phis.names_of.Given as goal

abbrev pub invariant-loop-phi : goal.invariant-loop-phi
invariant-loop-phi l = l.names ++ map (λ (p : Phi). p.name) (drop l.phi-index l.phis) ≡ map (λ (p : Phi). p.name) l.phis
