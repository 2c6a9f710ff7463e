use Rattle.std.proofs.Common.{rules}
use Rattle.ir_core.specs.declared.functions.Phi.{Phi}
use Rattle.whole_shapes.proofs.Sighted.{typed_there}
use Rattle.whole_shapes.proofs.sight.is_phi.Goals as goal

pub returns-then-same_name : goal.returns-then-same_name
returns-then-same_name c said =
    typed_there (λ (p : Phi). (p.name, p.ty)) c.args.phis.now c.args.place c.in-Some.phi.now c.args.name.now c.args.ty.now (search rules) (search rules) (search rules) (search rules)
