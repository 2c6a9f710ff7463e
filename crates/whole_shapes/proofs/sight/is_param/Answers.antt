use Rattle.std.proofs.Common.{rules}
use Rattle.ir_core.specs.declared.functions.Param.{Param}
use Rattle.whole_shapes.proofs.Sighted.{typed_there}
use Rattle.whole_shapes.proofs.sight.is_param.Goals as goal

pub returns-then-same_name : goal.returns-then-same_name
returns-then-same_name c said =
    typed_there (λ (p : Param). (p.name, p.ty)) c.args.params.now c.args.place c.in-Some.param.now c.args.name.now c.args.ty.now (search rules) (search rules) (search rules) (search rules)
