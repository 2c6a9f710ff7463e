use Rattle.std.proofs.Common.{◌≡◌, Bool, IfOk, not, subst}
use Rattle.ir_typing.specs.ShapeKinds.Kept.{type_in}
use Rattle.ir_typing.proofs.ShapeKinds.Types.{there_is}
use Rattle.ir_typing.proofs.shape_kinds.lent_types.LentTypes.put_first.Goals as goal

pub returns-clause-new : goal.returns-clause-new
returns-clause-new c =
    subst (λ (there : Bool). IfOk c.put.result (λ new. new ≡ not there)) (there_is c.args.self.now c.args.name.now) c.put.ensures.new

pub returns-clause-types : goal.returns-clause-types
unfolding type_in
returns-clause-types c = c.put.ensures.types
