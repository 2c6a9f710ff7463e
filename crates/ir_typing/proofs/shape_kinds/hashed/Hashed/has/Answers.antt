use Rattle.std.proofs.Common.{◌∙◌, ap}
use Rattle.std.specs.Option.{is_some}
use Rattle.ir_typing.proofs.ShapeKinds.Taken.{there_is}
use Rattle.ir_typing.proofs.shape_kinds.hashed.Hashed.has.Goals as goal

pub returns : goal.returns
returns c = c.is_some.ensures ∙ ap is_some c.position.ensures ∙ there_is c.args.name.now c.args.self.now
