use Rattle.std.proofs.Common.{◌∙◌, sym}
use Rattle.ir_typing.proofs.ShapeKinds.Types.{put_new, put_there}
use Rattle.ir_typing.proofs.ShapeKinds.Entries.{puts}
use Rattle.ir_typing.proofs.shape_kinds.held_types.put_many.Goals as goal

pub returns-in-None-clause-types : goal.returns-in-None-clause-types
returns-in-None-clause-types c =
    put_new c.args.types.now.entries c.insert.new.self.entries c.args.name c.args.ty (sym c.in_ok-insert.ensures.old ∙ c.in-None.is) (puts c.args.types.now c.insert.new.self c.args.name c.args.ty c.in_ok-insert.ensures.updates)

pub returns-in_ok-insert-in-Some-clause-types : goal.returns-in_ok-insert-in-Some-clause-types
returns-in_ok-insert-in-Some-clause-types c =
    put_there c.args.types.now.entries c.insert.new.self.entries c.insert-in-Some.new.self.entries c.args.name c.args.ty _ (sym c.in_ok-insert.ensures.old ∙ c.in-Some.is)
    (puts c.args.types.now c.insert.new.self c.args.name c.args.ty c.in_ok-insert.ensures.updates) (puts c.insert.new.self c.insert-in-Some.new.self c.args.name c.in-Some.first c.in_ok-insert-in-Some.ensures.updates)
