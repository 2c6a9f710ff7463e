use Rattle.std.proofs.Common.{◌∙◌, ap, rules, sym}
use Rattle.std.proofs.lemmas.List.{length-map}
use Rattle.ir_core.specs.NameIndexes.Among.{is_among}
use Rattle.ir_typing.proofs.ShapeKinds.Entries.{puts}
use Rattle.ir_typing.proofs.ShapeKinds.Taken.{taken}
use Rattle.ir_typing.proofs.shape_kinds.hashed.Hashed.take.Goals as goal

pub invariant_of-self-in-Ok : goal.invariant_of-self-in-Ok
invariant_of-self-in-Ok c =
    taken c.self.inside.places.entries c.insert.new.self.entries c.self.inside.names.items c.push.new.self.items c.args.name c.len-place.result c.self.invariant
    (ap (is_among c.args.name.now) c.self.view_is ∙ sym c.has.ensures ∙ c.if-has.false) (search rules) c.in_ok-push.ensures.items (puts c.self.inside.places c.insert.new.self c.args.name c.len-place.result c.in-Ok.ensures.updates)
