use Rattle.std.proofs.Common.{◌∙◌, sym}
use Rattle.ir_shape.proofs.ShapeTests.Counted.{first_again, first_new}
use Rattle.ir_typing.proofs.ShapeKinds.Entries.{puts}
use Rattle.ir_shape.proofs.shape_tests.counts.Firsts.meet.Goals as goal

pub returns-in-None-clause-kept : goal.returns-in-None-clause-kept
returns-in-None-clause-kept c = λ yes.
    first_new c.args.self.now (record { of = c.insert.new.self }) c.args.name c.args.value (sym c.in_ok-insert.ensures.old ∙ c.in-None.is) (puts c.args.self.now.of c.insert.new.self c.args.name c.args.value c.in_ok-insert.ensures.updates)

pub returns-in-Some-clause-kept : goal.returns-in-Some-clause-kept
returns-in-Some-clause-kept c = λ yes.
    first_again c.args.self.now (record { of = c.insert.new.self }) c.args.name c.args.value c.in-Some.first (sym c.in_ok-insert.ensures.old ∙ c.in-Some.is)
    (sym c.same_name_atom.ensures ∙ yes) (puts c.args.self.now.of c.insert.new.self c.args.name c.args.value c.in_ok-insert.ensures.updates)
