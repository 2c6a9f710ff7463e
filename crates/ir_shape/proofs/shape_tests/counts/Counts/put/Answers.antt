use Rattle.std.proofs.Common.{◌∙◌, ◌+◌, sym}
use Rattle.ir_shape.proofs.ShapeTests.Counted.{put_again, put_first}
use Rattle.ir_typing.proofs.ShapeKinds.Entries.{puts}
use Rattle.ir_shape.proofs.shape_tests.counts.Counts.put.Goals as goal

pub returns-in-None : goal.returns-in-None
returns-in-None c = put_first c.args.self.now (record { of = c.insert.new.self }) c.args.name (sym c.in_ok-insert.ensures.old ∙ c.in-None.is) (puts c.args.self.now.of c.insert.new.self c.args.name 1 c.in_ok-insert.ensures.updates)

pub returns-in_ok-insert-in-Some : goal.returns-in_ok-insert-in-Some
returns-in_ok-insert-in-Some c =
    put_again c.args.self.now (record { of = c.insert.new.self }) (record { of = c.insert-in-Some.new.self }) c.args.name c.in-Some.count (sym c.in_ok-insert.ensures.old ∙ c.in-Some.is)
    (puts c.args.self.now.of c.insert.new.self c.args.name 1 c.in_ok-insert.ensures.updates) (puts c.insert.new.self c.insert-in-Some.new.self c.args.name (c.in-Some.count + 1) c.in_ok-insert-in-Some.ensures.updates)
