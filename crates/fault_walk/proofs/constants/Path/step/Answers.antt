use Rattle.fault_walk.specs.Indices.{index_at}
use Rattle.fault_walk.proofs.Paths.{enters}
use Rattle.fault_walk.proofs.constants.Path.step.Goals as goal

pub returns-then-self : goal.returns-then-self
returns-then-self c = λ of is path.
    enters c.args.sight.now.types of is (index_at c.args.ty.now c.args.number) c.args.self.now c.enter.new.self path c.if-self.true
    c.enter.ensures.begun c.enter.ensures.over c.enter.ensures.led c.enter.ensures.large c.enter.ensures.clear
