use Rattle.std.proofs.Common.{◌≡◌, false, subst}
use Rattle.ir_core.specs.declared.modules.Module.{Module}
use Rattle.named_modules.specs.Faults.{Heads}
use Rattle.fault_walk.specs.Told.{is_stepped_large}
use Rattle.fault_walk.proofs.Clear.{none_stepped}
use Rattle.fault_walk.proofs.sight.Sight.is_stepped_clear.Goals as goal

pub returns : goal.returns
returns c = λ clear indices.
    let t = c.args.ty.now in
    subst (λ (h : Heads). is_stepped_large h.types t indices ≡ false) c.self.view_is
    (subst (λ (m : Module). is_stepped_large m.types t indices ≡ false) c.self.invariant
    (none_stepped c.self.inside.judged.types t indices (c.is_stepped_clear.ensures clear indices)))
