use Rattle.std.proofs.Common.{◌≡◌, true, sym, subst}
use Rattle.ir_core.specs.declared.modules.Module.{Module}
use Rattle.ir_typing.specs.ModuleLimits.Small.{IsClear, stepped_small}
use Rattle.ir_typing.proofs.ModuleLimits.Clear.{name_clear, stepped_clear}
use Rattle.ir_typing.proofs.module_limits.judged.Judged.is_stepped_clear.Goals as goal

pub returns-in-Named : goal.returns-in-Named
returns-in-Named c = λ yes indices.
    let types = c.self.inside.whole.now.types in
    let all = c.self.invariant c.if-not-self.false in
    subst (λ (m : Module). stepped_small m.types c.args.ty.now indices ≡ true) c.self.view_is
    (stepped_clear types all c.args.ty.now (subst (IsClear types) (sym c.in-Named.is) (name_clear types all c.in-Named.field-0)) indices)

pub returns-in_default : goal.returns-in_default
returns-in_default c = λ yes indices.
    subst (λ (m : Module). stepped_small m.types c.args.ty.now indices ≡ true) c.self.view_is
    (stepped_clear c.self.inside.whole.now.types (c.self.invariant c.if-not-self.false) c.args.ty.now (c.is_clear.ensures yes) indices)
