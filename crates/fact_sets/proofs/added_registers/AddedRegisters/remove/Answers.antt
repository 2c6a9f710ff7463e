use Rattle.std.proofs.Common.{◌≡◌, ◌∙◌, ap, subst, sym, not, filter, false, rules}
use Rattle.std.proofs.lemmas.Fn.{filter_same}
use Rattle.ir_core.specs.declared.expressions.Reg.{Reg}
use Rattle.ir_core.specs.Same.{same_reg}
use Rattle.erhl_assert.specs.Sides.{has_reg}
use Rattle.fact_sets.specs.Names.{Kinds, without_register, AreListed}
use Rattle.fact_sets.proofs.Listed.{rest_listed, not_there}
use Rattle.fact_sets.proofs.added_registers.AddedRegisters.remove.Goals as goal

pub invariant_of-self : goal.invariant_of-self
invariant_of-self c =
    let test = λ (r : Reg). not (same_reg c.args.register.now r) in
    let kept = filter_same _ test _ (λ x b f k. search rules) _ _ c.retain.ensures.filtered in
    let rest = rest_listed c.self.inside.names c.self.inside.registers.items c.args.register.now c.self.invariant in
    subst (λ (kinds : Kinds). AreListed kinds c.retain.new.self.items) (sym c.remove.ensures)
    (subst (λ rs. AreListed (without_register c.args.register.now c.self.inside.names) rs) (sym kept) rest)

pub returns-then-has : goal.returns-then-has
returns-then-has c =
    let test = λ (r : Reg). not (same_reg c.args.register.now r) in
    filter_same _ test _ (λ x b f k. search rules) _ _ c.retain.ensures.filtered ∙ ap (filter test) c.self.view_is

pub returns-else-has : goal.returns-else-has
returns-else-has c =
    let none : has_reg c.args.register.now c.args.self.now ≡ false = sym c.has.ensures ∙ (search rules) in
    sym (not_there c.args.self.now c.args.register.now none)
