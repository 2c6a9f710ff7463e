use Rattle.std.proofs.Common.{ℕ, ◌∷◌, Some, subst₂}
use Rattle.ir_types.specs.declared.ty.Ty.{Ty}
use Rattle.ir_core.specs.declared.operands.Operand.{Operand}
use Rattle.ir_core.specs.declared.expressions.Expr.TheVariants.{Plain}
use Rattle.ir_core.specs.declared.expressions.Reg.{Reg}
use Rattle.erhl_assert.specs.declared.facts.Fact.TheVariants.{Ok}
use Rattle.erhl_assert.specs.Facts.{both_ways}
use Rattle.erhl_assert.specs.Growth.{adds_all}
use Rattle.erhl_assert.specs.Postcondition.{load_through}
use Rattle.fact_sets.specs.AddedFacts.Ends.{Follows}
use Rattle.postcondition.proofs.lines.add_stored.Goals as goal

pub returns : goal.returns
returns g c =
    let added : Operand Reg → Ty → Ty → ℕ → Type 0 = λ p t of align.
    Follows c.add_with_both.result c.add_with_both.new.sides
    (adds_all c.args.side (Ok (Plain p) t c.args.align ∷ both_ways (load_through of c.args.pointer align) (Plain c.args.value)) c.args.sides.now) in
    subst₂ (λ (p : Operand Reg) (t : Ty). added p t c.args.value.ty c.args.align) c.in_ok-copy.ensures c.in_ok-copy-2.ensures
    (subst₂ (added c.in_ok-copy.field-0 c.in_ok-copy-2.field-0) c.in_ok-copy-3.ensures c.in_ok-stated.ensures c.add_with_both.ensures)
