-- A division isn't a load: no fact has it that it doesn't trap.
use Rattle.std.proofs.Common.{◌≡◌, ◌∙◌, Bool, true, false, ◌&&◌, List, Option, None, Some, cond, refl, sym, ap, ap₂, subst}
use Rattle.std.specs.Prelude.{Result, IfOk}
use Rattle.ir_types.specs.declared.names.Name.{Name}
use Rattle.ir_types.specs.declared.named.NamedTy.{NamedTy}
use Rattle.ir_core.specs.declared.expressions.Binary.{Binary as BinaryOf}
use Rattle.ir_core.specs.declared.expressions.Expr.{Expr}
use Rattle.ir_core.specs.declared.expressions.Expr.TheVariants.{Binary}
use Rattle.ir_core.specs.Expressions.{operands_in}
use Rattle.erhl_assert.specs.declared.facts.Assertion.{Assertion}
use Rattle.erhl_assert.specs.declared.verdict.Reason.{Reason}
use Rattle.erhl_assert.specs.declared.verdict.Reason.TheVariants.{TargetMayTrap}
use Rattle.erhl_assert.specs.Allowed.{can_trap, same_operator, may_trap, first_unmatched, right_fault}

and_true : (p : Bool) → (p && true) ≡ p
and_true true = refl
and_true false = refl

module _ (types : List NamedTy) (known : Assertion) where
  pub binary_alone : (t : BinaryOf Name) → may_trap types known (Binary t) ≡ can_trap (Binary t)
  binary_alone t = and_true (can_trap (Binary t))

  abbrev binary_fault : BinaryOf Name → BinaryOf Name → Option Reason
  binary_fault s t =
      cond (can_trap (Binary t))
      (cond (same_operator (Binary s) (Binary t)) (first_unmatched known (operands_in (Binary s)) (operands_in (Binary t))) (Some TargetMayTrap)) None

  beside_binary : (s t : BinaryOf Name) → right_fault types known (Binary s) (Binary t) ≡ binary_fault s t
  beside_binary s t =
      let found : Option Reason = first_unmatched known (operands_in (Binary s)) (operands_in (Binary t)) in
      ap (λ b. cond b (cond (same_operator (Binary s) (Binary t) && true) found (Some TargetMayTrap)) None) (and_true (can_trap (Binary t)))
      ∙ ap (λ b. cond (can_trap (Binary t)) (cond b found (Some TargetMayTrap)) None) (and_true (same_operator (Binary s) (Binary t)))

  pub binary_told : {E : Type 0} (s t : Expr Name) (a b : BinaryOf Name) → s ≡ Binary a → t ≡ Binary b → (told : Result (Option Reason) E)
      → IfOk told (λ reason. reason ≡ binary_fault a b) → IfOk told (λ reason. reason ≡ right_fault types known s t)
  binary_told s t a b first second told h =
      subst (λ due. IfOk told (λ reason. reason ≡ due)) (sym (ap₂ (λ x y. right_fault types known x y) first second ∙ beside_binary a b)) h
