-- What is judged of edges, phis, ghost registers and loops: checks written out. And a premise that the soundness theorem needs.
use Rattle.std.specs.Prelude.{◌≡◌, [], ◌∷◌}
use Rattle.ir_types.specs.declared.names.Name.TheVariants.{Number}
use Rattle.ir_core.specs.declared.expressions.Reg.TheVariants.{Now, Old, Ghost}
use Rattle.ir_core.specs.declared.modules.Module.{Module}
use Rattle.ir_core.specs.Modules.{definitions_of}
use Rattle.ir_machine.specs.State.{no_scope, scope_of}
use Rattle.ir_machine.specs.Refinement.{Refines}
use Rattle.erhl_assert.specs.declared.facts.Fact.TheVariants.{LessDef}
use Rattle.erhl_assert.specs.declared.verdict.Reason.TheVariants.{DiffLeft}
use Rattle.erhl_assert.specs.declared.verdict.Spot.TheVariants as spot
use Rattle.erhl_assert.specs.declared.verdict.Verdict.TheVariants as verdict
use Rattle.erhl_assert.specs.Facts.{Holds}
use Rattle.erhl_assert.specs.Edges.{after_edge}
use Rattle.erhl_assert.specs.Course.{Gives, verdict_of}
use Rattle.erhl_assert.specs.Steps.{Rules, AreSound, after_ghost}
use Rattle.erhl_assert.specs.Acceptance.{Accepts, AreAccepted, function_judged}
use Rattle.erhl_soundness.specs.Laws.{crossed}
use Rattle.erhl_soundness.specs.FlowExamples.{now, old, ghost, numeral, out_of_loop, by_the_ghost, crossing, on_the_edge, swapping, swap, before_swap, one_and_two}

pub record ControlFlowIsJudged : Type 0 where
  -- `%3 = add i32 %1, 1` may be moved out of a loop with a phi and a division by %1, and `nuw` dropped there.
  pub moved_out : Accepts (out_of_loop by_the_ghost)
  -- Without the step that %3 is the same, it may differ where the loop is left, and mustn't.
  pub may_differ : verdict_of (function_judged (out_of_loop [])) ≡ verdict.Refused (Number 11) (spot.Edge (Number 12)) (DiffLeft (Now (Number 3)))
  -- What the source sets by a phi the target may set by a line before the edge: steps on the edge speak of registers before it.
  pub by_a_line : Accepts (crossing on_the_edge)
  pub without_steps : verdict_of (function_judged (crossing [])) ≡ verdict.Refused (Number 10) (spot.Edge (Number 12)) (DiffLeft (Now (Number 3)))
  -- Two phis change places at once: what was known of %3 is known of it as it was, %3 is what %4 was, and %4 what %3 was. So %3 may differ
  -- now, as %4 might, and %4 no longer.
  pub swapped : after_edge before_swap swap ≡ record {
    src = LessDef (old 3) (numeral 1) ∷ LessDef (now 3) (old 4) ∷ LessDef (old 4) (now 3) ∷ LessDef (now 4) (old 3) ∷ LessDef (old 3) (now 4) ∷ [];
    tgt = LessDef (now 3) (old 4) ∷ LessDef (old 4) (now 3) ∷ LessDef (now 4) (old 3) ∷ LessDef (old 3) (now 4) ∷ [];
    diff = Old (Number 4) ∷ Now (Number 3) ∷ Now (Number 3) ∷ [];
  }
  -- Where %3 is 1 and %4 is 2 before that edge, %3 is what %4 was; and it isn't what %4 is.
  pub as_it_was : Holds (crossed (Number 11) swapping one_and_two) (LessDef (now 3) (old 4))
  pub not_as_it_is : Holds (crossed (Number 11) swapping one_and_two) (LessDef (now 3) (now 4)) → ⊥
  -- A ghost register that is chosen again keeps no fact of what it was.
  pub chosen_again :
      (after_ghost no_scope (record { register = Ghost (Number 7); value = numeral 2 })
      (record { src = LessDef (ghost 7) (numeral 1) ∷ []; tgt = LessDef (ghost 7) (numeral 1) ∷ []; diff = Ghost (Number 7) ∷ [] })).ends
      ≡ Gives (record {
        src = LessDef (numeral 2) (ghost 7) ∷ LessDef (ghost 7) (numeral 2) ∷ [];
        tgt = LessDef (numeral 2) (ghost 7) ∷ LessDef (ghost 7) (numeral 2) ∷ [];
        diff = [];
      })

-- Without the premise that no two phis of a block set one register, accepted modules don't always refine: where two set %3 to 1 and to 2,
-- it holds 2, and both are known of it.
abbrev pub PhisMustBeApart : Type 0
PhisMustBeApart =
    ((rules : Rules) (source target : Module) → AreSound rules → scope_of source ≡ scope_of target
    → AreAccepted rules (scope_of source) (definitions_of source) (definitions_of target) → Refines source target) → ⊥
