use Rattle.std.proofs.Common.{◌≡◌, ◌∙◌, ◌∷◌, ap, sym, Some, arith, subst}
use Rattle.derivation_cursor.proofs.Steps.{same_twice}
use Rattle.derivation_cursor.specs.At.{IsShorter, ahead_of, passed}
use Rattle.fault_walk.proofs.Behind.{one_fault_more}
use Rattle.fault_walk.specs.Told.{faults_more}
use Rattle.module_derivations.specs.FlatMarks.Flat.{behind, skip}
use Rattle.module_derivations.specs.Ahead.{made_by}
use Rattle.module_derivations.specs.Blocks.{case}
use Rattle.module_derivations.specs.Empty.{made}
use Rattle.named_modules.specs.Faults.{case_faults}
use Rattle.std.specs.List.{flat_map}
use Rattle.module_derivations.specs.declared.rule.TheConstants as rule
use Rattle.fault_walk.proofs.blocks.note_cases.Goals as goal

pub loop-c-preserved : goal.loop-c-preserved
loop-c-preserved c =
    let h = c.args.within.now.heads in
    let ts = c.args.within.now.things in
    let old = c.loop-c.c in
    let opened = c.rule.new.self in
    let new = c.note_case.new.c in
    let now = c.note_case.new.told in
    let s = ahead_of opened in
    let rest = (made (skip 4 s)).cases in
    let passes = c.in_ok-note_case-in-Some-eq204.ensures.passes in
    let before = c.loop-c.invariant in
    let begins : c.rule.result ≡ Some rule.CASES = grind arith in
    let first : (made (ahead_of old)).cases ≡ case s ∷ rest = ap (λ m. m.cases) c.rule.ensures.made ∙ ap (λ r. (made_by r s).cases) begins in
    let less : IsShorter (Some rule.CASES) old opened = subst (λ r. IsShorter r old opened) begins c.rule.ensures.shorter in
    record {
      same = same_twice c.args.c.now opened new (same_twice c.args.c.now old opened before.same c.rule.ensures.same) passes.same;
      told =
          ap (λ x. faults_more (flat_map (case_faults h ts) (made x).cases) now) passes.behind
          ∙ one_fault_more (case_faults h ts) c.loop-c.told now (case s) (made (ahead_of old)).cases rest first c.in_ok-note_case-in-Some-eq204.ensures.told
          ∙ before.told;
      behind = ap behind passes.behind ∙ sym (c.rule.ensures.behind ∙ ap (λ r. passed r s) begins) ∙ before.behind;
      shorter = omega (arith, less, passes.shorter, before.shorter);
    }
