use Rattle.std.proofs.Common.{◌≡◌, ◌∙◌, ◌∷◌, ap, sym, Some, arith, subst}
use Rattle.derivation_cursor.proofs.Steps.{same_twice}
use Rattle.derivation_cursor.specs.At.{IsShorter, ahead_of, passed}
use Rattle.fault_walk.proofs.Behind.{one_more}
use Rattle.fault_walk.specs.Lines.{wanted_by_argument}
use Rattle.fault_walk.specs.Told.{told_more}
use Rattle.module_derivations.specs.FlatMarks.Flat.{behind, skip}
use Rattle.module_derivations.specs.Ahead.{made_by}
use Rattle.module_derivations.specs.Empty.{made}
use Rattle.module_derivations.specs.Lines.{argument}
use Rattle.named_modules.specs.Faults.{argument_faults}
use Rattle.std.specs.List.{flat_map}
use Rattle.module_derivations.specs.declared.rule.TheConstants as rule
use Rattle.fault_walk.proofs.lines.note_more_arguments.Goals as goal

pub loop-c-preserved : goal.loop-c-preserved
loop-c-preserved c =
    let h = c.args.within.now.heads in
    let ts = c.args.within.now.things in
    let old = c.loop-c.c in
    let opened = c.rule.new.self in
    let new = c.note_argument.new.c in
    let now = c.note_argument.new.told in
    let s = ahead_of opened in
    let rest = (made (skip 4 s)).more_arguments in
    let passes = c.in_ok-note_argument-in-Some-eq165.ensures.passes in
    let before = c.loop-c.invariant in
    let begins : c.rule.result ≡ Some rule.MORE_ARGUMENTS = grind arith in
    let first : (made (ahead_of old)).more_arguments ≡ argument s ∷ rest = ap (λ m. m.more_arguments) c.rule.ensures.made ∙ ap (λ r. (made_by r s).more_arguments) begins in
    let less : IsShorter (Some rule.MORE_ARGUMENTS) old opened = subst (λ r. IsShorter r old opened) begins c.rule.ensures.shorter in
    record {
      same = same_twice c.args.c.now opened new (same_twice c.args.c.now old opened before.same c.rule.ensures.same) passes.same;
      told =
          ap (λ x. told_more h (flat_map (argument_faults h ts) (made x).more_arguments) (flat_map (wanted_by_argument h) (made x).more_arguments) now) passes.behind
          ∙ one_more h (argument_faults h ts) (wanted_by_argument h) c.loop-c.told now (argument s) (made (ahead_of old)).more_arguments rest first c.in_ok-note_argument-in-Some-eq165.ensures.told
          ∙ before.told;
      behind = ap behind passes.behind ∙ sym (c.rule.ensures.behind ∙ ap (λ r. passed r s) begins) ∙ before.behind;
      shorter = omega (arith, less, passes.shorter, before.shorter);
    }
