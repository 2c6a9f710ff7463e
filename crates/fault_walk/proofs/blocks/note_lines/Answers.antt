use Rattle.std.proofs.Common.{◌≡◌, ◌∙◌, ◌∷◌, ap, sym, Some, arith, subst}
use Rattle.derivation_cursor.proofs.Steps.{same_twice}
use Rattle.derivation_cursor.specs.At.{IsShorter, ahead_of, passed}
use Rattle.fault_walk.proofs.Behind.{one_more}
use Rattle.fault_walk.specs.Told.{told_more}
use Rattle.module_derivations.specs.FlatMarks.Flat.{behind, skip}
use Rattle.module_derivations.specs.Ahead.{made_by}
use Rattle.module_derivations.specs.Empty.{made}
use Rattle.module_derivations.specs.Lines.{line}
use Rattle.module_spelling.specs.Blocks.{wanted_by_line}
use Rattle.named_modules.specs.Faults.{line_faults}
use Rattle.std.specs.List.{flat_map}
use Rattle.module_derivations.specs.declared.rule.TheConstants as rule
use Rattle.fault_walk.proofs.blocks.note_lines.Goals as goal

pub loop-c-preserved : goal.loop-c-preserved
loop-c-preserved g c =
    let h = c.args.within.now.heads in
    let ts = c.args.within.now.things in
    let calls = g.S.Gaps.called c.args.around.now in
    let old = c.loop-c.c in
    let opened = c.rule.new.self in
    let new = c.note_line.new.c in
    let now = c.note_line.new.told in
    let s = ahead_of opened in
    let rest = (made (skip 2 s)).lines in
    let passes = c.in_ok-note_line-in-Some-eq171.ensures.passes in
    let before = c.loop-c.invariant in
    let begins : c.rule.result ≡ Some rule.LINES = grind arith in
    let first : (made (ahead_of old)).lines ≡ line s ∷ rest = ap (λ m. m.lines) c.rule.ensures.made ∙ ap (λ r. (made_by r s).lines) begins in
    let less : IsShorter (Some rule.LINES) old opened = subst (λ r. IsShorter r old opened) begins c.rule.ensures.shorter in
    record {
      same = same_twice c.args.c.now opened new (same_twice c.args.c.now old opened before.same c.rule.ensures.same) passes.same;
      told =
          ap (λ x. told_more h (flat_map (line_faults h calls ts) (made x).lines) (flat_map (wanted_by_line h) (made x).lines) now) passes.behind
          ∙ one_more h (line_faults h calls ts) (wanted_by_line h) c.loop-c.told now (line s) (made (ahead_of old)).lines rest first c.in_ok-note_line-in-Some-eq171.ensures.told
          ∙ before.told;
      behind = ap behind passes.behind ∙ sym (c.rule.ensures.behind ∙ ap (λ r. passed r s) begins) ∙ before.behind;
      shorter = omega (arith, less, passes.shorter, before.shorter);
    }
