use Rattle.std.proofs.Common.{◌≡◌, ◌∙◌, ◌∷◌, ◌++◌, [], Some, ap, append_assoc, arith, subst, sym}
use Rattle.std.specs.List.{filter}
use Rattle.derivation_cursor.proofs.Steps.{same_twice}
use Rattle.derivation_cursor.specs.At.{IsShorter, ahead_of, passed}
use Rattle.module_derivations.specs.FlatMarks.Flat.{behind, skip}
use Rattle.module_walk.proofs.Due.{small}
use Rattle.module_walk.specs.Counted.{capped}
use Rattle.module_derivations.specs.Ahead.{made_by}
use Rattle.module_derivations.specs.Empty.{made}
use Rattle.module_derivations.specs.Lines.{line}
use Rattle.module_derivations.specs.declared.rule.TheConstants as rule
use Rattle.module_walk.proofs.Kept.{due_behind_more, lines_behind}
use Rattle.named_modules.specs.Built.{due_behind_lines, lines_from}
use Rattle.named_modules.specs.Lines.{is_kept}
use Rattle.module_walk.proofs.lines.read_lines.Goals as goal

pub loop-c-preserved : goal.loop-c-preserved
loop-c-preserved c =
    let types = c.args.types.now in
    let due = c.loop-c.due in
    let next = c.in_ok-due-in-Some-eq171.due in
    let old = c.loop-c.c in
    let opened = c.rule.new.self in
    let new = c.read_line.new.c in
    let s = ahead_of opened in
    let rest = (made (skip 2 s)).lines in
    let passes = c.in_ok-due-in-Some-eq171.ensures.passes in
    let counted = c.in_ok-due-in-Some-eq171.ensures.due in
    let before = c.loop-c.invariant in
    let begins : c.rule.result ≡ Some rule.LINES = grind arith in
    let first : (made (ahead_of old)).lines ≡ line s ∷ rest = ap (λ m. m.lines) c.rule.ensures.made ∙ ap (λ r. (made_by r s).lines) begins in
    let less : IsShorter (Some rule.LINES) old opened = subst (λ r. IsShorter r old opened) begins c.rule.ensures.shorter in
    record {
      same = same_twice c.args.c.now opened new (same_twice c.args.c.now old opened before.same c.rule.ensures.same) passes.same;
      lines =
          ap (λ ls. ls ++ lines_from types next (filter is_kept (made (ahead_of new)).lines)) c.in_ok-due-in-Some-eq171.ensures.lines
          ∙ ap (λ ps. (c.loop-c.lines ++ lines_from types due (filter is_kept (line s ∷ []))) ++ lines_from types next (filter is_kept (made ps).lines)) passes.behind
          ∙ append_assoc c.loop-c.lines (lines_from types due (filter is_kept (line s ∷ []))) (lines_from types next (filter is_kept rest))
          ∙ ap (λ more. c.loop-c.lines ++ more) (lines_behind types due next (line s) rest counted)
          ∙ ap (λ ws. c.loop-c.lines ++ lines_from types due (filter is_kept ws)) (sym first)
          ∙ before.lines;
      due =
          ap (λ ps. capped (due_behind_lines types next (filter is_kept (made ps).lines))) passes.behind
          ∙ due_behind_more types due next (line s) rest counted
          ∙ ap (λ ws. capped (due_behind_lines types due (filter is_kept ws))) (sym first)
          ∙ before.due;
      small = small next (due_behind_lines types due (filter is_kept (line s ∷ []))) counted;
      behind = ap behind passes.behind ∙ sym (c.rule.ensures.behind ∙ ap (λ r. passed r s) begins) ∙ before.behind;
      shorter = omega (arith, less, passes.shorter, before.shorter);
    }
