use Rattle.std.proofs.Common.{◌∙◌, length, map, sym, ap, rules, arith}
use Rattle.std.specs.Borrow.{Bor}
use Rattle.std.specs.Prelude.{Some}
use Rattle.ir_machine.proofs.Standing.{drop_at}
use Rattle.erhl_assert.specs.declared.hints.HintStep.{HintStep}
use Rattle.line_align.specs.Lent.{lent_block}
use Rattle.erhl_checker.specs.CheckedPair.Asked.{asked}
use Rattle.erhl_checker.proofs.CheckedPair.Progressing.{line_stops, line_done, line_refuses, lines_end}
use Rattle.erhl_checker.proofs.block_checker.blocks.along.Goals as goal

pub returns : goal.returns
returns g c =
    let letters = c.as_slice-letters.result.now in
    lines_end (asked _ _ c.args.pair.now) (lent_block c.args.block.now) c.loop-i.i (length letters) letters c.loop-i.xs.now c.loop-i.ys.now c.loop-i.known
    (map (λ (s : Bor HintStep). s.now) c.as_slice-last.result.now)
    (omega arith) (omega arith) (search rules) _ c.loop-i.invariant c.at_end.result c.at_end.ensures

pub loop-i-preserved : goal.loop-i-preserved
loop-i-preserved g c =
    let letters = c.as_slice-letters.result.now in
    let l = c.letter_at-letter.result in
    line_done (asked _ _ c.args.pair.now) (lent_block c.args.block.now) c.loop-i.i letters l c.loop-i.xs.now c.loop-i.ys.now c.loop-i.known
    (map (λ (s : Bor HintStep). s.now) c.as_slice-steps.result.now) _ c.loop-i.invariant (drop_at letters c.loop-i.i l c.loop-i-test.true c.letter_at-letter.ensures) (search rules)
    c.in-Ok.refusal c.past_line.new.known c.in-Ok.ensures (search rules) _ _ (search rules) (search rules)

pub returns-in-Err : goal.returns-in-Err
returns-in-Err g c = λ k limit.
    let letters = c.as_slice-letters.result.now in
    let l = c.letter_at-letter.result in
    let more = c.in-Err.ensures k limit in (
      more.0,
      line_stops (asked _ _ c.args.pair.now) (lent_block c.args.block.now) c.loop-i.i letters l c.loop-i.xs.now c.loop-i.ys.now c.loop-i.known
          (map (λ (s : Bor HintStep). s.now) c.as_slice-steps.result.now) _ c.loop-i.invariant (drop_at letters c.loop-i.i l c.loop-i-test.true c.letter_at-letter.ensures) (search rules) more.1,
    )

pub returns-in-Some : goal.returns-in-Some
returns-in-Some g c =
    let letters = c.as_slice-letters.result.now in
    let l = c.letter_at-letter.result in
    line_refuses (asked _ _ c.args.pair.now) (lent_block c.args.block.now) c.loop-i.i letters l c.loop-i.xs.now c.loop-i.ys.now c.loop-i.known
    (map (λ (s : Bor HintStep). s.now) c.as_slice-steps.result.now) _ c.loop-i.invariant (drop_at letters c.loop-i.i l c.loop-i-test.true c.letter_at-letter.ensures) (search rules)
    c.in-Ok.refusal c.past_line.new.known c.in-Ok.ensures c.in-Some.reason c.in-Some.is
    ∙ ap (λ v. Some v) (sym c.in_ok-verdict-in-Ok.ensures)
