use Rattle.std.proofs.Common.{◌≡◌, ◌∙◌, true, false, sym, rules}
use Rattle.whole_shapes.proofs.Sighted.{line_new, line_old, line_put}
use Rattle.whole_shapes.proofs.sight.put_lines.Goals as goal

pub returns-then-not-branch-clause-new : goal.returns-then-not-branch-clause-new
returns-then-not-branch-clause-new c =
    let no : c.in_ok-put_line.field-0 ≡ false = search rules in
    sym (line_old c.args.lines.now c.loop-instr.instr-index c.instr-item.result (search rules) c.instr-item.is c.loop-instr.sight.names (sym c.in_ok-put_line.ensures.new ∙ no))
    ∙ c.loop-instr.invariant.0

pub loop-instr-preserved : goal.loop-instr-preserved
loop-instr-preserved c =
    let yes : c.in_ok-put_line.field-0 ≡ true = search rules in (
      sym (line_new c.args.lines.now c.loop-instr.instr-index c.instr-item.result (search rules) c.instr-item.is c.loop-instr.sight.names _ (sym c.in_ok-put_line.ensures.new ∙ yes)
          c.in_ok-put_line.ensures.names)
          ∙ c.loop-instr.invariant.0,
      sym (line_put c.args.lines.now c.loop-instr.instr-index c.instr-item.result (search rules) c.instr-item.is c.loop-instr.sight.names _ c.in_ok-put_line.ensures.names)
          ∙ c.loop-instr.invariant.1,
    )
