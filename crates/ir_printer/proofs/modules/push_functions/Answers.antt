use Rattle.std.proofs.Common.{◌∙◌, drop, ◌+◌}
use Rattle.ir_printer.proofs.Behind.{drop_at, one_function}
use Rattle.ir_printer.proofs.modules.push_functions.Goals as goal

pub loop-i-preserved : goal.loop-i-preserved
loop-i-preserved c whole =
    let fs = c.args.functions.now in
    let f = c.index-functions-i.result in
    let last = c.push_function.ensures whole in
    let blank = c.push_blank.ensures last.0 in
    let front = c.push_before-rest.ensures.text blank.0 in
    let told = c.loop-i.invariant front.0 in (
      told.0,
      one_function c.args.declared.now c.loop-i.text.bytes.items _ _ _ c.loop-i.i c.loop-i.rest.now c.push_before-rest.result.now f (drop c.loop-i.i fs) (drop (c.loop-i.i + 1) fs)
          (drop_at fs c.loop-i.i f c.loop-i-test.true c.index-functions-i.is)
          front.1 c.push_before-rest.ensures.rest blank.1 last.1
          ∙ told.1,
    )
