use Rattle.std.proofs.Common.{◌∙◌, sym}
use Rattle.derivation_cursor.specs.At.{ahead_of}
use Rattle.module_derivations.specs.Empty.{made}
use Rattle.module_walk.proofs.Kept.{kept_due, kept_lines}
use Rattle.module_walk.proofs.lines.read_line_behind.Goals as goal

pub returns-in_ok-push-in-Some-clause-lines : goal.returns-in_ok-push-in-Some-clause-lines
returns-in_ok-push-in-Some-clause-lines c =
    kept_lines c.args.types.now c.args.due c.args.register (made (ahead_of c.args.c.now)).attach c.counted-name.result.0 c.counted-name.ensures.name
    c.in-Some.line (sym c.in-Some.is ∙ c.in_ok-read_attach.ensures.built) c.args.lines.now c.push.new.self c.in_ok-push-in-Some.ensures.ok

pub returns-in_ok-push-in-Some-clause-due : goal.returns-in_ok-push-in-Some-clause-due
returns-in_ok-push-in-Some-clause-due c =
    kept_due c.args.types.now c.args.due c.args.register (made (ahead_of c.args.c.now)).attach c.counted-name.result.0 c.counted-name.ensures.name
    c.in-Some.line (sym c.in-Some.is ∙ c.in_ok-read_attach.ensures.built) c.counted-name.result.1 c.due_after_line-next.result c.counted-name.ensures.due
    c.due_after_line-next.ensures c.ranges.due.fits
