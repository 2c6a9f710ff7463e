use Rattle.std.proofs.Common.{◌≡◌, drop}
use Rattle.ir_core.specs.Functions.{names_in, set_by}
use Rattle.ir_core.specs.NameIndexes.Among.{is_among}
use Rattle.definedness.proofs.flow.lines_define.Given as goal

abbrev pub invariant-loop-line : goal.invariant-loop-line
invariant-loop-line l = is_among l.name (names_in (set_by (drop l.line-index l.lines))) ≡ is_among l.name (names_in (set_by l.lines))
