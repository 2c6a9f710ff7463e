-- each byte so far belongs to the front
use Rattle.std.proofs.Common.{◌≡◌, ◌+◌, drop}
use Rattle.std.specs.List.{prefix_len}
use Rattle.ir_lexer.specs.Runs.{belongs}
use Rattle.ir_lexer.proofs.runs.front_len.Given as goal

abbrev pub invariant-loop-len : goal.invariant-loop-len
invariant-loop-len l = l.len + prefix_len (belongs l.front) (drop l.len l.text) ≡ prefix_len (belongs l.front) l.text
