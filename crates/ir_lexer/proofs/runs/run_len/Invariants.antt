-- each byte so far is of the run
use Rattle.std.proofs.Common.{◌≡◌, ◌+◌, ◌-◌, ◌≤◌, drop, length}
use Rattle.std.specs.List.{prefix_len}
use Rattle.ir_core.specs.Names.{is_name_byte}
use Rattle.ir_lexer.proofs.runs.run_len.Given as goal

abbrev pub invariant-loop-len : goal.invariant-loop-len
invariant-loop-len l = (l.len + prefix_len is_name_byte (drop l.len l.text) ≡ prefix_len is_name_byte l.text) × (l.len ≤ length l.text)

abbrev pub decreases-loop-len : goal.decreases-loop-len
decreases-loop-len l = length l.text - l.len

abbrev pub invariant-loop-len-2 : goal.invariant-loop-len-2
invariant-loop-len-2 l = (l.len + prefix_len is_name_byte (drop l.len l.text) ≡ prefix_len is_name_byte l.text) × (l.len ≤ length l.text)

abbrev pub decreases-loop-len-2 : goal.decreases-loop-len-2
decreases-loop-len-2 l = length l.text - l.len
