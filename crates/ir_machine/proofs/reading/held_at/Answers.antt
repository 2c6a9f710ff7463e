use Rattle.std.proofs.Common.{rules}
use Rattle.ir_machine.proofs.reading.held_at.Goals as goal

pub returns-then-same_kind : goal.returns-then-same_kind
returns-then-same_kind c = search rules
