-- By the text of each kind of type.
use Rattle.printed_tokens.proofs.WrittenTypes.{written_type}
use Rattle.printed_tokens.proofs.laws.printed_types_are_written.Goals as goal

pub returns : goal.returns
returns c t written ranged = written_type t written ranged
