use Rattle.std.proofs.Common.{sym}
use Rattle.derivation_writer.proofs.writer.Writer.into_numbers.Goals as goal

pub returns : goal.returns
returns c = (c.self.inside.place, sym c.self.view_is)
