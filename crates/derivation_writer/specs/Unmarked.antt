-- Rules leave the mark of a watch as it is.
use Rattle.std.proofs.Common.{◌≡◌, ℕ}
use Rattle.derivation_writer.specs.Watching as watching
use Rattle.derivation_writer.specs.declared.reading.Reading.{Reading}
use Rattle.derivation_writer.specs.TokenLimits.Watched as watched

pub begun : (s : Reading) (rule : ℕ) → (watching.begun s rule).watch.mark ≡ s.watch.mark
begun s rule = watched.begun_unmarked s.watch rule

pub reduced : (s : Reading) (rule : ℕ) → (watching.reduced s rule).watch.mark ≡ s.watch.mark
reduced s rule = watched.reduced_unmarked s.watch rule
