-- Lists that are read to their end.
use Rattle.std.proofs.Common.{◌≡◌, List, [], ◌++◌}
use Rattle.std.proofs.lemmas.List.{append-nil}

-- a list with nothing behind it
pub nothing_behind : {T : Type 0} (read : List T) → read ++ [] ≡ read
nothing_behind read = append-nil read
