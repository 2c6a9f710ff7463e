-- What was taken, over one turn and over several.
use Rattle.std.proofs.Common.{ℕ, List, ◌++◌, Option, ap, ◌∙◌, append_assoc}
use Rattle.std.proofs.KnownBytes.{Consumes-trans}
use Rattle.crell_io.specs.Host.{AppendsTaken}

pub taken_in_turn : (a b c : Option (List ℕ)) (bytes more most : List ℕ) → AppendsTaken a b bytes more → AppendsTaken b c more most → AppendsTaken a c bytes most
taken_in_turn a b c bytes more most first second =
    (first.0 ++ second.0, Consumes-trans a b c first.0 second.0 first.1 second.1, second.2 ∙ ap (λ l. l ++ second.0) first.2 ∙ append_assoc bytes first.0 second.0)
