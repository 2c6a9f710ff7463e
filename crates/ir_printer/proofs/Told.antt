-- Pieces put one behind the other.
use Rattle.std.proofs.Common.{◌≡◌, ◌∙◌, ◌++◌, ℕ, List, ap, append_assoc, subst}
use Rattle.ir_printer.specs.declared.sink.Sink.{Sink}
use Rattle.ir_printer.specs.Told.{IsTold}

pub told_then : (a b c : Sink) (w v : List ℕ) → IsTold a b w → IsTold b c v → IsTold a c (w ++ v)
told_then a b c w v first then whole =
    let p = then whole in
    let q = first p.0 in
    (q.0, p.1 ∙ (ap (λ m. m ++ v) q.1 ∙ append_assoc a.bytes.items w v))

-- the same text in other words
pub told_as : (a b : Sink) (w v : List ℕ) → w ≡ v → IsTold a b w → IsTold a b v
told_as a b w v is told = subst (λ text. IsTold a b text) is told
