use Rattle.ir_types.specs.Kept.{value_of, fields_at}
use Rattle.ir_types.proofs.KeptNames.{IsRound}
use Rattle.ir_types.proofs.keeping.keep_round.Given as goal

abbrev pub invariant-loop-named : goal.invariant-loop-named
invariant-loop-named l = IsRound l.types (fields_at l.fields) (value_of l.initial.layouts) (value_of l.layouts) l.more l.named-index
