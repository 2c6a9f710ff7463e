use Rattle.std.proofs.Common.{◌≡◌, [], ◌≤◌, length}
use Rattle.derivation_cursor.specs.At.{SameText, ahead_of}
use Rattle.fault_walk.specs.Told.{faults_more}
use Rattle.module_derivations.specs.FlatMarks.Flat.{behind}
use Rattle.module_derivations.specs.Empty.{made}
use Rattle.module_grammar.specs.Joined.{called_from}
use Rattle.module_walk.proofs.Onto.{mapped_onto}
use Rattle.named_modules.specs.Faults.{type_faults}
use Rattle.named_modules.specs.Types.{type_of}
use Rattle.std.specs.List.{flat_map}
use Rattle.fault_walk.proofs.lines.read_next_called.Given as goal

abbrev pub invariant-loop-types : goal.invariant-loop-types
invariant-loop-types l = record {
  same : SameText l.fn.c l.c;
  types : mapped_onto type_of l.types (called_from (made (ahead_of l.c)).next_called).types ≡ mapped_onto type_of [] (called_from (made (ahead_of l.fn.c)).next_called).types;
  is_open : (called_from (made (ahead_of l.c)).next_called).is_open ≡ (called_from (made (ahead_of l.fn.c)).next_called).is_open;
  told : faults_more (flat_map (type_faults l.sight) (called_from (made (ahead_of l.c)).next_called).types) l.told ≡ faults_more (flat_map (type_faults l.sight) (called_from (made (ahead_of l.fn.c)).next_called).types) l.fn.told;
  behind : behind (ahead_of l.c) ≡ behind (ahead_of l.fn.c);
  shorter : length l.c.numbers.now ≤ length l.fn.c.numbers.now;
}

abbrev pub decreases-loop-types : goal.decreases-loop-types
decreases-loop-types l = length l.c.numbers.now
