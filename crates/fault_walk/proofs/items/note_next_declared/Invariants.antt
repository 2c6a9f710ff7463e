use Rattle.std.proofs.Common.{◌≡◌, ◌≤◌, length}
use Rattle.std.specs.List.{flat_map}
use Rattle.derivation_cursor.specs.At.{SameText, ahead_of}
use Rattle.module_derivations.specs.FlatMarks.Flat.{behind}
use Rattle.module_derivations.specs.Empty.{made}
use Rattle.module_grammar.specs.Joined.{declared_from}
use Rattle.named_modules.specs.Faults.{param_faults}
use Rattle.fault_walk.specs.Told.{faults_more}
use Rattle.fault_walk.proofs.items.note_next_declared.Given as goal

abbrev pub invariant-loop-c : goal.invariant-loop-c
invariant-loop-c l = record {
  same : SameText l.fn.c l.c;
  told : faults_more (flat_map (param_faults l.sight) (declared_from (made (ahead_of l.c)).next_declared).params) l.told ≡ faults_more (flat_map (param_faults l.sight) (declared_from (made (ahead_of l.fn.c)).next_declared).params) l.fn.told;
  behind : behind (ahead_of l.c) ≡ behind (ahead_of l.fn.c);
  shorter : length l.c.numbers.now ≤ length l.fn.c.numbers.now;
}

abbrev pub decreases-loop-c : goal.decreases-loop-c
decreases-loop-c l = length l.c.numbers.now
