use Rattle.std.proofs.Common.{◌≡◌, ◌≤◌, [], length}
use Rattle.derivation_cursor.specs.At.{SameText, ahead_of}
use Rattle.module_derivations.specs.FlatMarks.Flat.{behind}
use Rattle.module_derivations.specs.Empty.{made}
use Rattle.module_grammar.specs.Joined.{declared_from}
use Rattle.module_walk.proofs.Onto.{mapped_onto}
use Rattle.named_modules.specs.Built.{declared_param}
use Rattle.module_walk.proofs.items.read_next_declared.Given as goal

abbrev pub invariant-loop-params : goal.invariant-loop-params
invariant-loop-params l = record {
  same : SameText l.fn.c l.c;
  params : mapped_onto declared_param l.params (declared_from (made (ahead_of l.c)).next_declared).params ≡ mapped_onto declared_param [] (declared_from (made (ahead_of l.fn.c)).next_declared).params;
  variadic : (declared_from (made (ahead_of l.c)).next_declared).is_open ≡ (declared_from (made (ahead_of l.fn.c)).next_declared).is_open;
  behind : behind (ahead_of l.c) ≡ behind (ahead_of l.fn.c);
  shorter : length l.c.numbers.now ≤ length l.fn.c.numbers.now;
}

abbrev pub decreases-loop-params : goal.decreases-loop-params
decreases-loop-params l = length l.c.numbers.now
