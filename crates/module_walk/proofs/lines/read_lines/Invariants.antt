use Rattle.std.proofs.Common.{◌≡◌, ◌≤◌, ◌++◌, length}
use Rattle.std.specs.List.{filter}
use Rattle.derivation_cursor.specs.At.{SameText, ahead_of}
use Rattle.module_derivations.specs.FlatMarks.Flat.{behind}
use Rattle.module_walk.specs.Counted.{capped}
use Rattle.module_derivations.specs.Empty.{made}
use Rattle.named_modules.specs.Built.{due_behind_lines, lines_from}
use Rattle.named_modules.specs.Lines.{is_kept}
use Rattle.module_walk.proofs.lines.read_lines.Given as goal

abbrev pub invariant-loop-c : goal.invariant-loop-c
invariant-loop-c l = record {
  same : SameText l.fn.c l.c;
  lines :
      l.lines ++ lines_from l.types l.due (filter is_kept (made (ahead_of l.c)).lines)
      ≡ l.fn.lines ++ lines_from l.types l.fn.due (filter is_kept (made (ahead_of l.fn.c)).lines);
  due :
      capped (due_behind_lines l.types l.due (filter is_kept (made (ahead_of l.c)).lines))
      ≡ capped (due_behind_lines l.types l.fn.due (filter is_kept (made (ahead_of l.fn.c)).lines));
  small : l.due ≡ capped l.due;
  behind : behind (ahead_of l.c) ≡ behind (ahead_of l.fn.c);
  shorter : length l.c.numbers.now ≤ length l.fn.c.numbers.now;
}

abbrev pub decreases-loop-c : goal.decreases-loop-c
decreases-loop-c l = length l.c.numbers.now
