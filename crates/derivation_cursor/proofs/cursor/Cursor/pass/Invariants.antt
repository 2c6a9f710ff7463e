use Rattle.std.proofs.Common.{◌≡◌, ◌≤◌, ◌+◌, ◌*◌, length}
use Rattle.derivation_cursor.specs.At.{SameText, ahead_of, passed}
use Rattle.module_derivations.specs.FlatMarks.Flat.{skip}
use Rattle.derivation_cursor.proofs.cursor.Cursor.pass.Given as goal

abbrev pub invariant-loop-left : goal.invariant-loop-left
invariant-loop-left l = record {
  same : SameText l.fn.self l.self;
  passed : skip l.left (ahead_of l.self) ≡ passed l.fn.rule (ahead_of l.fn.self);
  room : l.left + 255 * length l.self.numbers.now ≤ 255 * (length l.fn.self.numbers.now + 1);
  shorter : length l.self.numbers.now ≤ length l.fn.self.numbers.now;
}

abbrev pub decreases-loop-left : goal.decreases-loop-left
decreases-loop-left l = length l.self.numbers.now
