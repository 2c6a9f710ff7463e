-- The tokens so far and what the rest is cut into are the whole; they stand in order in front of the rest.
use Rattle.std.proofs.Common.{◌≡◌, ◌-◌, ◌≤◌, length, drop}
use Rattle.ir_lexer.specs.Cut.{cut, AreInOrder}
use Rattle.ir_lexer.proofs.Cuts.{bare, behind_bare}
use Rattle.ir_lexer.proofs.cut.cut.Given as goal

abbrev pub invariant-loop-place : goal.invariant-loop-place
invariant-loop-place l = record {
  whole : behind_bare l.tokens.items (bare (cut 0 l.place (drop l.place l.text))) ≡ bare (cut 0 0 l.text);
  reached : l.place ≤ length l.text;
  order : AreInOrder 0 l.place l.tokens.items;
}

abbrev pub decreases-loop-place : goal.decreases-loop-place
decreases-loop-place l = length l.text - l.place
