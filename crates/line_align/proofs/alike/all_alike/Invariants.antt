use Rattle.std.proofs.Common.{◌≡◌, drop}
use Rattle.ir_types.specs.Same.{same_list}
use Rattle.line_align.proofs.alike.all_alike.Given as goal

abbrev pub invariant-loop-a : goal.invariant-loop-a
invariant-loop-a g l = same_list (g.L.Likeness.like l.likeness) (drop l.a-index l.source) l.rest ≡ same_list (g.L.Likeness.like l.likeness) l.source l.target
