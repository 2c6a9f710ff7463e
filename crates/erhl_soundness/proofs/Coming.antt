-- What a check comes to over an aligned line, allowed or not, over an edge, and at a block's start.
use Rattle.std.proofs.Common.{◌≡◌, List, Option, None, Some, refl}
use Rattle.ir_types.specs.declared.named.NamedTy.{NamedTy}
use Rattle.erhl_assert.specs.declared.facts.Assertion.{Assertion}
use Rattle.erhl_assert.specs.declared.verdict.Reason.{Reason}
use Rattle.erhl_assert.specs.Alignment.{Line}
use Rattle.erhl_assert.specs.Allowed.{line_fault}
use Rattle.erhl_assert.proofs.Courses.{line_ends, line_refused}
use Rattle.erhl_assert.proofs.Edges.{put_in_ends, edge_ends}
use Rattle.erhl_soundness.specs.Laws.{ComesTo, ALineComesToWhatIsKnown, AnEdgeComesToWhatIsKnown, HintsArePutIn}

comes_to : (types : List NamedTy) (l : Line) (known : Assertion) (o : Option Reason) → line_fault types known l ≡ o → ComesTo types o l known
comes_to types l known None is = line_ends types l known is
comes_to types l known (Some r) is = line_refused types l known r is

pub line_comes : ALineComesToWhatIsKnown
line_comes types l known = comes_to types l known (line_fault types known l) refl

pub edge_comes : AnEdgeComesToWhatIsKnown
edge_comes = edge_ends

pub hints_come : HintsArePutIn
hints_come = put_in_ends
