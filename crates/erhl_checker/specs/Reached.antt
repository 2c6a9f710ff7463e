-- Words of private functions. What is answered on the blocks that are reached.
use Rattle.std.specs.Prelude.{List, Option}
use Rattle.flow_solver.specs.Near.{reached_nodes}
use Rattle.definedness.specs.Graph.{flow_of}
use Rattle.erhl_assert.specs.declared.verdict.Spot.TheVariants as spot
use Rattle.erhl_assert.specs.declared.verdict.Verdict.{Verdict}
use Rattle.erhl_assert.specs.Alignment.{AlignedBlock}
use Rattle.erhl_assert.specs.Course.{tested, placed, judged_answer}
use Rattle.erhl_assert.specs.Steps.{Beside}
use Rattle.erhl_assert.specs.Acceptance.{entry_fault, hint_of_block, blocks_judged}

-- what the hint claims at the entry, and then those of the blocks that are reached
abbrev pub from_entry_answer : Beside → AlignedBlock → List AlignedBlock → Option Verdict
from_entry_answer w entry blocks =
    judged_answer
    (placed entry.source.name spot.Start (tested (entry_fault (hint_of_block w entry).entry) (hint_of_block w entry).entry) (λ done.
    blocks_judged w (reached_nodes (flow_of w.source)) blocks))
