-- What one side knows, and holds, over an edge.
use Rattle.ir_machine.specs.Keeps.{IsMade}
use Rattle.ir_machine.proofs.Holding.{phis_among}
use Rattle.ir_machine.proofs.InKind.{phis_in_kind}
use Rattle.erhl_soundness.specs.MemoryLaws.{EdgesKeepWhatHolds}
use Rattle.erhl_soundness.proofs.Edges.{apart_once, facts_over_hold}
use Rattle.erhl_soundness.proofs.Made.{constants_made}

pub edges_keep : EdgesKeepWhatHolds
edges_keep side from phis fine apart = record {
  fine = record {
    now = phis_in_kind side.scope side.files.now from phis side.files.now fine.now fine.now;
    old = fine.now;
    ghost = fine.ghost;
    bytes = fine.bytes;
    globals = fine.globals;
    named = fine.named;
    once = fine.once;
  };
  made = λ held. record {
    now = phis_among (IsMade side.world.memory) side.scope (constants_made side fine.named held.names) side.files.now held.now from phis side.files.now held.now;
    old = held.now;
    ghost = held.ghost;
    others = held.others;
    bytes = held.bytes;
    names = held.names;
  };
  facts = λ known all. facts_over_hold from side fine.named phis known (apart_once phis apart) all;
}
