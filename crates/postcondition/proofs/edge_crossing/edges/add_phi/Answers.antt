use Rattle.std.specs.Prelude.{Some}
use Rattle.ir_machine.specs.Machine.{entry_from}
use Rattle.postcondition.proofs.EdgeCrossing.Copying.{entry_found}
use Rattle.postcondition.proofs.edge_crossing.edges.add_phi.Goals as goal

pub returns-in-Some : goal.returns-in-Some
returns-in-Some g c =
    entry_found c.args.side c.args.phi.now (Some c.in-Some.entry.now) (entry_from c.args.from.now c.args.phi.now.entries) c.in-Some.ensures c.add_entry.result c.args.after.now c.add_entry.new.after
    c.add_entry.ensures
