use Rattle.std.proofs.Common.{Bor}
use Rattle.ir_types.specs.declared.names.Name.{Name}
use Rattle.ir_core.proofs.NameIndexes.FirstPlaces.{put_first}
use Rattle.ir_core.proofs.name_index.places.PlaceIndex.put.Goals as goal

pub returns : goal.returns
returns c = λ other.
    put_first (λ (key : Bor Name). key.now) other c.args.name c.args.place c.args.self.now.places.entries c.insert.new.self.entries c.in_ok-insert.ensures.entries
