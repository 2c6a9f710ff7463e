use Rattle.crell_program.proofs.InMemory.{texts_within_room_fit}
use Rattle.crell_program.proofs.laws.texts_within_room_fit.Goals as goal

pub returns : goal.returns
returns c = texts_within_room_fit
