use Rattle.std.proofs.Common.{map, string_bytes}
use Rattle.crell_io.specs.MemShelf.{entry_pair}
use Rattle.crell_program.specs.CommandLine.Words.{command_of}
use Rattle.crell_program.proofs.InMemory.{ends_well}
use Rattle.crell_program.proofs.in_memory.crell_in_memory.Goals as goal

pub returns : goal.returns
returns g c =
    let run = c.crell-status.ensures in
    ends_well _ (command_of (map string_bytes c.args.words.now)) (map entry_pair c.args.entries.items) c.args.room
    c.crell-status.result c.crell-status.new.shelf c.crell-status.new.out c.crell-status.new.err
    c.first_faults_agree.ensures.spelled _ _ _ c.new_shelf-shelf.ensures c.in_ok-out.ensures c.in_ok-err.ensures run.rows run.headline run.well
