use Rattle.crell_program.proofs.CommandLine.Found.{both}
use Rattle.crell_program.proofs.command_line.reading.entered.Goals as goal

pub returns : goal.returns
returns c = both c.subcommand.result _ _ _ _ _ c.subcommand.ensures.name c.subcommand.ensures.rows
