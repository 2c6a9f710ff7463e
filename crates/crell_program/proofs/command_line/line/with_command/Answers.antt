use Rattle.std.proofs.lemmas.Result.{IfOk-weaker}
use Rattle.crell_program.proofs.CommandLine.Found.{third}
use Rattle.crell_program.proofs.command_line.line.with_command.Goals as goal

pub returns : goal.returns
returns c = IfOk-weaker c.subcommand.result _ _ (λ line adds. adds.shape (third _ _ _ _ c.requires)) c.subcommand.ensures
