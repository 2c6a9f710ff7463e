use Rattle.std.proofs.Common.{◌∙◌, ap, ap₂}
use Rattle.std.proofs.lemmas.Result.{IfOk-weaker}
use Rattle.clap.specs.Simple.{App}
use Rattle.clap.specs.Words.{with_subcommand}
use Rattle.crell_program.specs.CommandLine.Line.{command_line}
use Rattle.crell_program.proofs.command_line.line.command_line.Goals as goal

pub returns : goal.returns
unfolding command_line
returns c =
    let check = ap (λ (a : App). a.top) c.in_ok-check_command.ensures in
    let defs = ap (λ (a : App). a.top) c.in_ok-defs_command.ensures in
    let fmt = ap (λ (a : App). a.top) c.in_ok-fmt_command.ensures in
    let with_check = c.in_ok-with_check.ensures ∙ ap₂ with_subcommand c.in_ok-program.ensures check in
    let with_defs = c.in_ok-with_defs.ensures ∙ ap₂ with_subcommand with_check defs in
    IfOk-weaker c.with_command-3.result _ _ (λ command is. is ∙ ap₂ with_subcommand with_defs fmt) c.with_command-3.ensures
