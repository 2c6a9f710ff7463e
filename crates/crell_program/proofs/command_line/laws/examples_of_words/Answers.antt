use Rattle.std.proofs.Common.{refl}
use Rattle.clap.proofs.OnLiterals.{clap_on_literals}
use Rattle.crell_program.specs.CommandLine.Line.{command_line}
use Rattle.crell_program.specs.CommandLine.Words.{command_of}
use Rattle.crell_program.proofs.command_line.laws.examples_of_words.Goals as goal

pub returns : goal.returns
unfolding clap_on_literals command_of command_line
returns c = record {
  check = refl;
  too_few = refl;
  too_many = refl;
  defs = refl;
  no_such_option = refl;
  fmt = refl;
  names_behind = refl;
  names_before = refl;
  behind_dashes = refl;
  dash = refl;
  empty_name = refl;
  twice = refl;
  with_value = refl;
  unknown = refl;
  help = refl;
  help_command = refl;
  help_of = refl;
  version = refl;
  nothing = refl;
  no_name = refl;
}
