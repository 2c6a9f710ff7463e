-- The command line, as the library `clap` is told of it: one level of commands, no rule between arguments.
use Rattle.std.specs.Prelude.{ℕ, true, List, Some, codes}
use Rattle.clap.specs.Simple.{App, Shape, on_top}
use Rattle.clap.specs.Words.{Rule, new_app, new_rule, with_rule, with_subcommand}
use Rattle.clap.specs.declared.builder.action.ArgAction.TheVariants.{SetTrue}

-- a file that must be named, found by its place among the words
abbrev pub file : List ℕ → Rule
file name = record (new_rule name) { required = true }

-- check SRC TGT HINTS
abbrev pub check : App
check = with_rule (with_rule (with_rule (new_app (codes "check")) (file (codes "SRC"))) (file (codes "TGT"))) (file (codes "HINTS"))

-- defs FILE
abbrev pub defs : App
defs = with_rule (new_app (codes "defs")) (file (codes "FILE"))

-- a flag that takes no value, and is given once at most
abbrev pub flag : List ℕ → Rule
flag name = record (new_rule name) { long = Some name; action = Some SetTrue }

-- fmt FILE [--names]
abbrev pub fmt : App
fmt = with_rule (with_rule (new_app (codes "fmt")) (file (codes "FILE"))) (flag (codes "names"))

-- a command must be named; where no word is there, help is told
abbrev pub program : App
program = on_top (λ (s : Shape). record s { has_version = true; subcommand_required = true; arg_required_else_help = true }) (new_app (codes "crell"))

unfoldable pub command_line : App
command_line = with_subcommand (with_subcommand (with_subcommand program check.top) defs.top) fmt.top
