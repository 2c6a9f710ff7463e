-- The files of a command.
use Rattle.std.specs.Prelude.{ℕ, List, [], ◌∷◌}
use Rattle.ir_core.specs.declared.limits.Limit.{Limit}
use Rattle.ir_core.specs.declared.limits.Limit.TheVariants as limit
use Rattle.ir_core.specs.Limits.{limit_number}
use Rattle.crell_program.specs.declared.command_line.request.FileNames.{FileNames}
use Rattle.crell_program.specs.CommandLine.Words.{Command, Check, Print, shown_names}
use Rattle.crell_program.specs.declared.command.Form.{Form}
use Rattle.crell_program.specs.declared.command.Form.TheVariants.{ModuleText, HintFile}
use Rattle.crell_program.specs.declared.command.Wanted.{Wanted}

-- the limit on the bytes of a file of that form
abbrev pub limit_of : Form → Limit
limit_of ModuleText = limit.Text
limit_of HintFile = limit.Json

-- a file that a command reads
pub record File : Type 0 where
  pub name : List ℕ
  pub form : Form

abbrev pub most_bytes : File → ℕ
most_bytes file = limit_number (limit_of file.form)

-- the files that a command reads, in the order in which they are judged
abbrev pub files_of : Command → List File
files_of (Check names) =
    record { name = names.source; form = ModuleText } ∷ record { name = names.target; form = ModuleText }
    ∷ record { name = names.hints; form = HintFile } ∷ []
files_of (Print listing file) = record { name = file; form = ModuleText } ∷ []

-- the code's files, with their names as their bytes
abbrev pub shown_file : Wanted → File
shown_file wanted = record { name = wanted.name.now; form = wanted.form }

abbrev pub shown_command : FileNames → Command
shown_command names = Check (shown_names names)
