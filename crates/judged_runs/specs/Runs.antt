-- Whatever is told of a command's files, one of the premises holds under which the rows fix the status.
use Rattle.std.specs.Prelude.{ℕ, List, Some}
use Rattle.std.specs.List.{AllByRecursion}
use Rattle.ir_core.specs.Ranges.{AreBytes}
use Rattle.erhl_assert.specs.Steps.{Rules}
use Rattle.crell_io.specs.Shelf.{Told}
use Rattle.crell_io.specs.Shelf.Told.{Untold, NoSuch, Bytes}
use Rattle.crell_program.specs.CommandLine.Words.{Command}
use Rattle.crell_program.specs.Command.{File, files_of}
use Rattle.crell_program.specs.Judged.{MeetsOne}

-- it is told that there is no such file, or which bytes it has
abbrev pub IsTold : Told → Type 0
IsTold Untold = ⊥
IsTold NoSuch = Unit {0}
IsTold (Bytes held) = AreBytes held

abbrev pub ToldRunsAreJudged : Type 0
ToldRunsAreJudged =
    (rules : Rules) (told : List ℕ → Told) (command : Command) → AllByRecursion (λ (file : File). IsTold (told file.name)) (files_of command)
    → MeetsOne rules told (Some command)
