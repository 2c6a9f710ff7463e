-- The command that the words of a command line name.
use Rattle.std.specs.Prelude.{ℕ, Bool, false, cond, List, [], ◌∷◌, Option, None, Some, option_and_then, unwrap_or, codes}
use Rattle.std.specs.Option.{option_map_or}
use Rattle.std.specs.Str.{bytes_eq}
use Rattle.clap.specs.Words.{Kinds, Row, fault_of, first_of, subcommand_of}
use Rattle.crell_program.specs.declared.command_line.request.Listing.{Listing}
use Rattle.crell_program.specs.declared.command_line.request.Listing.TheVariants.{Definitions, ModuleItself, NamedModule}
use Rattle.crell_program.specs.declared.command_line.request.FileNames.{FileNames}
use Rattle.crell_program.specs.declared.command_line.request.Request.{Request}
use Rattle.crell_program.specs.declared.command_line.request.Request.TheVariants as request
use Rattle.crell_program.specs.declared.command_line.reading.WordsEnd.{WordsEnd}
use Rattle.crell_program.specs.declared.command_line.reading.WordsEnd.TheVariants.{Refused, Memory}
use Rattle.crell_program.specs.CommandLine.Line.{command_line}

-- the names of the three files of `check`, in their order
pub record CheckFiles : Type 0 where
  pub source : List ℕ
  pub target : List ℕ
  pub hints : List ℕ

-- `check`, with its files; `defs` and `fmt`, by what they list of a module, with the name of its file
pub data Command : Type 0 where
  Check : CheckFiles → Command
  Print : Listing → List ℕ → Command

-- the value of an argument; one that must be given has one
abbrev pub given : List ℕ → List Row → List ℕ
given name rows = unwrap_or (first_of name rows) []

-- a flag is given
abbrev pub is_asked : List ℕ → List Row → Bool
is_asked name rows = option_map_or (λ text. bytes_eq text (codes "true")) (first_of name rows) false

abbrev pub files_given : List Row → CheckFiles
files_given rows = record { source = given (codes "SRC") rows; target = given (codes "TGT") rows; hints = given (codes "HINTS") rows }

abbrev pub listing_asked : List Row → Listing
listing_asked rows = cond (is_asked (codes "names") rows) NamedModule ModuleItself

-- the command of that name, by what is given of its arguments
abbrev pub command_named : List ℕ × List Row → Option Command
command_named p =
    cond (bytes_eq p.0 (codes "check")) (Some (Check (files_given p.1)))
    (cond (bytes_eq p.0 (codes "defs")) (Some (Print Definitions (given (codes "FILE") p.1)))
    (cond (bytes_eq p.0 (codes "fmt")) (Some (Print (listing_asked p.1) (given (codes "FILE") p.1))) None))

abbrev pub command_found : Option (List ℕ × List Row) → Option Command
command_found found = option_and_then command_named found

abbrev pub unless_faulty : Kinds → Option Command → Option Command
unless_faulty [] command = command
unless_faulty (kind ∷ more) command = None

-- The words are a command's where the library finds no fault in them: the one that it reads. The first word is the program's name. Help
-- and version are faults.
unfoldable pub command_of : List (List ℕ) → Option Command
command_of words = unless_faulty (fault_of command_line words) (command_found (subcommand_of command_line words))

-- ---- the code's names of files, as their bytes

abbrev pub shown_names : FileNames → CheckFiles
shown_names names = record { source = names.source.now; target = names.target.now; hints = names.hints.now }

abbrev pub shown_request : Request → Command
shown_request (request.Check names) = Check (shown_names names)
shown_request (request.Print listing file) = Print listing file.now

-- if the words are refused, it is so
abbrev pub IfRefused : WordsEnd → Type 0 → Type 0
IfRefused (Refused text) P = P
IfRefused Memory P = Unit {0}
