-- Words, and the commands that they name.
use Rattle.std.specs.Prelude.{◌≡◌, ℕ, List, [], ◌∷◌, Option, None, Some, codes}
use Rattle.crell_program.specs.declared.command_line.request.Listing.TheVariants.{Definitions, ModuleItself, NamedModule}
use Rattle.crell_program.specs.CommandLine.Words.{Command, Check, Print, command_of}

abbrev pub a : List ℕ
a = codes "a.ll"

abbrev pub b : List ℕ
b = codes "b.ll"

abbrev pub h : List ℕ
h = codes "h.json"

-- the command that is named behind the program's name
abbrev pub named : List (List ℕ) → Option Command
named words = command_of (codes "crell" ∷ words)

pub record WordsOfExamples : Type 0 where
  -- check a.ll b.ll h.json
  pub check : named (codes "check" ∷ a ∷ b ∷ h ∷ []) ≡ Some (Check (record { source = a; target = b; hints = h }))
  -- check a.ll b.ll
  pub too_few : named (codes "check" ∷ a ∷ b ∷ []) ≡ None
  -- check a.ll b.ll h.json h.json
  pub too_many : named (codes "check" ∷ a ∷ b ∷ h ∷ h ∷ []) ≡ None
  -- defs a.ll
  pub defs : named (codes "defs" ∷ a ∷ []) ≡ Some (Print Definitions a)
  -- defs a.ll --names
  pub no_such_option : named (codes "defs" ∷ a ∷ codes "--names" ∷ []) ≡ None
  -- fmt a.ll, and its option behind the file and before it
  pub fmt : named (codes "fmt" ∷ a ∷ []) ≡ Some (Print ModuleItself a)
  pub names_behind : named (codes "fmt" ∷ a ∷ codes "--names" ∷ []) ≡ Some (Print NamedModule a)
  pub names_before : named (codes "fmt" ∷ codes "--names" ∷ a ∷ []) ≡ Some (Print NamedModule a)
  -- fmt -- --names: behind `--` all is a file
  pub behind_dashes : named (codes "fmt" ∷ codes "--" ∷ codes "--names" ∷ []) ≡ Some (Print ModuleItself (codes "--names"))
  -- fmt - : a dash alone is a file, as is the empty name
  pub dash : named (codes "fmt" ∷ codes "-" ∷ []) ≡ Some (Print ModuleItself (codes "-"))
  pub empty_name : named (codes "fmt" ∷ [] ∷ []) ≡ Some (Print ModuleItself [])
  -- fmt a.ll --names --names
  pub twice : named (codes "fmt" ∷ a ∷ codes "--names" ∷ codes "--names" ∷ []) ≡ None
  -- fmt a.ll --names=true
  pub with_value : named (codes "fmt" ∷ a ∷ codes "--names=true" ∷ []) ≡ None
  -- fmt a.ll --name
  pub unknown : named (codes "fmt" ∷ a ∷ codes "--name" ∷ []) ≡ None
  -- help and version, of the program and of a command
  pub help : named (codes "--help" ∷ []) ≡ None
  pub help_command : named (codes "help" ∷ codes "fmt" ∷ []) ≡ None
  pub help_of : named (codes "fmt" ∷ codes "-h" ∷ []) ≡ None
  pub version : named (codes "-V" ∷ []) ≡ None
  -- no words, not even the program's name
  pub nothing : named [] ≡ None
  pub no_name : command_of [] ≡ None
