-- What is named or numbered can be printed and run.
use Rattle.std.specs.Prelude.{◌≡◌, ℕ, List, map}
use Rattle.std.specs.List.{AllByRecursion}
use Rattle.ir_core.specs.declared.modules.Module.{Module}
use Rattle.ir_types.specs.declared.names.Name.{Name}
use Rattle.ir_core.specs.Functions.{function_names, names_of}
use Rattle.ir_core.specs.Order.{AreInOrder, IsInOrder}
use Rattle.ir_core.specs.Ranges.{AreBytes, IsInRange}
use Rattle.ir_core.specs.WellFormed.{HasFunctionShape, HasShape, IsDefined, IsWellFormed}
use Rattle.ir_printer.specs.Printed.{printed_module}
use Rattle.ir_rename.specs.Laws.{HasNamesApart, HasNamesInRange, IsText}
use Rattle.ir_rename.specs.Named.{IsFresh, named_all}
use Rattle.ir_rename.specs.Numbered.{numbered_in_order}
use Rattle.ir_types.specs.declared.named.NamedTy.{NamedTy}
use Rattle.ir_typing.specs.ModuleLimits.Passed.{IsWithin}
use Rattle.ir_reader.specs.Faults.{SpellsWellFormed}
use Rattle.module_spelling.specs.Spells.{Spells}
use Rattle.named_modules.specs.Modules.{global_names}
use Rattle.printed_modules.specs.Order.{IsInFileOrder}

-- ---- where names become this

module _ (given : Module → Module) where
  abbrev pub KeepsNamesInRange : Type 0
  KeepsNamesInRange = (m : Module) → HasNamesInRange m → HasNamesInRange (given m)

  abbrev pub KeepsRange : Type 0
  KeepsRange = (m : Module) → IsInRange m → IsInRange (given m)

  -- the names of functions, which stay, are in order
  abbrev pub GivesOrder : Type 0
  GivesOrder = (m : Module) → HasNamesInRange m → HasNamesApart m → AreInOrder (function_names m) → IsInOrder (given m)

  abbrev pub KeepsShape : Type 0
  KeepsShape = (m : Module) → HasNamesInRange m → HasShape m → HasShape (given m)

  -- where its functions have shape
  abbrev pub KeepsDefined : Type 0
  KeepsDefined = (m : Module) → HasNamesInRange m → AllByRecursion (HasFunctionShape m) m.functions → IsDefined m → IsDefined (given m)

  abbrev pub KeepsWellFormed : Type 0
  KeepsWellFormed = (m : Module) → IsWellFormed m → IsWellFormed (given m)

  -- A module whose named types, globals and functions, which keep their names, have them in order, that has shape, is in range and passes no
  -- limit, becomes one that is printed as its own text.
  abbrev pub CanBeRead : Type 0
  CanBeRead =
      (m : Module) → AreInOrder (map (λ (t : NamedTy). t.name) m.types) → AreInOrder (global_names m) → HasShape m → IsInRange m → IsWithin m
      → Spells (printed_module (given m)) (given m)

  -- where it is well-formed, it can be run besides
  abbrev pub CanBeRun : Type 0
  CanBeRun =
      (m : Module) → AreInOrder (map (λ (t : NamedTy). t.name) m.types) → AreInOrder (global_names m) → IsWellFormed m
      → SpellsWellFormed (printed_module (given m)) (given m)

  -- what a text spells, and can be run, becomes such a module
  abbrev pub SpelledCanBeRun : Type 0
  SpelledCanBeRun = (bytes : List ℕ) (m : Module) → SpellsWellFormed bytes m → SpellsWellFormed (printed_module (given m)) (given m)

  -- what a text spells that has shape, whether or not it can be run, becomes a module that is printed as its own text
  abbrev pub SpelledCanBeRead : Type 0
  SpelledCanBeRead = (bytes : List ℕ) (m : Module) → AreBytes bytes → Spells bytes m → HasShape m → Spells (printed_module (given m)) (given m)

-- the names of a spelled module are in the order of the file
abbrev pub SpelledAreInOrder : Type 0
SpelledAreInOrder = (bytes : List ℕ) (m : Module) → Spells bytes m → IsInFileOrder m

-- ---- again

-- where each name is a text already, none becomes another
abbrev pub TextsStay : Type 0
TextsStay = (m : Module) → AllByRecursion (λ f. AllByRecursion IsText (names_of f)) m.functions → named_all m ≡ m

abbrev pub NamingAgainChangesNothing : Type 0
NamingAgainChangesNothing = (m : Module) → named_all (named_all m) ≡ named_all m

abbrev pub NumberingAgainChangesNothing : Type 0
NumberingAgainChangesNothing = (m : Module) → HasNamesApart m → numbered_in_order (numbered_in_order m) ≡ numbered_in_order m

-- what is named has nothing to number
abbrev pub NamedHaveNoNumbers : Type 0
NamedHaveNoNumbers = (m : Module) → numbered_in_order (named_all m) ≡ named_all m

-- ---- free names

-- Of one text there is one free name: the one with the fewest dots.
abbrev pub FreshNamesAreOne : Type 0
FreshNamesAreOne = (taken : List Name) (text a b : List ℕ) → IsFresh taken text a → IsFresh taken text b → a ≡ b
