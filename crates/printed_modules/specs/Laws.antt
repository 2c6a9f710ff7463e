-- The laws of printing and reading modules of the whole grammar.
use Rattle.std.specs.Prelude.{◌≡◌, ℕ, List}
use Rattle.ir_core.specs.declared.modules.Module.{Module}
use Rattle.ir_core.specs.Ranges.{AreBytes, IsInRange}
use Rattle.ir_core.specs.WellFormed.{HasShape}
use Rattle.ir_printer.specs.Printed.{printed_module}
use Rattle.ir_typing.specs.ModuleLimits.Passed.{IsWithin}
use Rattle.module_spelling.specs.Spells.{Spells}
use Rattle.printed_modules.specs.Order.{IsInFileOrder}

-- A printed module spells that module, where its names are in the order of the file, it has shape, all of it is in range, and it passes no limit.
abbrev pub PrintedModulesAreRead : Type 0
PrintedModulesAreRead = (m : Module) → IsInFileOrder m → HasShape m → IsInRange m → IsWithin m → Spells (printed_module m) m

-- ---- what is read, printed again

-- What a text spells that has shape is printed as a text that spells the same module. A name of debugging may stand in a module without shape
-- alone, where it would be dropped.
abbrev pub SpelledModulesArePrinted : Type 0
SpelledModulesArePrinted = (bytes : List ℕ) (m : Module) → AreBytes bytes → Spells bytes m → HasShape m → Spells (printed_module m) m

-- What that text spells is printed as that text again, byte by byte.
abbrev pub PrintingAgainChangesNothing : Type 0
PrintingAgainChangesNothing =
    (bytes : List ℕ) (m n : Module) → AreBytes bytes → Spells bytes m → HasShape m → Spells (printed_module m) n → printed_module n ≡ printed_module m

-- Two modules of shape that texts spell and that are printed alike are one module.
abbrev pub SpelledModulesAreApart : Type 0
SpelledModulesAreApart =
    (a b : List ℕ) (m n : Module) → AreBytes a → AreBytes b → Spells a m → Spells b n → HasShape m → HasShape n → printed_module m ≡ printed_module n → m ≡ n
