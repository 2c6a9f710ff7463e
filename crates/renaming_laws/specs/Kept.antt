-- What a module keeps under whatever other names.
use Rattle.std.specs.Prelude.{◌≡◌}
use Rattle.std.specs.List.{AllByRecursion}
use Rattle.ir_core.specs.declared.modules.Module.{Module}
use Rattle.ir_core.specs.Functions.{function_names}
use Rattle.ir_core.specs.Ranges.{IsInRange}
use Rattle.ir_core.specs.WellFormed.{HasFunctionShape, HasShape, IsDefined, IsWellFormed}
use Rattle.ir_rename.specs.Laws.{HasNamesApart, HasNamesInRange}
use Rattle.ir_rename.specs.Renamed.{AreRenamed}
use Rattle.ir_typing.specs.ModuleLimits.Passed.{IsWithin}

-- the functions themselves go on to be called what they are
abbrev pub FunctionNamesStay : Type 0
FunctionNamesStay = (m n : Module) → AreRenamed m n → function_names n ≡ function_names m

abbrev pub NamesStayApart : Type 0
NamesStayApart = (m n : Module) → AreRenamed m n → HasNamesApart m → HasNamesApart n

abbrev pub ShapeStays : Type 0
ShapeStays = (m n : Module) → AreRenamed m n → HasShape m → HasShape n

-- where its functions have shape
abbrev pub DefinednessStays : Type 0
DefinednessStays = (m n : Module) → AreRenamed m n → AllByRecursion (HasFunctionShape m) m.functions → IsDefined m → IsDefined n

-- where the new names are in range
abbrev pub RangeStays : Type 0
RangeStays = (m n : Module) → AreRenamed m n → IsInRange m → HasNamesInRange n → IsInRange n

-- renaming adds no line and makes nothing deeper or larger
abbrev pub LimitsStay : Type 0
LimitsStay = (m n : Module) → AreRenamed m n → IsWithin m → IsWithin n

abbrev pub WellFormednessStays : Type 0
WellFormednessStays = (m n : Module) → AreRenamed m n → IsWellFormed m → HasNamesInRange n → IsWellFormed n
