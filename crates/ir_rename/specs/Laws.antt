-- What both renamings keep to.
use Rattle.std.specs.Prelude.{◌≡◌, ◌<◌, ℕ, List, [], ◌++◌, length, take, slice_index_or}
use Rattle.std.specs.List.{AllByRecursion}
use Rattle.ir_core.specs.declared.functions.Function.{Function}
use Rattle.ir_core.specs.declared.modules.Module.{Module}
use Rattle.ir_types.specs.declared.names.Name.{Name}
use Rattle.ir_types.specs.declared.names.Name.TheVariants.{Text, Number}
use Rattle.ir_core.specs.Functions.{function_names, names_of}
use Rattle.ir_core.specs.Order.{AreInOrder, AreNew, IsInOrder}
use Rattle.ir_core.specs.Ranges.{IsNameInRange}
use Rattle.ir_core.specs.WellFormed.{HasFunctionShape, IsFunctionDefined}
use Rattle.ir_rename.specs.Renamed.{AreRenamed, IsRenamed}
use Rattle.ir_rename.specs.Numbered.{numbered_in_order}
use Rattle.ir_rename.specs.Named.{IsFresh, named_all, named_function, text_of}

-- the names of each function are in range, as those of a well-formed module are
abbrev pub HasNamesInRange : Module → Type 0
HasNamesInRange m = AllByRecursion (λ f. AllByRecursion IsNameInRange (names_of f)) m.functions

-- and no two of a function are one, as in a well-formed module
abbrev pub HasNamesApart : Module → Type 0
HasNamesApart m = AllByRecursion (λ f. AreNew [] (names_of f)) m.functions

-- ---- numbers

abbrev pub NumberingRenames : Type 0
NumberingRenames = (m : Module) → HasNamesInRange m → HasNamesApart m → AreRenamed m (numbered_in_order m)

-- where the functions' own names are in order, which stay
abbrev pub NumberedIsInOrder : Type 0
NumberedIsInOrder =
    (m : Module) → HasNamesInRange m → HasNamesApart m → AreInOrder (function_names m) → IsInOrder (numbered_in_order m)

abbrev pub OrderStays : Type 0
OrderStays = (m : Module) → HasNamesInRange m → IsInOrder m → numbered_in_order m ≡ m

-- ---- texts

abbrev pub NamingRenames : Type 0
NamingRenames = (m : Module) → HasNamesInRange m → AreRenamed m (named_all m)

abbrev pub IsText : Name → Type 0
IsText (Text bytes) = Unit {0}
IsText (Number n) = ⊥

abbrev pub NamedAreTexts : Type 0
NamedAreTexts = (m : Module) → AllByRecursion (λ f. AllByRecursion IsText (names_of f)) (named_all m).functions

-- What the k-th name of a function, a number, becomes is none of its names, and none of those that are given before it, with as few dots as may
-- be.
abbrev pub GivesFreshAt : Function → ℕ → ℕ → Type 0
GivesFreshAt f k n =
    (text : List ℕ)
    × (slice_index_or (names_of (named_function f)) k (Number n) ≡ Text text)
    × IsFresh (names_of f ++ take k (names_of (named_function f))) (text_of n) text

abbrev pub NumbersGetFreshNames : Type 0
NumbersGetFreshNames = (f : Function) → AllByRecursion IsNameInRange (names_of f) → AreNew [] (names_of f)
    → (k n : ℕ) → k < length (names_of f) → slice_index_or (names_of f) k (Number n) ≡ Number n → GivesFreshAt f k n

-- ---- under whatever other names

-- beside a module, and so beside what it becomes where its functions are renamed too
abbrev pub RenamedHaveShape : Type 0
RenamedHaveShape =
    (m n : Module) (ρ : Name → Name) (f g : Function) → AreRenamed m n → IsRenamed ρ f g → HasFunctionShape m f → HasFunctionShape n g

abbrev pub RenamedAreDefined : Type 0
RenamedAreDefined =
    (m : Module) (ρ : Name → Name) (f g : Function) → IsRenamed ρ f g → HasFunctionShape m f → IsFunctionDefined f → IsFunctionDefined g
