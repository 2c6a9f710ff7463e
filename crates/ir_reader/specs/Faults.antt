-- What is first at fault in the text of a module: what it spells, then its shape, then registers that are used where they aren't defined, each over
-- the whole module.
use Rattle.std.specs.Prelude.{◌≡◌, ◌≢◌, ℕ, List, ◌∷◌, ◌++◌, None, Some}
use Rattle.std.specs.List.{AllByRecursion}
use Rattle.ir_core.specs.declared.functions.Function.{Function}
use Rattle.ir_core.specs.declared.modules.Module.{Module}
use Rattle.ir_core.specs.WellFormed.{IsFunctionDefined, IsWellFormed}
use Rattle.ir_shape.specs.Shape.{first_fault}
use Rattle.definedness.specs.Undefined.{IsFirstUndefined}
use Rattle.ir_reader.specs.declared.fault.ModuleFault.{ModuleFault}
use Rattle.ir_reader.specs.declared.fault.ModuleFault.TheVariants as fault
use Rattle.module_spelling.specs.Spells.{Spells}
use Rattle.module_texts.specs.Texts.{IsTextFault}
use Rattle.ir_lexer.specs.declared.fault.TextFault.TheVariants as text

-- A text has a module that is used where it spells one, and that is well-formed.
abbrev pub SpellsWellFormed : List ℕ → Module → Type 0
SpellsWellFormed bytes m = Spells bytes m × IsWellFormed m

-- the first of the functions that isn't such: all before it are
pub record FirstWithout (IsSuch : Function → Type 0) (fs : List Function) (f : Function) : Type 0 where
  pub before : List Function
  pub after : List Function
  pub functions : fs ≡ before ++ (f ∷ after)
  pub such : AllByRecursion IsSuch before
  pub not_such : IsSuch f → ⊥

-- The first fault of a module's text. Want of memory says nothing of it.
--
-- Of `define i32 @llvm.dbg.x() { ret i32 0 }` it is that name, of `define i32 @f() { %x = add i32 %x, 0 ret void }` the `return type` in
-- line 1 of the block `%0` of `@f`, and where that ends in `ret i32 %x` it is `%x` in line 0, on the path `%0`; with `)` behind any of
-- them it is the text's.
abbrev pub IsModuleFault : List ℕ → ModuleFault → Type 0
IsModuleFault bytes (fault.Text f) = IsTextFault bytes f × (f ≢ text.Memory)
IsModuleFault bytes (fault.Shape f) = (m : Module) × Spells bytes m × (first_fault m ≡ Some f)
IsModuleFault bytes (fault.Undefined function u) =
    (m : Module) × Spells bytes m × (first_fault m ≡ None)
    × ((f : Function) × FirstWithout IsFunctionDefined m.functions f × IsFirstUndefined f u × (function ≡ f.name))
IsModuleFault bytes fault.Memory = Unit {0}

-- and it is more than want of memory
abbrev pub IsAtFault : List ℕ → ModuleFault → Type 0
IsAtFault bytes f = IsModuleFault bytes f × (f ≢ fault.Memory)
