-- What is judged of a function, and of a text, is decided: it is as it must be, or something is first at fault in it.
use Rattle.std.specs.Prelude.{◌⊎◌, ℕ, List}
use Rattle.ir_core.specs.declared.functions.Function.{Function}
use Rattle.ir_core.specs.declared.modules.Module.{Module}
use Rattle.ir_core.specs.Ranges.{AreBytes}
use Rattle.ir_core.specs.WellFormed.{IsFunctionDefined}
use Rattle.definedness.specs.declared.paths.Undefined.{Undefined}
use Rattle.definedness.specs.Undefined.{AreLabelsKnown, IsFirstUndefined}
use Rattle.ir_reader.specs.declared.fault.ModuleFault.{ModuleFault}
use Rattle.ir_reader.specs.Faults.{IsAtFault, SpellsWellFormed}
use Rattle.module_texts.specs.Texts.{IsShort}

-- Each use is defined on every path to it, or there is a first one that isn't, with the first path. (Where it is so of `%x = add i32 %x, 0`
-- in a function's first block, that path is this block alone.)
abbrev pub FunctionsAreJudged : Type 0
FunctionsAreJudged = (f : Function) → AreLabelsKnown f → IsFunctionDefined f ⊎ ((u : Undefined) × IsFirstUndefined f u)

-- the text is short, and spells this module, which is well-formed
abbrev pub IsFitting : List ℕ → Module → Type 0
IsFitting bytes m = IsShort bytes × SpellsWellFormed bytes m

-- A text is a well-formed module's, or something is first at fault in it that isn't want of memory: `@x = global i8 1` is such a text; of
-- `define void @f() { %p = alloca i8 store i8 %q, i8* %p ret void }` it is `%q` that is first at fault.
abbrev pub TextsAreJudged : Type 0
TextsAreJudged = (bytes : List ℕ) → AreBytes bytes → ((m : Module) × IsFitting bytes m) ⊎ ((f : ModuleFault) × IsAtFault bytes f)
