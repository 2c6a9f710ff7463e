-- The laws that tie what is named, what is built and what is at fault.
use Rattle.std.specs.Prelude.{◌≡◌, ◌≤◌, []}
use Rattle.std.specs.List.{AllByRecursion}
use Rattle.ir_core.specs.declared.functions.Function.{Function}
use Rattle.ir_core.specs.declared.modules.Module.{Module}
use Rattle.ir_core.specs.Functions.{line_count}
use Rattle.ir_core.specs.Limits.{line_limit}
use Rattle.ir_types.specs.declared.names.Name.{Name}
use Rattle.module_grammar.specs.declared.functions.DeclaredText.{DeclaredText}
use Rattle.module_grammar.specs.declared.items.ModuleText.{ModuleText}
use Rattle.module_grammar.specs.declared.places.Placed.{Placed}
use Rattle.module_grammar.specs.declared.types.CalledText.{CalledText}
use Rattle.named_modules.specs.Built.{module_of}
use Rattle.named_modules.specs.Faults.{faults_of}
use Rattle.named_modules.specs.Modules.{NamesModule}

-- what stands before a name at its place is this
abbrev pub Is : {T : Type 0} → (Placed Name → T) → Placed Name → T → Type 0
Is told x t = t ≡ told x

abbrev pub AreShort : Module → Type 0
AreShort m = AllByRecursion (λ (f : Function). line_count f ≤ line_limit) m.functions

-- A tree within the limit on lines of which nothing is at fault names the module that is built of it.
abbrev pub FaultlessTreesNameWhatIsBuilt : Type 0
FaultlessTreesNameWhatIsBuilt =
    (stated : Placed Name → CalledText) (params : Placed Name → DeclaredText) (w : ModuleText)
    → AreShort (module_of params w) → faults_of stated params w ≡ [] → NamesModule (Is stated) (Is params) w (module_of params w)

-- It names no other, and a tree that names one has no fault.
abbrev pub NamedTreesAreFaultless : Type 0
NamedTreesAreFaultless =
    (stated : Placed Name → CalledText) (params : Placed Name → DeclaredText) (w : ModuleText) (m : Module)
    → NamesModule (Is stated) (Is params) w m → (m ≡ module_of params w) × (faults_of stated params w ≡ [])
