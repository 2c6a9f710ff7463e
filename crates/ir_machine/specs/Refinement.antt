-- What a module can show, and when one module refines another.
use Rattle.std.specs.Prelude.{◌≡◌, ◌≢◌, ◌↔◌, ◌⊎◌, ℕ, List, [], ◌∷◌, ◌++◌, MatchOption}
use Rattle.ir_types.specs.declared.names.Name.{Name}
use Rattle.ir_core.specs.declared.modules.Module.{Module}
use Rattle.ir_machine.specs.declared.items.Item.{Item}
use Rattle.ir_machine.specs.declared.items.Item.TheVariants.{Turn, Called, EnvRead, EnvWrite, EnvNew, Replied, Returned, Wrong}
use Rattle.ir_machine.specs.declared.inputs.Input.{Input}
use Rattle.ir_machine.specs.State.{State, Over}
use Rattle.ir_machine.specs.Machine.{Made, Follows, asks, ShowsFrom}
use Rattle.ir_machine.specs.Starting.{start}

-- Some run of at most n steps, from the start of that function on that input, shows exactly these items.
abbrev pub Shows : Module → Name → Input → ℕ → List Item → Type 0
Shows m f input n items = MatchOption (start m f input) ⊥ (λ s. ShowsFrom m n s items)

-- from the state a run can show these items, or undefined behaviour after a first part of them
abbrev pub MayShowFrom : Module → State → List Item → Type 0
MayShowFrom m s items = ((n : ℕ) × ShowsFrom m n s items)
    ⊎ ((n : ℕ) × (seen : List Item) × (rest : List Item) × (items ≡ seen ++ rest) × ShowsFrom m n s (seen ++ Wrong ∷ []))

-- the same from the start of that function on that input
abbrev pub MayShow : Module → Name → Input → List Item → Type 0
MayShow m f input items = MatchOption (start m f input) ⊥ (λ s. MayShowFrom m s items)

-- The target refines the source: whatever function is entered, on whatever input, what the target can show the source can
-- show too, unless it has undefined behaviour first.
abbrev pub Refines : Module → Module → Type 0
Refines source target = (f : Name) (input : Input) (n : ℕ) (items : List Item) → Shows target f input n items → MayShow source f input items

-- refinement leads from each module to itself
abbrev pub IsReflexive : Type 0
IsReflexive = (m : Module) → Refines m m

abbrev pub IsTransitive : Type 0
IsTransitive = (a b c : Module) → Refines a b → Refines b c → Refines a c

-- nothing comes after undefined behaviour
abbrev pub WrongIsLast : Type 0
WrongIsLast = (m : Module) (f : Name) (input : Input) (n : ℕ) (before after : List Item) → Shows m f input n (before ++ Wrong ∷ after) → after ≡ []

-- A run that isn't over can make a step: also a jump to no block is one, to undefined behaviour.
abbrev pub NoneIsStuck : Type 0
NoneIsStuck = (m : Module) (s : State) → s ≢ Over → (made : Made) × Follows (asks m s) made

-- the item is the last of a run that has ended
abbrev pub IsEnd : Item → Type 0
IsEnd Turn = ⊥
IsEnd (Called x args) = ⊥
IsEnd (EnvRead x offset s) = ⊥
IsEnd (EnvWrite x offset s) = ⊥
IsEnd (EnvNew align bytes) = ⊥
IsEnd (Replied s) = ⊥
IsEnd (Returned s) = Unit {0}
IsEnd Wrong = Unit {0}

-- the last of the items is one
abbrev pub EndTheRun : List Item → Type 0
EndTheRun items = (before : List Item) × (last : Item) × (items ≡ before ++ last ∷ []) × IsEnd last

-- a run is over after a step exactly where the last item that the step shows is the run's result or undefined behaviour
abbrev pub EndsAreShown : Type 0
EndsAreShown = (m : Module) (s : State) (made : Made) → Follows (asks m s) made → (made.after ≡ Over) ↔ EndTheRun made.items
