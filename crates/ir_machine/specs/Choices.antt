-- How a step is answered by choices that are told one after the other.
use Rattle.std.specs.Prelude.{◌≡◌, ◌≢◌, ◌↔◌, cond, List, [], ◌∷◌, ◌++◌, map, Option, None, Some}
use Rattle.ir_core.specs.declared.modules.Module.{Module}
use Rattle.ir_machine.specs.declared.items.Item.{Item}
use Rattle.block_memory.specs.declared.items.Choice.{Choice}
use Rattle.ir_machine.specs.State.{State, Over}
use Rattle.ir_machine.specs.Machine.{Asks, Does, Ask, Never, Told, Follows, asks}

-- the first of the choices is told, where there is one
abbrev pub TakesNext : Option Choice → List Choice → List Choice → Type 0
TakesNext None before after = (before ≡ []) × (after ≡ [])
TakesNext (Some c) before after = before ≡ c ∷ after

-- What a tree answers to the choices that are told. The step is made, and these choices are left of them; or a choice is
-- due, and there is none, or the next doesn't fit, and these are left after it; or there is no step.
pub data Answer : Type 0 where
  Did : List Item → State → List Choice → Answer
  Lacks : List Choice → Answer
  NoStep : Answer

abbrev pub answer : Asks → List Choice → Answer
answer (Does items after) told = Did items after told
answer (Ask fits next) [] = Lacks []
answer (Ask fits next) (c ∷ told) = cond (fits (Told c)) (answer (next (Told c)) told) (Lacks told)
answer Never told = NoStep

-- the choices that are left
abbrev pub Leaves : Answer → List Choice → Type 0
Leaves (Did items after rest) left = rest ≡ left
Leaves (Lacks rest) left = rest ≡ left
Leaves NoStep left = ⊥

-- The choices before are those that are taken and then those after, and the tree asks for each that is taken: told them
-- alone, it leaves none.
abbrev pub TakesAsked : Asks → List Choice → List Choice → Type 0
TakesAsked tree before after = (taken : List Choice) × (before ≡ taken ++ after) × Leaves (answer tree taken) []

-- The tree allows a step to which these choices are told exactly where that step is its answer to them, whatever choices come after.
abbrev pub AnswersAreSteps : Type 0
AnswersAreSteps = (tree : Asks) (told : List Choice) (items : List Item) (after : State) (left : List Choice)
    → Follows tree (record { told = map Told told; items = items; after = after }) ↔ (answer tree (told ++ left) ≡ Did items after left)

-- what an answer leaves is what is left once choices that the tree asks for are taken
abbrev pub AnswersTakeAsked : Type 0
AnswersTakeAsked = (tree : Asks) (told left : List Choice) → Leaves (answer tree told) left → TakesAsked tree told left

-- where a run isn't over, a step is made or lacks a choice, whatever is told
abbrev pub RunsAnswer : Type 0
RunsAnswer = (m : Module) (s : State) (told : List Choice) → s ≢ Over → answer (asks m s) told ≢ NoStep
