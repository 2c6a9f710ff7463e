-- Words of private functions. What an act of the outside leads to in the code.
use Rattle.std.specs.Prelude.{◌≡◌, cond, List, [], ◌∷◌, Result, Ok, Err}
use Rattle.block_memory.specs.declared.items.Choice.{Choice}
use Rattle.block_memory.specs.declared.items.ShownByte.{ShownByte}
use Rattle.block_memory.specs.declared.names.ShowEnd.{ShowEnd}
use Rattle.block_memory.specs.declared.names.ShowEnd.TheVariants as show_end
use Rattle.ir_values.specs.Values.{IsInKindOf}
use Rattle.ir_machine.specs.declared.acting.Acted.{Acted}
use Rattle.ir_machine.specs.declared.acting.Acted.TheVariants.{Stays, Replied, Wrong}
use Rattle.ir_machine.specs.declared.items.Item.{Item}
use Rattle.ir_machine.specs.declared.machine.StepEnd.{StepEnd}
use Rattle.ir_machine.specs.declared.machine.StepEnd.TheVariants as end
use Rattle.ir_machine.specs.Choices.{Answer, Did, Lacks, answer}
use Rattle.ir_machine.specs.Machine.{Asks, Does, Told, act, is_act, resumed, wrong}
use Rattle.ir_machine.specs.State.{Pending, State, Running, Waiting, World}

-- a run whose call waited goes on so, in that world
abbrev pub acted_as : Acted → Pending → List Pending → World → Asks
acted_as (Stays item) p ps world = Does (item ∷ []) (Waiting p ps world)
acted_as (Replied item k v) p ps world = Does (item ∷ []) (Running (resumed p k v) ps world)
acted_as Wrong p ps world = wrong

-- the value that a call is answered by is one of its kind
abbrev pub IsActedInKind : Acted → Type 0
IsActedInKind (Stays item) = Unit {0}
IsActedInKind (Replied item k v) = IsInKindOf k v
IsActedInKind Wrong = Unit {0}

-- The answer is what the act leads to, or that a choice lacks. Where memory is refused, it is some step.
abbrev pub Answered : Result Acted StepEnd → Answer → Pending → List Pending → World → List Choice → Type 0
Answered (Ok acted) told p ps world after = told ≡ answer (acted_as acted p ps world) after
Answered (Err end.NoChoice) told p ps world after = told ≡ Lacks after
Answered (Err end.Memory) told p ps world after = (items : List Item) × (state : State) × (told ≡ Did items state after)

-- the answer where that act is told, and then these choices
abbrev pub answer_to : Choice → Pending → List Pending → World → List Choice → Answer
answer_to c p ps world left = cond (is_act p world (Told c)) (answer (act (Told c) p ps world) left) (Lacks left)

-- The tree answers the choices before as what follows the byte that is shown answers those after; or as undefined behaviour; or it lacks a
-- choice. Where memory is refused, what follows is that of some byte and some world.
abbrev pub ByteAnswers : Result ShownByte ShowEnd → Asks → List Choice → (ShownByte → World → Asks) → World → List Choice → Type 0
ByteAnswers (Ok s) tree before next world after = answer tree before ≡ answer (next s world) after
ByteAnswers (Err show_end.Wrong) tree before next world after = answer tree before ≡ answer wrong after
ByteAnswers (Err show_end.NoChoice) tree before next world after = answer tree before ≡ Lacks after
ByteAnswers (Err show_end.Memory) tree before next world after = (s : ShownByte) × (w : World) × (answer tree before ≡ answer (next s w) after)
