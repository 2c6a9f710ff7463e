-- Words of private functions. What showing a value leads to in the code.
use Rattle.std.specs.Prelude.{◌≡◌, List, ◌++◌, Result, Ok, Err}
use Rattle.block_memory.specs.declared.items.Choice.{Choice}
use Rattle.block_memory.specs.declared.items.Shown.{Shown}
use Rattle.block_memory.specs.declared.names.ShowEnd.{ShowEnd}
use Rattle.block_memory.specs.declared.names.ShowEnd.TheVariants as end
use Rattle.ir_machine.specs.State.{World}
use Rattle.ir_machine.specs.Machine.{Asks, wrong}
use Rattle.ir_machine.specs.Choices.{Lacks, answer}

-- The tree answers the choices before as what follows answers those after: what follows the value that is shown, with the world after it,
-- or follows poison; or it lacks a choice. Where memory is refused, what follows is that of some value and some world.
abbrev pub ShowingAnswers : Result Shown ShowEnd → Asks → List Choice → Asks → (Shown → World → Asks) → World → List Choice → Type 0
ShowingAnswers (Ok s) tree before poison next world after = answer tree before ≡ answer (next s world) after
ShowingAnswers (Err end.Wrong) tree before poison next world after = answer tree before ≡ answer poison after
ShowingAnswers (Err end.NoChoice) tree before poison next world after = answer tree before ≡ Lacks after
ShowingAnswers (Err end.Memory) tree before poison next world after = (s : Shown) × (w : World) × (answer tree before ≡ answer (next s w) after)

-- The choices before are those for which the tree asks to come to that rest of it, and then those after.
abbrev pub Leads : Asks → List Choice → Asks → List Choice → Type 0
Leads tree before rest after =
    (taken : List Choice) × (before ≡ taken ++ after) × ((more : List Choice) → answer tree (taken ++ more) ≡ answer rest more)

-- By the choices before, and not those after, the tree comes to what follows the value that is shown, with the world after it, or to what
-- follows poison. Where memory is refused, it comes to what follows some value and some world.
abbrev pub ShowingLeads : Result Shown ShowEnd → Asks → List Choice → Asks → (Shown → World → Asks) → World → List Choice → Type 0
ShowingLeads (Ok s) tree before poison next world after = Leads tree before (next s world) after
ShowingLeads (Err end.Wrong) tree before poison next world after = Leads tree before poison after
ShowingLeads (Err end.NoChoice) tree before poison next world after = answer tree before ≡ Lacks after
ShowingLeads (Err end.Memory) tree before poison next world after = (s : Shown) × (w : World) × Leads tree before (next s w) after

-- The same of all arguments of a call, where poison is undefined behaviour: the tree answers as what follows those that are shown.
abbrev pub ShowsAll : Result (List Shown) ShowEnd → Asks → List Choice → (List Shown → World → Asks) → World → List Choice → Type 0
ShowsAll (Ok ss) tree before next world after = answer tree before ≡ answer (next ss world) after
ShowsAll (Err end.Wrong) tree before next world after = answer tree before ≡ answer wrong after
ShowsAll (Err end.NoChoice) tree before next world after = answer tree before ≡ Lacks after
ShowsAll (Err end.Memory) tree before next world after = Unit {0}
