-- Steps of reached states.
use Rattle.std.proofs.Common.{ℕ, zero, suc, List, [], ◌++◌, refl, subst}
use Rattle.ir_core.specs.declared.modules.Module.{Module}
use Rattle.ir_machine.specs.declared.items.Item.{Item}
use Rattle.ir_machine.specs.Laws.{Leads}
use Rattle.ir_machine.specs.Machine.{Follows, Made, asks}
use Rattle.ir_machine.specs.Reached.{StartsAreReached, StepsAreReached}
use Rattle.ir_machine.specs.State.{State}

-- steps, and one more
led_on : (m : Module) (n : ℕ) (s : State) (items : List Item) (t : State) (made : Made) → Leads m n s items t → Follows (asks m t) made
    → (all : List Item) × Leads m (suc n) s all made.after
led_on m zero s items t made leads follows =
    (made.items ++ [], (made, [], subst (λ (u : State). Follows (asks m u) made) leads.1 follows, refl, (refl, refl)))
led_on m (suc n) s items t made leads follows =
    let later : (all : List Item) × Leads m (suc n) leads.0.after all made.after = led_on m n leads.0.after leads.1 t made leads.4 follows in
    (leads.0.items ++ later.0, (leads.0, later.0, leads.2, refl, later.1))

pub starts_are_reached : StartsAreReached
starts_are_reached m f input s starts = record { entry = f; input = input; first = s; starts = starts; steps = 0; items = []; leads = (refl, refl) }

pub steps_are_reached : StepsAreReached
steps_are_reached m s made reached follows =
    let on : (all : List Item) × Leads m (suc reached.steps) reached.first all made.after
    = led_on m reached.steps reached.first reached.items s made reached.leads follows in
    record {
      entry = reached.entry;
      input = reached.input;
      first = reached.first;
      starts = reached.starts;
      steps = suc reached.steps;
      items = on.0;
      leads = on.1;
    }
