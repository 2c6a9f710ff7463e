-- Edges lead to nodes.
use Rattle.std.proofs.Common.{ℕ, ◌<◌, List, [], length, get_or}
use Rattle.std.proofs.lemmas.List.Elements.{All-from_recursion, All-get_or}
use Rattle.std.specs.List.{AllByRecursion}
use Rattle.flow_solver.specs.Ways.{LeadsWithin, led_to}

pub led_within : (g : List (List ℕ)) → LeadsWithin g → (m t : ℕ) → m < length g → t < length (led_to g m) → get_or (led_to g m) t 0 < length g
led_within g within m t at turn =
    All-get_or (λ n. n < length g) (led_to g m) t 0 turn
    (All-from_recursion (λ n. n < length g) (led_to g m) (All-get_or (AllByRecursion (λ n. n < length g)) g m [] at (All-from_recursion (AllByRecursion (λ n. n < length g)) g within)))
