-- Words of private functions: what a worklist has come to.
use Rattle.std.specs.Prelude.{◌≡◌, ◌≢◌, ℕ, ◌+◌, ◌<◌, ◌≤◌, ◌⊎◌, true, false, List, length, slice_index, slice_index_or, slice_set}
use Rattle.std.specs.List.{Contains, sum_by}
use Rattle.std.specs.BinaryHeap.{heap_items, heap_len}
use Rattle.flow_solver.specs.declared.queue.Queue.{Queue}
use Rattle.flow_solver.specs.Ways.{led_to}
use Rattle.flow_solver.specs.Frameworks.{Enters, Framework, IsLowerBound, IsSafe, value_at}

-- ---- nodes that wait

abbrev pub Waits : Queue → ℕ → Type 0
Waits q n = slice_index_or q.waits.items n false ≡ true

-- the nodes that wait are queued, each beside its rank, and nodes alone are
pub record IsQueue (q : Queue) : Type 0 where
  pub kept : (n : ℕ) → Waits q n → (rank : ℕ) × Contains (heap_items q.heap) (rank, n)
  pub nodes : (rank n : ℕ) → Contains (heap_items q.heap) (rank, n) → n < length q.waits.items

-- so many nodes as before, and those that waited still do
pub record StillWait (old new : Queue) : Type 0 where
  pub many : length new.waits.items ≡ length old.waits.items
  pub waits : (n : ℕ) → Waits old n → Waits new n

-- ---- values on their way down

-- what falls with each node that is left
abbrev pub weight : {V : Type 0} → Framework V → List V → Queue → ℕ
weight f vs q = sum_by f.height vs + heap_len q.heap

-- Values above the greatest solution: each was met from nothing but what enters its node.
pub record IsAboveAll {V : Type 0} (f : Framework V) (g : List (List ℕ)) (vs : List V) : Type 0 where
  pub many : length vs ≡ length g
  pub value : (n : ℕ) → f.IsValue (value_at f vs n)
  pub start : (n : ℕ) → n < length g → f.IsBelow (value_at f vs n) (f.start n)
  pub met : (n : ℕ) → n < length g → (w : V) → IsLowerBound f (Enters f g vs n) w → f.IsBelow w (value_at f vs n)
  pub safe : (others : List V) → IsSafe f g others → (n : ℕ) → n < length g → f.IsBelow (value_at f others n) (value_at f vs n)

-- what leaves a node by its value has been met with the values of those to which it leads
abbrev pub IsLeft : {V : Type 0} → Framework V → List (List ℕ) → List V → ℕ → Type 0
IsLeft f g vs n = (t : ℕ) → t < length (led_to g n) → f.IsBelow (value_at f vs (slice_index (led_to g n) t)) (f.transfer n (value_at f vs n))

-- The nodes that don't wait are left.
pub record IsSolving {V : Type 0} (f : Framework V) (g : List (List ℕ)) (vs : List V) (q : Queue) : Type 0 where
  pub queue : IsQueue q
  pub marks : length q.waits.items ≡ length g
  pub above : IsAboveAll f g vs
  pub left : (n : ℕ) → (Waits q n → ⊥) → IsLeft f g vs n

-- The node m is being left with the value x: what leaves it has been met with the values of so many of those to which it leads.
pub record IsLeaving {V : Type 0} (f : Framework V) (g : List (List ℕ)) (m : ℕ) (x : V) (vs : List V) (q : Queue) (many : ℕ) : Type 0 where
  pub queue : IsQueue q
  pub marks : length q.waits.items ≡ length g
  pub above : IsAboveAll f g vs
  pub same : (Waits q m → ⊥) → value_at f vs m ≡ x
  pub down : f.IsBelow (value_at f vs m) x
  pub left : (n : ℕ) → n ≢ m → (Waits q n → ⊥) → IsLeft f g vs n
  pub turns : (t : ℕ) → t < many → t < length (led_to g m) → f.IsBelow (value_at f vs (slice_index (led_to g m) t)) (f.transfer m x)

-- A set has entered the node n, which waits if that changed its value.
pub record HasEntered {V : Type 0} (f : Framework V) (n : ℕ) (s : V) (vs : List V) (q : Queue) (after : List V) (r : Queue) : Type 0 where
  pub met : after ≡ slice_set vs n (f.meet (value_at f vs n) s)
  pub queue : IsQueue r
  pub still : StillWait q r
  pub changed : (after ≡ vs) ⊎ Waits r n
  pub weight : weight f after r ≤ weight f vs q
