-- Monotone frameworks (Kam and Ullman, "Monotone Data Flow Analysis Frameworks"), and the greatest solution of one over a graph.
use Rattle.std.specs.Prelude.{◌≡◌, ℕ, ◌<◌, ◌⊎◌, List, length, slice_index_or}
use Rattle.std.specs.List.{Contains}
use Rattle.flow_solver.specs.Ways.{led_to}

pub record Framework (V : Type 0) : Type 1 where
  pub IsValue : V → Type 0
  pub IsBelow : V → V → Type 0
  pub top : V
  -- what enters a node from outside
  pub start : ℕ → V
  pub meet : V → V → V
  -- what leaves a node, by what enters it
  pub transfer : ℕ → V → V
  pub height : V → ℕ

-- a value that lies below all of these
abbrev pub IsLowerBound : {V : Type 0} → Framework V → (V → Type 0) → V → Type 0
IsLowerBound f among v = f.IsValue v × ((x : _) → among x → f.IsBelow v x)

abbrev pub IsGreatestLowerBound : {V : Type 0} → Framework V → (V → Type 0) → V → Type 0
IsGreatestLowerBound f among v = IsLowerBound f among v × ((w : _) → IsLowerBound f among w → f.IsBelow w v)

abbrev pub IsEither : {V : Type 0} → V → V → V → Type 0
IsEither a b x = (x ≡ a) ⊎ (x ≡ b)

-- What a framework keeps: all of it is said of values alone.
pub record IsMonotone {V : Type 0} (f : Framework V) : Type 0 where
  -- the order is a partial one
  pub reflexive : (x : V) → f.IsValue x → f.IsBelow x x
  pub transitive : (x y z : V) → f.IsValue x → f.IsValue y → f.IsValue z → f.IsBelow x y → f.IsBelow y z → f.IsBelow x z
  pub antisymmetric : (x y : V) → f.IsValue x → f.IsValue y → f.IsBelow x y → f.IsBelow y x → x ≡ y
  pub top : f.IsValue f.top
  pub greatest : (x : V) → f.IsValue x → f.IsBelow x f.top
  pub start : (n : ℕ) → f.IsValue (f.start n)
  pub meet : (x y : V) → f.IsValue x → f.IsValue y → IsGreatestLowerBound f (IsEither x y) (f.meet x y)
  pub transfer : (n : ℕ) (x : V) → f.IsValue x → f.IsValue (f.transfer n x)
  pub monotone : (n : ℕ) (x y : V) → f.IsValue x → f.IsValue y → f.IsBelow x y → f.IsBelow (f.transfer n x) (f.transfer n y)
  pub height : (x y : V) → f.IsValue x → f.IsValue y → f.IsBelow x y → (x ≡ y → ⊥) → f.height x < f.height y

-- the value of a node in a list; the top, where it has none
abbrev pub value_at : {V : Type 0} → Framework V → List V → ℕ → V
value_at f vs n = slice_index_or vs n f.top

-- What enters a node: its start, and what leaves each node that leads to it.
abbrev pub Enters : {V : Type 0} → Framework V → List (List ℕ) → List V → ℕ → V → Type 0
Enters f g vs n x = (x ≡ f.start n) ⊎ ((m : ℕ) × Contains (led_to g m) n × (x ≡ f.transfer m (value_at f vs m)))

-- A value for each node, below all that enters it then.
pub record IsSafe {V : Type 0} (f : Framework V) (g : List (List ℕ)) (vs : List V) : Type 0 where
  pub many : length vs ≡ length g
  pub below : (n : ℕ) → n < length g → IsLowerBound f (Enters f g vs n) (value_at f vs n)

-- A value for each node: its start met with what leaves each node that leads to it.
pub record IsSolution {V : Type 0} (f : Framework V) (g : List (List ℕ)) (vs : List V) : Type 0 where
  pub many : length vs ≡ length g
  pub met : (n : ℕ) → n < length g → IsGreatestLowerBound f (Enters f g vs n) (value_at f vs n)

-- Every solution lies below it, node by node.
pub record IsGreatestSolution {V : Type 0} (f : Framework V) (g : List (List ℕ)) (vs : List V) : Type 0 where
  pub solution : IsSolution f g vs
  pub greatest : (others : List V) → IsSolution f g others → (n : ℕ) → n < length g → f.IsBelow (value_at f others n) (value_at f vs n)
