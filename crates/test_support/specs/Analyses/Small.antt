-- Small sets, as the bits of a number: what has come on every path to a node.
use Rattle.std.specs.Prelude.{ℕ, zero, suc, ◌≤◌, List, slice_index_or}
use Rattle.std.specs.Int.{bit_at}
use Rattle.std.specs.Int.Bits.{bit_and, bit_or}
use Rattle.flow_solver.specs.Frameworks.{Framework}
use Rattle.test_support.specs.declared.analyses.small.Effect.{Effect}

-- each of the one is of the other
abbrev pub IsWithin : ℕ → ℕ → Type 0
IsWithin a b = (i : ℕ) → bit_at a i ≤ bit_at b i

-- nothing has come to the first node
abbrev pub start_of : ℕ → ℕ → ℕ
start_of all zero = 0
start_of all (suc n) = all

abbrev pub effect_at : List Effect → ℕ → Effect
effect_at effects n = slice_index_or effects n (record { keeps = 0; gives = 0 })

-- what the node keeps, and what it gives
abbrev pub left_by : ℕ → Effect → ℕ → ℕ
left_by all e s = bit_and (bit_or (bit_and s e.keeps) e.gives) all

abbrev pub small : ℕ → List Effect → Framework ℕ
small all effects = record {
  IsValue = λ s. IsWithin s all;
  IsBelow = IsWithin;
  top = all;
  start = start_of all;
  meet = bit_and;
  transfer = λ n s. left_by all (effect_at effects n) s;
  height = λ s. s;
}
