-- What a binary operation gives (LangRef 3.7, Binary Operations, Bitwise Binary Operations, Undefined Values, Poison Values): the first
-- case that fits.
use Rattle.std.specs.Prelude.{ℕ, ◌-◌, ◌^◌, Bool, true, ◌&&◌, ◌||◌, cond, nat_eq, Option}
use Rattle.ir_core.specs.declared.values.Value.{Value}
use Rattle.ir_core.specs.declared.values.Value.TheVariants.{Num, Ptr, Bare, Undef, Poison}
use Rattle.ir_core.specs.declared.values.Kind.{Kind}
use Rattle.ir_core.specs.declared.operands.BinOp.{BinOp}
use Rattle.ir_core.specs.declared.operands.Flags.{Flags}
use Rattle.ir_values.specs.declared.operations.Outcome.{Outcome}
use Rattle.ir_values.specs.declared.operations.Outcome.TheVariants.{Gives, Trap}
use Rattle.ir_values.specs.Results.{breaks_flag, is_division, is_past_width, is_signed_division, result}
use Rattle.ir_values.specs.Values.{IsInKindOf, IsLessDefined, on_numbers}

-- an outcome is less defined than another: undefined behaviour than every outcome, a value as values are
abbrev pub IsOutcomeLessDefined : Outcome → Outcome → Type 0
IsOutcomeLessDefined Trap b = Unit {0}
IsOutcomeLessDefined (Gives a) (Gives b) = IsLessDefined a b
IsOutcomeLessDefined (Gives a) Trap = ⊥

-- the value that an outcome gives is of the kind
abbrev pub GivesInKind : Option Kind → Outcome → Type 0
GivesInKind k (Gives v) = IsInKindOf k v
GivesInKind k Trap = Unit {0}

-- the value is that number, or it may be any, as undef and poison may, and as a value of another kind counts
abbrev pub may_be : ℕ → Value → Bool
may_be n (Num m) = nat_eq m n
may_be n (Ptr block offset) = true
may_be n (Bare address) = true
may_be n Undef = true
may_be n Poison = true

-- A division has undefined behaviour where the divisor may be 0; a signed one also where the divisor may be -1 and the dividend the least
-- number: in i8, `sdiv 128, 255` traps, and `sdiv undef, 255` too. In i1, `sdiv 1, 1` traps.
abbrev pub traps : BinOp → ℕ → Value → Value → Bool
traps op width a b =
    (is_division op && may_be 0 b) || (is_signed_division op && may_be (2 ^ width - 1) b && may_be (2 ^ (width - 1)) a)

-- undef, or poison where the line has a flag
abbrev pub undef_under : Flags → Value
undef_under flags = cond (flags.nuw || flags.nsw || flags.exact) Poison Undef

-- Of two numbers: a shift by the width or more gives undef_under the flags, and a broken flag poison.
abbrev pub number_value : BinOp → Flags → ℕ → ℕ → ℕ → Value
number_value op flags width m n =
    cond (is_past_width op width n) (undef_under flags) (cond (breaks_flag op flags width m n) Poison (Num (result op width m n)))

-- poison, where an operand is; undef_under the flags, where an operand is no number; else what two numbers give
abbrev pub binary_value : BinOp → Flags → ℕ → Value → Value → Value
binary_value op flags width a b = on_numbers (undef_under flags) (number_value op flags width) a b

-- undefined behaviour before all else
abbrev pub binary_outcome : BinOp → Flags → ℕ → Value → Value → Outcome
binary_outcome op flags width a b = cond (traps op width a b) Trap (Gives (binary_value op flags width a b))
