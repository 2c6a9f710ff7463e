-- What a register may hold, and when one value is less defined than another.
use Rattle.std.specs.Prelude.{◌≡◌, ◌<◌, ◌≤◌, ◌^◌, ℕ, ℤ, Bool, true, false, ◌||◌, cond, nat_eq, Option, None, Some}
use Rattle.std.specs.Int.{w64}
use Rattle.std.specs.Int.RustNames.{FitsSigned}
use Rattle.ir_core.specs.declared.values.Value.{Value}
use Rattle.ir_core.specs.declared.values.Value.TheVariants.{Num, Ptr, Bare, Undef, Poison}
use Rattle.ir_core.specs.declared.values.Kind.{Kind}
use Rattle.ir_core.specs.declared.values.Kind.TheVariants as kind

-- the kinds that there are: integers of 1 to 64 bits, and addresses
abbrev pub HasWidth : Kind → Type 0
HasWidth (kind.Int width) = (1 ≤ width) × (width ≤ 64)
HasWidth kind.Ptr = Unit {0}

-- a signed number of 64 bits, from -2^63 to 2^63 - 1
abbrev pub IsOffset : ℤ → Type 0
IsOffset = FitsSigned w64

-- A number of iN lies below 2 to the N, the offset of an address in a block from -2^63 to 2^63 - 1, an address of no block below 2^64;
-- undef and poison lie in every kind.
abbrev pub IsInKind : Kind → Value → Type 0
IsInKind (kind.Int width) (Num n) = n < 2 ^ width
IsInKind (kind.Int width) (Ptr block offset) = ⊥
IsInKind (kind.Int width) (Bare address) = ⊥
IsInKind (kind.Int width) Undef = Unit {0}
IsInKind (kind.Int width) Poison = Unit {0}
IsInKind kind.Ptr (Num n) = ⊥
IsInKind kind.Ptr (Ptr block offset) = IsOffset offset
IsInKind kind.Ptr (Bare address) = address < 2 ^ 64
IsInKind kind.Ptr Undef = Unit {0}
IsInKind kind.Ptr Poison = Unit {0}

-- the same where there may be no kind: every value is of none
abbrev pub IsInKindOf : Option Kind → Value → Type 0
IsInKindOf None v = Unit {0}
IsInKindOf (Some k) v = IsInKind k v

abbrev pub same_kind : Kind → Kind → Bool
same_kind (kind.Int v) (kind.Int w) = nat_eq v w
same_kind (kind.Int v) kind.Ptr = false
same_kind kind.Ptr (kind.Int w) = false
same_kind kind.Ptr kind.Ptr = true

-- ---- what operators read of a value

abbrev pub is_poison : Value → Bool
is_poison Poison = true
is_poison Undef = false
is_poison (Num n) = false
is_poison (Ptr block offset) = false
is_poison (Bare address) = false

-- the number that an operator of numbers reads: a value of another kind counts as undef there
abbrev pub as_number : Value → Option ℕ
as_number (Num n) = Some n
as_number (Ptr block offset) = None
as_number (Bare address) = None
as_number Undef = None
as_number Poison = None

-- both numbers, or else
abbrev pub both_numbers : Value → (ℕ → ℕ → Value) → Option ℕ → Option ℕ → Value
both_numbers other f (Some m) (Some n) = f m n
both_numbers other f (Some m) None = other
both_numbers other f None n = other

-- Of two operands: poison, where one is; else what two numbers give, and `undef`, where one is no number.
abbrev pub on_numbers : Value → (ℕ → ℕ → Value) → Value → Value → Value
on_numbers undef f a b = cond (is_poison a || is_poison b) Poison (both_numbers undef f (as_number a) (as_number b))

-- ---- order

abbrev pub IsNotPoison : Value → Type 0
IsNotPoison Poison = ⊥
IsNotPoison Undef = Unit {0}
IsNotPoison (Num n) = Unit {0}
IsNotPoison (Ptr block offset) = Unit {0}
IsNotPoison (Bare address) = Unit {0}

-- a is less defined than b (Crellvm's lessdef): poison than every value, undef than every value but poison, a number or an address
-- than itself alone. Where a program may give a, one that gives b refines it.
abbrev pub IsLessDefined : Value → Value → Type 0
IsLessDefined Poison b = Unit {0}
IsLessDefined Undef b = IsNotPoison b
IsLessDefined (Num m) b = b ≡ Num m
IsLessDefined (Ptr block offset) b = b ≡ Ptr block offset
IsLessDefined (Bare address) b = b ≡ Bare address
