-- What a comparison gives (LangRef 3.7, icmp Instruction): 1 or 0 of i1.
use Rattle.std.specs.Prelude.{ℕ, ℤ, pos, int_lt, int_le, Bool, false, true, not, ◌&&◌, ◌||◌, cond, nat_eq, nat_lt, nat_le, Option, None, Some}
use Rattle.ir_core.specs.declared.operands.Pred.{Pred}
use Rattle.ir_core.specs.declared.operands.Pred.TheVariants.{Eq, Ne, Ugt, Uge, Ult, Ule, Sgt, Sge, Slt, Sle}
use Rattle.ir_core.specs.declared.values.Kind.{Kind}
use Rattle.ir_core.specs.declared.values.Kind.TheVariants as kind
use Rattle.ir_core.specs.declared.values.Value.{Value}
use Rattle.ir_core.specs.declared.values.Value.TheVariants.{Num, Ptr, Bare, Undef, Poison}
use Rattle.ir_values.specs.declared.operations.Outcome.{Outcome}
use Rattle.ir_values.specs.declared.operations.Outcome.TheVariants.{Gives}
use Rattle.ir_values.specs.Numbers.{modulo, signed}
use Rattle.ir_values.specs.Values.{is_poison, on_numbers}

-- Whether the predicate holds of two numbers, which `u` reads unsigned and `s` in two's complement: in i8, `ult 128, 0` doesn't hold, and
-- `slt 128, 0` does.
abbrev pub holds : Pred → ℕ → ℕ → ℕ → Bool
holds Eq width a b = nat_eq a b
holds Ne width a b = not (nat_eq a b)
holds Ugt width a b = nat_lt b a
holds Uge width a b = nat_le b a
holds Ult width a b = nat_lt a b
holds Ule width a b = nat_le a b
holds Sgt width a b = int_lt (signed width b) (signed width a)
holds Sge width a b = int_le (signed width b) (signed width a)
holds Slt width a b = int_lt (signed width a) (signed width b)
holds Sle width a b = int_le (signed width a) (signed width b)

-- 1 or 0 of i1
abbrev pub bit : Bool → Value
bit holds = Num (cond holds 1 0)

-- ---- addresses

-- the offset lies inside a block of that size; one past the end doesn't
abbrev pub is_inside : ℤ → ℕ → Bool
is_inside offset size = int_le (pos 0) offset && int_lt offset (pos size)

-- an offset as a word of 64 bits: -1 is the greatest
abbrev pub word : ℤ → ℕ
word offset = modulo 64 offset

-- of addresses of which it is known that they differ: `eq` doesn't hold, `ne` does, and an order is undef
abbrev pub differing : Pred → Option Bool
differing Eq = Some false
differing Ne = Some true
differing pred = None

-- Of an address in a block, which has that size: by offset within the block; in two blocks, and beside the address 0, they are known to
-- differ where each lies inside its block.
abbrev pub compared_in_block : Pred → ℕ → ℤ → ℕ → Value → ℕ → Option Bool
compared_in_block pred b o size (Ptr c p) other =
    cond (nat_eq b c) (Some (holds pred 64 (word o) (word p))) (cond (is_inside o size && is_inside p other) (differing pred) None)
compared_in_block pred b o size (Bare a) other = cond (nat_eq a 0 && is_inside o size) (differing pred) None
compared_in_block pred b o size (Num n) other = None
compared_in_block pred b o size Undef other = None
compared_in_block pred b o size Poison other = None

-- of an address of no block: two of them by number
abbrev pub compared_bare : Pred → ℕ → Value → ℕ → Option Bool
compared_bare pred a (Ptr c p) other = cond (nat_eq a 0 && is_inside p other) (differing pred) None
compared_bare pred a (Bare c) other = Some (holds pred 64 a c)
compared_bare pred a (Num n) other = None
compared_bare pred a Undef other = None
compared_bare pred a Poison other = None

-- whether the predicate holds of two addresses, where that is known; what is no address counts as undef
abbrev pub compared : Pred → Value → ℕ → Value → ℕ → Option Bool
compared pred (Ptr b o) size v other = compared_in_block pred b o size v other
compared pred (Bare a) size v other = compared_bare pred a v other
compared pred (Num n) size v other = None
compared pred Undef size v other = None
compared pred Poison size v other = None

abbrev pub bit_if_known : Option Bool → Value
bit_if_known None = Undef
bit_if_known (Some holds) = bit holds

-- ---- values

-- poison, where an operand is; undef, where an operand is no number; else 1 where the predicate holds, and 0 where it doesn't
abbrev pub icmp_value : Pred → ℕ → Value → Value → Value
icmp_value pred width a b = on_numbers Undef (λ m n. bit (holds pred width m n)) a b

-- the same of addresses, each with the size of the block that it is in
abbrev pub icmp_address_value : Pred → Value → ℕ → Value → ℕ → Value
icmp_address_value pred a size b other = cond (is_poison a || is_poison b) Poison (bit_if_known (compared pred a size b other))

-- of two values of one kind, and the sizes of the blocks that they are in
abbrev pub icmp_outcome : Pred → Kind → Value → Value → ℕ → ℕ → Outcome
icmp_outcome pred (kind.Int width) a b size other = Gives (icmp_value pred width a b)
icmp_outcome pred kind.Ptr a b size other = Gives (icmp_address_value pred a size b other)
