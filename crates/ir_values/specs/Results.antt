-- What the operators make of two numbers (LangRef 3.7, Binary Operations, Bitwise Binary Operations).
use Rattle.std.specs.Prelude.{ℕ, ℤ, ◌+◌, ◌*◌, ◌/◌, ◌%◌, ◌^◌, ◌+ℤ◌, ◌-ℤ◌, ◌*ℤ◌, pos, unsigned_abs, int_div, int_rem, Bool, true, false, ◌&&◌, ◌||◌, nat_lt, nat_le, bit_and, bit_or, bit_xor}
use Rattle.std.specs.Int.{int_div_euclid}
use Rattle.ir_core.specs.declared.operands.BinOp.{BinOp}
use Rattle.ir_core.specs.declared.operands.BinOp.TheVariants.{Add, Sub, Mul, Shl, UDiv, SDiv, LShr, AShr, URem, SRem, And, Or, Xor}
use Rattle.ir_core.specs.declared.operands.Flags.{Flags}
use Rattle.ir_values.specs.Numbers.{is_outside, modulo, signed}

-- ---- families

abbrev pub is_division : BinOp → Bool
is_division UDiv = true
is_division SDiv = true
is_division URem = true
is_division SRem = true
is_division op = false

-- a division of numbers in two's complement
abbrev pub is_signed_division : BinOp → Bool
is_signed_division SDiv = true
is_signed_division SRem = true
is_signed_division op = false

abbrev pub is_shift : BinOp → Bool
is_shift Shl = true
is_shift LShr = true
is_shift AShr = true
is_shift op = false

-- it shifts by the width or more: in i8, `shl` by 8 does, and by 7 it doesn't
abbrev pub is_past_width : BinOp → ℕ → ℕ → Bool
is_past_width op width n = is_shift op && nat_le width n

-- ---- results

-- The exact result. The quotient of `sdiv` is rounded to zero: -7 by 2 is -3. The remainder of `srem` has the dividend's sign: -7 by 2
-- leaves -1. `ashr` fills with the sign bit, so it divides and rounds down: -7 by 1 place is -4.
abbrev pub exact : BinOp → ℕ → ℕ → ℕ → ℤ
exact Add width a b = pos (a + b)
exact Sub width a b = pos a -ℤ pos b
exact Mul width a b = pos (a * b)
exact Shl width a b = pos (a * 2 ^ b)
exact UDiv width a b = pos (a / b)
exact SDiv width a b = int_div (signed width a) (signed width b)
exact LShr width a b = pos (a / 2 ^ b)
exact AShr width a b = int_div_euclid (signed width a) (pos (2 ^ b))
exact URem width a b = pos (a % b)
exact SRem width a b = int_rem (signed width a) (signed width b)
exact And width a b = pos (bit_and a b)
exact Or width a b = pos (bit_or a b)
exact Xor width a b = pos (bit_xor a b)

-- the number that is the result: in i8, `add 255, 1` is 0 and `sdiv 249, 2` is 253
abbrev pub result : BinOp → ℕ → ℕ → ℕ → ℕ
result op width a b = modulo width (exact op width a b)

-- ---- flags

-- `nuw`: the exact unsigned result is no number of that width. In i8, `add 255, 1` wraps, and so do `sub 0, 1`, `mul 16, 16` and `shl 128, 1`.
abbrev pub wraps_unsigned : BinOp → ℕ → ℕ → ℕ → Bool
wraps_unsigned Add width a b = nat_le (2 ^ width) (a + b)
wraps_unsigned Sub width a b = nat_lt a b
wraps_unsigned Mul width a b = nat_le (2 ^ width) (a * b)
wraps_unsigned Shl width a b = nat_le (2 ^ width) (a * 2 ^ b)
wraps_unsigned op width a b = false

-- `nsw`: the exact signed result, which for `shl` is the number times 2 to the places, is no number of that width in two's complement. In
-- i8, `add 127, 1` wraps, and so do `sub 128, 1`, `mul 64, 2` and `shl 64, 1`; `shl 192, 1` doesn't, since -64 times 2 is -128.
abbrev pub wraps_signed : BinOp → ℕ → ℕ → ℕ → Bool
wraps_signed Add width a b = is_outside width (signed width a +ℤ signed width b)
wraps_signed Sub width a b = is_outside width (signed width a -ℤ signed width b)
wraps_signed Mul width a b = is_outside width (signed width a *ℤ signed width b)
wraps_signed Shl width a b = is_outside width (signed width a *ℤ pos (2 ^ b))
wraps_signed op width a b = false

-- `exact`: a remainder is left, or a one bit is shifted out: of `udiv 7, 2` and `sdiv 249, 2`, and of `lshr 3, 1` and `ashr 255, 1`.
abbrev pub leaves_rest : BinOp → ℕ → ℕ → ℕ → Bool
leaves_rest UDiv width a b = nat_lt 0 (a % b)
leaves_rest SDiv width a b = nat_lt 0 (unsigned_abs (int_rem (signed width a) (signed width b)))
leaves_rest LShr width a b = nat_lt 0 (a % 2 ^ b)
leaves_rest AShr width a b = nat_lt 0 (a % 2 ^ b)
leaves_rest op width a b = false

-- a flag of the line is broken
abbrev pub breaks_flag : BinOp → Flags → ℕ → ℕ → ℕ → Bool
breaks_flag op flags width a b =
    (flags.nuw && wraps_unsigned op width a b) || (flags.nsw && wraps_signed op width a b) || (flags.exact && leaves_rest op width a b)
