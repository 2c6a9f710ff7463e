-- Numbers of iN: read in two's complement, and taken modulo 2 to the N.
use Rattle.std.specs.Prelude.{ℕ, ℤ, ◌-◌, ◌^◌, ◌-ℤ◌, neg_ℤ, pos, unsigned_abs, int_lt, int_le, Bool, ◌||◌, cond, nat_lt}
use Rattle.std.specs.Int.{int_rem_euclid}

-- The number read in two's complement: 127 of i8 is 127, 128 is -128 and 255 is -1. In i1 the number 1 is -1.
abbrev pub signed : ℕ → ℕ → ℤ
signed width n = cond (nat_lt n (2 ^ (width - 1))) (pos n) (pos n -ℤ pos (2 ^ width))

-- What an integer is modulo 2 to the width: in i8, 256 is 0 and -1 is 255.
abbrev pub modulo : ℕ → ℤ → ℕ
modulo width z = unsigned_abs (int_rem_euclid z (pos (2 ^ width)))

-- the integer is no number of that width in two's complement: in i8 those are -128 to 127
abbrev pub is_outside : ℕ → ℤ → Bool
is_outside width z = int_lt z (neg_ℤ (pos (2 ^ (width - 1)))) || int_le (pos (2 ^ (width - 1))) z
