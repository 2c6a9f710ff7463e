-- How the code reckons with signed numbers: a sign and a magnitude. Only contracts of private functions cite these.
use Rattle.std.specs.Prelude.{◌≡◌, ◌≤◌, ℕ, ℤ, neg_ℤ, pos, Bool, true, false, ◌&&◌, ◌^◌, ◌-◌, cond, nat_le, List, map, Option, None, Some}
use Rattle.std.specs.List.{list_all}
use Rattle.std.specs.Option.{is_some}
use Rattle.ir_types.specs.declared.named.NamedTy.{NamedTy}
use Rattle.ir_types.specs.declared.ty.Ty.{Ty}
use Rattle.ir_types.specs.Named.{is_sized, size_of}
use Rattle.ir_core.specs.Sizes.{entered_along}
use Rattle.ir_core.specs.Typing.{led_to}
use Rattle.ir_values.specs.Addresses.{GivenIndex, is_past, is_small, leaves, moved_by, told_index}
use Rattle.ir_values.specs.Numbers.{modulo}

-- the number is negative in two's complement
abbrev pub is_negative : ℕ → ℕ → Bool
is_negative width n = nat_le (2 ^ (width - 1)) n

-- the integer of that magnitude, below 0 where the flag says so
abbrev pub with_sign : Bool → ℕ → ℤ
with_sign negative magnitude = cond negative (neg_ℤ (pos magnitude)) (pos magnitude)

-- of two signs, that of the product and of the quotient
abbrev pub differ : Bool → Bool → Bool
differ true true = false
differ true false = true
differ false true = true
differ false false = false

-- ---- addresses

-- where a base comes by so many distances, as a word: nowhere, where it leaves its block on the way
abbrev pub ended_at : Bool → ℕ → ℤ → List ℤ → Option ℕ
ended_at inbounds size at ds = cond (inbounds && leaves size at ds) None (Some (modulo 64 (moved_by at ds)))

-- also where the indices lead nowhere
abbrev pub ended : Bool → ℕ → ℤ → Option (List ℤ) → Option ℕ
ended inbounds size at None = None
ended inbounds size at (Some ds) = ended_at inbounds size at ds

-- one distance further
abbrev pub stepped : Bool → ℕ → ℤ → Option ℕ
stepped inbounds size at = cond (inbounds && is_past size at) None (Some (modulo 64 at))

-- the indices enter small types, one inside the other
abbrev pub leads_small : List NamedTy → Ty → List GivenIndex → Bool
leads_small types t is = list_all (is_small types) (entered_along types t (map told_index is)) && is_some (led_to types t (map told_index is))

-- the type has a size, within the limit on blocks
abbrev pub IsSmall : List NamedTy → Ty → Type 0
IsSmall types t = (is_sized types t ≡ true) × (size_of types t ≤ 2 ^ 31)
