-- What the address of a part is (LangRef 3.7, getelementptr Instruction).
use Rattle.std.specs.Prelude.{ℕ, ℤ, pos, ◌+ℤ◌, ◌*ℤ◌, int_lt, ◌^◌, nat_le, Bool, ◌&&◌, ◌||◌, cond, List, [], ◌∷◌, map, Option, None, Some}
use Rattle.std.specs.Int.{cast_signed, w64}
use Rattle.std.specs.List.{list_all, list_any}
use Rattle.std.specs.Option.{is_some, option_and_then, option_map}
use Rattle.ir_types.specs.declared.named.NamedTy.{NamedTy}
use Rattle.ir_types.specs.declared.ty.Ty.{Ty, Int, out-Ty}
use Rattle.ir_types.specs.declared.ty.Ty.TheOpen.{Ty-F}
use Rattle.ir_types.specs.declared.ty.Ty.TheOpen as level
use Rattle.ir_types.specs.Named.{field_offset, is_sized, size_of}
use Rattle.ir_core.specs.Sizes.{stepped}
use Rattle.ir_core.specs.Typing.{Index, entered}
use Rattle.ir_core.specs.declared.values.Kind.TheVariants as kind
use Rattle.ir_core.specs.declared.values.Value.{Value}
use Rattle.ir_core.specs.declared.values.Value.TheVariants.{Num, Ptr, Bare, Undef, Poison}
use Rattle.ir_values.specs.declared.operations.Outcome.{Outcome}
use Rattle.ir_values.specs.declared.operations.Outcome.TheVariants.{Gives}
use Rattle.ir_values.specs.Numbers.{modulo, signed}
use Rattle.ir_values.specs.Values.{IsInKind, as_number, is_poison}

-- an index: its width, and its value
abbrev pub GivenIndex : Type 0
GivenIndex = ℕ × Value

-- a value of its width, which needn't be that of an integer
abbrev pub IsIndex : GivenIndex → Type 0
IsIndex i = IsInKind (kind.Int i.0) i.1

abbrev pub told_index : GivenIndex → Index
told_index i = record { ty = Int i.0; number = as_number i.1 }

abbrev pub or_zero : Option ℕ → ℕ
or_zero None = 0
or_zero (Some n) = n

-- ---- how far an index goes

-- so many of the type, as the index says in two's complement
abbrev pub over : List NamedTy → Ty → GivenIndex → ℤ
over types t i = pos (size_of types t) *ℤ signed i.0 (or_zero (as_number i.1))

-- over elements of an array, or to a field of a struct
abbrev pub distance_at_level : List NamedTy → Ty → Ty-F Ty → GivenIndex → ℤ
distance_at_level types t (level.Array count element) i = over types element i
distance_at_level types t other i = pos (field_offset types t (or_zero (as_number i.1)))

abbrev pub distance : List NamedTy → Ty → GivenIndex → ℤ
distance types t i = distance_at_level types t (out-Ty t) i

-- how far each of them goes, one inside the other, where they enter what there is
abbrev pub distances_inside : List NamedTy → Ty → List GivenIndex → Option (List ℤ)
distances_inside types t [] = Some []
distances_inside types t (i ∷ is) =
    option_and_then (λ u. option_map (λ ds. distance types t i ∷ ds) (distances_inside types u is)) (entered types t (told_index i))

-- The first goes over many of the type, each further one into what it lies in: in `{ i32, [4 x i8] }` the indices 1, 1, 2 go 8, 4 and 2.
abbrev pub distances : List NamedTy → Ty → List GivenIndex → Option (List ℤ)
distances types of [] = Some []
distances types of (i ∷ is) = option_map (λ ds. over types of i ∷ ds) (distances_inside types of is)

-- ---- where they lead

abbrev pub moved_by : ℤ → List ℤ → ℤ
moved_by at [] = at
moved_by at (d ∷ ds) = moved_by (at +ℤ d) ds

-- before the first byte, or behind the end
abbrev pub is_past : ℕ → ℤ → Bool
is_past size at = int_lt at (pos 0) || int_lt (pos size) at

-- one of the places is, from the first to the last
abbrev pub leaves : ℕ → ℤ → List ℤ → Bool
leaves size at [] = is_past size at
leaves size at (d ∷ ds) = is_past size at || leaves size (at +ℤ d) ds

-- the signed number of 64 bits that an integer is modulo 2 to the 64
abbrev pub wrapped : ℤ → ℤ
wrapped z = cast_signed w64 (modulo 64 z)

-- undef, and poison under `inbounds`
abbrev pub undef_inside : Bool → Value
undef_inside inbounds = cond inbounds Poison Undef

-- From an address in a block of that size: under `inbounds` poison where it leaves the block on the way. From an address of no block:
-- modulo 2 to the 64, and poison under `inbounds`. What is no address counts as undef.
abbrev pub moved_address : Bool → Value → ℕ → List ℤ → Value
moved_address inbounds (Ptr b o) size ds = cond (inbounds && leaves size o ds) Poison (Ptr b (wrapped (moved_by o ds)))
moved_address inbounds (Bare a) size ds = cond inbounds Poison (Bare (modulo 64 (moved_by (pos a) ds)))
moved_address inbounds (Num n) size ds = undef_inside inbounds
moved_address inbounds Undef size ds = undef_inside inbounds
moved_address inbounds Poison size ds = undef_inside inbounds

-- Where the indices enter nothing that there is it is poison; where one is no number, undef_inside.
abbrev pub led_address : Bool → Value → ℕ → List GivenIndex → Option (List ℤ) → Value
led_address inbounds base size indices None = Poison
led_address inbounds base size indices (Some ds) = cond (list_all (λ i. is_some (as_number i.1)) indices) (moved_address inbounds base size ds) (undef_inside inbounds)

-- the type has a size, within the limit on blocks
abbrev pub is_small : List NamedTy → Ty → Bool
is_small types t = is_sized types t && nat_le (size_of types t) (2 ^ 31)

-- The type that is pointed to is small, and so is each that the indices enter. An index that is no number enters no field: so where indices
-- lead somewhere, numbers in place of those that are none enter the same types, and what is told of an address stays monotone.
abbrev pub are_entered_small : List NamedTy → Ty → List GivenIndex → Bool
are_entered_small types of indices = list_all (is_small types) (stepped types of (map told_index indices))

-- Poison, where a type that is entered isn't small; a module that is read has none.
abbrev pub gep_value : Bool → List NamedTy → Ty → Value → ℕ → List GivenIndex → Value
gep_value inbounds types of base size indices =
    cond (is_poison base || list_any (λ i. is_poison i.1) indices) Poison
    (cond (are_entered_small types of indices) (led_address inbounds base size indices (distances types of indices)) Poison)

-- of a type that is pointed to, a base with the size of the block that it is in, and the indices
abbrev pub gep_outcome : Bool → List NamedTy → Ty → Value → ℕ → List GivenIndex → Outcome
gep_outcome inbounds types of base size indices = Gives (gep_value inbounds types of base size indices)
