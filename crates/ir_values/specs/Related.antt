-- When the values and bytes of a target refine those of a source whose blocks of memory are others: by pairs of blocks.
use Rattle.std.specs.Prelude.{◌≡◌, ℕ, Bool, true, nat_eq}
use Rattle.ir_core.specs.declared.values.Value.{Value}
use Rattle.ir_core.specs.declared.values.Value.TheVariants as value
use Rattle.ir_core.specs.declared.values.Byte.{Byte}
use Rattle.ir_core.specs.declared.values.Byte.TheVariants as byte
use Rattle.ir_values.specs.declared.operations.Outcome.{Outcome}
use Rattle.ir_values.specs.declared.operations.Outcome.TheVariants.{Gives, Trap}
use Rattle.ir_values.specs.Values.{IsNotPoison}

-- Which blocks of the source stand for which of the target: a test on pairs of blocks. Where both have one memory it is `nat_eq`.
abbrev pub Pairing : Type 0
Pairing = ℕ → ℕ → Bool

abbrev pub ArePaired : Pairing → ℕ → ℕ → Type 0
ArePaired ps b c = ps b c ≡ true

-- no block stands for two, and for none do two stand
abbrev pub IsOneToOne : Pairing → Type 0
IsOneToOne ps = (b c d e : ℕ) → ArePaired ps b c → ArePaired ps d e → nat_eq b d ≡ nat_eq c e

-- the source's value may be refined to the target's
abbrev pub IsRelated : Pairing → Value → Value → Type 0
IsRelated ps value.Poison v = Unit {0}
IsRelated ps value.Undef v = IsNotPoison v
IsRelated ps (value.Num n) v = v ≡ value.Num n
IsRelated ps (value.Ptr b o) v = (c : ℕ) × ArePaired ps b c × (v ≡ value.Ptr c o)
IsRelated ps (value.Bare a) v = v ≡ value.Bare a

-- the source traps, or neither does and the values are related
abbrev pub AreOutcomesRelated : Pairing → Outcome → Outcome → Type 0
AreOutcomesRelated ps Trap b = Unit {0}
AreOutcomesRelated ps (Gives v) (Gives w) = IsRelated ps v w
AreOutcomesRelated ps (Gives v) Trap = ⊥

-- ---- bytes

abbrev pub IsByteNotPoison : Byte → Type 0
IsByteNotPoison byte.Poison = ⊥
IsByteNotPoison byte.Undef = Unit {0}
IsByteNotPoison (byte.Num n) = Unit {0}
IsByteNotPoison (byte.Frag block offset place) = Unit {0}

abbrev pub IsByteLessDefined : Byte → Byte → Type 0
IsByteLessDefined byte.Poison v = Unit {0}
IsByteLessDefined byte.Undef v = IsByteNotPoison v
IsByteLessDefined (byte.Num n) v = v ≡ byte.Num n
IsByteLessDefined (byte.Frag b o place) v = v ≡ byte.Frag b o place

abbrev pub IsByteRelated : Pairing → Byte → Byte → Type 0
IsByteRelated ps byte.Poison v = Unit {0}
IsByteRelated ps byte.Undef v = IsByteNotPoison v
IsByteRelated ps (byte.Num n) v = v ≡ byte.Num n
IsByteRelated ps (byte.Frag b o place) v = (c : ℕ) × ArePaired ps b c × (v ≡ byte.Frag c o place)
