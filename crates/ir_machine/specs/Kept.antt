-- Registers as the code keeps them.
use Rattle.std.specs.Prelude.{ℕ, suc, ℤ, cond, List, [], ◌∷◌, Option, None, Some}
use Rattle.std.specs.Option.{option_map}
use Rattle.std.specs.Coded.{Unit-prop, le_prop}
use Rattle.std.specs.Map.{lookup}
use mathlib.Core.HLevel.{⊥_prop, Π_prop}
use Rattle.ir_types.specs.declared.names.Name.{Name}
use Rattle.ir_core.specs.declared.values.Value.{Value}
use Rattle.ir_core.specs.declared.values.Value.TheVariants.{Num, Ptr, Bare, Undef, Poison}
use Rattle.ir_core.specs.declared.values.Kind.{Kind}
use Rattle.ir_core.specs.declared.values.Kind.TheVariants as kind
use Rattle.ir_types.specs.Same.{same_name}
use Rattle.ir_values.specs.Values.{IsInKind, IsOffset}
use Rattle.ir_machine.specs.Registers.{Held, Registers, read, AreInKind}

abbrev pub held_of : Option (Kind × Value) → Option Held
held_of None = None
held_of (Some p) = Some (record { kind = p.0; value = p.1 })

-- what an entry of a name says
abbrev pub entry_held : Option (Option (Kind × Value)) → Option Held
entry_held None = None
entry_held (Some held) = held_of held

-- each register holds what its entry says
abbrev pub kept_registers : List (Name × Option (Kind × Value)) → Registers
kept_registers es = λ x. entry_held (lookup (same_name x) es)

-- where the first entry of a name stands
abbrev pub place_in : Name → List (Name × Option (Kind × Value)) → Option ℕ
place_in x [] = None
place_in x (e ∷ es) = cond (same_name x e.0) (Some 0) (option_map suc (place_in x es))

IsOffset-prop : (z : ℤ) → IsProp (IsOffset z)
IsOffset-prop z x y = λ i. record { sfits = le_prop x.sfits y.sfits i }

pub IsInKind-prop : (k : Kind) (v : Value) → IsProp (IsInKind k v)
IsInKind-prop (kind.Int width) (Num n) = le_prop
IsInKind-prop (kind.Int width) (Ptr block offset) = ⊥_prop
IsInKind-prop (kind.Int width) (Bare address) = ⊥_prop
IsInKind-prop (kind.Int width) Undef = Unit-prop
IsInKind-prop (kind.Int width) Poison = Unit-prop
IsInKind-prop kind.Ptr (Num n) = ⊥_prop
IsInKind-prop kind.Ptr (Ptr block offset) = IsOffset-prop offset
IsInKind-prop kind.Ptr (Bare address) = le_prop
IsInKind-prop kind.Ptr Undef = Unit-prop
IsInKind-prop kind.Ptr Poison = Unit-prop

pub AreInKind-prop : (registers : Registers) → IsProp (AreInKind registers)
AreInKind-prop registers = Π_prop (λ x. Π_prop (λ k. IsInKind-prop k (read registers k x)))
