-- The laws that operations meet.
use Rattle.std.specs.Prelude.{◌≡◌, ℕ, true, false, Some}
use Rattle.ir_core.specs.declared.values.Value.{Value}
use Rattle.ir_core.specs.declared.values.Value.TheVariants.{Num, Ptr, Bare, Undef, Poison}
use Rattle.ir_core.specs.declared.values.Kind.{Kind}
use Rattle.ir_core.specs.declared.values.Kind.TheVariants.{Int}
use Rattle.ir_core.specs.declared.operands.BinOp.{BinOp}
use Rattle.ir_core.specs.declared.operands.CastOp.{CastOp}
use Rattle.ir_core.specs.declared.operands.Flags.{Flags}
use Rattle.ir_core.specs.declared.operands.Pred.{Pred}
use Rattle.ir_values.specs.declared.operations.Outcome.{Outcome}
use Rattle.ir_values.specs.declared.operations.Outcome.TheVariants.{Gives, Trap}
use Rattle.ir_values.specs.Comparisons.{icmp_outcome}
use Rattle.ir_values.specs.Conversions.{cast_outcome}
use Rattle.ir_values.specs.Laws.{flags_among}
use Rattle.ir_values.specs.Operations.{GivesInKind, IsOutcomeLessDefined, binary_outcome, traps}
use Rattle.ir_values.specs.Results.{breaks_flag, is_past_width}
use Rattle.ir_values.specs.Selections.{select_outcome}
use Rattle.ir_values.specs.Values.{IsInKind, IsLessDefined}

-- ---- more defined operands give a more defined outcome

-- of two operations of two operands, the first on less defined operands gives a less defined outcome
abbrev pub AreMonotone : (Value → Value → Outcome) → (Value → Value → Outcome) → Type 0
AreMonotone f g = (a b c d : Value) → IsLessDefined a c → IsLessDefined b d → IsOutcomeLessDefined (f a b) (g c d)

-- also where the second has fewer flags
abbrev pub OperationsAreMonotone : Type 0
OperationsAreMonotone = (op : BinOp) (many few : Flags) (width : ℕ) → flags_among few many ≡ true
    → AreMonotone (binary_outcome op many width) (binary_outcome op few width)

abbrev pub ComparisonsAreMonotone : Type 0
ComparisonsAreMonotone = (pred : Pred) (kind : Kind) (size other : ℕ)
    → AreMonotone (λ a b. icmp_outcome pred kind a b size other) (λ a b. icmp_outcome pred kind a b size other)

abbrev pub ConversionsAreMonotone : Type 0
ConversionsAreMonotone = (op : CastOp) (from to : Kind) (a b : Value) → IsLessDefined a b
    → IsOutcomeLessDefined (cast_outcome op from to a) (cast_outcome op from to b)

abbrev pub SelectionsAreMonotone : Type 0
SelectionsAreMonotone = (c d : Value) → IsLessDefined c d → AreMonotone (select_outcome c) (select_outcome d)

-- ---- an outcome is of its kind

-- An operation on iN gives a value of iN, if it gives one, whatever its operands are.
abbrev pub OperationsStayInKind : Type 0
OperationsStayInKind = (op : BinOp) (flags : Flags) (width : ℕ) (a b : Value) → GivesInKind (Some (Int width)) (binary_outcome op flags width a b)

abbrev pub ComparisonsGiveBits : Type 0
ComparisonsGiveBits = (pred : Pred) (kind : Kind) (a b : Value) (size other : ℕ) → GivesInKind (Some (Int 1)) (icmp_outcome pred kind a b size other)

abbrev pub ConversionsGiveTheirKind : Type 0
ConversionsGiveTheirKind = (op : CastOp) (from to : Kind) (a : Value) → IsInKind from a → GivesInKind (Some to) (cast_outcome op from to a)

abbrev pub SelectionsStayInKind : Type 0
SelectionsStayInKind = (kind : Kind) (c a b : Value) → IsInKind kind a → IsInKind kind b → GivesInKind (Some kind) (select_outcome c a b)

-- ---- numbers give a number

abbrev pub IsNumber : Value → Type 0
IsNumber (Num n) = Unit {0}
IsNumber (Ptr block offset) = ⊥
IsNumber (Bare address) = ⊥
IsNumber Undef = ⊥
IsNumber Poison = ⊥

abbrev pub GivesNumber : Outcome → Type 0
GivesNumber (Gives v) = IsNumber v
GivesNumber Trap = ⊥

-- where nothing traps, no shift is by the width or more, and no flag is broken
abbrev pub OperationsGiveNumbers : Type 0
OperationsGiveNumbers = (op : BinOp) (flags : Flags) (width m n : ℕ) → traps op width (Num m) (Num n) ≡ false
    → is_past_width op width n ≡ false → breaks_flag op flags width m n ≡ false → GivesNumber (binary_outcome op flags width (Num m) (Num n))

abbrev pub ComparisonsGiveNumbers : Type 0
ComparisonsGiveNumbers = (pred : Pred) (width m n size other : ℕ) → GivesNumber (icmp_outcome pred (Int width) (Num m) (Num n) size other)

abbrev pub ConversionsGiveNumbers : Type 0
ConversionsGiveNumbers = (op : CastOp) (from to n : ℕ) → GivesNumber (cast_outcome op (Int from) (Int to) (Num n))

-- whatever the arm is that isn't chosen
abbrev pub SelectionsGiveTheChosen : Type 0
SelectionsGiveTheChosen = (a b : Value) → (select_outcome (Num 1) a b ≡ Gives a) × (select_outcome (Num 0) a b ≡ Gives b)
