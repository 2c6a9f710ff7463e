-- The laws of operations on addresses, and of all operations over the blocks of two memories.
use Rattle.std.specs.Prelude.{◌≡◌, ℕ, Bool, true, false, nat_eq, List, [], ◌∷◌, map, Some}
use Rattle.std.specs.List.{AllZip}
use Rattle.std.specs.Option.{is_some}
use Rattle.ir_types.specs.declared.named.NamedTy.{NamedTy}
use Rattle.ir_types.specs.declared.ty.Ty.{Ty}
use Rattle.ir_core.specs.Typing.{element_type}
use Rattle.ir_core.specs.declared.values.Value.{Value}
use Rattle.ir_core.specs.declared.values.Value.TheVariants.{Num, Ptr, Bare, Undef, Poison}
use Rattle.ir_core.specs.declared.values.Byte.{Byte}
use Rattle.ir_core.specs.declared.values.Kind.{Kind}
use Rattle.ir_core.specs.declared.values.Kind.TheVariants as kind
use Rattle.ir_core.specs.declared.operands.BinOp.{BinOp}
use Rattle.ir_core.specs.declared.operands.CastOp.{CastOp}
use Rattle.ir_core.specs.declared.operands.Flags.{Flags}
use Rattle.ir_core.specs.declared.operands.Pred.{Pred}
use Rattle.ir_values.specs.declared.operations.Outcome.{Outcome}
use Rattle.ir_values.specs.declared.operations.Outcome.TheVariants.{Gives}
use Rattle.ir_values.specs.Addresses.{GivenIndex, distances, gep_outcome, is_small, told_index}
use Rattle.ir_values.specs.Comparisons.{icmp_outcome}
use Rattle.ir_values.specs.Conversions.{cast_outcome}
use Rattle.ir_values.specs.Laws.{flags_among}
use Rattle.ir_values.specs.Operations.{GivesInKind, IsOutcomeLessDefined, binary_outcome}
use Rattle.ir_values.specs.Related.{AreOutcomesRelated, IsByteLessDefined, IsByteRelated, IsOneToOne, IsRelated, Pairing}
use Rattle.ir_values.specs.Selections.{select_outcome}
use Rattle.ir_values.specs.Values.{IsInKind, IsLessDefined}

-- ---- one memory

-- where each block stands for itself, related is less defined
pub record LessDefinedIsRelated : Type 0 where
  pub one_to_one : IsOneToOne nat_eq
  pub related : (a b : Value) → IsLessDefined a b → IsRelated nat_eq a b
  pub less : (a b : Value) → IsRelated nat_eq a b → IsLessDefined a b
  pub related_byte : (a b : Byte) → IsByteLessDefined a b → IsByteRelated nat_eq a b
  pub less_byte : (a b : Byte) → IsByteRelated nat_eq a b → IsByteLessDefined a b

-- ---- related operands give related outcomes

abbrev pub KeepsRelated : Pairing → (Value → Value → Outcome) → (Value → Value → Outcome) → Type 0
KeepsRelated ps f g = (a b c d : Value) → IsRelated ps a c → IsRelated ps b d → AreOutcomesRelated ps (f a b) (g c d)

-- also where the second has fewer flags
abbrev pub OperationsKeepRelated : Type 0
OperationsKeepRelated = (ps : Pairing) (op : BinOp) (many few : Flags) (width : ℕ) → flags_among few many ≡ true
    → KeepsRelated ps (binary_outcome op many width) (binary_outcome op few width)

-- an address in a block has the same size beside it on both sides; beside other values any may stand
abbrev pub IsOneSize : Value → ℕ → ℕ → Type 0
IsOneSize (Ptr block offset) m n = n ≡ m
IsOneSize (Num k) m n = Unit {0}
IsOneSize (Bare address) m n = Unit {0}
IsOneSize Undef m n = Unit {0}
IsOneSize Poison m n = Unit {0}

abbrev pub ComparisonsKeepRelated : Type 0
ComparisonsKeepRelated = (ps : Pairing) → IsOneToOne ps → (pred : Pred) (k : Kind) (a b c d : Value) (m n s t : ℕ)
    → IsRelated ps a c → IsRelated ps b d → IsOneSize a m s → IsOneSize b n t
    → AreOutcomesRelated ps (icmp_outcome pred k a b m n) (icmp_outcome pred k c d s t)

abbrev pub ConversionsKeepRelated : Type 0
ConversionsKeepRelated = (ps : Pairing) (op : CastOp) (from to : Kind) (a b : Value) → IsRelated ps a b
    → AreOutcomesRelated ps (cast_outcome op from to a) (cast_outcome op from to b)

abbrev pub SelectionsKeepRelated : Type 0
SelectionsKeepRelated = (ps : Pairing) (c d : Value) → IsRelated ps c d → KeepsRelated ps (select_outcome c) (select_outcome d)

abbrev pub AreIndicesRelated : Pairing → GivenIndex → GivenIndex → Type 0
AreIndicesRelated ps i j = (j.0 ≡ i.0) × IsRelated ps i.1 j.1

-- also where the second is without `inbounds`
abbrev pub AddressesKeepRelated : Type 0
AddressesKeepRelated = (ps : Pairing) (many few : Bool) → (few ≡ true → many ≡ true) → (types : List NamedTy) (of : Ty) (a b : Value) (m n : ℕ) (is js : List GivenIndex)
    → IsRelated ps a b → IsOneSize a m n → AllZip (AreIndicesRelated ps) is js
    → AreOutcomesRelated ps (gep_outcome many types of a m is) (gep_outcome few types of b n js)

-- ---- addresses

-- whatever the operands are
abbrev pub AddressesStayInKind : Type 0
AddressesStayInKind = (inbounds : Bool) (types : List NamedTy) (of : Ty) (base : Value) (size : ℕ) (is : List GivenIndex)
    → GivesInKind (Some kind.Ptr) (gep_outcome inbounds types of base size is)

-- the index 0 changes nothing, but for `inbounds`, under which the address may be poison, and for a type that isn't small
pub record ZeroKeepsAddresses : Type 0 where
  pub kept : (types : List NamedTy) (of : Ty) (base : Value) (size width : ℕ) → is_small types of ≡ true → IsInKind kind.Ptr base
      → gep_outcome false types of base size ((width, Num 0) ∷ []) ≡ Gives base
  pub less : (inbounds : Bool) (types : List NamedTy) (of : Ty) (base : Value) (size width : ℕ) → IsInKind kind.Ptr base
      → IsOutcomeLessDefined (gep_outcome inbounds types of base size ((width, Num 0) ∷ [])) (Gives base)

-- indices go somewhere exactly where the address has a type
abbrev pub AddressesFollowTypes : Type 0
AddressesFollowTypes = (types : List NamedTy) (of : Ty) (is : List GivenIndex) → is_some (distances types of is) ≡ is_some (element_type types of (map told_index is))
