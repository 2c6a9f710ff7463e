-- Texts with two faults, and which one is the first.
use Rattle.std.specs.Prelude.{ℕ, [], ◌∷◌, codes}
use Rattle.ir_types.specs.declared.names.Name.{Name}
use Rattle.ir_types.specs.declared.names.Name.TheVariants.{Text, Number}
use Rattle.ir_types.specs.declared.ty.Ty.TheVariants.{Int}
use Rattle.name_claims.specs.declared.claims.Claim.{Claim}
use Rattle.name_claims.specs.declared.claims.Definition.{Definition}
use Rattle.name_claims.specs.declared.claims.Fault.{Fault}
use Rattle.name_claims.specs.declared.claims.Item.{Item}
use Rattle.name_claims.specs.declared.claims.Meaning.TheVariants as meaning
use Rattle.name_claims.specs.declared.claims.Reason.{Reason}
use Rattle.name_claims.specs.declared.claims.Reason.TheVariants.{Twice, WrongNumber, Unknown, WrongType}
use Rattle.name_claims.specs.declared.claims.Says.{Says}
use Rattle.name_claims.specs.declared.claims.Says.TheVariants.{New, Counted, Register, Label}
use Rattle.name_claims.specs.Faults.{IsFirst}

abbrev register : Name → Definition
register name = record { name = name; meaning = meaning.Register (Int 32) }

abbrev block : Name → Definition
block name = record { name = name; meaning = meaning.Block }

abbrev claim : ℕ → ℕ → Says → Claim
claim start end says = record { start = start; end = end; says = says }

abbrev fault : ℕ → ℕ → Reason → Fault
fault start end reason = record { start = start; end = end; reason = reason }

abbrev number : ℕ → ℕ → Says
number written due = Counted (record { written = written; due = due })

-- a register of `i32`
abbrev used : Name → Says
used name = Register (record { name = name; ty = Int 32 })

abbrev a : Name
a = Text (codes "a")

abbrev z : Name
z = Text (codes "z")

-- define i32 @f(i32) { 0: ret i32 0 }
abbrev pub number_again : Item
number_again = record {
  definitions = register (Number 0) ∷ block (Number 0) ∷ [];
  claims = claim 14 17 (New 0) ∷ claim 21 22 (number 0 1) ∷ claim 21 22 (New 1) ∷ [];
}

-- At one place `Twice` comes first, wherever the claims stand in their list.
abbrev pub TwiceComesBeforeWrongNumber : Type 0
TwiceComesBeforeWrongNumber =
    IsFirst (number_again ∷ []) (fault 21 22 Twice) × (IsFirst (number_again ∷ []) (fault 21 22 (WrongNumber 1)) → ⊥)

-- define i32 @f() { %5 = add i32 %z, 0 ret i32 0 }
abbrev pub number_and_use : Item
number_and_use = record {
  definitions = block (Number 0) ∷ register (Number 5) ∷ [];
  claims = claim 31 33 (used z) ∷ claim 18 20 (New 1) ∷ claim 18 20 (number 5 1) ∷ [];
}

-- The place decides before the kind of fault does; `%z` is used behind the number that is wrong.
abbrev pub PlacesComeBeforeRanks : Type 0
PlacesComeBeforeRanks =
    IsFirst (number_and_use ∷ []) (fault 18 20 (WrongNumber 1)) × (IsFirst (number_and_use ∷ []) (fault 31 33 Unknown) → ⊥)

-- define i32 @f() { a: ret i32 %a }
abbrev pub label_as_value : Item
label_as_value = record { definitions = block a ∷ []; claims = claim 18 19 (New 0) ∷ claim 29 31 (used a) ∷ [] }

-- A block's name is known, and has no type.
abbrev pub LabelsAreOfNoType : Type 0
LabelsAreOfNoType =
    IsFirst (label_as_value ∷ []) (fault 29 31 WrongType) × (IsFirst (label_as_value ∷ []) (fault 29 31 Unknown) → ⊥)

-- define void @f(i32 %a) { z: br label %a }
abbrev pub value_as_label : Item
value_as_label = record {
  definitions = register a ∷ block z ∷ [];
  claims = claim 19 21 (New 0) ∷ claim 25 26 (New 1) ∷ claim 37 39 (Label a) ∷ [];
}

-- A register's name is known, and is no label.
abbrev pub RegistersAreNoLabels : Type 0
RegistersAreNoLabels =
    IsFirst (value_as_label ∷ []) (fault 37 39 WrongType) × (IsFirst (value_as_label ∷ []) (fault 37 39 Unknown) → ⊥)

-- define void @f() { a: br label %z }
abbrev pub label_of_no_block : Item
label_of_no_block = record { definitions = block a ∷ []; claims = claim 19 20 (New 0) ∷ claim 31 33 (Label z) ∷ [] }

abbrev pub LabelsNameBlocks : Type 0
LabelsNameBlocks = IsFirst (label_of_no_block ∷ []) (fault 31 33 Unknown)
