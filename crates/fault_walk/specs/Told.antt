-- What is told of a text, as it is found from the left: the first fault, and the first place where the limit on blocks is passed.
use Rattle.std.specs.Prelude.{ℕ, Bool, true, false, cond, nat_lt, List, [], ◌∷◌, Option, Some, None}
use Rattle.std.specs.List.{list_any}
use Rattle.ir_core.specs.Sizes.{stepped}
use Rattle.ir_core.specs.Typing.{Index}
use Rattle.ir_types.specs.Named.{block_of}
use Rattle.ir_types.specs.declared.named.NamedTy.{NamedTy}
use Rattle.ir_types.specs.declared.ty.Ty.{Ty}
use Rattle.module_spelling.specs.Blocks.{Wanted, is_large, is_too_large}
use Rattle.name_claims.specs.Faults.{before}
use Rattle.name_claims.specs.declared.claims.Fault.{Fault}
use Rattle.named_modules.specs.Faults.{Heads}
use Rattle.fault_walk.specs.declared.told.Told.{Told}

-- ---- faults

-- a fault more: the one that is noted stays where this one isn't before it
abbrev pub with_fault : Option Fault → Fault → Option Fault
with_fault None f = Some f
with_fault (Some g) f = Some (cond (before f g) f g)

abbrev pub noted : List Fault → Option Fault → Option Fault
noted [] told = told
noted (f ∷ fs) told = noted fs (with_fault told f)

-- what is noted, and what is noted apart from it
abbrev pub with_other : Option Fault → Option Fault → Option Fault
with_other told None = told
with_other told (Some f) = with_fault told f

abbrev pub is_faultless : List Fault → Bool
is_faultless [] = true
is_faultless (f ∷ fs) = false

-- ---- places of large blocks

-- a place more
abbrev pub with_place : ℕ → Option ℕ → Option ℕ
with_place p None = Some p
with_place p (Some q) = Some (cond (nat_lt p q) p q)

-- a place more, if it counts
abbrev pub with_place_if : Bool → ℕ → Option ℕ → Option ℕ
with_place_if counts p told = cond counts (with_place p told) told

abbrev pub noted_large : Heads → List Wanted → Option ℕ → Option ℕ
noted_large h [] told = told
noted_large h (w ∷ ws) told = noted_large h ws (with_place_if (is_large h w) w.place told)

-- so many of a type
abbrev pub is_large_block : List NamedTy → Ty → ℕ → Bool
is_large_block types t count = is_too_large (block_of types t count)

abbrev pub is_one_large : List NamedTy → Ty → Bool
is_one_large types t = is_large_block types t 1

-- this one, or one of those that the indices behind the first enter
abbrev pub is_stepped_large : List NamedTy → Ty → List Index → Bool
is_stepped_large types of indices = list_any (is_one_large types) (stepped types of indices)

-- ---- both

-- these faults more, and this that is wanted
abbrev pub told_more : Heads → List Fault → List Wanted → Told → Told
told_more h fs ws t = record { fault = noted fs t.fault; large = noted_large h ws t.large }

-- the same where nothing is wanted
abbrev pub faults_more : List Fault → Told → Told
faults_more fs t = record { fault = noted fs t.fault; large = t.large }
