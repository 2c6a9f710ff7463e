-- Words of private functions: the types that are due for the parts of an initialiser.
use Rattle.std.specs.Prelude.{ℕ, ◌++◌, ◌-◌, Bool, true, false, cond, nat_eq, List, [], ◌∷◌, length, Option, None, Some}
use Rattle.std.specs.Borrow.{Bor}
use Rattle.std.specs.Option.{option_map}
use Rattle.ir_core.specs.Typing.{is_bytes, parts_of_struct}
use Rattle.ir_types.specs.declared.named.NamedTy.{NamedTy}
use Rattle.ir_types.specs.declared.ty.Ty.{Ty, out-Ty}
use Rattle.ir_types.specs.declared.ty.Ty.TheOpen.{Ty-F}
use Rattle.ir_types.specs.declared.ty.Ty.TheOpen as layer
use Rattle.ir_types.specs.Same.{same_ty}
use Rattle.module_grammar.specs.declared.constants.InitText.{InitText}
use Rattle.module_grammar.specs.declared.places.Placed.{Placed}
use Rattle.module_grammar.specs.declared.types.TypeText.{TypeText}
use Rattle.module_spelling.specs.Blocks.{Wanted, wanted_by_init}
use Rattle.name_claims.specs.declared.claims.Fault.{Fault}
use Rattle.name_claims.specs.declared.claims.Reason.TheVariants as reason
use Rattle.named_modules.specs.Faults.{Heads, first_of, from, init_faults, type_faults, unless}
use Rattle.named_modules.specs.Types.{type_of}
use Rattle.fault_walk.specs.declared.inits.Dues.{Dues}
use Rattle.fault_walk.specs.declared.inits.Dues.TheVariants.{Each, Fields}

-- each this type, or these in turn
pub data Due : Type 0 where
  Each' : Ty → Due
  Fields' : List Ty → Due

abbrev pub seen : Dues → Due
seen (Each t) = Each' t.now
seen (Fields ts) = Fields' ts.now

-- nothing is due
abbrev pub or_none : Option Due → Due
or_none None = Fields' []
or_none (Some d) = d

-- for the elements of an array of so many
abbrev pub array_dues : Ty-F Ty → ℕ → Option Due
array_dues (layer.Array own element) count = cond (nat_eq own count) (Some (Each' element)) None
array_dues other count = None

abbrev pub struct_dues : List NamedTy → Ty-F Ty → Option Due
struct_dues types l = option_map Fields' (parts_of_struct types l)

abbrev pub lent_fields : Option (Bor (List Ty)) → Option Due
lent_fields None = None
lent_fields (Some ts) = Some (Fields' ts.now)

abbrev pub are_as_many : Option Due → ℕ → Bool
are_as_many None count = false
are_as_many (Some (Each' t)) count = true
are_as_many (Some (Fields' ts)) count = nat_eq (length ts) count

abbrev pub first_due : Due → Option Ty
first_due (Each' t) = Some t
first_due (Fields' []) = None
first_due (Fields' (t ∷ ts)) = Some t

abbrev pub further_dues : Due → Due
further_dues (Each' t) = Each' t
further_dues (Fields' []) = Fields' []
further_dues (Fields' (t ∷ ts)) = Fields' ts

-- a type is the one that is due, where one is
abbrev pub is_due : Option Ty → Ty → Bool
is_due None t = true
is_due (Some d) t = same_ty d t

-- ---- what is at fault in parts

abbrev pub bytes_faults : Ty → Placed (List ℕ) → List Fault
bytes_faults t bytes = unless (is_bytes (length bytes.what) (out-Ty t)) (from (bytes.start - 1) 1 reason.WrongType)

abbrev pub part_faults : Heads → Option Ty → TypeText × InitText → List Fault
part_faults h d p =
    type_faults h p.0 ++ (unless (is_due d (type_of p.0)) (from (first_of p.0) 1 reason.WrongType) ++ init_faults h p.1 (type_of p.0))

abbrev pub wanted_by_part : Heads → TypeText × InitText → List Wanted
wanted_by_part h p = wanted_by_init h p.1

abbrev pub rest_faults : Heads → Due → List (TypeText × InitText) → List Fault
rest_faults h d [] = []
rest_faults h d (p ∷ ps) = part_faults h (first_due d) p ++ rest_faults h (further_dues d) ps

-- a list of so many parts, for which these are due
abbrev pub list_faults : Heads → ℕ → Option Due → ℕ → List (TypeText × InitText) → List Fault
list_faults h start d count ps = unless (are_as_many d count) (from start 1 reason.WrongType) ++ rest_faults h (or_none d) ps
