-- Words of private functions: constants, and the parts of constants.
use Rattle.std.specs.Prelude.{ℕ, Bool, cond, nat_eq, List, ◌++◌}
use Rattle.std.specs.List.{list_any}
use Rattle.module_derivations.specs.FlatMarks.Flat.{behind, skip}
use Rattle.ir_core.specs.Typing.{contents_of}
use Rattle.ir_types.specs.declared.names.Name.{Name}
use Rattle.ir_types.specs.declared.ty.Ty.{Ty}
use Rattle.module_derivations.specs.Empty.{made, said}
use Rattle.module_derivations.specs.Parts.{Part}
use Rattle.module_derivations.specs.Said.{place_of}
use Rattle.module_derivations.specs.Types.{any_type}
use Rattle.module_grammar.specs.declared.constants.ConstText.{ConstText, Cast, Element}
use Rattle.module_grammar.specs.declared.places.Placed.{Placed}
use Rattle.module_grammar.specs.declared.types.TypeText.{TypeText}
use Rattle.module_spelling.specs.Blocks.{Wanted, wanted_by_const}
use Rattle.name_claims.specs.declared.claims.Fault.{Fault}
use Rattle.name_claims.specs.declared.claims.Reason.{Reason}
use Rattle.name_claims.specs.declared.claims.Reason.TheVariants as reason
use Rattle.named_modules.specs.Faults.{Heads, const_faults, global_faults, is_function, powers_below, value_type_faults}
use Rattle.named_modules.specs.Types.{type_of}

-- a power of two, 2^29 at most
abbrev pub is_power_below : ℕ → ℕ → Bool
is_power_below count n = list_any (nat_eq n) (powers_below count)

abbrev pub is_power : ℕ → Bool
is_power n = is_power_below 30 n

-- a function's name is left out as a value, another one isn't known
abbrev pub why_missing : Heads → Name → Reason
why_missing h x = cond (is_function h x) reason.LeftOut reason.Unknown

-- what is at fault in the name of a global
abbrev pub named_faults : Heads → Ty → Placed Name → List Fault
named_faults h t x = global_faults h t x (contents_of h.globals x.what)

-- a type of values, and a constant of it
abbrev pub part_faults : Heads → TypeText × ConstText → List Fault
part_faults h p = value_type_faults h p.0 ++ const_faults h p.1 (type_of p.0)

abbrev pub wanted_by_part : Heads → TypeText × ConstText → List Wanted
wanted_by_part h p = wanted_by_const h p.1

-- getelementptr inbounds ( any_type , any_type constant more_consts ), from its word on
abbrev pub element_ahead : List Part → ConstText
element_ahead s =
    Element (place_of (said s)) (made (behind s)).inbounds (any_type (skip 2 s), any_type (skip 4 s), (made (skip 6 s)).constant, (made (skip 7 s)).more_consts)

-- bitcast ( any_type constant to any_type )
abbrev pub cast_ahead : List Part → ConstText
cast_ahead s = Cast (place_of (said s)) (any_type (behind s), (made (skip 3 s)).constant, any_type (skip 4 s))
