-- Words of private functions: what is at fault in lines, by what is built of their parts.
use Rattle.std.specs.Prelude.{◌&&◌, ◌++◌, ℕ, Bool, true, false, not, cond, List, [], ◌∷◌, map, Option, None, Some}
use Rattle.std.specs.List.{flat_map}
use Rattle.std.specs.Option.{is_some}
use Rattle.ir_core.specs.declared.functions.Param.{Param}
use Rattle.ir_core.specs.declared.modules.DeclaredParam.{DeclaredParam}
use Rattle.ir_core.specs.Typing.{Index, Signature, contents_of, index_of}
use Rattle.ir_lexer.specs.declared.token.Number.{Number}
use Rattle.ir_types.specs.declared.names.Name.{Name}
use Rattle.ir_types.specs.declared.ty.Ty.{Ty}
use Rattle.ir_types.specs.Same.{same_list, same_ty}
use Rattle.module_grammar.specs.declared.commas.CountBehindText.{CountBehindText}
use Rattle.module_grammar.specs.declared.constants.OperandText.{OperandText}
use Rattle.module_grammar.specs.declared.constants.ValueText.{ValueText}
use Rattle.module_grammar.specs.declared.lines.ArgumentText.{ArgumentText}
use Rattle.module_grammar.specs.declared.lines.CountText.{CountText}
use Rattle.module_grammar.specs.declared.places.Placed.{Placed}
use Rattle.module_grammar.specs.declared.types.CalledText.{CalledText}
use Rattle.module_grammar.specs.declared.types.TypeText.{TypeText}
use Rattle.module_spelling.specs.Blocks.{Wanted, wanted_by_operand, wanted_by_value, wants_along}
use Rattle.name_claims.specs.declared.claims.Fault.{Fault}
use Rattle.name_claims.specs.declared.claims.Reason.{Reason}
use Rattle.name_claims.specs.declared.claims.Reason.TheVariants as reason
use Rattle.named_modules.specs.Built.{operand_of}
use Rattle.named_modules.specs.Faults.{Heads, Things, align_faults, at, count_faults, operand_faults, signature_in, type_faults, unless, value_faults, value_type_faults}
use Rattle.named_modules.specs.Types.{int_of, type_of}

-- ---- operands

-- a second value is of the type of the first one
abbrev pub pair_faults : Heads → Things → OperandText → ValueText → List Fault
pair_faults h ts left right = operand_faults h ts left ++ value_faults h ts (type_of left.ty) right

abbrev pub wanted_by_pair : Heads → OperandText → ValueText → List Wanted
wanted_by_pair h left right = wanted_by_operand h left ++ wanted_by_value h right

abbrev pub cast_faults : Heads → Things → OperandText → TypeText → List Fault
cast_faults h ts from to = operand_faults h ts from ++ value_type_faults h to

-- the index that an operand is
abbrev pub built_index : OperandText → Index
built_index o = index_of (operand_of o)

-- ---- calls

-- the types that are stated, and whether further ones may follow
abbrev pub called_built : CalledText → List Ty × Bool
called_built c = (map type_of c.types, c.is_open)

abbrev pub type_defined : Param → Ty
type_defined p = p.ty

abbrev pub type_declared : DeclaredParam → Ty
type_declared p = p.ty

abbrev pub is_there : Option Ty → Option Ty → Bool
is_there None None = true
is_there (Some t) (Some u) = same_ty t u
is_there None (Some u) = false
is_there (Some t) None = false

abbrev pub is_called_by : Signature → Option (List Ty × Bool) → Bool
is_called_by s None = not s.variadic
is_called_by s (Some c) = same_list same_ty s.params c.0 && (cond s.variadic c.1 (not c.1))

-- a global's name is no function's, another one isn't known
abbrev pub why_missing : Heads → Name → Reason
why_missing h x = cond (is_some (contents_of h.globals x)) reason.WrongType reason.Unknown

abbrev pub callee_faults_by : Heads → Placed Name → Option (List Ty × Bool) → Option Signature → List Fault
callee_faults_by h x called None = at x (why_missing h x.what) ∷ []
callee_faults_by h x called (Some s) = unless (is_called_by s called) (at x reason.WrongType)

-- a name that is called so
abbrev pub name_faults : Heads → Placed Name → Option (List Ty × Bool) → List Fault
name_faults h x called = callee_faults_by h x called (signature_in h.signatures x.what)

abbrev pub wanted_by_argument : Heads → ArgumentText → List Wanted
wanted_by_argument h a = wanted_by_value h a.value

-- ---- memory

-- how many there are, if it is a number of its type
abbrev pub counted : Option CountText → Option ℕ
counted None = Some 1
counted (Some c) = int_of (type_of c.ty) c.number

abbrev pub counted_faults : Heads → CountBehindText → List Fault
counted_faults h w = count_faults h w.count ++ align_faults w.behind.align

abbrev pub element_faults : Heads → Things → TypeText → OperandText → List OperandText → List Fault
element_faults h ts of base indices = type_faults h of ++ (operand_faults h ts base ++ flat_map (operand_faults h ts) indices)

abbrev pub wanted_by_element : Heads → TypeText → OperandText → List OperandText → List Wanted
wanted_by_element h of base indices =
    wants_along h of (map built_index indices) ++ (wanted_by_operand h base ++ flat_map (wanted_by_operand h) indices)

abbrev pub alloca_faults : Heads → TypeText → CountBehindText → List Fault
alloca_faults h of w = type_faults h of ++ counted_faults h w

abbrev pub load_faults : Heads → Things → TypeText → OperandText → Option (Placed Number) → List Fault
load_faults h ts of address align = value_type_faults h of ++ (operand_faults h ts address ++ align_faults align)

abbrev pub store_faults : Heads → Things → OperandText → OperandText → Option (Placed Number) → List Fault
store_faults h ts value address align = operand_faults h ts value ++ (operand_faults h ts address ++ align_faults align)

abbrev pub wanted_by_store : Heads → OperandText → OperandText → List Wanted
wanted_by_store h value address = wanted_by_operand h value ++ wanted_by_operand h address
