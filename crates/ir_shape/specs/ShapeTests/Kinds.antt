-- What is wrong with a line, a terminator, a phi or a name (LangRef 3.7, Well-Formedness, Instruction Reference).
use Rattle.std.specs.Prelude.{ℕ, ◌&&◌, ◌||◌, Bool, true, cond, not, List, [], ◌∷◌, ◌++◌, length, map, nat_eq, nat_lt, Option, None, Some, is_some}
use Rattle.std.specs.List.{count_by, flat_map, list_all, list_any}
use Rattle.ir_core.specs.declared.expressions.Cast.{Cast}
use Rattle.ir_core.specs.declared.expressions.Expr.{Expr}
use Rattle.ir_core.specs.declared.expressions.Expr.TheVariants as expr
use Rattle.ir_core.specs.declared.expressions.Load.{Load}
use Rattle.ir_core.specs.declared.expressions.Select.{Select}
use Rattle.ir_core.specs.declared.functions.Block.{Block}
use Rattle.ir_core.specs.declared.functions.Case.{Case}
use Rattle.ir_core.specs.declared.functions.Entry.{Entry}
use Rattle.ir_core.specs.declared.functions.Function.{Function}
use Rattle.ir_core.specs.declared.functions.Instr.{Instr}
use Rattle.ir_core.specs.declared.functions.Instr.TheVariants as instr
use Rattle.ir_core.specs.declared.functions.Term.{Term}
use Rattle.ir_core.specs.declared.functions.Term.TheVariants as term
use Rattle.ir_core.specs.declared.modules.Module.{Module}
use Rattle.ir_types.specs.declared.named.NamedTy.{NamedTy}
use Rattle.ir_types.specs.declared.names.Name.{Name}
use Rattle.ir_types.specs.declared.ty.Ty.{Ty}
use Rattle.ir_types.specs.declared.ty.Ty.TheVariants as ty
use Rattle.ir_core.specs.Functions.{is_debug, params_of, phi_registers, set_by, successors_of}
use Rattle.ir_types.specs.Same.{same_name, same_ty}
use Rattle.ir_core.specs.Same.{same_atom}
use Rattle.ir_core.specs.Types.{converts, is_first_class, is_integer, number_at}
use Rattle.ir_core.specs.Typing.{element_type, index_of}
use Rattle.ir_core.specs.NameIndexes.Among.{is_among}
use Rattle.ir_typing.specs.declared.shape_kinds.kind.ShapeKind.{ShapeKind}
use Rattle.ir_typing.specs.declared.shape_kinds.kind.ShapeKind.TheVariants as kind
pub use Rattle.ir_typing.specs.ShapeKinds.Kinds.{kind_text, order_of, fault_unless, least, least_of, points_to}
pub use Rattle.ir_typing.specs.ShapeKinds.Names.{with_name, with_names, are_new}
pub use Rattle.ir_typing.specs.ShapeKinds.Typed.{Types, none_typed, or_else, type_at, with_type, with_types}

-- ---- names, labels and types of a function

-- the names of a function's blocks, each once
abbrev pub labels_of : Function → List Name
labels_of f = with_names [] (map (λ (b : Block). b.name) f.blocks)

abbrev pub are_labels : List Name → List Name → Bool
are_labels labels = list_all (λ name. is_among name labels)

-- registers, each with its type
abbrev pub typed : List (Name × Ty) → List (Name × Option Ty)
typed = map (λ (r : Name × Ty). (r.0, Some r.1))

abbrev pub right_gives_type : List NamedTy → Expr Name → Bool
right_gives_type types (expr.Element e) = is_some (element_type types e.of (map index_of e.indices))
right_gives_type types e = true

-- A line's register has the type that the line gives, but where it is a getelementptr whose indices lead nowhere, which gives none.
abbrev pub gives_type : List NamedTy → Instr → Bool
gives_type types (instr.Calm c) = right_gives_type types c.right
gives_type types line = true

abbrev pub told_of : List NamedTy → Instr → List (Name × Option Ty)
told_of types line = map (λ (r : Name × Ty). (r.0, cond (gives_type types line) (Some r.1) None)) (set_by (line ∷ []))

-- the registers that a block sets
abbrev pub told_in : List NamedTy → Block → List (Name × Option Ty)
told_in types b = typed (phi_registers b.phis) ++ flat_map (told_of types) b.body

-- What is told of a function's registers, each as it is first defined. In `%p = getelementptr i32, i32* %q, i64 0, i64 1` the register `%p`
-- is there and has no type, so no use of it is of another type than its own.
abbrev pub types_of : Module → Function → Types
types_of m f = with_types none_typed (typed (params_of f) ++ flat_map (told_in m.types) f.blocks)

-- ---- what is wrong with one line, one terminator or one name

abbrev pub cast_fits : {R : Type 0} → Cast R → Bool
cast_fits c = converts c.op c.operand.ty c.to

abbrev pub select_fits : {R : Type 0} → Select R → Bool
select_fits s = same_ty s.condition.ty (ty.Int 1) && same_ty s.left.ty s.right.ty

abbrev pub load_fits : {R : Type 0} → Load R → Bool
load_fits l = points_to l.pointer.ty l.of && is_first_class l.of

-- A binary operator takes integers, `icmp` integers or pointers, a conversion leads from its operand's type to the one behind `to`, `select`
-- takes an i1 and two arms of one type, and what is loaded is a value behind a pointer to its type. No text has a line of one operand alone.
-- An address is asked beside its module. `zext i32 %x to i8` has a `cast width`, and `select i8 %c, i32 %x, i32 %y` an `operand type`.
abbrev pub right_kind : {R : Type 0} → Expr R → Option ShapeKind
right_kind (expr.Plain o) = Some kind.OperandType
right_kind (expr.Binary b) = fault_unless (is_integer b.ty) kind.OperandType
right_kind (expr.Icmp c) = fault_unless (is_first_class c.ty) kind.OperandType
right_kind (expr.Cast c) = fault_unless (cast_fits c) kind.CastWidth
right_kind (expr.Select s) = fault_unless (select_fits s) kind.OperandType
right_kind (expr.Element e) = None
right_kind (expr.Load l) = fault_unless (load_fits l) kind.OperandType

-- it leads to the block of that name
abbrev pub leads_to : Name → Term → Bool
leads_to name end = list_any (same_name name) (successors_of end)

-- a condition is an i1, and a switch is over integers
abbrev pub branch_fits : Term → Bool
branch_fits (term.Ret o) = true
branch_fits term.RetVoid = true
branch_fits (term.Br label) = true
branch_fits (term.CondBr c) = same_ty c.condition.ty (ty.Int 1)
branch_fits (term.Switch s) = is_integer s.value.ty
branch_fits term.Unreachable = true

-- what is returned is of the function's result type, and nothing is where that is void
abbrev pub return_fits : Ty → Term → Bool
return_fits result (term.Ret o) = same_ty o.ty result
return_fits result term.RetVoid = same_ty result ty.Void
return_fits result (term.Br label) = true
return_fits result (term.CondBr c) = true
return_fits result (term.Switch s) = true
return_fits result term.Unreachable = true

-- no number stands twice, and none is one of those seen
abbrev pub are_apart : List ℕ → List ℕ → Bool
are_apart seen [] = true
are_apart seen (n ∷ ns) = not (list_any (nat_eq n) seen) && are_apart (seen ++ n ∷ []) ns

abbrev pub numbers_of : Ty → List Case → List ℕ
numbers_of value = map (λ (c : Case). number_at value c.number)

-- the cases of a switch are of its type, and no two are one number of it
abbrev pub cases_fit : Term → Bool
cases_fit (term.Ret o) = true
cases_fit term.RetVoid = true
cases_fit (term.Br label) = true
cases_fit (term.CondBr c) = true
cases_fit (term.Switch s) = list_all (λ (c : Case). same_ty c.ty s.value.ty) s.cases && are_apart [] (numbers_of s.value.ty s.cases)
cases_fit term.Unreachable = true

-- how many of the names are this one
abbrev pub count_of : Name → List Name → ℕ
count_of name = count_by (same_name name)

-- each name stands in the one list as often as in the other
abbrev pub same_counts : List Name → List Name → Bool
same_counts names others = list_all (λ name. nat_eq (count_of name names) (count_of name others)) (names ++ others)

abbrev pub froms_of : List Entry → List Name
froms_of = map (λ (e : Entry). e.from)

-- entries of one block have one value
abbrev pub are_alike : List Entry → Bool
are_alike entries =
    list_all (λ (d : Entry). list_all (λ (e : Entry). not (same_name d.from e.from) || same_atom same_name d.value e.value) entries) entries

-- a phi has an entry, and one for each of these edges, and entries of one block are alike
abbrev pub phi_fits : List Name → List Entry → Bool
phi_fits edges entries = nat_lt 0 (length entries) && same_counts edges (froms_of entries) && are_alike entries

-- a block's name: an earlier block may have it, or else a parameter or a register
abbrev pub block_kind : Bool → Bool → Option ShapeKind
block_kind doubled taken = cond doubled (Some kind.Label) (fault_unless (not taken) kind.Name)

-- a function's name, which may be taken
abbrev pub name_kind : Bool → Name → Option ShapeKind
name_kind taken name = fault_unless (not taken && not (is_debug name)) kind.Name

-- a type of values, or `void`
abbrev pub is_result : Ty → Bool
is_result ty.Void = true
is_result t = is_first_class t
