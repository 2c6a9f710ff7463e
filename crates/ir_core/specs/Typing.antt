-- What types constants, addresses and calls have beside the named types, globals and functions of a module (LangRef 3.7, Constants,
-- Constant Expressions, getelementptr and call Instructions).
use Rattle.std.specs.Prelude.{ℕ, ◌&&◌, Bool, false, true, cond, nat_eq, List, [], ◌∷◌, ◌++◌, length, map, replicate, slice_get, Option, None, Some}
use Rattle.std.specs.List.{list_all}
use Rattle.std.specs.Option.{option_and_then, option_map}
use Rattle.ir_core.specs.declared.functions.Function.{Function}
use Rattle.ir_core.specs.declared.functions.Param.{Param}
use Rattle.ir_core.specs.declared.modules.Declaration.{Declaration}
use Rattle.ir_core.specs.declared.modules.DeclaredParam.{DeclaredParam}
use Rattle.ir_core.specs.declared.modules.GlobalVar.{GlobalVar}
use Rattle.ir_core.specs.declared.modules.Init.{Init, fold-Init}
use Rattle.ir_core.specs.declared.modules.Init.TheOpen.{Init-F}
use Rattle.ir_core.specs.declared.modules.Init.TheOpen as init
use Rattle.ir_core.specs.declared.modules.Module.{Module}
use Rattle.ir_core.specs.declared.operands.Atom.{Atom}
use Rattle.ir_core.specs.declared.operands.Atom.TheVariants.{Constant}
use Rattle.ir_core.specs.declared.operands.CastOp.TheVariants as conversion
use Rattle.ir_core.specs.declared.operands.Const.{Const, fold-Const}
use Rattle.ir_core.specs.declared.operands.Const.TheVariants as constant
use Rattle.ir_core.specs.declared.operands.Const.TheOpen.{Const-F}
use Rattle.ir_core.specs.declared.operands.Const.TheOpen as part
use Rattle.ir_core.specs.declared.operands.Operand.{Operand}
use Rattle.ir_types.specs.declared.named.NamedTy.{NamedTy}
use Rattle.ir_types.specs.declared.names.Name.{Name}
use Rattle.ir_types.specs.declared.ty.Ty.{Ty, Ptr, out-Ty}
use Rattle.ir_types.specs.declared.ty.Ty.TheVariants as ty
use Rattle.ir_types.specs.declared.ty.Ty.TheOpen.{Ty-F}
use Rattle.ir_types.specs.declared.ty.Ty.TheOpen as level
use Rattle.ir_types.specs.Named.{fields_of, fields_or_none, is_sized}
use Rattle.ir_types.specs.Same.{same_list, same_name, same_ty}
use Rattle.ir_core.specs.Types.{converts, is_first_class, is_integer, is_pointer}

-- the type is the one that is due, where there is one
abbrev pub is_due : Option Ty → Ty → Bool
is_due None t = false
is_due (Some due) t = same_ty due t

-- ---- what indices lead to

-- what is asked of an index: its type, and its number where it is one
pub record Index : Type 0 where
  pub ty : Ty
  pub number : Option ℕ

abbrev pub number_in : {R : Type 0} → Atom R → Option ℕ
number_in (Constant (constant.Number n)) = Some n
number_in a = None

abbrev pub index_of : {R : Type 0} → Operand R → Index
index_of o = record { ty = o.ty; number = number_in o.atom }

-- a field is told by a number of i32
abbrev pub field_at : List Ty → Index → Option Ty
field_at fields i = cond (same_ty i.ty (ty.Int 32)) (option_and_then (slice_get fields) i.number) None

-- An index enters an element of an array, whichever integer it is, or a field of a struct, also by its name; it enters nothing else.
abbrev pub entered_at_level : List NamedTy → Ty-F Ty → Index → Option Ty
entered_at_level types (level.Array count element) i = cond (is_integer i.ty) (Some element) None
entered_at_level types (level.Struct fields) i = field_at fields i
entered_at_level types (level.Named x) i = field_at (fields_or_none (fields_of types x)) i
entered_at_level types other i = None

abbrev pub entered : List NamedTy → Ty → Index → Option Ty
entered types t i = entered_at_level types (out-Ty t) i

abbrev pub led_to : List NamedTy → Ty → List Index → Option Ty
led_to types t [] = Some t
led_to types t (i ∷ is) = option_and_then (λ u. led_to types u is) (entered types t i)

-- The first index goes over many of the type that is pointed to; each further one enters what it lies in.
-- `getelementptr { i32, [4 x i8] }, { i32, [4 x i8] }* %p, i64 0, i32 1, i64 2` is an `i8*`.
abbrev pub element_type : List NamedTy → Ty → List Index → Option Ty
element_type types of [] = Some (Ptr of)
element_type types of (i ∷ is) = cond (is_integer i.ty) (option_map Ptr (led_to types of is)) None

-- ---- constants

-- the type of a global variable's contents: the first one's of that name
abbrev pub contents_of : List GlobalVar → Name → Option Ty
contents_of [] x = None
contents_of (g ∷ gs) x = cond (same_name g.name x) (Some g.ty) (contents_of gs x)

-- what is asked of a constant: the types of which it is one, and its number where it is one
pub record Fitting : Type 0 where
  pub is_of : Ty → Bool
  pub number : Option ℕ

-- each is of the type that is stated for it
abbrev pub are_typed : List (Ty × Fitting) → Bool
are_typed = list_all (λ c. c.1.is_of c.0)

abbrev pub index_at : Ty × Fitting → Index
index_at c = record { ty = c.0; number = c.1.number }

-- the address of a part, from that of the base
abbrev pub is_address : List NamedTy → Ty → List (Ty × Fitting) → Ty → Bool
is_address types of [] t = false
is_address types of (base ∷ indices) t =
    same_ty base.0 (Ptr of) && is_sized types of && is_due (element_type types of (map index_at indices)) t

-- one operand, of a type from which `bitcast` leads to this one
abbrev pub is_cast : Ty → List (Ty × Fitting) → Bool
is_cast to (from ∷ []) = converts conversion.BitCast from.0 to
is_cast to others = false

-- a number is of each integer type, undef of each type of values, null of each pointer type
abbrev pub fitting_at_level : List NamedTy → List GlobalVar → Const-F Fitting → Fitting
fitting_at_level types globals (part.Number n) = record { is_of = is_integer; number = Some n }
fitting_at_level types globals part.Undef = record { is_of = is_first_class; number = None }
fitting_at_level types globals part.Null = record { is_of = is_pointer; number = None }
fitting_at_level types globals (part.Global x) = record { is_of = is_due (option_map Ptr (contents_of globals x)); number = None }
fitting_at_level types globals (part.Element e) = record { is_of = λ t. are_typed e.2 && is_address types e.1 e.2 t; number = None }
fitting_at_level types globals (part.Cast c) = record { is_of = λ t. are_typed c.1 && is_cast c.0 c.1 && same_ty c.0 t; number = None }

-- the constant is one of that type beside the module
abbrev pub is_constant_of : Module → Ty → Const → Bool
is_constant_of m t c = (fold-Const Fitting (fitting_at_level m.types m.globals) c).is_of t

-- ---- calls

-- what a call of a function asks: the type of its result, those of its parameters, and whether further arguments may follow
pub record Signature : Type 0 where
  pub result : Ty
  pub params : List Ty
  pub variadic : Bool

abbrev pub defined_signature : Function → Signature
defined_signature f = record { result = f.result; params = map (λ (p : Param). p.ty) f.params; variadic = false }

abbrev pub declared_signature : Declaration → Signature
declared_signature d = record { result = d.result; params = map (λ (p : DeclaredParam). p.ty) d.params; variadic = d.variadic }

abbrev pub signatures_of : Module → List (Name × Signature)
signatures_of m =
    map (λ (f : Function). (f.name, defined_signature f)) m.functions ++ map (λ (d : Declaration). (d.name, declared_signature d)) m.declarations

-- arguments are of the types of the parameters, and further ones, where they may follow, of any type of values
abbrev pub are_arguments : Bool → List Ty → List Ty → Bool
are_arguments variadic [] further = list_all (λ t. variadic && is_first_class t) further
are_arguments variadic (p ∷ ps) [] = false
are_arguments variadic (p ∷ ps) (t ∷ ts) = same_ty p t && are_arguments variadic ps ts

-- ---- what a global holds at the start

-- the types of the elements of an array or of the fields of a struct, also of a named one; a list of so many has them
abbrev pub parts_of_array : List NamedTy → Ty-F Ty → ℕ → Option (List Ty)
parts_of_array types (level.Array count element) n = cond (nat_eq count n) (Some (replicate n element)) None
parts_of_array types other n = None

abbrev pub parts_of_struct : List NamedTy → Ty-F Ty → Option (List Ty)
parts_of_struct types (level.Struct fields) = Some fields
parts_of_struct types (level.Named x) = fields_of types x
parts_of_struct types other = None

-- the parts are of these types, which are stated for them
abbrev pub are_parts : Option (List Ty) → List (Ty × (Ty → Bool)) → Bool
are_parts None parts = false
are_parts (Some types) parts = same_list same_ty types (map (λ p. p.0) parts) && list_all (λ p. p.1 p.0) parts

-- an array of so many i8
abbrev pub is_bytes : ℕ → Ty-F Ty → Bool
is_bytes n (level.Array count element) = nat_eq count n && same_ty element (ty.Int 8)
is_bytes n other = false

-- undef is of each type; that the whole has a size is asked of the global
abbrev pub is_init_constant : Module → Ty → Const → Bool
is_init_constant m t constant.Undef = true
is_init_constant m t c = is_constant_of m t c

abbrev pub init_at_level : Module → Init-F (Ty → Bool) → Ty → Bool
init_at_level m (init.Const c) t = is_init_constant m t c
init_at_level m init.Zero t = true
init_at_level m (init.Bytes bytes) t = is_bytes (length bytes) (out-Ty t)
init_at_level m (init.Array parts) t = are_parts (parts_of_array m.types (out-Ty t) (length parts)) parts
init_at_level m (init.Struct parts) t = are_parts (parts_of_struct m.types (out-Ty t)) parts

abbrev pub is_init_of : Module → Ty → Init → Bool
is_init_of m t i = fold-Init (Ty → Bool) (init_at_level m) i t
