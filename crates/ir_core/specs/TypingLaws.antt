-- Of which types addresses, constants, calls and initialisers are.
use Rattle.std.specs.Prelude.{◌≡◌, ℕ, Bool, false, true, List, [], ◌∷◌, map, Option, None, Some}
use Rattle.ir_types.specs.declared.names.Name.{Name}
use Rattle.ir_types.specs.declared.ty.Ty.{Ty, Int, Ptr, Array, Struct, Named, Void}
use Rattle.ir_core.specs.declared.expressions.Element.{Element}
use Rattle.ir_core.specs.declared.expressions.Expr.TheVariants as expr
use Rattle.ir_core.specs.declared.expressions.Load.{Load}
use Rattle.ir_core.specs.declared.functions.Alloca.{Alloca}
use Rattle.ir_core.specs.declared.functions.Call.{Call}
use Rattle.ir_core.specs.declared.functions.Function.{Function}
use Rattle.ir_core.specs.declared.functions.Instr.TheVariants as line
use Rattle.ir_core.specs.declared.functions.Store.{Store}
use Rattle.ir_core.specs.declared.modules.Declaration.{Declaration}
use Rattle.ir_core.specs.declared.modules.GlobalVar.{GlobalVar}
use Rattle.ir_core.specs.declared.modules.Init.{Init, Zero, Bytes}
use Rattle.ir_core.specs.declared.modules.Init as init
use Rattle.ir_core.specs.declared.modules.Linkage.TheVariants as linkage
use Rattle.ir_core.specs.declared.modules.Module.{Module}
use Rattle.ir_core.specs.declared.operands.Atom.TheVariants.{Register}
use Rattle.ir_core.specs.declared.operands.Const.{Const, Number, Undef, Null, Global}
use Rattle.ir_core.specs.declared.operands.Const as constant
use Rattle.ir_core.specs.Examples.{alone, block, f, held, passing, struct, typed, x, y}
use Rattle.ir_core.specs.FlowExamples.{z}
use Rattle.ir_core.specs.Modules.{not_extended, plain_function, plain_param}
use Rattle.ir_core.specs.Typing.{Index, are_arguments, element_type, is_constant_of, is_init_of}
use Rattle.ir_core.specs.WellFormed.{HasGlobalShape, HasShape, IsAlloca, IsCall, IsElement, IsLoad, IsStore, IsWellFormed}

-- @name = global ty init
abbrev pub starting : Name → Ty → Option Init → GlobalVar
starting name ty init = record { name = name; linkage = linkage.External; constant = false; ty = ty; init = init; align = None }

-- @f = global i32 7
abbrev pub seven : GlobalVar
seven = starting f (Int 32) (Some (init.Const (Number 7)))

-- %x = type { i32, [4 x i8] }  %y = type opaque  @f = global i32 7
abbrev pub having : Module
having = record {
  types = struct x (Int 32 ∷ Array 4 (Int 8) ∷ []) ∷ record { name = y; fields = None } ∷ [];
  globals = seven ∷ [];
  functions = [];
  declarations = [];
}

-- ---- addresses

-- an index of so many bits: a number, or a register
abbrev pub at : ℕ → ℕ → Index
at width n = record { ty = Int width; number = Some n }

abbrev pub by_register : ℕ → Index
by_register width = record { ty = Int width; number = None }

abbrev pub leads : Ty → List Index → Option Ty
leads of indices = element_type having.types of indices

-- Indices lead over many, into arrays, and by numbers of i32 into structs, also into named ones; they lead past no last field, into no
-- opaque type, and not behind a pointer.
pub record IndicesLead : Type 0 where
  pub over : leads (Int 8) (by_register 64 ∷ []) ≡ Some (Ptr (Int 8))
  pub array : leads (Array 4 (Int 8)) (at 64 0 ∷ by_register 16 ∷ []) ≡ Some (Ptr (Int 8))
  pub struct : leads (Struct (Int 32 ∷ Array 4 (Int 8) ∷ [])) (at 64 0 ∷ at 32 1 ∷ at 64 2 ∷ []) ≡ Some (Ptr (Int 8))
  pub named : leads (Named x) (at 64 0 ∷ at 32 1 ∷ []) ≡ Some (Ptr (Array 4 (Int 8)))
  pub past_fields : leads (Named x) (at 64 0 ∷ at 32 2 ∷ []) ≡ None
  pub wide_field : leads (Named x) (at 64 0 ∷ at 64 1 ∷ []) ≡ None
  pub field_by_register : leads (Named x) (at 64 0 ∷ by_register 32 ∷ []) ≡ None
  pub opaque : leads (Named y) (at 64 0 ∷ at 32 0 ∷ []) ≡ None
  pub behind_pointer : leads (Ptr (Array 4 (Int 8))) (at 64 0 ∷ at 64 0 ∷ []) ≡ None
  pub by_pointer : leads (Int 8) (record { ty = Ptr (Int 8); number = None } ∷ []) ≡ None

-- getelementptr of, of* %f, i64 0, i32 1, kept as of that type
abbrev pub second_of : Ty → Ty → Element Name
second_of of to =
    record { inbounds = false; of = of; base = held (Ptr of) f; indices = typed (Int 64) 0 ∷ typed (Int 32) 1 ∷ []; to = to }

-- getelementptr i8, base %f, i64 1
abbrev pub next_of : Ty → Element Name
next_of base = record { inbounds = false; of = Int 8; base = held base f; indices = typed (Int 64) 1 ∷ []; to = Ptr (Int 8) }

-- An address is a pointer to what its indices lead to, from a pointer to what is stated, which has a size.
pub record ElementsAreTyped : Type 0 where
  pub field : IsElement having (second_of (Named x) (Ptr (Array 4 (Int 8))))
  pub other_result : IsElement having (second_of (Named x) (Ptr (Int 32))) → ⊥
  pub opaque : IsElement having (second_of (Named y) (Ptr (Int 32))) → ⊥
  pub byte : IsElement having (next_of (Ptr (Int 8)))
  pub other_base : IsElement having (next_of (Ptr (Int 32))) → ⊥
  pub integer : IsElement having (next_of (Int 8)) → ⊥

-- %x = alloca of, ty 2
abbrev pub two_of : Ty → Ty → Alloca
two_of of ty = record { name = x; of = of; to = Ptr of; count = Some (ty, 2); align = None }

-- what is allocated has a size, and its count is an integer
pub record AllocasAreTyped : Type 0 where
  pub sized : IsAlloca having (two_of (Named x) (Int 64))
  pub opaque : IsAlloca having (two_of (Named y) (Int 64)) → ⊥
  pub void : IsAlloca having (two_of Void (Int 64)) → ⊥
  pub count : IsAlloca having (two_of (Named x) (Ptr (Int 64))) → ⊥

-- load of, pointer %x
abbrev pub load_of : Ty → Ty → Load Name
load_of of pointer = record { of = of; pointer = held pointer x; align = None }

-- store value %y, pointer %x
abbrev pub store_of : Ty → Ty → Store
store_of value pointer = record { value = held value y; pointer = held pointer x; align = None }

-- what is loaded or stored is a value behind a pointer to its type
pub record AccessesAreTyped : Type 0 where
  pub load : IsLoad (load_of (Int 8) (Ptr (Int 8)))
  pub load_pointer : IsLoad (load_of (Ptr (Named y)) (Ptr (Ptr (Named y))))
  pub load_other : IsLoad (load_of (Int 8) (Ptr (Int 16))) → ⊥
  pub load_struct : IsLoad (load_of (Named x) (Ptr (Named x))) → ⊥
  pub store : IsStore (store_of (Int 8) (Ptr (Int 8)))
  pub store_other : IsStore (store_of (Int 8) (Ptr (Int 16))) → ⊥
  pub store_struct : IsStore (store_of (Named x) (Ptr (Named x))) → ⊥

-- define i8 @f(i8 %x) { f: %y = alloca i8  store i8 %x, i8* %y  %z = load i8, i8* %y  ret i8 %z }
abbrev pub by_memory : Function
by_memory = plain_function (Int 8) f (plain_param (Int 8) x ∷ []) (
    block f (
    line.Alloca (record { name = y; of = Int 8; to = Ptr (Int 8); count = None; align = None })
    ∷ line.Store (record { value = held (Int 8) x; pointer = held (Ptr (Int 8)) y; align = None })
    ∷ line.Calm (record { name = z; right = expr.Load (record { of = Int 8; pointer = held (Ptr (Int 8)) y; align = None }) })
    ∷ [])
    (Int 8) (Register z)
    ∷ [])

-- what is allocated, stored and loaded again
abbrev pub MemoryIsWellFormed : Type 0
MemoryIsWellFormed = IsWellFormed (alone by_memory)

-- ---- constants

abbrev pub is_of : Const → Ty → Bool
is_of c t = is_constant_of having t c

-- getelementptr (i32, base @f, i64 1)
abbrev pub behind_global : Ty → Const
behind_global base = constant.Element (false, Int 32, (base, Global f) ∷ (Int 64, Number 1) ∷ [])

-- bitcast (from @f to to)
abbrev pub recast : Ty → Ty → Const
recast from to = constant.Cast (to, (from, Global f) ∷ [])

pub record ConstantsAreTyped : Type 0 where
  pub number : is_of (Number 7) (Int 32) ≡ true
  pub number_at_pointer : is_of (Number 0) (Ptr (Int 8)) ≡ false
  pub undef : (is_of Undef (Int 8) ≡ true) × (is_of Undef (Ptr (Int 8)) ≡ true)
  pub undef_at_void : is_of Undef Void ≡ false
  pub null : is_of Null (Ptr (Named y)) ≡ true
  pub null_at_integer : is_of Null (Int 64) ≡ false
  pub global : is_of (Global f) (Ptr (Int 32)) ≡ true
  pub global_at_other : is_of (Global f) (Ptr (Int 8)) ≡ false
  pub global_at_contents : is_of (Global f) (Int 32) ≡ false
  pub no_global : is_of (Global x) (Ptr (Int 32)) ≡ false
  pub address : is_of (behind_global (Ptr (Int 32))) (Ptr (Int 32)) ≡ true
  pub address_at_other : is_of (behind_global (Ptr (Int 32))) (Ptr (Int 8)) ≡ false
  pub address_of_other : is_of (behind_global (Ptr (Int 8))) (Ptr (Int 32)) ≡ false
  pub recast_pointer : is_of (recast (Ptr (Int 32)) (Ptr (Named y))) (Ptr (Named y)) ≡ true
  pub recast_at_other : is_of (recast (Ptr (Int 32)) (Ptr (Named y))) (Ptr (Int 8)) ≡ false
  pub recast_to_integer : is_of (recast (Ptr (Int 32)) (Int 64)) (Int 64) ≡ false
  pub recast_of_other : is_of (recast (Ptr (Int 8)) (Ptr (Named y))) (Ptr (Named y)) ≡ false

-- ---- calls

-- As many arguments as parameters, of the same types; more are values, and only behind `...`.
pub record ArgumentsAreTyped : Type 0 where
  pub same : are_arguments false (Int 32 ∷ Ptr (Int 8) ∷ []) (Int 32 ∷ Ptr (Int 8) ∷ []) ≡ true
  pub other_type : are_arguments false (Int 32 ∷ []) (Int 64 ∷ []) ≡ false
  pub fewer : are_arguments false (Int 32 ∷ Int 8 ∷ []) (Int 32 ∷ []) ≡ false
  pub more : are_arguments false (Int 32 ∷ []) (Int 32 ∷ Int 8 ∷ []) ≡ false
  pub variadic_same : are_arguments true (Int 32 ∷ []) (Int 32 ∷ []) ≡ true
  pub variadic_fewer : are_arguments true (Int 32 ∷ Int 8 ∷ []) (Int 32 ∷ []) ≡ false
  pub variadic_more : are_arguments true (Int 32 ∷ []) (Int 32 ∷ Int 8 ∷ Ptr (Int 8) ∷ []) ≡ true
  pub variadic_struct : are_arguments true (Int 32 ∷ []) (Int 32 ∷ Named x ∷ []) ≡ false

-- declare result @name(param), with `...` or without
abbrev pub declared : Ty → Name → Ty → Bool → Declaration
declared result name param variadic = record {
  result_extensions = not_extended;
  result = result;
  name = name;
  params = record { ty = param; extensions = not_extended } ∷ [];
  variadic = variadic;
  before = 0;
}

-- define i8 @f(i8 %x) { y: ret i8 %x }  declare void @x(i32)  declare i32 @y(i8, ...)
abbrev pub callable : Module
callable = record {
  types = [];
  globals = [];
  functions = passing (Int 8) (Int 8) (Int 8) (Register x) ∷ [];
  declarations = declared Void x (Int 32) false ∷ declared (Int 32) y (Int 8) true ∷ [];
}

-- name = call result @callee(..), with zeros of those types
abbrev pub calling : Option Name → Ty → Name → List Ty → Call
calling name result callee types = record {
  name = name;
  result = result;
  result_extensions = not_extended;
  callee = callee;
  arguments = map (λ (t : Ty). record { operand = typed t 0; extensions = not_extended }) types;
}

-- A call is of a function of the module, for its result, which is named unless it is `void`.
pub record CallsAreTyped : Type 0 where
  pub defined : IsCall callable (calling (Some z) (Int 8) f (Int 8 ∷ []))
  pub void : IsCall callable (calling None Void x (Int 32 ∷ []))
  pub variadic : IsCall callable (calling (Some z) (Int 32) y (Int 8 ∷ Int 16 ∷ []))
  pub unknown : IsCall callable (calling None Void z (Int 32 ∷ [])) → ⊥
  pub other_result : IsCall callable (calling (Some z) (Int 16) f (Int 8 ∷ [])) → ⊥
  pub no_argument : IsCall callable (calling (Some z) (Int 8) f []) → ⊥
  pub nameless : IsCall callable (calling None (Int 8) f (Int 8 ∷ [])) → ⊥
  pub named_void : IsCall callable (calling (Some z) Void x (Int 32 ∷ [])) → ⊥

-- ---- initialisers

abbrev pub starts : Ty → Init → Bool
starts t i = is_init_of having t i

-- ty n
abbrev pub part : Ty → ℕ → Ty × Init
part t n = (t, init.Const (Number n))

pub record InitialisersAreTyped : Type 0 where
  pub array : starts (Array 2 (Int 8)) (init.Array (part (Int 8) 1 ∷ part (Int 8) 2 ∷ [])) ≡ true
  pub too_few : starts (Array 2 (Int 8)) (init.Array (part (Int 8) 1 ∷ [])) ≡ false
  pub too_many : starts (Array 2 (Int 8)) (init.Array (part (Int 8) 1 ∷ part (Int 8) 2 ∷ part (Int 8) 3 ∷ [])) ≡ false
  pub other_element : starts (Array 2 (Int 8)) (init.Array (part (Int 8) 1 ∷ part (Int 16) 2 ∷ [])) ≡ false
  pub bytes : starts (Array 2 (Int 8)) (Bytes (97 ∷ 98 ∷ [])) ≡ true
  pub too_few_bytes : starts (Array 2 (Int 8)) (Bytes (97 ∷ [])) ≡ false
  pub wide_bytes : starts (Array 2 (Int 16)) (Bytes (97 ∷ 98 ∷ [])) ≡ false
  pub struct : starts (Named x) (init.Struct (part (Int 32) 1 ∷ (Array 4 (Int 8), Zero) ∷ [])) ≡ true
  pub missing_field : starts (Named x) (init.Struct (part (Int 32) 1 ∷ [])) ≡ false
  pub no_struct : starts (Int 32) (init.Struct (part (Int 32) 1 ∷ [])) ≡ false
  pub zero : starts (Named x) Zero ≡ true
  pub undef : starts (Named x) (init.Const Undef) ≡ true
  pub zero_of_opaque : starts (Named y) Zero ≡ true
  pub undef_of_opaque : starts (Named y) (init.Const Undef) ≡ true
  pub null_of_struct : starts (Named x) (init.Const Null) ≡ false

-- ---- globals

-- @x = external global i32  declare void @x(i32)
abbrev pub of_one_name : Module
of_one_name =
    record { types = []; globals = starting x (Int 32) None ∷ []; functions = []; declarations = declared Void x (Int 32) false ∷ [] }

-- A global's contents are of a type that the module knows, and of this one is what they are at the start. Its name is no function's.
pub record GlobalsAreTyped : Type 0 where
  pub shape : HasShape having
  pub elsewhere : HasGlobalShape having (starting x (Ptr (Named y)) None)
  pub unknown_type : HasGlobalShape having (starting x (Ptr (Named f)) None) → ⊥
  pub other_type : HasGlobalShape having (starting x (Ptr (Int 8)) (Some (init.Const (Number 0)))) → ⊥
  pub void : HasGlobalShape having (starting x Void None) → ⊥
  pub opaque : HasGlobalShape having (starting x (Named y) (Some Zero)) → ⊥
  pub one_name : HasShape of_one_name → ⊥
