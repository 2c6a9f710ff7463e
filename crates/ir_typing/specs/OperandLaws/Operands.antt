-- What is wrong with constants, addresses, initialisers, globals and calls, by examples.
use Rattle.std.specs.Prelude.{◌≡◌, ℕ, false, true, [], ◌∷◌, Option, None, Some}
use Rattle.ir_core.specs.declared.functions.Call.{Call}
use Rattle.ir_core.specs.declared.modules.Init.{Init, Zero, Bytes}
use Rattle.ir_core.specs.declared.modules.Init as init
use Rattle.ir_core.specs.declared.operands.Const.{Const, Number, Undef, Null, Global}
use Rattle.ir_core.specs.declared.operands.Const as constant
use Rattle.ir_core.specs.Examples.{f, x, y}
use Rattle.ir_core.specs.FlowExamples.{z}
use Rattle.ir_core.specs.TypingLaws.{behind_global, callable, calling, having, next_of, part, recast, second_of, seven, starting}
use Rattle.ir_types.specs.declared.ty.Ty.{Ty, Int, Ptr, Array, Struct, Named, Void}
use Rattle.ir_typing.specs.declared.shape_kinds.kind.ShapeKind.{ShapeKind}
use Rattle.ir_typing.specs.declared.shape_kinds.kind.ShapeKind.TheVariants as kind
use Rattle.ir_typing.specs.OperandTests.Calls.{call_kind}
use Rattle.ir_typing.specs.OperandTests.Constants.{constant_kind, element_kind}
use Rattle.ir_typing.specs.OperandTests.Inits.{global_var_kind, init_kind}
use Rattle.ir_typing.specs.OperandTests.Known.{is_type_known}

-- beside a module that has: %x = type { i32, [4 x i8] }  %y = type opaque  @f = global i32 7

-- ---- named types

-- each name is one of the module's, also behind pointers and in structs
pub record NamesAreKnown : Type 0 where
  pub named : is_type_known having (Named x) ≡ true
  pub opaque : is_type_known having (Ptr (Array 2 (Named y))) ≡ true
  pub field : is_type_known having (Struct (Named x ∷ Ptr (Named z) ∷ [])) ≡ false

-- ---- constants

abbrev pub wrong : Ty → Const → Option ShapeKind
wrong t c = constant_kind having t c

-- to* bitcast (i32* @f to to*)
abbrev pub base_of : Ty → Ty × Const
base_of to = (Ptr to, recast (Ptr (Int 32)) (Ptr to))

-- getelementptr (of, base, i64 0, i32 n)
abbrev pub field_of : Ty → Ty × Const → ℕ → Const
field_of of base n = constant.Element (false, of, base ∷ (Int 64, Number 0) ∷ (Int 32, Number n) ∷ [])

-- getelementptr (of, base, i64 1)
abbrev pub behind : Ty → Ty × Const → Const
behind of base = constant.Element (false, of, base ∷ (Int 64, Number 1) ∷ [])

-- A constant is of the type at which it stands. What is of another type is an `operand type`, what nothing is named a `name`, a conversion
-- that doesn't lead on a `cast width`, a part of what has no size `unsized`, and an index past the last field a `gep index`.
pub record ConstantsAreJudged : Type 0 where
  pub number : wrong (Int 32) (Number 7) ≡ None
  pub number_at_pointer : wrong (Ptr (Int 8)) (Number 0) ≡ Some kind.OperandType
  pub undef_at_void : wrong Void Undef ≡ Some kind.OperandType
  pub null_at_integer : wrong (Int 64) Null ≡ Some kind.OperandType
  pub global : wrong (Ptr (Int 32)) (Global f) ≡ None
  pub global_at_other : wrong (Ptr (Int 8)) (Global f) ≡ Some kind.OperandType
  pub no_global : wrong (Ptr (Int 32)) (Global z) ≡ Some kind.Name
  pub function : constant_kind callable (Ptr (Int 8)) (Global f) ≡ Some kind.OperandType
  pub address : wrong (Ptr (Int 32)) (behind_global (Ptr (Int 32))) ≡ None
  pub address_at_other : wrong (Ptr (Int 8)) (behind_global (Ptr (Int 32))) ≡ Some kind.OperandType
  pub other_base : wrong (Ptr (Int 8)) (behind (Int 8) (Ptr (Int 32), Global f)) ≡ Some kind.OperandType
  pub opaque : wrong (Ptr (Named y)) (behind (Named y) (base_of (Named y))) ≡ Some kind.Unsized
  pub field : wrong (Ptr (Int 32)) (field_of (Named x) (base_of (Named x)) 0) ≡ None
  pub past_fields : wrong (Ptr (Int 32)) (field_of (Named x) (base_of (Named x)) 2) ≡ Some kind.GepIndex
  pub recast_pointer : wrong (Ptr (Named y)) (recast (Ptr (Int 32)) (Ptr (Named y))) ≡ None
  pub recast_at_other : wrong (Ptr (Int 8)) (recast (Ptr (Int 32)) (Ptr (Named y))) ≡ Some kind.OperandType
  pub recast_to_integer : wrong (Int 64) (recast (Ptr (Int 32)) (Int 64)) ≡ Some kind.CastWidth

-- Of several things that are wrong the kind that comes first is told, also where one is in a part.
pub record FirstIsTold : Type 0 where
  pub name_and_type : wrong (Int 8) (Global z) ≡ Some kind.Name
  pub base_and_index : wrong (Ptr (Int 32)) (field_of (Named x) (Ptr (Int 32), Global f) 2) ≡ Some kind.OperandType
  pub size_and_index : wrong (Ptr (Int 32)) (field_of (Named y) (base_of (Named y)) 0) ≡ Some kind.Unsized
  pub in_part : wrong (Ptr (Int 32)) (field_of (Named x) (Ptr (Named x), Global z) 2) ≡ Some kind.Name

-- ---- addresses

-- the same of addresses whose operands may be registers
pub record AddressesAreJudged : Type 0 where
  pub field : element_kind having (second_of (Named x) (Ptr (Array 4 (Int 8)))) ≡ None
  pub other_result : element_kind having (second_of (Named x) (Ptr (Int 32))) ≡ Some kind.OperandType
  pub opaque : element_kind having (second_of (Named y) (Ptr (Int 32))) ≡ Some kind.Unsized
  pub integer : element_kind having (second_of (Int 32) (Ptr (Int 32))) ≡ Some kind.GepIndex
  pub byte : element_kind having (next_of (Ptr (Int 8))) ≡ None
  pub other_base : element_kind having (next_of (Ptr (Int 32))) ≡ Some kind.OperandType

-- ---- initialisers

abbrev pub wrong_start : Ty → Init → Option ShapeKind
wrong_start t i = init_kind having t i

-- An initialiser has as many parts as its type, of the same types. What is wrong in a part is told too.
pub record InitialisersAreJudged : Type 0 where
  pub array : wrong_start (Array 2 (Int 8)) (init.Array (part (Int 8) 1 ∷ part (Int 8) 2 ∷ [])) ≡ None
  pub too_few : wrong_start (Array 2 (Int 8)) (init.Array (part (Int 8) 1 ∷ [])) ≡ Some kind.OperandType
  pub struct : wrong_start (Named x) (init.Struct (part (Int 32) 1 ∷ (Array 4 (Int 8), Zero) ∷ [])) ≡ None
  pub other_field : wrong_start (Named x) (init.Struct (part (Int 64) 1 ∷ (Array 4 (Int 8), Zero) ∷ [])) ≡ Some kind.OperandType
  pub bytes : wrong_start (Array 2 (Int 8)) (Bytes (97 ∷ 98 ∷ [])) ≡ None
  pub too_few_bytes : wrong_start (Array 3 (Int 8)) (Bytes (97 ∷ 98 ∷ [])) ≡ Some kind.OperandType
  pub undef : wrong_start (Named x) (init.Const Undef) ≡ None
  pub null_of_struct : wrong_start (Named x) (init.Const Null) ≡ Some kind.OperandType
  pub in_element : wrong_start (Array 2 (Ptr (Int 8))) (init.Array ((Ptr (Int 8), init.Const (Global z)) ∷ [])) ≡ Some kind.Name

-- ---- globals

-- @z = global t init, where that name is new
abbrev pub wrong_global : Ty → Option Init → Option ShapeKind
wrong_global t init = global_var_kind having true (starting z t init)

-- A global has a name of its own and types of the module, and holds what is of its type, which has a size.
pub record GlobalsAreJudged : Type 0 where
  pub right : global_var_kind having true seven ≡ None
  pub elsewhere : wrong_global (Ptr (Named y)) None ≡ None
  pub not_new : global_var_kind having false seven ≡ Some kind.Name
  pub unknown_type : wrong_global (Ptr (Named z)) None ≡ Some kind.Name
  pub opaque : wrong_global (Named y) (Some Zero) ≡ Some kind.Unsized
  pub other_type : wrong_global (Ptr (Int 8)) (Some (init.Const (Number 0))) ≡ Some kind.OperandType
  pub opaque_and_other_type : wrong_global (Named y) (Some (init.Const Null)) ≡ Some kind.OperandType

-- ---- calls

-- beside a module that has: define i8 @f(i8 %x)  declare void @x(i32)  declare i32 @y(i8, ...)
abbrev pub wrong_call : Call → Option ShapeKind
wrong_call c = call_kind callable c

-- A function is called, for its result, with as many arguments as it has parameters, and with more only behind `...`.
pub record CallsAreJudged : Type 0 where
  pub defined : wrong_call (calling (Some z) (Int 8) f (Int 8 ∷ [])) ≡ None
  pub void : wrong_call (calling None Void x (Int 32 ∷ [])) ≡ None
  pub unknown : wrong_call (calling None Void z (Int 32 ∷ [])) ≡ Some kind.Name
  pub global : call_kind having (calling None Void f []) ≡ Some kind.Name
  pub fewer : wrong_call (calling (Some z) (Int 8) f []) ≡ Some kind.CallType
  pub more : wrong_call (calling (Some z) (Int 8) f (Int 8 ∷ Int 8 ∷ [])) ≡ Some kind.CallType
  pub variadic : wrong_call (calling (Some z) (Int 32) y (Int 8 ∷ Int 16 ∷ [])) ≡ None
  pub variadic_fewer : wrong_call (calling (Some z) (Int 32) y []) ≡ Some kind.CallType
  pub other_argument : wrong_call (calling (Some z) (Int 8) f (Int 16 ∷ [])) ≡ Some kind.CallType
  pub other_result : wrong_call (calling (Some z) (Int 16) f (Int 8 ∷ [])) ≡ Some kind.CallType
  pub named_void : wrong_call (calling (Some z) Void x (Int 32 ∷ [])) ≡ Some kind.OperandType
  pub nameless : wrong_call (calling None (Int 8) f (Int 8 ∷ [])) ≡ Some kind.OperandType
  pub named_void_and_fewer : wrong_call (calling (Some z) Void x []) ≡ Some kind.OperandType
