-- What is wrong with the examples.
use Rattle.std.proofs.Common.{◌≡◌, ◌∙◌, ◌&&◌, ℕ, Bool, false, List, [], length, nat_eq, Option, None, Some, refl, ap}
use Rattle.ir_core.specs.declared.modules.Init.{Init}
use Rattle.ir_core.specs.declared.modules.Init as init
use Rattle.ir_core.specs.declared.operands.Const.{Const, Number, Undef, Null, Global, Element, Cast}
use Rattle.ir_core.specs.StatedTypes.{stated_at_level, stated_at_start, stated_by_init}
use Rattle.ir_core.specs.TypingLaws.{callable, having}
use Rattle.ir_core.specs.Types.{is_first_class, is_integer, is_pointer}
use Rattle.ir_core.specs.Typing.{is_bytes}
use Rattle.ir_core.proofs.Constants as constants
use Rattle.ir_core.proofs.Inits as inits
use Rattle.ir_core.proofs.TypeNames as names
use Rattle.ir_core.proofs.Typing.{in_number}
use Rattle.ir_types.specs.declared.names.Name.{Name}
use Rattle.ir_types.specs.declared.ty.Ty.{Ty, Int, Ptr, Array, Named, out-Ty}
use Rattle.ir_types.specs.declared.ty.Ty.TheOpen as level
use Rattle.ir_types.specs.declared.ty.Ty.TheViews.{outs-Int, outs-Ptr, outs-Array, outs-Named, outs-Void}
use Rattle.ir_types.specs.Same.{same_level, same_name, same_parts, same_ty}
use Rattle.ir_types.proofs.Induction as types
use Rattle.ir_types.proofs.Monotone as layout
use Rattle.ir_typing.specs.declared.shape_kinds.kind.ShapeKind.{ShapeKind}
use Rattle.ir_typing.specs.declared.shape_kinds.kind.ShapeKind.TheVariants as kind
use Rattle.ir_typing.specs.ShapeKinds.Kinds.{fault_unless, least}
use Rattle.ir_typing.specs.OperandTests.Addresses.{address_told}
use Rattle.ir_typing.specs.OperandTests.Constants.{global_kind}
use Rattle.ir_typing.specs.OperandTests.Inits.{init_kind_at, start_kind}
use Rattle.ir_typing.specs.OperandLaws.Operands.{AddressesAreJudged, CallsAreJudged, ConstantsAreJudged, FirstIsTold, GlobalsAreJudged, InitialisersAreJudged, NamesAreKnown, wrong, wrong_start}
use Rattle.ir_typing.specs.OperandTests.Parts as part
use Rattle.ir_typing.specs.OperandTests.Starts as start
use Rattle.ir_typing.proofs.OperandTests.Judged as judged
use Rattle.ir_typing.proofs.OperandTests.Starts as starts

-- ---- types

same_pointers : (a b : Ty) → same_ty (Ptr a) (Ptr b) ≡ same_parts a b
same_pointers a b = ap (λ (test : Ty → Bool). test (Ptr b)) (types.at_ptr (Ty → Bool) (λ part t. same_level part (out-Ty t)) a) ∙ ap (same_level (level.Ptr (same_parts a))) (outs-Ptr b)

same_integers : (v w : ℕ) → same_parts (Int v) (Int w) ≡ nat_eq v w
same_integers v w = ap (λ (test : Ty → Bool). test (Int w)) (types.at_int (Ty → Bool) (λ part t. same_level part (out-Ty t)) v) ∙ ap (same_level (level.Int v)) (outs-Int w)

same_names : (x z : Name) → same_parts (Named x) (Named z) ≡ same_name x z
same_names x z = ap (λ (test : Ty → Bool). test (Named z)) (types.at_named (Ty → Bool) (λ part t. same_level part (out-Ty t)) x) ∙ ap (same_level (level.Named x)) (outs-Named z)

integer_and_named : (w : ℕ) (x : Name) → same_parts (Int w) (Named x) ≡ false
integer_and_named w x = ap (λ (test : Ty → Bool). test (Named x)) (types.at_int (Ty → Bool) (λ part t. same_level part (out-Ty t)) w) ∙ ap (same_level (level.Int w)) (outs-Named x)

named_and_integer : (x : Name) (w : ℕ) → same_parts (Named x) (Int w) ≡ false
named_and_integer x w = ap (λ (test : Ty → Bool). test (Int w)) (types.at_named (Ty → Bool) (λ part t. same_level part (out-Ty t)) x) ∙ ap (same_level (level.Named x)) (outs-Int w)

same_arrays : (m n : ℕ) (a b : Ty) → same_parts (Array m a) (Array n b) ≡ (nat_eq m n && same_parts a b)
same_arrays m n a b = ap (λ (test : Ty → Bool). test (Array n b)) (types.at_array (Ty → Bool) (λ part t. same_level part (out-Ty t)) m a) ∙ ap (same_level (level.Array m (same_parts a))) (outs-Array n b)

array_and_integer : (n : ℕ) (t : Ty) (w : ℕ) → same_parts (Array n t) (Int w) ≡ false
array_and_integer n t w = ap (λ (test : Ty → Bool). test (Int w)) (types.at_array (Ty → Bool) (λ part t. same_level part (out-Ty t)) n t) ∙ ap (same_level (level.Array n (same_parts t))) (outs-Int w)

pub names_are_known : NamesAreKnown
names_are_known = record { named = simp (names.at_named) refl; opaque = simp (names.at_ptr, names.at_array, names.at_named) refl; field = simp (names.at_struct, names.at_ptr, names.at_named) refl }

-- ---- constants

of_number : (t : Ty) (n : ℕ) → wrong t (Number n) ≡ fault_unless (is_integer t) kind.OperandType
of_number t n = judged.of_number having t n

of_undef : (t : Ty) → wrong t Undef ≡ fault_unless (is_first_class t) kind.OperandType
of_undef t = judged.of_undef having t

of_null : (t : Ty) → wrong t Null ≡ fault_unless (is_pointer t) kind.OperandType
of_null t = judged.of_null having t

of_global : (t : Ty) (x : Name) → wrong t (Global x) ≡ global_kind having x t
of_global t x = judged.of_global having t x

of_element : (t : Ty) (e : Bool × Ty × List (Ty × Const)) → wrong t (Element e) ≡ least (part.parts_kind having e.2) (address_told having.types e.1 e.2 t)
of_element t e = judged.of_element having t e

of_cast : (t : Ty) (c : Ty × List (Ty × Const)) → wrong t (Cast c) ≡ least (part.parts_kind having c.1) (least (fault_unless (same_ty c.0 t) kind.OperandType) (part.recast_kind c.0 c.1))
of_cast t c = judged.of_cast having t c

pub constants_are_judged : ConstantsAreJudged
constants_are_judged = record {
  number = simp (of_number) refl;
  number_at_pointer = simp (of_number) refl;
  undef_at_void = simp (of_undef, outs-Void) refl;
  null_at_integer = simp (of_null, outs-Int) refl;
  global = simp (of_global, same_pointers, same_integers) refl;
  global_at_other = simp (of_global, same_pointers, same_integers) refl;
  no_global = simp (of_global) refl;
  function = simp (judged.of_global callable) refl;
  address = simp (of_element, of_global, of_number, layout.at_int, same_pointers, same_integers) refl;
  address_at_other = simp (of_element, of_global, of_number, layout.at_int, same_pointers, same_integers) refl;
  other_base = simp (of_element, of_global, of_number, layout.at_int, same_pointers, same_integers) refl;
  opaque = simp (of_element, of_cast, of_global, of_number, layout.at_int, layout.at_array, layout.at_struct, layout.at_named, same_pointers, same_integers, same_names, outs-Ptr) refl;
  field = simp (of_element, of_cast, of_global, of_number, layout.at_int, layout.at_array, layout.at_struct, layout.at_named, same_pointers, same_integers, same_names, outs-Named, outs-Ptr) refl;
  past_fields = simp (of_element, of_cast, of_global, of_number, layout.at_int, layout.at_array, layout.at_struct, layout.at_named, same_pointers, same_integers, same_names, outs-Named, outs-Ptr) refl;
  recast_pointer = simp (of_cast, of_global, same_pointers, same_integers, same_names, outs-Ptr) refl;
  recast_at_other = simp (of_cast, of_global, same_pointers, same_integers, named_and_integer, outs-Ptr) refl;
  recast_to_integer = simp (of_cast, of_global, same_pointers, same_integers, outs-Ptr, outs-Int) refl;
}

pub first_is_told : FirstIsTold
first_is_told = record {
  name_and_type = simp (of_global) refl;
  base_and_index = simp (of_element, of_global, of_number, layout.at_int, layout.at_array, layout.at_struct, layout.at_named, same_pointers, same_integers, integer_and_named, outs-Named) refl;
  size_and_index = simp (of_element, of_cast, of_global, of_number, layout.at_int, layout.at_array, layout.at_struct, layout.at_named, same_pointers, same_integers, same_names, outs-Named, outs-Ptr) refl;
  in_part = simp (of_element, of_global, of_number, layout.at_int, layout.at_array, layout.at_struct, layout.at_named, same_pointers, same_names, outs-Named) refl;
}

-- ---- addresses

pub addresses_are_judged : AddressesAreJudged
addresses_are_judged = record {
  field = simp (layout.at_int, layout.at_array, layout.at_struct, layout.at_named, same_pointers, same_integers, same_names, same_arrays, outs-Named) refl;
  other_result = simp (layout.at_int, layout.at_array, layout.at_struct, layout.at_named, same_pointers, same_names, array_and_integer, outs-Named) refl;
  opaque = simp (layout.at_int, layout.at_array, layout.at_struct, layout.at_named, same_pointers, same_names, outs-Named) refl;
  integer = simp (layout.at_int, same_pointers, same_integers, outs-Int) refl;
  byte = simp (layout.at_int, same_pointers, same_integers) refl;
  other_base = simp (layout.at_int, same_pointers, same_integers) refl;
}

-- ---- initialisers

of_const : (t : Ty) (c : Const) → wrong_start t (init.Const c) ≡ start_kind having t c
of_const t c = ap (λ (f : Ty → Option ShapeKind). f t) (inits.at_const (Ty → Option ShapeKind) (init_kind_at having) c)

of_zero : (t : Ty) → wrong_start t init.Zero ≡ None
of_zero t = ap (λ (f : Ty → Option ShapeKind). f t) (inits.at_zero (Ty → Option ShapeKind) (init_kind_at having))

of_bytes : (t : Ty) (bytes : List ℕ) → wrong_start t (init.Bytes bytes) ≡ fault_unless (is_bytes (length bytes) (out-Ty t)) kind.OperandType
of_bytes t bytes = ap (λ (f : Ty → Option ShapeKind). f t) (inits.at_bytes (Ty → Option ShapeKind) (init_kind_at having) bytes)

of_array : (t : Ty) (ps : List (Ty × Init)) → wrong_start t (init.Array ps) ≡ least (fault_unless (start.are_elements t ps) kind.OperandType) (start.parts_kind having ps)
of_array t ps = starts.of_array having t ps

of_struct : (t : Ty) (ps : List (Ty × Init)) → wrong_start t (init.Struct ps) ≡ least (fault_unless (start.are_fields having.types t ps) kind.OperandType) (start.parts_kind having ps)
of_struct t ps = starts.of_struct having t ps

pub initialisers_are_judged : InitialisersAreJudged
initialisers_are_judged = record {
  array = simp (of_array, of_const, outs-Array, of_number) refl;
  too_few = simp (of_array, of_const, outs-Array, of_number) refl;
  struct = simp (of_struct, of_const, of_zero, outs-Named, of_number, same_arrays, same_integers) refl;
  other_field = simp (of_struct, of_const, of_zero, outs-Named, of_number) refl;
  bytes = simp (of_bytes, outs-Array) refl;
  too_few_bytes = simp (of_bytes, outs-Array) refl;
  undef = simp (of_const) refl;
  null_of_struct = simp (of_const, of_null, outs-Named) refl;
  in_element = simp (of_array, of_const, of_global, outs-Array) refl;
}

-- ---- globals

start_of_number : (n : ℕ) → stated_at_start (Some (init.Const (Number n))) ≡ []
start_of_number n = inits.at_const (List Ty) stated_by_init (Number n) ∙ in_number n

start_of_zero : stated_at_start (Some init.Zero) ≡ []
start_of_zero = inits.at_zero (List Ty) stated_by_init

start_of_null : stated_at_start (Some (init.Const Null)) ≡ []
start_of_null = inits.at_const (List Ty) stated_by_init Null ∙ constants.at_null (List Ty) stated_at_level

pub globals_are_judged : GlobalsAreJudged
globals_are_judged = record {
  right = simp (start_of_number, names.at_int, of_const, of_number, layout.at_int) refl;
  elsewhere = simp (names.at_ptr, names.at_named, layout.at_ptr) refl;
  not_new = simp (start_of_number, names.at_int, of_const, of_number, layout.at_int) refl;
  unknown_type = simp (names.at_ptr, names.at_named, layout.at_ptr) refl;
  opaque = simp (start_of_zero, names.at_named, of_zero, layout.at_int, layout.at_array, layout.at_struct, layout.at_named) refl;
  other_type = simp (start_of_number, names.at_int, names.at_ptr, of_const, of_number, layout.at_ptr) refl;
  opaque_and_other_type = simp (start_of_null, names.at_named, of_const, of_null, layout.at_int, layout.at_array, layout.at_struct, layout.at_named, outs-Named) refl;
}

-- ---- calls

pub calls_are_judged : CallsAreJudged
calls_are_judged = record {
  defined = refl;
  void = refl;
  unknown = refl;
  global = refl;
  fewer = refl;
  more = refl;
  variadic = refl;
  variadic_fewer = refl;
  other_argument = refl;
  other_result = refl;
  named_void = refl;
  nameless = refl;
  named_void_and_fewer = refl;
}
