-- Of which types addresses, constants, calls and initialisers are.
use Rattle.std.proofs.Common.{◌≡◌, ◌∙◌, ◌+◌, ℕ, Bool, true, false, ◌&&◌, zero, suc, List, [], ◌∷◌, length, None, Some, Ok, Err, nat_eq, refl, sym, ap, subst, arith}
use Rattle.std.specs.List.{AllByRecursion, Contains}
use Rattle.std.specs.Option.{option_map}
use Rattle.ir_types.specs.declared.names.Name.{Name}
use Rattle.ir_types.specs.declared.ty.Ty.{Ty, Int, Ptr, Array, Named, Void, out-Ty}
use Rattle.ir_types.specs.declared.ty.Ty.TheOpen.{Ty-F}
use Rattle.ir_types.specs.declared.ty.Ty.TheOpen as level
use Rattle.ir_types.specs.declared.ty.Ty.TheViews.{outs-Int, outs-Ptr, outs-Array, outs-Struct, outs-Named, outs-Void}
use Rattle.ir_types.specs.declared.sizes.SizeFault.TheVariants.{TooLarge}
use Rattle.ir_types.specs.Named.{block_of, is_sized}
use Rattle.ir_types.specs.Same.{same_level, same_name, same_parts, same_ty}
use Rattle.ir_types.proofs.Induction as types
use Rattle.ir_types.proofs.Monotone as layout
use Rattle.ir_core.specs.declared.modules.Init.{Init}
use Rattle.ir_core.specs.declared.modules.Init as init
use Rattle.ir_core.specs.declared.operands.Const.{Const, Number, Undef, Null, Global}
use Rattle.ir_core.specs.declared.operands.Const as constant
use Rattle.ir_core.specs.declared.operands.Const.TheOpen.{Const-F}
use Rattle.ir_core.specs.Depths.{depth_at_level, depth_of}
use Rattle.ir_core.specs.Examples.{f, struct, x, y}
use Rattle.ir_core.specs.FlowExamples.{z}
use Rattle.ir_core.specs.Ranges.{IsNameInRange, IsTypeInRange}
use Rattle.ir_core.specs.StatedTypes.{stated_at_start, stated_by_init, types_in_global}
use Rattle.ir_core.specs.TypeNames.{names_in_struct, names_in_type}
use Rattle.ir_core.specs.Types.{is_first_class, is_integer, is_pointer}
use Rattle.ir_core.specs.Typing.{Fitting, Signature, are_arguments, are_parts, are_typed, contents_of, fitting_at_level, init_at_level, is_address, is_bytes, is_cast, is_due, is_init_constant, parts_of_array, parts_of_struct, signatures_of}
use Rattle.ir_core.specs.TypingLaws.{AccessesAreTyped, AllocasAreTyped, ArgumentsAreTyped, CallsAreTyped, ConstantsAreTyped, ElementsAreTyped, GlobalsAreTyped, IndicesLead, InitialisersAreTyped, MemoryIsWellFormed, at, by_memory, callable, having, is_of, leads, seven, starts}
use Rattle.ir_core.proofs.Constants as constants
use Rattle.ir_core.proofs.Inits as inits
use Rattle.ir_core.proofs.Flow.{in_three}
use Rattle.ir_core.proofs.Ranges as ranges
use Rattle.ir_core.proofs.TypeNames as names
use Rattle.ir_core.proofs.Typing as typing
use Rattle.ir_core.proofs.Typing.{all_known, in_number, nameless, no_values}
use Rattle.ir_core.proofs.WellFormed.{defined, in_none, in_one, in_two, name_f, name_x, name_y}

-- ---- the test of pointer types

-- pointers are the same where what they point to is
same_pointers : (a b : Ty) → same_ty (Ptr a) (Ptr b) ≡ same_parts a b
same_pointers a b = ap (λ (test : Ty → Bool). test (Ptr b)) (types.at_ptr (Ty → Bool) (λ part t. same_level part (out-Ty t)) a) ∙ ap (same_level (level.Ptr (same_parts a))) (outs-Ptr b)

same_integers : (v w : ℕ) → same_parts (Int v) (Int w) ≡ nat_eq v w
same_integers v w = ap (λ (test : Ty → Bool). test (Int w)) (types.at_int (Ty → Bool) (λ part t. same_level part (out-Ty t)) v) ∙ ap (same_level (level.Int v)) (outs-Int w)

at_integer : (a : Ty) (w : ℕ) → same_ty (Ptr a) (Int w) ≡ false
at_integer a w = ap (λ (test : Ty → Bool). test (Int w)) (types.at_ptr (Ty → Bool) (λ part t. same_level part (out-Ty t)) a) ∙ ap (same_level (level.Ptr (same_parts a))) (outs-Int w)

same_names : (x z : Name) → same_parts (Named x) (Named z) ≡ same_name x z
same_names x z = ap (λ (test : Ty → Bool). test (Named z)) (types.at_named (Ty → Bool) (λ part t. same_level part (out-Ty t)) x) ∙ ap (same_level (level.Named x)) (outs-Named z)

named_and_integer : (x : Name) (w : ℕ) → same_parts (Named x) (Int w) ≡ false
named_and_integer x w = ap (λ (test : Ty → Bool). test (Int w)) (types.at_named (Ty → Bool) (λ part t. same_level part (out-Ty t)) x) ∙ ap (same_level (level.Named x)) (outs-Int w)

same_arrays : (m n : ℕ) (a b : Ty) → same_ty (Array m a) (Array n b) ≡ (nat_eq m n && same_parts a b)
same_arrays m n a b = ap (λ (test : Ty → Bool). test (Array n b)) (types.at_array (Ty → Bool) (λ part t. same_level part (out-Ty t)) m a) ∙ ap (same_level (level.Array m (same_parts a))) (outs-Array n b)

-- the type that a pointer is to
abbrev behind_level : Ty-F Ty → Ty
behind_level (level.Ptr t) = t
behind_level other = Void

abbrev behind : Ty → Ty
behind t = behind_level (out-Ty t)

behind_pointer : (t : Ty) → behind (Ptr t) ≡ t
behind_pointer t = ap behind_level (outs-Ptr t)

pointed : (a b : Ty) → Ptr a ≡ Ptr b → a ≡ b
pointed a b e = sym (behind_pointer a) ∙ ap behind e ∙ behind_pointer b

-- ---- addresses

pub indices_lead : IndicesLead
indices_lead = record {
  over = refl;
  array = simp (outs-Array) refl;
  struct = simp (outs-Struct, outs-Array) refl;
  named = simp (outs-Named) refl;
  past_fields = simp (outs-Named) refl;
  wide_field = simp (outs-Named) refl;
  field_by_register = simp (outs-Named) refl;
  opaque = simp (outs-Named) refl;
  behind_pointer = simp (outs-Ptr) refl;
  by_pointer = refl;
}

some_is : (a b : Ty) → Some a ≡ Some b → a ≡ b
some_is a b e = cc

pub elements_are_typed : ElementsAreTyped
elements_are_typed = record {
  field = (refl, simp (layout.at_int, layout.at_array, layout.at_struct, layout.at_named) refl, simp (outs-Named) refl);
  other_result = λ e.
      let results : Some (Ptr (Array 4 (Int 8))) ≡ Some (Ptr (Int 32)) = sym indices_lead.named ∙ e.2 in
      let both : false ≡ true = ap is_integer (pointed (Array 4 (Int 8)) (Int 32) (some_is (Ptr (Array 4 (Int 8))) (Ptr (Int 32)) results)) in
      cc;
  opaque = λ e.
      let none : leads (Named y) (at 64 0 ∷ at 32 1 ∷ []) ≡ None = simp (outs-Named) refl in
      let both : None ≡ Some (Ptr (Int 32)) = sym none ∙ e.2 in
      cc;
  byte = (refl, simp (layout.at_int) refl, refl);
  other_base = λ e.
      let width : true ≡ false = ap (same_ty (Int 32)) (pointed (Int 32) (Int 8) e.0) in
      cc;
  integer = λ e.
      let both : true ≡ false = ap is_integer e.0 in
      cc;
}

pub allocas_are_typed : AllocasAreTyped
allocas_are_typed = record {
  sized = (refl, simp (layout.at_int, layout.at_array, layout.at_struct, layout.at_named) refl, refl);
  opaque = λ a.
      let none : is_sized having.types (Named y) ≡ false = simp (layout.at_int, layout.at_array, layout.at_struct, layout.at_named) refl in
      let size : false ≡ true = sym none ∙ a.1 in
      cc;
  void = λ a.
      let none : is_sized having.types Void ≡ false = simp (layout.at_void) refl in
      let size : false ≡ true = sym none ∙ a.1 in
      cc;
  count = λ a.
      let integer : false ≡ true = a.2 in
      cc;
}

pub accesses_are_typed : AccessesAreTyped
accesses_are_typed = record {
  load = (refl, refl);
  load_pointer = (refl, typing.at_ptr (Named y));
  load_other = λ l.
      let width : false ≡ true = ap (same_ty (Int 8)) (pointed (Int 16) (Int 8) l.0) in
      cc;
  load_struct = λ l. no_values (Named x) (typing.at_named x) l.1;
  store = (refl, refl);
  store_other = λ s.
      let width : false ≡ true = ap (same_ty (Int 8)) (pointed (Int 16) (Int 8) s.0) in
      cc;
  store_struct = λ s. no_values (Named x) (typing.at_named x) s.1;
}

name_z : IsNameInRange z
name_z = (omega arith, (omega arith, tt))

int_depth : (width : ℕ) → depth_of (Int width) ≡ 1
int_depth = types.at_int ℕ depth_at_level

pointer_depth : depth_of (Ptr (Int 8)) ≡ 2
pointer_depth = types.at_ptr ℕ depth_at_level (Int 8) ∙ ap (λ d. d + 1) (int_depth 8)

pointer_range : IsTypeInRange (Ptr (Int 8))
pointer_range = simp (ranges.at_ptr, ranges.at_int) refl

-- so many bytes aren't too many
one_byte : block_of [] (Int 8) 1 ≡ Err TooLarge → ⊥
one_byte large =
    let fits : block_of [] (Int 8) 1 ≡ Ok 1 = simp (layout.at_int) refl in
    cc

pub memory_is_well_formed : MemoryIsWellFormed
memory_is_well_formed = record {
  shape = record {
    types_apart = tt;
    types = tt;
    globals = tt;
    functions = (
      record {
        first = _;
        further = [];
        blocks = refl;
        not_entered = refl;
        name = refl;
        names = (in_none x, (in_one x f refl refl, (in_two x f y refl refl refl refl, (in_three x f y z refl refl refl refl refl refl, tt))));
        types = nameless by_memory (simp (names.at_int, names.at_ptr) refl);
        result = refl;
        registers = (refl, (typing.at_ptr (Int 8), (refl, tt)));
        operands = ((0, omega arith, refl), ((1, omega arith, refl), ((1, omega arith, refl), ((2, omega arith, refl), tt))));
        each = (
          record { phis = tt; lines = ((refl, simp (layout.at_int) refl, tt), ((refl, refl), ((refl, refl), tt))); labels = tt; branches = tt; returns = refl; cases = tt },
          tt,
        );
      },
      tt,
    );
    declarations = tt;
    names = (in_none f, tt);
  };
  defined = (defined by_memory _ [] refl refl (tt, (((0, omega arith, refl), ((1, omega arith, refl), tt)), (((1, omega arith, refl), tt), ((2, omega arith, refl), tt)))), tt);
  range = record {
    types = tt;
    globals = tt;
    functions = (
      record {
        name = name_f;
        names = (name_x, (name_f, (name_y, (name_z, tt))));
        result = refl;
        registers = (refl, (pointer_range, (refl, tt)));
        operands = ((refl, tt), ((pointer_range, tt), ((pointer_range, tt), ((refl, tt), tt))));
        lines = ((refl, tt, tt), (tt, (tt, tt)));
        cases = tt;
      },
      tt,
    );
    declarations = tt;
    order = tt;
  };
  depths = (
    omega (arith, int_depth 8),
    (omega (arith, int_depth 8), (omega (arith, int_depth 8), (omega (arith, int_depth 8), (omega (arith, pointer_depth), (omega (arith, int_depth 8), (omega (arith, pointer_depth), (omega (arith, int_depth 8), tt))))))),
  );
  lines = (omega arith, tt);
  blocks = (one_byte, tt);
}

-- ---- constants

abbrev fitting : Const-F Fitting → Fitting
fitting = fitting_at_level having.types having.globals

is_of_number : (t : Ty) (n : ℕ) → is_of (Number n) t ≡ is_integer t
is_of_number t n = ap (λ (c : Fitting). c.is_of t) (constants.at_number Fitting fitting n)

is_of_undef : (t : Ty) → is_of Undef t ≡ is_first_class t
is_of_undef t = ap (λ (c : Fitting). c.is_of t) (constants.at_undef Fitting fitting)

is_of_null : (t : Ty) → is_of Null t ≡ is_pointer t
is_of_null t = ap (λ (c : Fitting). c.is_of t) (constants.at_null Fitting fitting)

is_of_global : (t : Ty) (x : Name) → is_of (Global x) t ≡ is_due (option_map Ptr (contents_of having.globals x)) t
is_of_global t x = ap (λ (c : Fitting). c.is_of t) (constants.at_global Fitting fitting x)

-- the constants, each with what is asked of it
abbrev fittings : List (Ty × Const) → List (Ty × Fitting)
fittings = constants.folded_parts Fitting fitting

is_of_element : (t : Ty) (inbounds : Bool) (of : Ty) (cs : List (Ty × Const)) → is_of (constant.Element (inbounds, of, cs)) t ≡ (are_typed (fittings cs) && is_address having.types of (fittings cs) t)
is_of_element t inbounds of cs = ap (λ (c : Fitting). c.is_of t) (constants.at_element Fitting fitting inbounds of cs)

is_of_cast : (t to : Ty) (cs : List (Ty × Const)) → is_of (constant.Cast (to, cs)) t ≡ (are_typed (fittings cs) && is_cast to (fittings cs) && same_ty to t)
is_of_cast t to cs = ap (λ (c : Fitting). c.is_of t) (constants.at_cast Fitting fitting to cs)

pub constants_are_typed : ConstantsAreTyped
constants_are_typed = record {
  number = simp (is_of_number) refl;
  number_at_pointer = simp (is_of_number) refl;
  undef = (simp (is_of_undef) refl, simp (is_of_undef, outs-Ptr) refl);
  undef_at_void = simp (is_of_undef, outs-Void) refl;
  null = simp (is_of_null, outs-Ptr) refl;
  null_at_integer = simp (is_of_null, outs-Int) refl;
  global = simp (is_of_global, same_pointers, same_integers) refl;
  global_at_other = simp (is_of_global, same_pointers, same_integers) refl;
  global_at_contents = simp (is_of_global, at_integer) refl;
  no_global = simp (is_of_global) refl;
  address = simp (is_of_element, is_of_global, is_of_number, layout.at_int, same_pointers, same_integers) refl;
  address_at_other = simp (is_of_element, is_of_global, is_of_number, layout.at_int, same_pointers, same_integers) refl;
  address_of_other = simp (is_of_element, is_of_global, is_of_number, layout.at_int, same_pointers, same_integers) refl;
  recast_pointer = simp (is_of_cast, is_of_global, same_pointers, same_integers, same_names, outs-Ptr) refl;
  recast_at_other = simp (is_of_cast, is_of_global, same_pointers, same_integers, named_and_integer, outs-Ptr) refl;
  recast_to_integer = simp (is_of_cast, is_of_global, same_pointers, same_integers, outs-Ptr, outs-Int) refl;
  recast_of_other = simp (is_of_cast, is_of_global, same_pointers, same_integers, outs-Ptr) refl;
}

-- ---- calls

pub arguments_are_typed : ArgumentsAreTyped
arguments_are_typed = record {
  same = simp (same_pointers, same_integers) refl;
  other_type = refl;
  fewer = refl;
  more = refl;
  variadic_same = refl;
  variadic_fewer = refl;
  variadic_more = simp (outs-Ptr) refl;
  variadic_struct = simp (outs-Named) refl;
}

-- the function of that name is this one
called : (s : Signature) → Contains (signatures_of callable) (f, s) → s ≡ record { result = Int 8; params = Int 8 ∷ []; variadic = false }
called s (zero, inside, is) = sym (ap (λ (p : Name × Signature). p.1) is)
called s (suc zero, inside, is) =
    let both : false ≡ true = ap (λ (p : Name × Signature). same_name p.0 f) is in
    absurd cc
called s (suc (suc zero), inside, is) =
    let both : false ≡ true = ap (λ (p : Name × Signature). same_name p.0 f) is in
    absurd cc
called s (suc (suc (suc k)), inside, is) = absurd (omega (arith, inside))

not_called : (s : Signature) → Contains (signatures_of callable) (z, s) → ⊥
not_called s (zero, inside, is) =
    let both : false ≡ true = ap (λ (p : Name × Signature). same_name p.0 z) is in
    cc
not_called s (suc zero, inside, is) =
    let both : false ≡ true = ap (λ (p : Name × Signature). same_name p.0 z) is in
    cc
not_called s (suc (suc zero), inside, is) =
    let both : false ≡ true = ap (λ (p : Name × Signature). same_name p.0 z) is in
    cc
not_called s (suc (suc (suc k)), inside, is) = absurd (omega (arith, inside))

pub calls_are_typed : CallsAreTyped
calls_are_typed = record {
  defined = record { signature = _; callee = (0, omega arith, refl); result = refl; arguments = refl; named = (refl, (z, refl)) };
  void = record { signature = _; callee = (1, omega arith, refl); result = refl; arguments = refl; named = refl };
  variadic = record { signature = _; callee = (2, omega arith, refl); result = refl; arguments = refl; named = (refl, (z, refl)) };
  unknown = λ c. not_called c.signature c.callee;
  other_result = λ c.
      let result : Int 16 ≡ Int 8 = c.result ∙ ap (λ (s : Signature). s.result) (called c.signature c.callee) in
      let width : false ≡ true = ap (same_ty (Int 8)) result in
      cc;
  no_argument = λ c.
      let arguments : false ≡ true = subst (λ (s : Signature). are_arguments s.variadic s.params [] ≡ true) (called c.signature c.callee) c.arguments in
      cc;
  nameless = λ c.
      let named : None ≡ Some c.named.1.0 = c.named.1.1 in
      cc;
  named_void = λ c.
      let named : Some z ≡ None = c.named in
      cc;
}

-- ---- initialisers

starts_const : (t : Ty) (c : Const) → starts t (init.Const c) ≡ is_init_constant having t c
starts_const t c = ap (λ (fits : Ty → Bool). fits t) (inits.at_const (Ty → Bool) (init_at_level having) c)

starts_zero : (t : Ty) → starts t init.Zero ≡ true
starts_zero t = ap (λ (fits : Ty → Bool). fits t) (inits.at_zero (Ty → Bool) (init_at_level having))

starts_bytes : (t : Ty) (bytes : List ℕ) → starts t (init.Bytes bytes) ≡ is_bytes (length bytes) (out-Ty t)
starts_bytes t bytes = ap (λ (fits : Ty → Bool). fits t) (inits.at_bytes (Ty → Bool) (init_at_level having) bytes)

-- the parts, each with the test of what it is of
abbrev tests : List (Ty × Init) → List (Ty × (Ty → Bool))
tests = inits.folded_parts (Ty → Bool) (init_at_level having)

starts_array : (t : Ty) (parts : List (Ty × Init)) → starts t (init.Array parts) ≡ are_parts (parts_of_array having.types (out-Ty t) (length (tests parts))) (tests parts)
starts_array t parts = ap (λ (fits : Ty → Bool). fits t) (inits.at_array (Ty → Bool) (init_at_level having) parts)

starts_struct : (t : Ty) (parts : List (Ty × Init)) → starts t (init.Struct parts) ≡ are_parts (parts_of_struct having.types (out-Ty t)) (tests parts)
starts_struct t parts = ap (λ (fits : Ty → Bool). fits t) (inits.at_struct (Ty → Bool) (init_at_level having) parts)

pub initialisers_are_typed : InitialisersAreTyped
initialisers_are_typed = record {
  array = simp (starts_array, starts_const, outs-Array, is_of_number) refl;
  too_few = simp (starts_array, outs-Array) refl;
  too_many = simp (starts_array, outs-Array) refl;
  other_element = simp (starts_array, outs-Array) refl;
  bytes = simp (starts_bytes, outs-Array) refl;
  too_few_bytes = simp (starts_bytes, outs-Array) refl;
  wide_bytes = simp (starts_bytes, outs-Array) refl;
  struct = simp (starts_struct, starts_const, starts_zero, outs-Named, is_of_number, same_arrays, same_integers) refl;
  missing_field = simp (starts_struct, outs-Named) refl;
  no_struct = simp (starts_struct, outs-Int) refl;
  zero = simp (starts_zero) refl;
  undef = simp (starts_const) refl;
  zero_of_opaque = simp (starts_zero) refl;
  undef_of_opaque = simp (starts_const) refl;
  null_of_struct = simp (starts_const, is_of_null, outs-Named) refl;
}

-- ---- globals

start_of_number : (n : ℕ) → stated_at_start (Some (init.Const (Number n))) ≡ []
start_of_number n = inits.at_const (List Ty) stated_by_init (Number n) ∙ in_number n

fields_nameless : names_in_struct (struct x (Int 32 ∷ Array 4 (Int 8) ∷ [])) ≡ []
fields_nameless = simp (names.at_int, names.at_array) refl

pub globals_are_typed : GlobalsAreTyped
globals_are_typed = record {
  shape = record {
    types_apart = (in_none x, (in_one x y refl refl, tt));
    types = (subst (AllByRecursion (Contains (x ∷ y ∷ []))) (sym fields_nameless) tt, (tt, tt));
    globals = (
      record {
        types = all_known having (types_in_global seven) [] (simp (start_of_number, names.at_int) refl) tt;
        sized = simp (layout.at_int) refl;
        init = simp (starts_const, is_of_number) refl;
      },
      tt,
    );
    functions = tt;
    declarations = tt;
    names = (in_none f, tt);
  };
  elsewhere = record {
    types = all_known having (Ptr (Named y) ∷ []) (y ∷ []) (simp (names.at_ptr, names.at_named) refl) ((1, omega arith, refl), tt);
    sized = simp (layout.at_ptr) refl;
    init = tt;
  };
  unknown_type = λ g.
      let same : names_in_type (Ptr (Named f)) ≡ f ∷ [] = simp (names.at_ptr, names.at_named) refl in
      in_two x y f refl refl refl refl (subst (AllByRecursion (Contains (x ∷ y ∷ []))) same g.types.0).0;
  other_type = λ g.
      let not : starts (Ptr (Int 8)) (init.Const (Number 0)) ≡ false = simp (starts_const, is_of_number) refl in
      let both : false ≡ true = sym not ∙ g.init in
      cc;
  void = λ g.
      let not : is_sized having.types Void ≡ false = simp (layout.at_void) refl in
      let both : false ≡ true = sym not ∙ g.sized in
      cc;
  opaque = λ g.
      let not : is_sized having.types (Named y) ≡ false = simp (layout.at_int, layout.at_array, layout.at_struct, layout.at_named) refl in
      let both : false ≡ true = sym not ∙ g.sized in
      cc;
  one_name = λ shape. shape.names.1.0 (zero, omega arith, refl);
}
