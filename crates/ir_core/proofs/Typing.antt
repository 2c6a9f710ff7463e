-- At each kind of type and of constant: whether it is a type of values, of which types it is, and which types stand in it.
use Rattle.std.proofs.Common.{◌≡◌, ℕ, true, false, List, [], ◌∷◌, ◌++◌, ap, sym, subst}
use Rattle.std.specs.List.{AllByRecursion, Contains, flat_map}
use Rattle.ir_types.specs.declared.names.Name.{Name}
use Rattle.ir_types.specs.declared.ty.Ty.{Ty, Ptr, Array, Struct, Named, Void}
use Rattle.ir_types.specs.declared.ty.Ty.TheViews.{outs-Ptr, outs-Array, outs-Struct, outs-Named, outs-Void}
use Rattle.ir_core.specs.declared.functions.Function.{Function}
use Rattle.ir_core.specs.declared.modules.Module.{Module}
use Rattle.ir_core.specs.declared.operands.Const.{Number}
use Rattle.ir_core.specs.Examples.{alone}
use Rattle.ir_core.specs.StatedTypes.{stated_at_level, stated_in, types_in}
use Rattle.ir_core.specs.TypeNames.{names_in_type, type_names}
use Rattle.ir_core.specs.Typing.{Fitting, fitting_at_level, is_constant_of}
use Rattle.ir_core.specs.Types.{is_first_class, is_integer, is_pointer_at_level}
use Rattle.ir_core.specs.WellFormed.{IsTypeKnown}
use Rattle.ir_core.proofs.Constants as fold

-- ---- types of values

pub at_ptr : (t : Ty) → is_first_class (Ptr t) ≡ true
at_ptr t = ap is_pointer_at_level (outs-Ptr t)

pub at_array : (n : ℕ) (t : Ty) → is_first_class (Array n t) ≡ false
at_array n t = ap is_pointer_at_level (outs-Array n t)

pub at_struct : (ts : List Ty) → is_first_class (Struct ts) ≡ false
at_struct ts = ap is_pointer_at_level (outs-Struct ts)

pub at_named : (x : Name) → is_first_class (Named x) ≡ false
at_named x = ap is_pointer_at_level (outs-Named x)

pub at_void : is_first_class Void ≡ false
at_void = ap is_pointer_at_level outs-Void

pub no_values : (t : Ty) → is_first_class t ≡ false → is_first_class t ≡ true → ⊥
no_values t not is = cc

-- ---- numbers

-- a number is of the integer types
pub number_is : (m : Module) (t : Ty) (n : ℕ) → is_constant_of m t (Number n) ≡ is_integer t
number_is m t n = ap (λ (c : Fitting). c.is_of t) (fold.at_number Fitting (fitting_at_level m.types m.globals) n)

pub is_no_number : (m : Module) (t : Ty) (n : ℕ) → is_integer t ≡ false → is_constant_of m t (Number n) ≡ true → ⊥
is_no_number m t n not is =
    let same : is_constant_of m t (Number n) ≡ is_integer t = number_is m t n in
    cc

-- no type stands in it
pub in_number : (n : ℕ) → stated_in (Number n) ≡ []
in_number = fold.at_number (List Ty) stated_at_level

-- ---- the types that a module states

all_of_left : {A : Type 0} (P : A → Type 0) (xs ys : List A) → AllByRecursion P (xs ++ ys) → AllByRecursion P xs
all_of_left P [] ys all = tt
all_of_left P (x ∷ xs) ys all = (all.0, all_of_left P xs ys all.1)

all_of_right : {A : Type 0} (P : A → Type 0) (xs ys : List A) → AllByRecursion P (xs ++ ys) → AllByRecursion P ys
all_of_right P [] ys all = all
all_of_right P (x ∷ xs) ys all = all_of_right P xs ys all.1

each_known : (m : Module) (ts : List Ty) → AllByRecursion (Contains (type_names m)) (flat_map names_in_type ts) → AllByRecursion (IsTypeKnown m) ts
each_known m [] all = tt
each_known m (t ∷ ts) all = (
  all_of_left (Contains (type_names m)) (names_in_type t) (flat_map names_in_type ts) all,
  each_known m ts (all_of_right (Contains (type_names m)) (names_in_type t) (flat_map names_in_type ts) all),
)

-- these names stand in them, and each is a type of the module
pub all_known : (m : Module) (ts : List Ty) (found : List Name) → flat_map names_in_type ts ≡ found → AllByRecursion (Contains (type_names m)) found → AllByRecursion (IsTypeKnown m) ts
all_known m ts found same all = each_known m ts (subst (AllByRecursion (Contains (type_names m))) (sym same) all)

-- no name stands in the types of the function
pub nameless : (g : Function) → flat_map names_in_type (types_in g) ≡ [] → AllByRecursion (IsTypeKnown (alone g)) (types_in g)
nameless g none = all_known (alone g) (types_in g) [] none tt
