-- The tests of specs/Same are true exactly of equal things: two laws for each.
use Rattle.std.proofs.Common.{◌≡◌, ◌∙◌, ℕ, Bool, true, List, [], ◌∷◌, map, refl, sym, ap, subst}
use Rattle.std.specs.List.{AllByRecursion}
use Rattle.std.specs.Prelude.{nat_eq}
use Rattle.ir_types.specs.declared.names.Name.{Name}
use Rattle.ir_types.specs.declared.ty.Ty.{Ty, Int, Ptr, Array, Struct, Named, Void, out-Ty, roll-Ty, roll-out-Ty}
use Rattle.ir_types.specs.declared.ty.Ty.TheOpen.{Ty-F}
use Rattle.ir_types.specs.declared.ty.Ty.TheOpen as ty
use Rattle.ir_types.specs.declared.ty.Ty.TheViews.{rolls-Int, rolls-Ptr, rolls-Array, rolls-Struct, rolls-Named, rolls-Void, outs-Int, outs-Ptr, outs-Array, outs-Struct, outs-Named, outs-Void}
pub use Rattle.ir_types.specs.NameLaws.{left_true, right_true, all_true, same_list_true, same_list_refl, same_nat_true, same_nat_refl, same_name_true, same_name_refl}
use Rattle.ir_types.specs.Same.{same_fields, same_level, same_parts, same_ty, IsEquality}
use Rattle.ir_types.proofs.Induction as fold

pub equality : {A : Type 0} (same : A → A → Bool) → ((a b : A) → same a b ≡ true → a ≡ b) → ((a : A) → same a a ≡ true) → IsEquality same
equality same true_of refl_of a b = (true_of a b, λ e. subst (λ c. same a c ≡ true) e (refl_of a))

-- ---- what the test says at one level

abbrev test : Ty-F (Ty → Bool) → Ty → Bool
test = λ level t. same_level level (out-Ty t)

abbrev OnlyEqual : Ty → Type 0
OnlyEqual a = (b : Ty) → same_parts a b ≡ true → a ≡ b

int_level : (v : ℕ) (c : Ty-F Ty) → same_level (ty.Int v) c ≡ true → Int v ≡ roll-Ty c
int_level v (ty.Int w) h = ap Int (same_nat_true v w h) ∙ sym (rolls-Int w)
int_level v (ty.Ptr t) h = cc
int_level v (ty.Array n t) h = cc
int_level v (ty.Struct ts) h = cc
int_level v (ty.Named x) h = cc
int_level v ty.Void h = cc

ptr_level : (a : Ty) → OnlyEqual a → (c : Ty-F Ty) → same_level (ty.Ptr (same_parts a)) c ≡ true → Ptr a ≡ roll-Ty c
ptr_level a law (ty.Ptr t) h = ap Ptr (law t h) ∙ sym (rolls-Ptr t)
ptr_level a law (ty.Int w) h = cc
ptr_level a law (ty.Array n t) h = cc
ptr_level a law (ty.Struct ts) h = cc
ptr_level a law (ty.Named x) h = cc
ptr_level a law ty.Void h = cc

array_level : (m : ℕ) (a : Ty) → OnlyEqual a → (c : Ty-F Ty) → same_level (ty.Array m (same_parts a)) c ≡ true → Array m a ≡ roll-Ty c
array_level m a law (ty.Array n t) h =
    let counts : m ≡ n = same_nat_true m n (left_true (nat_eq m n) (same_parts a t) h) in
    let elements : a ≡ t = law t (right_true (nat_eq m n) (same_parts a t) h) in
    ap (λ k. Array k a) counts ∙ ap (Array n) elements ∙ sym (rolls-Array n t)
array_level m a law (ty.Int w) h = cc
array_level m a law (ty.Ptr t) h = cc
array_level m a law (ty.Struct ts) h = cc
array_level m a law (ty.Named x) h = cc
array_level m a law ty.Void h = cc

fields_true : (xs : List Ty) → AllByRecursion OnlyEqual xs → (ys : List Ty) → same_fields (map same_parts xs) ys ≡ true → xs ≡ ys
fields_true [] all [] h = refl
fields_true [] all (b ∷ ys) h = cc
fields_true (a ∷ xs) all [] h = cc
fields_true (a ∷ xs) all (b ∷ ys) h =
    cc (all.0 b (left_true (same_parts a b) (same_fields (map same_parts xs) ys) h), fields_true xs all.1 ys (right_true (same_parts a b) (same_fields (map same_parts xs) ys) h))

struct_level : (xs : List Ty) → AllByRecursion OnlyEqual xs → (c : Ty-F Ty) → same_level (ty.Struct (map same_parts xs)) c ≡ true → Struct xs ≡ roll-Ty c
struct_level xs law (ty.Struct ys) h = ap Struct (fields_true xs law ys h) ∙ sym (rolls-Struct ys)
struct_level xs law (ty.Int w) h = cc
struct_level xs law (ty.Ptr t) h = cc
struct_level xs law (ty.Array n t) h = cc
struct_level xs law (ty.Named x) h = cc
struct_level xs law ty.Void h = cc

named_level : (x : Name) (c : Ty-F Ty) → same_level (ty.Named x) c ≡ true → Named x ≡ roll-Ty c
named_level x (ty.Named y) h = ap Named (same_name_true x y h) ∙ sym (rolls-Named y)
named_level x (ty.Int w) h = cc
named_level x (ty.Ptr t) h = cc
named_level x (ty.Array n t) h = cc
named_level x (ty.Struct ts) h = cc
named_level x ty.Void h = cc

void_level : (c : Ty-F Ty) → same_level ty.Void c ≡ true → Void ≡ roll-Ty c
void_level ty.Void h = sym rolls-Void
void_level (ty.Int w) h = cc
void_level (ty.Ptr t) h = cc
void_level (ty.Array n t) h = cc
void_level (ty.Struct ts) h = cc
void_level (ty.Named x) h = cc

-- what the test says of a type of this level, and what it is then
from_level : (a : Ty) (level : Ty-F (Ty → Bool)) → same_parts a ≡ test level → ((c : Ty-F Ty) → same_level level c ≡ true → a ≡ roll-Ty c) → OnlyEqual a
from_level a level e law b h = law (out-Ty b) (sym (ap (λ (f : Ty → Bool). f b) e) ∙ h) ∙ roll-out-Ty b

pub same_parts_true : (a b : Ty) → same_parts a b ≡ true → a ≡ b
same_parts_true = fold.by_parts OnlyEqual
    (λ v. from_level (Int v) (ty.Int v) (fold.at_int (Ty → Bool) test v) (int_level v))
    (λ a law. from_level (Ptr a) (ty.Ptr (same_parts a)) (fold.at_ptr (Ty → Bool) test a) (ptr_level a law))
    (λ m a law. from_level (Array m a) (ty.Array m (same_parts a)) (fold.at_array (Ty → Bool) test m a) (array_level m a law))
    (λ xs law. from_level (Struct xs) (ty.Struct (map same_parts xs)) (fold.at_struct (Ty → Bool) test xs) (struct_level xs law))
    (λ x. from_level (Named x) (ty.Named x) (fold.at_named (Ty → Bool) test x) (named_level x))
    (from_level Void ty.Void (fold.at_void (Ty → Bool) test) void_level)

-- ---- each type is the same xs itself

abbrev IsSame : Ty → Type 0
IsSame a = same_parts a a ≡ true

to_level : (a : Ty) (level : Ty-F (Ty → Bool)) (own : Ty-F Ty) → same_parts a ≡ test level → out-Ty a ≡ own → same_level level own ≡ true → IsSame a
to_level a level own e out h = ap (λ (f : Ty → Bool). f a) e ∙ ap (same_level level) out ∙ h

fields_refl : (xs : List Ty) → AllByRecursion IsSame xs → same_fields (map same_parts xs) xs ≡ true
fields_refl [] all = refl
fields_refl (a ∷ xs) all = all_true all.0 (fields_refl xs all.1)

pub same_parts_refl : (a : Ty) → same_parts a a ≡ true
same_parts_refl = fold.by_parts IsSame
    (λ v. to_level (Int v) (ty.Int v) (ty.Int v) (fold.at_int (Ty → Bool) test v) (outs-Int v) (same_nat_refl v))
    (λ a law. to_level (Ptr a) (ty.Ptr (same_parts a)) (ty.Ptr a) (fold.at_ptr (Ty → Bool) test a) (outs-Ptr a) law)
    (λ m a law. to_level (Array m a) (ty.Array m (same_parts a)) (ty.Array m a) (fold.at_array (Ty → Bool) test m a) (outs-Array m a) (all_true (same_nat_refl m) law))
    (λ xs law. to_level (Struct xs) (ty.Struct (map same_parts xs)) (ty.Struct xs) (fold.at_struct (Ty → Bool) test xs) (outs-Struct xs) (fields_refl xs law))
    (λ x. to_level (Named x) (ty.Named x) (ty.Named x) (fold.at_named (Ty → Bool) test x) (outs-Named x) (same_name_refl x))
    (to_level Void ty.Void ty.Void (fold.at_void (Ty → Bool) test) outs-Void refl)

-- ---- types without parts are compared at once

pub same_ty_true : (a b : Ty) → same_ty a b ≡ true → a ≡ b
same_ty_true (Int v) (Int w) h = ap Int (same_nat_true v w h)
same_ty_true (Int v) b h = cc
same_ty_true (Named x) (Named y) h = ap Named (same_name_true x y h)
same_ty_true (Named x) b h = cc
same_ty_true Void Void h = refl
same_ty_true Void b h = cc
same_ty_true a b h = same_parts_true a b h

pub same_ty_refl : (a : Ty) → same_ty a a ≡ true
same_ty_refl (Int v) = same_nat_refl v
same_ty_refl (Named x) = same_name_refl x
same_ty_refl Void = refl
same_ty_refl a = same_parts_refl a
