-- The test of constants is true exactly of equal ones.
use Rattle.std.proofs.Common.{◌≡◌, ◌≤◌, ◌∙◌, ℕ, Bool, true, false, ◌&&◌, List, [], ◌∷◌, length, map, take, refl, sym, ap, arith}
use Rattle.std.proofs.lemmas.List.{take_all}
use Rattle.ir_types.specs.declared.names.Name.{Name}
use Rattle.ir_types.specs.declared.ty.Ty.{Ty}
use Rattle.ir_types.specs.NameLaws.{left_true, right_true, all_true, same_nat_true, same_nat_refl, same_name_true, same_name_refl}
use Rattle.ir_types.specs.Same.{same_ty}
use Rattle.ir_types.proofs.SameLaws.{same_ty_true, same_ty_refl}
use Rattle.ir_core.specs.declared.operands.Const.{Const, Number, Undef, Null, Global, Element, Cast, out-Const, roll-Const, roll-out-Const}
use Rattle.ir_core.specs.declared.operands.Const.TheOpen.{Const-F}
use Rattle.ir_core.specs.declared.operands.Const.TheOpen as constant
use Rattle.ir_core.specs.declared.operands.Const.TheViews.{rolls-Number, rolls-Undef, rolls-Null, rolls-Global, rolls-Element, rolls-Cast, outs-Number, outs-Undef, outs-Null, outs-Global, outs-Element, outs-Cast}
use Rattle.ir_core.specs.Same.{same_bool, same_typed, same_const_level, same_const_parts, same_const}
use Rattle.ir_core.proofs.Constants as fold
use Rattle.ir_core.proofs.Constants.{EachOf}

pub same_bool_true : (a b : Bool) → same_bool a b ≡ true → a ≡ b
same_bool_true true true h = refl
same_bool_true true false h = cc
same_bool_true false true h = cc
same_bool_true false false h = refl

pub same_bool_refl : (a : Bool) → same_bool a a ≡ true
same_bool_refl true = refl
same_bool_refl false = refl

-- ---- what the test says at one level

abbrev test : Const-F (Const → Bool) → Const → Bool
test = λ level c. same_const_level level (out-Const c)

abbrev OnlyEqual : Const → Type 0
OnlyEqual a = (b : Const) → same_const_parts a b ≡ true → a ≡ b

abbrev tests : List (Ty × Const) → List (Ty × (Const → Bool))
tests = map (λ c. (c.0, same_const_parts c.1))

number_level : (m : ℕ) (c : Const-F Const) → same_const_level (constant.Number m) c ≡ true → Number m ≡ roll-Const c
number_level m (constant.Number n) h = ap Number (same_nat_true m n h) ∙ sym (rolls-Number n)
number_level m c h = cc

undef_level : (c : Const-F Const) → same_const_level constant.Undef c ≡ true → Undef ≡ roll-Const c
undef_level constant.Undef h = sym rolls-Undef
undef_level c h = cc

null_level : (c : Const-F Const) → same_const_level constant.Null c ≡ true → Null ≡ roll-Const c
null_level constant.Null h = sym rolls-Null
null_level c h = cc

global_level : (x : Name) (c : Const-F Const) → same_const_level (constant.Global x) c ≡ true → Global x ≡ roll-Const c
global_level x (constant.Global y) h = ap Global (same_name_true x y h) ∙ sym (rolls-Global y)
global_level x c h = cc

typed_true : (xs : List (Ty × Const)) → EachOf OnlyEqual xs → (ys : List (Ty × Const)) → same_typed (tests xs) ys ≡ true → xs ≡ ys
typed_true [] all [] h = refl
typed_true [] all (b ∷ ys) h = cc
typed_true (a ∷ xs) all [] h = cc
typed_true (a ∷ xs) all (b ∷ ys) h =
    let t = same_ty a.0 b.0 in
    let c = same_const_parts a.1 b.1 in
    let r = same_typed (tests xs) ys in
    let h1 : (t && c) ≡ true = left_true (t && c) r h in
    let types : a.0 ≡ b.0 = same_ty_true a.0 b.0 (left_true t c h1) in
    let constants : a.1 ≡ b.1 = all.0 b.1 (right_true t c h1) in
    let more : xs ≡ ys = typed_true xs all.1 ys (right_true (t && c) r h) in
    λ i. (types i, constants i) ∷ more i

element_level : (i : Bool) (t : Ty) (xs : List (Ty × Const)) → EachOf OnlyEqual xs → (c : Const-F Const) → same_const_level (constant.Element (i, t, tests xs)) c ≡ true
    → Element (i, t, xs) ≡ roll-Const c
element_level i t xs law (constant.Element b) h =
    let p = same_bool i b.0 in
    let q = same_ty t b.1 in
    let r = same_typed (tests xs) b.2 in
    let h1 : (p && q) ≡ true = left_true (p && q) r h in
    let bounds : i ≡ b.0 = same_bool_true i b.0 (left_true p q h1) in
    let types : t ≡ b.1 = same_ty_true t b.1 (right_true p q h1) in
    let all : xs ≡ b.2 = typed_true xs law b.2 (right_true (p && q) r h) in
    let whole : (i, t, xs) ≡ b = λ k. (bounds k, types k, all k) in
    ap Element whole ∙ sym (rolls-Element b)
element_level i t xs law c h = cc

cast_level : (t : Ty) (xs : List (Ty × Const)) → EachOf OnlyEqual xs → (c : Const-F Const) → same_const_level (constant.Cast (t, tests xs)) c ≡ true → Cast (t, xs) ≡ roll-Const c
cast_level t xs law (constant.Cast b) h =
    let q = same_ty t b.0 in
    let r = same_typed (tests xs) b.1 in
    let types : t ≡ b.0 = same_ty_true t b.0 (left_true q r h) in
    let all : xs ≡ b.1 = typed_true xs law b.1 (right_true q r h) in
    let whole : (t, xs) ≡ b = λ k. (types k, all k) in
    ap Cast whole ∙ sym (rolls-Cast b)
cast_level t xs law c h = cc

-- what the test says of a constant of this level, and what it is then
from_level : (a : Const) (level : Const-F (Const → Bool)) → same_const_parts a ≡ test level → ((c : Const-F Const) → same_const_level level c ≡ true → a ≡ roll-Const c) → OnlyEqual a
from_level a level e law b h = law (out-Const b) (sym (ap (λ (f : Const → Bool). f b) e) ∙ h) ∙ roll-out-Const b

pub same_const_parts_true : (a b : Const) → same_const_parts a b ≡ true → a ≡ b
same_const_parts_true = fold.by_parts OnlyEqual
    (λ n. from_level (Number n) (constant.Number n) (fold.at_number (Const → Bool) test n) (number_level n))
    (from_level Undef constant.Undef (fold.at_undef (Const → Bool) test) undef_level)
    (from_level Null constant.Null (fold.at_null (Const → Bool) test) null_level)
    (λ x. from_level (Global x) (constant.Global x) (fold.at_global (Const → Bool) test x) (global_level x))
    (λ i t xs law. from_level (Element (i, t, xs)) (constant.Element (i, t, tests xs)) (fold.at_element (Const → Bool) test i t xs) (element_level i t xs law))
    (λ t xs law. from_level (Cast (t, xs)) (constant.Cast (t, tests xs)) (fold.at_cast (Const → Bool) test t xs) (cast_level t xs law))

-- ---- each constant is the same as itself

abbrev IsSame : Const → Type 0
IsSame a = same_const_parts a a ≡ true

to_level : (a : Const) (level : Const-F (Const → Bool)) (own : Const-F Const) → same_const_parts a ≡ test level → out-Const a ≡ own → same_const_level level own ≡ true → IsSame a
to_level a level own e out h = ap (λ (f : Const → Bool). f a) e ∙ ap (same_const_level level) out ∙ h

typed_refl : (xs : List (Ty × Const)) → EachOf IsSame xs → same_typed (tests xs) xs ≡ true
typed_refl [] all = refl
typed_refl (a ∷ xs) all = all_true (all_true (same_ty_refl a.0) all.0) (typed_refl xs all.1)

pub same_const_parts_refl : (a : Const) → same_const_parts a a ≡ true
same_const_parts_refl = fold.by_parts IsSame
    (λ n. to_level (Number n) (constant.Number n) (constant.Number n) (fold.at_number (Const → Bool) test n) (outs-Number n) (same_nat_refl n))
    (to_level Undef constant.Undef constant.Undef (fold.at_undef (Const → Bool) test) outs-Undef refl)
    (to_level Null constant.Null constant.Null (fold.at_null (Const → Bool) test) outs-Null refl)
    (λ x. to_level (Global x) (constant.Global x) (constant.Global x) (fold.at_global (Const → Bool) test x) (outs-Global x) (same_name_refl x))
    (λ i t xs law. to_level (Element (i, t, xs)) (constant.Element (i, t, tests xs)) (constant.Element (i, t, xs)) (fold.at_element (Const → Bool) test i t xs) (outs-Element (i, t, xs))
    (all_true (all_true (same_bool_refl i) (same_ty_refl t)) (typed_refl xs law)))
    (λ t xs law. to_level (Cast (t, xs)) (constant.Cast (t, tests xs)) (constant.Cast (t, xs)) (fold.at_cast (Const → Bool) test t xs) (outs-Cast (t, xs))
    (all_true (same_ty_refl t) (typed_refl xs law)))

-- ---- constants without parts are compared at once

pub same_const_true : (a b : Const) → same_const a b ≡ true → a ≡ b
same_const_true (Number m) (Number n) h = ap Number (same_nat_true m n h)
same_const_true (Number m) b h = cc
same_const_true Undef Undef h = refl
same_const_true Undef b h = cc
same_const_true Null Null h = refl
same_const_true Null b h = cc
same_const_true (Global x) (Global y) h = ap Global (same_name_true x y h)
same_const_true (Global x) b h = cc
same_const_true a b h = same_const_parts_true a b h

pub same_const_refl : (a : Const) → same_const a a ≡ true
same_const_refl (Number n) = same_nat_refl n
same_const_refl Undef = refl
same_const_refl Null = refl
same_const_refl (Global x) = same_name_refl x
same_const_refl a = same_const_parts_refl a

-- ---- constants of which the first so many are the same, and which have no more

pub all_same : {A : Type 0} (xs ys : List A) (n : ℕ) → length xs ≡ length ys → length xs ≤ n → take n xs ≡ take n ys → xs ≡ ys
all_same xs ys n long whole same = sym (take_all n xs whole) ∙ same ∙ take_all n ys (omega (arith, long, whole))

pub elements_same : (a b : Bool × Ty × List (Ty × Const)) (n : ℕ) → a.0 ≡ b.0 → a.1 ≡ b.1 → length a.2 ≡ length b.2 → length a.2 ≤ n → take n a.2 ≡ take n b.2
    → Element a ≡ Element b
elements_same a b n bounds types long whole same =
    let all = all_same a.2 b.2 n long whole same in
    λ k. Element (bounds k, types k, all k)

pub casts_same : (a b : Ty × List (Ty × Const)) (n : ℕ) → a.0 ≡ b.0 → length a.1 ≡ length b.1 → length a.1 ≤ n → take n a.1 ≡ take n b.1 → Cast a ≡ Cast b
casts_same a b n types long whole same =
    let all = all_same a.1 b.1 n long whole same in
    λ k. Cast (types k, all k)
