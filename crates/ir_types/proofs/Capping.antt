-- What is kept of sizes is kept of what is made of them.
use Rattle.std.proofs.Common.{◌≡◌, ◌∙◌, ◌<◌, ◌≤◌, ◌+◌, ◌-◌, ◌*◌, ◌/◌, ◌⊎◌, ℕ, zero, suc, List, [], ◌∷◌, map, length, drop, get_or, max, Option, None, Some, refl, sym, ap, inl, inr, arith}
use Rattle.std.proofs.Math.Nat.{min-eq_left, min-eq_right, mul_comm, mul-zero, zero-mul, le-mul_of_pos_right, add-zero, zero-add}
use Rattle.std.proofs.lemmas.Bool.{cases_lt}
use Rattle.std.proofs.lemmas.List.{drop_more}
use Rattle.std.specs.List.{AllByRecursion}
use Rattle.std.specs.Option.{option_map}
use Rattle.ir_types.specs.declared.layout.Layout.{Layout}
use Rattle.ir_types.specs.declared.names.Name.{Name}
use Rattle.ir_types.specs.declared.ty.Ty.{Ty, Int, Ptr, Array, Struct, Named, Void}
use Rattle.ir_types.specs.Layout.{round_up, of_int, of_ptr, of_array, end_of, align_from, struct_from, of_struct, all_of, layout_by}
use Rattle.ir_types.specs.Kept.{capped_size, capped, capped_level, capped_by}
use Rattle.ir_types.proofs.Induction as fold
use Rattle.ir_types.proofs.Monotone.{at_int, at_ptr, at_array, at_struct, at_named, at_void}

small_or_large : (n : ℕ) → (n ≤ 2147483649) ⊎ (2147483649 ≤ n)
small_or_large n = elim (cases_lt 2147483649 n) [ inl less ↦ inr (omega arith) | inr not_less ↦ inl (omega arith) ]

pub as_it_is : (n : ℕ) → n ≤ 2147483649 → capped_size n ≡ n
as_it_is n h = min-eq_left h

most : (n : ℕ) → 2147483649 ≤ n → capped_size n ≡ 2147483649
most n h = min-eq_right h

both_most : (m n : ℕ) → 2147483649 ≤ m → 2147483649 ≤ n → capped_size m ≡ capped_size n
both_most m n p q = most m p ∙ sym (most n q)

pub at_most : (n a : ℕ) → 0 < a → n ≤ round_up n a
at_most n a h = let turned : (n + (a - 1)) / a * a ≡ a * ((n + (a - 1)) / a) = mul_comm ((n + (a - 1)) / a) a in omega arith

-- ---- sums and products

pub cap_rounded : (n a s : ℕ) → capped_size (round_up (capped_size n) a + s) ≡ capped_size (round_up n a + s)
cap_rounded n zero s = simp mul-zero refl
cap_rounded n (suc a) s = elim (small_or_large n) [
  | inl small ↦ ap (λ k. capped_size (round_up k (suc a) + s)) (as_it_is n small)
  | inr large ↦ both_most (round_up (capped_size n) (suc a) + s) (round_up n (suc a) + s)
      (let e = most n large in omega (arith, at_most (capped_size n) (suc a) (omega arith)))
      (omega (arith, at_most n (suc a) (omega arith)))
]

pub cap_sum : (n s : ℕ) → capped_size (n + capped_size s) ≡ capped_size (n + s)
cap_sum n s = elim (small_or_large s) [
  | inl small ↦ ap (λ k. capped_size (n + k)) (as_it_is s small)
  | inr large ↦ both_most (n + capped_size s) (n + s) (let e = most s large in omega arith) (omega arith)
]

pub cap_twice : (n : ℕ) → capped_size (capped_size n) ≡ capped_size n
cap_twice n = simp zero-add at (cap_sum 0 n)

le_times : (n s : ℕ) → s ≤ suc n * s
le_times n s = let more : s ≤ s * suc n = le-mul_of_pos_right s (omega arith) in rw (mul_comm (suc n) s) more

cap_times : (n s : ℕ) → capped_size (n * capped_size s) ≡ capped_size (n * s)
cap_times zero s = simp zero-mul refl
cap_times (suc n) s = elim (small_or_large s) [
  | inl small ↦ ap (λ k. capped_size (suc n * k)) (as_it_is s small)
  | inr large ↦ (let e : capped_size s ≡ 2147483649 = most s large in
      both_most (suc n * capped_size s) (suc n * s)
      (omega (arith, le_times n (capped_size s)))
      (omega (arith, le_times n s)))
]

-- ---- structs

-- where fields end, from a place that is kept
pub cap_end : (from : ℕ) (ls : List Layout) → capped_size (end_of (capped_size from) ls) ≡ capped_size (end_of from ls)
cap_end from [] = cap_twice from
cap_end from (l ∷ ls) =
    sym (cap_end (round_up (capped_size from) l.align + l.size) ls)
    ∙ ap (λ k. capped_size (end_of k ls)) (cap_rounded from l.align l.size)
    ∙ cap_end (round_up from l.align + l.size) ls

cap_plain : (m n : ℕ) → capped_size (m + 0) ≡ capped_size (n + 0) → capped_size m ≡ capped_size n
cap_plain m n e = simp add-zero at e

pub cap_rounded_up : (n a : ℕ) → capped_size (round_up (capped_size n) a) ≡ capped_size (round_up n a)
cap_rounded_up n a = let p = cap_rounded n a 0 in cap_plain (round_up (capped_size n) a) (round_up n a) p

pub cap_from : (from least : ℕ) (ls : List Layout) → capped (struct_from (capped_size from) least ls) ≡ capped (struct_from from least ls)
cap_from from least ls = ap (λ n. record { size = n; align = align_from least ls })
    (sym (cap_rounded_up (end_of (capped_size from) ls) (align_from least ls))
    ∙ ap (λ k. capped_size (round_up k (align_from least ls))) (cap_end from ls)
    ∙ cap_rounded_up (end_of from ls) (align_from least ls))

cap_parts_end : (from : ℕ) (ls : List Layout) → capped_size (end_of from (map capped ls)) ≡ capped_size (end_of from ls)
cap_parts_end from [] = refl
cap_parts_end from (l ∷ ls) =
    cap_parts_end (round_up from l.align + capped_size l.size) ls
    ∙ sym (cap_end (round_up from l.align + capped_size l.size) ls)
    ∙ ap (λ k. capped_size (end_of k ls)) (cap_sum (round_up from l.align) l.size)
    ∙ cap_end (round_up from l.align + l.size) ls

parts_align : (least : ℕ) (ls : List Layout) → align_from least (map capped ls) ≡ align_from least ls
parts_align least [] = refl
parts_align least (l ∷ ls) = parts_align (max least l.align) ls

cap_parts : (ls : List Layout) → capped (of_struct (map capped ls)) ≡ capped (of_struct ls)
cap_parts ls =
    let aligns = parts_align 1 ls in
    let sizes : capped_size (round_up (end_of 0 (map capped ls)) (align_from 1 ls)) ≡ capped_size (round_up (end_of 0 ls) (align_from 1 ls)) =
    sym (cap_rounded_up (end_of 0 (map capped ls)) (align_from 1 ls))
    ∙ ap (λ k. capped_size (round_up k (align_from 1 ls))) (cap_parts_end 0 ls)
    ∙ cap_rounded_up (end_of 0 ls) (align_from 1 ls) in
    ap (λ a. record { size = capped_size (round_up (end_of 0 (map capped ls)) a); align = a }) aligns
    ∙ ap (λ n. record { size = n; align = align_from 1 ls }) sizes

-- ---- types

-- a fold of what is kept, at each kind of type
module _ (f : Name → Option Layout) where
  pub kept_int : (width : ℕ) → capped_by f (Int width) ≡ Some (capped (of_int width))
  kept_int = fold.at_int (Option Layout) (capped_level f)

  pub kept_ptr : (t : Ty) → capped_by f (Ptr t) ≡ Some (capped of_ptr)
  kept_ptr = fold.at_ptr (Option Layout) (capped_level f)

  pub kept_array : (n : ℕ) (t : Ty) → capped_by f (Array n t) ≡ option_map capped (option_map (of_array n) (capped_by f t))
  kept_array = fold.at_array (Option Layout) (capped_level f)

  pub kept_struct : (ts : List Ty) → capped_by f (Struct ts) ≡ option_map capped (option_map of_struct (all_of (map (capped_by f) ts)))
  kept_struct = fold.at_struct (Option Layout) (capped_level f)

  pub kept_named : (x : Name) → capped_by f (Named x) ≡ f x
  kept_named = fold.at_named (Option Layout) (capped_level f)

  pub kept_void : capped_by f Void ≡ None
  kept_void = fold.at_void (Option Layout) (capped_level f)

of_elements : (n : ℕ) (o : Option Layout) → option_map capped (option_map (of_array n) (option_map capped o)) ≡ option_map capped (option_map (of_array n) o)
of_elements n None = refl
of_elements n (Some l) = ap (λ k. Some (record { size = k; align = l.align })) (cap_times n l.size)

of_fields : (o : Option (List Layout)) → option_map capped (option_map of_struct (option_map (map capped) o)) ≡ option_map capped (option_map of_struct o)
of_fields None = refl
of_fields (Some ls) = ap Some (cap_parts ls)

turned : (l : Layout) (o : Option (List Layout)) → option_map (λ more. capped l ∷ more) (option_map (map capped) o) ≡ option_map (map capped) (option_map (λ more. l ∷ more) o)
turned l None = refl
turned l (Some ls) = refl

each_kept : (o : Option Layout) (os : List (Option Layout)) → (x : Option Layout) → x ≡ option_map capped o → (xs : List (Option Layout)) →
    all_of xs ≡ option_map (map capped) (all_of os) → all_of (x ∷ xs) ≡ option_map (map capped) (all_of (o ∷ os))
each_kept None os x e xs rest = ap (λ y. all_of (y ∷ xs)) e
each_kept (Some l) os x e xs rest = ap (λ y. all_of (y ∷ xs)) e ∙ ap (option_map (λ more. capped l ∷ more)) rest ∙ turned l (all_of os)

module _ (f g : Name → Option Layout) (names : (x : Name) → f x ≡ option_map capped (g x)) where
  abbrev IsKept : Ty → Type 0
  IsKept t = capped_by f t ≡ option_map capped (layout_by g t)

  fields_kept : (ts : List Ty) → AllByRecursion IsKept ts → all_of (map (capped_by f) ts) ≡ option_map (map capped) (all_of (map (layout_by g) ts))
  fields_kept [] all = refl
  fields_kept (t ∷ ts) all = each_kept (layout_by g t) (map (layout_by g) ts) (capped_by f t) all.0 (map (capped_by f) ts) (fields_kept ts all.1)

  -- what is kept of a type is its layout's, where so it is of names
  pub is_kept : (t : Ty) → capped_by f t ≡ option_map capped (layout_by g t)
  is_kept = fold.by_parts IsKept
      (λ w. kept_int f w ∙ sym (ap (option_map capped) (at_int g w)))
      (λ t law. kept_ptr f t ∙ sym (ap (option_map capped) (at_ptr g t)))
      (λ n t law. kept_array f n t ∙ ap (λ o. option_map capped (option_map (of_array n) o)) law ∙ of_elements n (layout_by g t)
      ∙ sym (ap (option_map capped) (at_array g n t)))
      (λ ts law. kept_struct f ts ∙ ap (λ o. option_map capped (option_map of_struct o)) (fields_kept ts law)
      ∙ of_fields (all_of (map (layout_by g) ts)) ∙ sym (ap (option_map capped) (at_struct g ts)))
      (λ x. kept_named f x ∙ names x ∙ sym (ap (option_map capped) (at_named g x)))
      (kept_void f ∙ sym (ap (option_map capped) (at_void g)))

  all_parts : (ts : List Ty) → AllByRecursion IsKept ts
  all_parts [] = tt
  all_parts (t ∷ ts) = (is_kept t, all_parts ts)

  pub all_fields_kept : (ts : List Ty) → all_of (map (capped_by f) ts) ≡ option_map (map capped) (all_of (map (layout_by g) ts))
  all_fields_kept ts = fields_kept ts (all_parts ts)

-- ---- fields one by one

joined_to : (from least : ℕ) (l : Layout) (o : Option (List Layout)) →
    option_map (λ ls. capped (struct_from (capped_size (round_up from l.align + l.size)) (max least l.align) ls)) o
    ≡ option_map (λ ls. capped (struct_from from least ls)) (option_map (λ ls. l ∷ ls) o)
joined_to from least l None = refl
joined_to from least l (Some ls) = ap Some (cap_from (round_up from l.align + l.size) (max least l.align) ls)

pub field_kept : (f : Name → Option Layout) (ts : List Ty) (i : ℕ) (t : Ty) (l : Layout) (from least end most : ℕ) (whole : Option Layout) →
    i < length ts → t ≡ get_or ts i t → capped_by f t ≡ Some l → end ≡ capped_size (round_up from l.align + l.size) → most ≡ max least l.align →
    option_map (λ ls. capped (struct_from from least ls)) (all_of (map (capped_by f) (drop i ts))) ≡ whole →
    option_map (λ ls. capped (struct_from end most ls)) (all_of (map (capped_by f) (drop (i + 1) ts))) ≡ whole
field_kept f ts i t l from least end most whole inside is kept ends aligns before =
    let rest : List (Option Layout) = map (capped_by f) (drop (i + 1) ts) in
    let parts : drop i ts ≡ t ∷ drop (i + 1) ts = drop_more ts i t inside ∙ ap (λ u. u ∷ drop (i + 1) ts) (sym is) in
    let here : all_of (map (capped_by f) (drop i ts)) ≡ option_map (λ ls. l ∷ ls) (all_of rest) =
    ap (λ us. all_of (map (capped_by f) us)) parts ∙ ap (λ o. all_of (o ∷ rest)) kept in
    ap (λ n. option_map (λ ls. capped (struct_from n most ls)) (all_of rest)) ends
    ∙ ap (λ n. option_map (λ ls. capped (struct_from (capped_size (round_up from l.align + l.size)) n ls)) (all_of rest)) aligns
    ∙ joined_to from least l (all_of rest)
    ∙ sym (ap (option_map (λ ls. capped (struct_from from least ls))) here)
    ∙ before
