-- What is left to walk of a type, step by step.
use Rattle.std.proofs.Common.{◌≡◌, ◌∙◌, ◌<◌, ◌+◌, ◌*◌, ◌-◌, ℕ, zero, suc, Bool, true, false, cond, List, [], ◌∷◌, ◌++◌, map, Option, None, Some, refl, sym, ap, ap₂, arith}
use Rattle.std.specs.Prelude.{Result, Ok, Err, OnOk, nat_le}
use Rattle.std.proofs.Math.Nat.{mul-one}
use Rattle.std.specs.Option.{is_some}
use Rattle.std.proofs.lemmas.List.{append_assoc, append-nil, map-append}
use Rattle.ir_types.specs.declared.layout.Layout.{Layout}
use Rattle.ir_types.specs.declared.named.NamedTy.{NamedTy}
use Rattle.ir_types.specs.declared.names.Name.{Name}
use Rattle.ir_types.specs.declared.ty.Ty.{Ty, Int, Ptr, Array, Struct, Named, Void}
use Rattle.ir_types.specs.Layout.{round_up}
use Rattle.ir_types.specs.declared.sizes.SizeFault.{SizeFault}
use Rattle.ir_types.specs.declared.sizes.SizeFault.TheVariants.{Unsized, TooLarge}
use Rattle.ir_types.specs.Named.{align_in, align_of, block_in, block_of, fields_of, is_sized, layout_of, size_in, size_of, found_in}
use Rattle.ir_core.specs.declared.values.Kind.{Kind}
use Rattle.ir_core.specs.declared.values.Kind.TheVariants as kind
use Rattle.ir_core.specs.Types.{kind_of}
use Rattle.ir_types.proofs.Rounds.{named_layouts}
use Rattle.ir_machine.specs.declared.scalars.Scalar.{Scalar}
use Rattle.ir_machine.specs.declared.scalars.Stretch.{Stretch}
use Rattle.ir_machine.specs.Scalars.{Part, alone, behind, in_array, in_struct, part_at, part_of_name, scalars_of}
use Rattle.ir_machine.specs.Walks.{all_in, elements_in, fields_in, one_in}
use Rattle.ir_machine.proofs.ScalarParts.{at_array, at_int, at_ptr, at_struct, at_void, part_layout, part_of_named}

-- ---- offsets

behind_twice : (by more : ℕ) (ss : List Scalar) → behind by (behind more ss) ≡ behind (by + more) ss
behind_twice by more [] = refl
behind_twice by more (s ∷ ss) =
    let sum : by + (more + s.at) ≡ by + more + s.at = omega arith in
    ap₂ (λ n l. record s { at = n } ∷ l) sum (behind_twice by more ss)

behind_both : (by : ℕ) (ss ts : List Scalar) → behind by (ss ++ ts) ≡ behind by ss ++ behind by ts
behind_both by ss ts = map-append (λ (s : Scalar). record s { at = by + s.at }) ss ts

behind_none : (ss : List Scalar) → behind 0 ss ≡ ss
behind_none [] = refl
behind_none (s ∷ ss) = let same : 0 + s.at ≡ s.at = omega arith in ap₂ (λ n l. record s { at = n } ∷ l) same (behind_none ss)

behind_array : (by count from size : ℕ) (ss : List Scalar) → behind by (in_array count from size ss) ≡ in_array count (by + from) size ss
behind_array by zero from size ss = refl
behind_array by (suc count) from size ss =
    let next : by + (from + size) ≡ by + from + size = omega arith in
    behind_both by (behind from ss) (in_array count (from + size) size ss)
    ∙ ap₂ (λ a b. a ++ b) (behind_twice by from ss) (behind_array by count (from + size) size ss ∙ ap (λ n. in_array count n size ss) next)

pub array_of_none : (count from size : ℕ) → in_array count from size [] ≡ []
array_of_none zero from size = refl
array_of_none (suc count) from size = array_of_none count (from + size) size

-- ---- what is left

pub left_next : (types : List NamedTy) (left : List Stretch) (s : Stretch) → all_in types (left ++ s ∷ []) ≡ one_in types s ++ all_in types left
left_next types [] s = sym (append-nil (one_in types s))
left_next types (r ∷ left) s =
    ap (λ l. l ++ one_in types r) (left_next types left s) ∙ append_assoc (one_in types s) (all_in types left) (one_in types r)

module _ (types : List NamedTy) (found : List Scalar) (left new : List Stretch) (part : List Scalar) where
  -- what is there is left to walk
  pub pushed : (s : Stretch) → new ≡ left ++ s ∷ [] → part ≡ one_in types s → found ++ all_in types new ≡ found ++ (part ++ all_in types left)
  pushed s made is = ap (λ l. found ++ l) (ap (all_in types) made ∙ left_next types left s ∙ ap (λ l. l ++ all_in types left) (sym is))

  -- it has no scalars
  pub passed_over : part ≡ [] → found ++ all_in types left ≡ found ++ (part ++ all_in types left)
  passed_over none = ap (λ l. found ++ (l ++ all_in types left)) (sym none)

-- it is one scalar
pub put_found : (found after part left : List Scalar) (s : Scalar) → after ≡ found ++ s ∷ [] → part ≡ s ∷ [] → after ++ left ≡ found ++ (part ++ left)
put_found found after part left s made is = ap (λ l. l ++ left) (made ∙ ap (λ l. found ++ l) (sym is)) ∙ append_assoc found part left

module _ (types : List NamedTy) (at : ℕ) where
  abbrev f : Name → Part
  f = part_of_name types (found_in types)

  size_is : (t : Ty) → size_in (part_at types t).layout ≡ size_of types t
  size_is t = ap size_in (part_layout types t)

  align_is : (t : Ty) → align_in (part_at types t).layout ≡ align_of types t
  align_is t = ap align_in (part_layout types t)

  pub of_array : (n : ℕ) (t : Ty) → behind at (part_at types (Array n t)).scalars ≡ elements_in types at t n
  of_array n t =
      let here : at + 0 ≡ at = omega arith in
      ap (λ (p : Part). behind at p.scalars) (at_array f n t)
      ∙ behind_array at n 0 (size_in (part_at types t).layout) (part_at types t).scalars
      ∙ ap₂ (λ from size. in_array n from size (part_at types t).scalars) here (size_is t)

  pub of_struct : (ts : List Ty) → behind at (part_at types (Struct ts)).scalars ≡ fields_in types at 0 ts
  of_struct ts = ap (λ (p : Part). behind at p.scalars) (at_struct f ts)

  pub of_named : (x : Name) (ts : List Ty) → fields_of types x ≡ Some ts → is_sized types (Named x) ≡ true
      → behind at (part_at types (Named x)).scalars ≡ fields_in types at 0 ts
  of_named x ts is sized = by_layout (layout_of types (Named x)) refl
    where
      by_layout : (o : Option Layout) → layout_of types (Named x) ≡ o → behind at (part_at types (Named x)).scalars ≡ fields_in types at 0 ts
      by_layout None e = let no : is_some (layout_of types (Named x)) ≡ false = ap is_some e in cc
      by_layout (Some l) e = ap (λ (p : Part). behind at p.scalars) (part_of_named types x l ts is e) ∙ of_struct ts

  pub named_has_fields : (x : Name) → fields_of types x ≡ None → is_sized types (Named x) ≡ true → ⊥
  named_has_fields x none sized = let no : is_some (layout_of types (Named x)) ≡ false = ap is_some ((named_layouts types x).1 none) in cc

  pub of_int : (width : ℕ) (k : Kind) → kind_of (Int width) ≡ Some k → behind at (part_at types (Int width)).scalars ≡ record { at = at; kind = k } ∷ []
  of_int width k is =
      let here : at + 0 ≡ at = omega arith in
      ap (λ (p : Part). behind at p.scalars) (at_int f width) ∙ ap (λ o. behind at (alone o)) is ∙ ap (λ n. record { at = n; kind = k } ∷ []) here

  pub of_wide : (width : ℕ) → kind_of (Int width) ≡ None → behind at (part_at types (Int width)).scalars ≡ []
  of_wide width is = ap (λ (p : Part). behind at p.scalars) (at_int f width) ∙ ap (λ o. behind at (alone o)) is

  pub of_ptr : (t : Ty) → behind at (part_at types (Ptr t)).scalars ≡ record { at = at; kind = kind.Ptr } ∷ []
  of_ptr t =
      let here : at + 0 ≡ at = omega arith in
      ap (λ (p : Part). behind at p.scalars) (at_ptr f t) ∙ ap (λ n. record { at = n; kind = kind.Ptr } ∷ []) here

  pub of_void : behind at (part_at types Void).scalars ≡ []
  of_void = ap (λ (p : Part). behind at p.scalars) (at_void f)

  -- the first of so many
  pub first_element : (t : Ty) (count next : ℕ) → next ≡ at + size_of types t → 0 < count
      → behind at (part_at types t).scalars ++ elements_in types next t (count - 1) ≡ elements_in types at t count
  first_element t zero next is some = absurd (omega arith)
  first_element t (suc count) next is some =
      let less : suc count - 1 ≡ count = omega arith in
      ap₂ (λ n c. behind at (part_at types t).scalars ++ elements_in types n t c) is less

  -- the first field
  pub first_field : (from start : ℕ) (t : Ty) (ts : List Ty) → start ≡ round_up from (align_of types t)
      → elements_in types (at + start) t 1 ++ fields_in types at (start + size_of types t) ts ≡ fields_in types at from (t ∷ ts)
  first_field from start t ts is =
      let p = part_at types t in
      let begins : round_up from (align_in p.layout) ≡ start = ap (round_up from) (align_is t) ∙ sym is in
      let ends : round_up from (align_in p.layout) + size_in p.layout ≡ start + size_of types t = ap₂ (λ a b. a + b) begins (size_is t) in
      ap (λ l. l ++ fields_in types at (start + size_of types t) ts) (append-nil (behind (at + start) p.scalars))
      ∙ ap (λ l. l ++ fields_in types at (start + size_of types t) ts) (sym (behind_twice at start p.scalars))
      ∙ sym (behind_both at (behind start p.scalars) (in_struct (start + size_of types t) (map (part_at types) ts)))
      ∙ ap₂ (λ a b. behind at (behind a p.scalars ++ in_struct b (map (part_at types) ts))) (sym begins) (sym ends)

-- at first all of the type is left
pub all_left : (types : List NamedTy) (t : Ty) → is_sized types t ≡ true → elements_in types 0 t 1 ≡ scalars_of types t
all_left types t sized =
    append-nil (behind 0 (part_at types t).scalars) ∙ behind_none (part_at types t).scalars ∙ sym (ap (λ b. cond b (part_at types t).scalars []) sized)

pub none_left : (types : List NamedTy) (t : Ty) → is_sized types t ≡ false → scalars_of types t ≡ []
none_left types t unsized = ap (λ b. cond b (part_at types t).scalars []) unsized

-- what is walked next is the first of what is left
pub walked : (types : List NamedTy) (found after : List Scalar) (left mid new : List Stretch) (first second whole : List Scalar)
    → after ++ all_in types new ≡ found ++ (first ++ all_in types mid) → all_in types mid ≡ second ++ all_in types left → first ++ second ≡ whole
    → after ++ all_in types new ≡ found ++ (whole ++ all_in types left)
walked types found after left mid new first second whole h is joined =
    h ∙ ap (λ l. found ++ (first ++ l)) is ∙ ap (λ l. found ++ l) (sym (append_assoc first second (all_in types left)) ∙ ap (λ l. l ++ all_in types left) joined)

pub pushed_left : (types : List NamedTy) (left new : List Stretch) (s : Stretch) → new ≡ left ++ s ∷ [] → all_in types new ≡ one_in types s ++ all_in types left
pushed_left types left new s made = ap (all_in types) made ∙ left_next types left s

pub pushed_twice : (types : List NamedTy) (left mid new : List Stretch) (r s : Stretch) (whole : List Scalar) → mid ≡ left ++ r ∷ [] → new ≡ mid ++ s ∷ []
    → one_in types s ++ one_in types r ≡ whole → all_in types new ≡ whole ++ all_in types left
pushed_twice types left mid new r s whole one two joined =
    pushed_left types mid new s two ∙ ap (λ l. one_in types s ++ l) (pushed_left types left mid r one)
    ∙ sym (append_assoc (one_in types s) (one_in types r) (all_in types left)) ∙ ap (λ l. l ++ all_in types left) joined

-- the type has a layout and that size
pub told : (types : List NamedTy) (t : Ty) (size : ℕ) → block_of types t 1 ≡ Ok size → (is_sized types t ≡ true) × (size ≡ size_of types t)
told types t size e = by_layout (layout_of types t) refl
  where
    by_size : (n : ℕ) (b : Bool) → ◌≡◌ {A = Result ℕ SizeFault} (cond b (Ok (n * 1)) (Err TooLarge)) (Ok size) → size ≡ n
    by_size n true e = let own : n * 1 ≡ size = cc in omega (arith, mul-one n)
    by_size n false e = cc

    by_layout : (o : Option Layout) → layout_of types t ≡ o → (is_sized types t ≡ true) × (size ≡ size_of types t)
    by_layout None is = let no : ◌≡◌ {A = Result ℕ SizeFault} (Err Unsized) (Ok size) = sym (ap (λ o. block_in o 1) is) ∙ e in cc
    by_layout (Some l) is =
        (ap is_some is, by_size l.size (nat_le (l.size * 1) 2147483648) (sym (ap (λ o. block_in o 1) is) ∙ e) ∙ sym (ap size_in is))

pub field_joined : (types : List NamedTy) (at from start size place end : ℕ) (t : Ty) (ts fields : List Ty) → place ≡ at + start → end ≡ start + size → size ≡ size_of types t
    → start ≡ round_up from (align_of types t) → fields ≡ t ∷ ts → elements_in types place t 1 ++ fields_in types at end ts ≡ fields_in types at from fields
field_joined types at from start size place end t ts fields placed ended sized begins all =
    ap₂ (λ p e. elements_in types p t 1 ++ fields_in types at e ts) placed (ended ∙ ap (λ n. start + n) sized)
    ∙ first_field types at from start t ts begins ∙ ap (fields_in types at from) (sym all)

pub on_ok : {A E : Type 0} (r : Result A E) (P Q : Type 0) → (P → Q) → OnOk r P → OnOk r Q
on_ok (Ok x) P Q f h = f h
on_ok (Err e) P Q f h = h

pub walked_first : (types : List NamedTy) (at count next size : ℕ) (t : Ty) (found after : List Scalar) (left mid new : List Stretch) → next ≡ at + size → size ≡ size_of types t
    → 0 < count → all_in types mid ≡ elements_in types next t (count - 1) ++ all_in types left
    → after ++ all_in types new ≡ found ++ (behind at (part_at types t).scalars ++ all_in types mid)
    → after ++ all_in types new ≡ found ++ (elements_in types at t count ++ all_in types left)
walked_first types at count next size t found after left mid new is sized some mids h =
    walked types found after left mid new (behind at (part_at types t).scalars) (elements_in types next t (count - 1)) (elements_in types at t count) h mids
    (first_element types at t count next (is ∙ ap (λ n. at + n) sized) some)
