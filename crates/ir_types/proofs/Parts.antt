-- Fields and elements lie inside of what they are parts of.
use Rattle.std.proofs.Common.{◌≡◌, ◌∙◌, ◌<◌, ◌≤◌, ◌+◌, ◌-◌, ◌*◌, ◌/◌, ◌%◌, ℕ, zero, suc, Bool, true, false, cond, List, [], ◌∷◌, length, map, Option, None, Some, Result, Ok, Err, refl, sym, ap, subst, arith, nat_le}
use Rattle.std.proofs.Math.Nat.{mul-mod_left, mul-le-mul_right, mul_assoc, add-mul, one-mul, mul-one}
use Rattle.std.proofs.lemmas.Bool.{leb-true, le-leb}
use Rattle.std.specs.List.{AllByRecursion}
use Rattle.std.specs.Option.{option_map}
use Rattle.ir_types.specs.declared.layout.Layout.{Layout}
use Rattle.ir_types.specs.declared.named.NamedTy.{NamedTy}
use Rattle.ir_types.specs.declared.sizes.SizeFault.{SizeFault}
use Rattle.ir_types.specs.declared.sizes.SizeFault.TheVariants.{TooLarge}
use Rattle.ir_types.specs.declared.ty.Ty.{Ty}
use Rattle.ir_types.specs.Layout.{round_up, of_array, end_of, align_from, offset_from, of_struct, all_of}
use Rattle.ir_types.specs.Named.{fields_in, field_offset, found_in, layout_of, layout_of_name, offset_in, size_of, size_in, block_in}
use Rattle.ir_types.specs.Laws.{IsAt, LiesInside, SizesAreMultiples, AlignsArePowers, FieldsLieInside, FieldsAreApart, ElementsLieInside, PartsFit}
use Rattle.ir_types.proofs.Capping.{at_most}
use Rattle.ir_types.proofs.Monotone.{at_array}
use Rattle.ir_types.proofs.Offsets.{layout_of_fields}
use Rattle.ir_types.proofs.Wholes.{IsWhole, positive, layouts_are_whole, fields_are_whole, end_behind, align_power}

some_is : {A : Type 0} {a b : A} → Some a ≡ Some b → a ≡ b
some_is e = cc

pub sizes_are_multiples : SizesAreMultiples
sizes_are_multiples types t l e =
    let whole = layouts_are_whole types t l e in
    ap (λ s. s % l.align) whole.is ∙ mul-mod_left whole.count l.align

pub aligns_are_powers : AlignsArePowers
aligns_are_powers types t l e = (layouts_are_whole types t l e).power

-- ---- fields, by their layouts

module _ (m : Layout) where
  inside : (from : ℕ) (ls : List Layout) → AllByRecursion IsWhole ls → (k : ℕ) → IsAt ls k m → offset_from from ls k + m.size ≤ end_of from ls
  inside from [] all k at = absurd at
  inside from (l ∷ ls) all zero at =
      subst (λ n. round_up from l.align + n.size ≤ end_of (round_up from l.align + l.size) ls) at (end_behind (round_up from l.align + l.size) ls all.1)
  inside from (l ∷ ls) all (suc k) at = inside (round_up from l.align + l.size) ls all.1 k at

  aligned : (from : ℕ) (ls : List Layout) (k : ℕ) → IsAt ls k m → offset_from from ls k % m.align ≡ 0
  aligned from [] k at = absurd at
  aligned from (l ∷ ls) zero at =
      subst (λ n. round_up from l.align % n.align ≡ 0) at (mul-mod_left ((from + (l.align - 1)) / l.align) l.align)
  aligned from (l ∷ ls) (suc k) at = aligned (round_up from l.align + l.size) ls k at

behind : (from : ℕ) (ls : List Layout) → AllByRecursion IsWhole ls → (k : ℕ) (m : Layout) → IsAt ls k m → from ≤ offset_from from ls k
behind from [] all k m at = absurd at
behind from (l ∷ ls) all zero m at = at_most from l.align (positive l.align all.0.power)
behind from (l ∷ ls) all (suc k) m at =
    omega (arith, at_most from l.align (positive l.align all.0.power), behind (round_up from l.align + l.size) ls all.1 k m at)

apart : (from : ℕ) (ls : List Layout) → AllByRecursion IsWhole ls → (j k : ℕ) (m n : Layout) → j < k → IsAt ls j m → IsAt ls k n →
    offset_from from ls j + m.size ≤ offset_from from ls k
apart from [] all j k m n less at also = absurd at
apart from (l ∷ ls) all zero zero m n less at also = absurd (omega arith)
apart from (l ∷ ls) all (suc j) zero m n less at also = absurd (omega arith)
apart from (l ∷ ls) all zero (suc k) m n less at also =
    subst (λ p. round_up from l.align + p.size ≤ offset_from (round_up from l.align + l.size) ls k) at (behind (round_up from l.align + l.size) ls all.1 k n also)
apart from (l ∷ ls) all (suc j) (suc k) m n less at also = apart (round_up from l.align + l.size) ls all.1 j k m n (omega arith) at also

-- ---- fields, by their types

-- the layout at a place is that of the type there
abbrev Found : List NamedTy → List Layout → ℕ → Ty → Type 0
Found types ls k part = (m : Layout) × (layout_of types part ≡ Some m) × IsAt ls k m

joined : (types : List NamedTy) (part : Ty) (k : ℕ) (l : Layout) (o : Option (List Layout)) (ls : List Layout) →
    ((ms : List Layout) → o ≡ Some ms → Found types ms k part) → option_map (λ ms. l ∷ ms) o ≡ Some ls → Found types ls (suc k) part
joined types part k l None ls rest e = cc
joined types part k l (Some ms) ls rest e =
    let there = rest ms refl in
    subst (λ ns. Found types ns (suc k) part) (some_is e) (there.0, there.1, there.2)

first : (types : List NamedTy) (part : Ty) (l : Layout) (o : Option (List Layout)) (ls : List Layout) → layout_of types part ≡ Some l →
    option_map (λ ms. l ∷ ms) o ≡ Some ls → Found types ls zero part
first types part l None ls is e = cc
first types part l (Some ms) ls is e = subst (λ ns. Found types ns zero part) (some_is e) (l, is, refl)

by_first : (types : List NamedTy) (t : Ty) (k : ℕ) (part : Ty) (o : Option Layout) (os : List (Option Layout)) (ls : List Layout) → layout_of types t ≡ o →
    ((j : ℕ) (ms : List Layout) → k ≡ suc j → all_of os ≡ Some ms → Found types ms j part) → (k ≡ zero → t ≡ part) → all_of (o ∷ os) ≡ Some ls → Found types ls k part
by_first types t k part None os ls is rest here e = cc
by_first types t zero part (Some l) os ls is rest here e = first types part l (all_of os) ls (subst (λ u. layout_of types u ≡ Some l) (here refl) is) e
by_first types t (suc k) part (Some l) os ls is rest here e = joined types part k l (all_of os) ls (λ ms. rest k ms refl) e

field_found : (types : List NamedTy) (ts : List Ty) (ls : List Layout) (k : ℕ) (part : Ty) → all_of (map (layout_of types) ts) ≡ Some ls → IsAt ts k part → Found types ls k part
field_found types [] ls k part e at = absurd at
field_found types (t ∷ ts) ls zero part e at =
    by_first types t zero part (layout_of types t) (map (layout_of types) ts) ls refl (λ j ms is. absurd (omega arith)) (λ z. at) e
field_found types (t ∷ ts) ls (suc k) part e at =
    by_first types t (suc k) part (layout_of types t) (map (layout_of types) ts) ls refl
    (λ j ms is h. field_found types ts ms j part h (subst (λ n. IsAt ts n part) (omega arith) at)) (λ z. absurd (omega arith)) e

at_length : {A : Type 0} (xs : List A) (k : ℕ) (x : A) → IsAt xs k x → k < length xs
at_length [] k x at = absurd at
at_length (y ∷ xs) zero x at = omega arith
at_length (y ∷ xs) (suc k) x at = omega (arith, at_length xs k x at)

-- the layouts of the fields of a type that has one
abbrev Parts : List NamedTy → Ty → Layout → Type 0
Parts types t l = (ls : List Layout) × (all_of (map (layout_of types) (fields_in types t)) ≡ Some ls) × (of_struct ls ≡ l)

parts_in : (types : List NamedTy) (t : Ty) (l : Layout) (o : Option (List Layout)) → all_of (map (layout_of types) (fields_in types t)) ≡ o →
    option_map of_struct o ≡ Some l → Parts types t l
parts_in types t l None is e = cc
parts_in types t l (Some ls) is e = (ls, is, some_is e)

parts_of : (types : List NamedTy) (t : Ty) (l : Layout) → layout_of types t ≡ Some l → 0 < length (fields_in types t) → Parts types t l
parts_of types t l e some =
    parts_in types t l (all_of (map (layout_of types) (fields_in types t))) refl (sym (layout_of_fields types t some) ∙ e)

offset_is : (types : List NamedTy) (t : Ty) (ls : List Layout) (k : ℕ) → all_of (map (layout_of types) (fields_in types t)) ≡ Some ls →
    field_offset types t k ≡ offset_from 0 ls k
offset_is types t ls k e = ap (λ o. offset_in o k) e

whole_end : (ls : List Layout) → AllByRecursion IsWhole ls → end_of 0 ls ≤ (of_struct ls).size
whole_end ls all = at_most (end_of 0 ls) (align_from 1 ls) (positive (align_from 1 ls) (align_power 1 ls (0, refl) all))

pub fields_lie_inside : FieldsLieInside
fields_lie_inside types t l k part e at =
    let long : 0 < length (fields_in types t) = omega (arith, at_length (fields_in types t) k part at) in
    let parts = parts_of types t l e long in
    let there = field_found types (fields_in types t) parts.0 k part parts.1 at in
    let all = fields_are_whole types (fields_in types t) parts.0 parts.1 in
    let begins = offset_is types t parts.0 k parts.1 in
    record {
      layout = there.0;
      has = there.1;
      inside = subst (λ n. n + there.0.size ≤ l.size) (sym begins)
          (subst (λ w. offset_from 0 parts.0 k + there.0.size ≤ w.size) parts.2
          (omega (arith, inside there.0 0 parts.0 all k there.2, whole_end parts.0 all)));
      aligned = subst (λ n. n % there.0.align ≡ 0) (sym begins) (aligned there.0 0 parts.0 k there.2);
    }

pub fields_are_apart : FieldsAreApart
fields_are_apart types t l j k part other e less at also =
    let long : 0 < length (fields_in types t) = omega (arith, at_length (fields_in types t) j part at) in
    let parts = parts_of types t l e long in
    let here = field_found types (fields_in types t) parts.0 j part parts.1 at in
    let there = field_found types (fields_in types t) parts.0 k other parts.1 also in
    let all = fields_are_whole types (fields_in types t) parts.0 parts.1 in
    let size : size_of types part ≡ here.0.size = ap size_in here.1 in
    let begins = offset_is types t parts.0 j parts.1 in
    let goes_on = offset_is types t parts.0 k parts.1 in
    omega (arith, size, begins, goes_on, apart 0 parts.0 all j k here.0 there.0 less here.2 there.2)

-- ---- elements

element_in : (types : List NamedTy) (count : ℕ) (part : Ty) (l : Layout) (k : ℕ) (o : Option Layout) → layout_of types part ≡ o →
    option_map (of_array count) o ≡ Some l → k < count → LiesInside types l part (k * size_in o)
element_in types count part l k None is e less = cc
element_in types count part l k (Some m) is e less =
    let whole = layouts_are_whole types part m is in
    let own : of_array count m ≡ l = some_is e in
    record {
      layout = m;
      has = is;
      inside = subst (λ w. k * m.size + m.size ≤ w.size) own
          (let more : (k + 1) * m.size ≤ count * m.size = mul-le-mul_right m.size (omega arith) in omega (arith, add-mul k 1 m.size, one-mul m.size));
      aligned = ap (λ s. (k * s) % m.align) whole.is ∙ ap (λ n. n % m.align) (sym (mul_assoc k whole.count m.align)) ∙ mul-mod_left (k * whole.count) m.align;
    }

pub elements_lie_inside : ElementsLieInside
elements_lie_inside types count part l k e less =
    element_in types count part l k (layout_of types part) refl (sym (at_array (layout_of_name (found_in types)) count part) ∙ e) less

-- ---- blocks

size_fits : (n size : ℕ) (b : Bool) → nat_le (n * 1) 2147483648 ≡ b → ◌≡◌ {A = Result ℕ SizeFault} (cond b (Ok (n * 1)) (Err TooLarge)) (Ok size) →
    (n * 1 ≤ 2147483648) × (n * 1 ≡ size)
size_fits n size true is e = (leb-true (n * 1) 2147483648 is, cc)
size_fits n size false is e = cc

pub parts_fit : PartsFit
parts_fit types t l part offset size e lies fits =
    let block : block_in (Some l) 1 ≡ Ok size = ap (λ o. block_in o 1) (sym e) ∙ fits in
    let small = size_fits l.size size (nat_le (l.size * 1) 2147483648) refl block in
    let m = lies.layout in
    let inside = lies.inside in
    let once = mul-one m.size in
    let also = mul-one l.size in
    let low : m.size * 1 ≤ 2147483648 = omega (arith, small.0) in (
      m.size * 1,
      ap (λ o. block_in o 1) lies.has ∙ ap (λ b. cond b (Ok (m.size * 1)) (Err TooLarge)) (le-leb (m.size * 1) 2147483648 low),
      omega (arith, small.1),
    )
