-- What is kept of where fields begin.
use Rattle.std.proofs.Common.{◌≡◌, ◌∙◌, ◌<◌, ◌≤◌, ◌+◌, ℕ, zero, suc, true, List, [], ◌∷◌, length, map, Option, None, Some, refl, sym, ap, subst, arith}
use Rattle.std.specs.Option.{option_map, is_some}
use Rattle.ir_types.specs.declared.layout.Layout.{Layout}
use Rattle.ir_types.specs.declared.named.NamedTy.{NamedTy}
use Rattle.ir_types.specs.declared.names.Name.{Name}
use Rattle.ir_types.specs.declared.ty.Ty.{Ty, Struct, Named, out-Ty, roll-Ty, roll-out-Ty}
use Rattle.ir_types.specs.declared.ty.Ty.TheOpen.{Ty-F}
use Rattle.ir_types.specs.declared.ty.Ty.TheOpen as ty
use Rattle.ir_types.specs.declared.ty.Ty.TheViews.{rolls-Struct, rolls-Named}
use Rattle.ir_types.specs.Layout.{round_up, offset_from, of_struct, all_of, layout_by}
use Rattle.ir_types.specs.Named.{fields_of, found_in, layout_of, layout_of_name, is_sized, size_in, size_of, fields_or_none, fields_at_level, fields_in, offset_in, field_offset}
use Rattle.ir_types.specs.Kept.{capped_size, capped, capped_by, kept_offset, offset_behind}
use Rattle.ir_types.proofs.Capping.{cap_twice, cap_rounded, cap_rounded_up, cap_sum, as_it_is, all_fields_kept}
use Rattle.ir_types.proofs.Monotone.{at_struct}
use Rattle.ir_types.proofs.Rounds.{named_layouts}
use Rattle.ir_types.proofs.Wholes.{fields_are_whole, struct_inside}

cap_offset : (from : ℕ) (ls : List Layout) (k : ℕ) → capped_size (offset_from (capped_size from) ls k) ≡ capped_size (offset_from from ls k)
cap_offset from [] k = cap_twice from
cap_offset from (l ∷ ls) zero = cap_rounded_up from l.align
cap_offset from (l ∷ ls) (suc k) =
    sym (cap_offset (round_up (capped_size from) l.align + l.size) ls k)
    ∙ ap (λ n. capped_size (offset_from n ls k)) (cap_rounded from l.align l.size)
    ∙ cap_offset (round_up from l.align + l.size) ls k

cap_parts_offset : (from : ℕ) (ls : List Layout) (k : ℕ) → capped_size (offset_from from (map capped ls) k) ≡ capped_size (offset_from from ls k)
cap_parts_offset from [] k = refl
cap_parts_offset from (l ∷ ls) zero = refl
cap_parts_offset from (l ∷ ls) (suc k) =
    cap_parts_offset (round_up from l.align + capped_size l.size) ls k
    ∙ sym (cap_offset (round_up from l.align + capped_size l.size) ls k)
    ∙ ap (λ n. capped_size (offset_from n ls k)) (cap_sum (round_up from l.align) l.size)
    ∙ cap_offset (round_up from l.align + l.size) ls k

-- ---- what the code finds

module _ (f : Name → Option Layout) where
  nothing : (ls : List Layout) → ◌≡◌ {A = Option (List Layout)} (Some []) (Some ls) → [] ≡ ls
  nothing ls e = cc

  behind : (l : Layout) (o : Option (List Layout)) (ls : List Layout) (from k : ℕ) (ts : List Ty) →
      ((ms : List Layout) (n j : ℕ) → all_of (map (capped_by f) ts) ≡ Some ms → kept_offset f n ts j ≡ capped_size (offset_from n ms j)) →
      all_of (map (capped_by f) ts) ≡ o → option_map (λ ms. l ∷ ms) o ≡ Some ls →
      offset_behind (Some l) from k (λ end rest. kept_offset f end ts rest) ≡ capped_size (offset_from from ls k)
  behind l None ls from k ts rest is e = cc
  behind l (Some ms) ls from zero ts rest is e = let own : (l ∷ ms) ≡ ls = cc in ap (λ ns. capped_size (offset_from from ns 0)) own
  behind l (Some ms) ls from (suc k) ts rest is e =
      let own : (l ∷ ms) ≡ ls = cc in
      rest ms (capped_size (round_up from l.align + l.size)) k is
      ∙ cap_offset (round_up from l.align + l.size) ms k
      ∙ ap (λ ns. capped_size (offset_from from ns (suc k))) own

  first : (o : Option Layout) (ls : List Layout) (from k : ℕ) (ts : List Ty) →
      ((ms : List Layout) (n j : ℕ) → all_of (map (capped_by f) ts) ≡ Some ms → kept_offset f n ts j ≡ capped_size (offset_from n ms j)) →
      all_of (o ∷ map (capped_by f) ts) ≡ Some ls →
      offset_behind o from k (λ end rest. kept_offset f end ts rest) ≡ capped_size (offset_from from ls k)
  first None ls from k ts rest e = cc
  first (Some l) ls from k ts rest e = behind l (all_of (map (capped_by f) ts)) ls from k ts rest refl e

  found_at : (ts : List Ty) (ls : List Layout) (from k : ℕ) → all_of (map (capped_by f) ts) ≡ Some ls → kept_offset f from ts k ≡ capped_size (offset_from from ls k)
  found_at [] ls from k e = ap (λ ms. capped_size (offset_from from ms k)) (nothing ls e)
  found_at (t ∷ ts) ls from k e = first (capped_by f t) ls from k ts (λ ms n j h. found_at ts ms n j h) e

module _ (f g : Name → Option Layout) (names : (x : Name) → f x ≡ option_map capped (g x)) where
  given : (ts : List Ty) (k : ℕ) (o : Option (List Layout)) → all_of (map (layout_by g) ts) ≡ o → is_some o ≡ true →
      kept_offset f 0 ts k ≡ capped_size (offset_in o k)
  given ts k None e some = cc
  given ts k (Some ls) e some =
      found_at f ts (map capped ls) 0 k (all_fields_kept f g names ts ∙ ap (option_map (map capped)) e) ∙ cap_parts_offset 0 ls k

  pub offset_is_kept : (ts : List Ty) (k : ℕ) → is_some (all_of (map (layout_by g) ts)) ≡ true →
      kept_offset f 0 ts k ≡ capped_size (offset_in (all_of (map (layout_by g) ts)) k)
  offset_is_kept ts k some = given ts k (all_of (map (layout_by g) ts)) refl some

-- ---- structs

struct_level : (types : List NamedTy) (t : Ty) (ts : List Ty) → t ≡ Struct ts → layout_of types t ≡ option_map of_struct (all_of (map (layout_of types) ts))
struct_level types t ts e = ap (layout_of types) e ∙ at_struct (layout_of_name (found_in types)) ts

named_level : (types : List NamedTy) (t : Ty) (x : Name) (fs : Option (List Ty)) → t ≡ Named x → fields_of types x ≡ fs → 0 < length (fields_or_none fs) →
    layout_of types t ≡ option_map of_struct (all_of (map (layout_of types) (fields_or_none fs)))
named_level types t x None e is some = absurd (omega arith)
named_level types t x (Some fs) e is some =
    ap (layout_of types) e ∙ (named_layouts types x).0 fs is ∙ at_struct (layout_of_name (found_in types)) fs

at_level : (types : List NamedTy) (t : Ty) (level : Ty-F Ty) → out-Ty t ≡ level → 0 < length (fields_at_level types level) →
    layout_of types t ≡ option_map of_struct (all_of (map (layout_of types) (fields_at_level types level)))
at_level types t (ty.Struct ts) e some = struct_level types t ts (sym (roll-out-Ty t) ∙ ap roll-Ty e ∙ rolls-Struct ts)
at_level types t (ty.Named x) e some = named_level types t x (fields_of types x) (sym (roll-out-Ty t) ∙ ap roll-Ty e ∙ rolls-Named x) refl some
at_level types t (ty.Int width) e some = absurd (omega arith)
at_level types t (ty.Ptr u) e some = absurd (omega arith)
at_level types t (ty.Array n u) e some = absurd (omega arith)
at_level types t ty.Void e some = absurd (omega arith)

-- a type with fields has the layout of its struct
pub layout_of_fields : (types : List NamedTy) (t : Ty) → 0 < length (fields_in types t) →
    layout_of types t ≡ option_map of_struct (all_of (map (layout_of types) (fields_in types t)))
layout_of_fields types t some = at_level types t (out-Ty t) refl some

some_of : (o : Option (List Layout)) → is_some (option_map of_struct o) ≡ true → is_some o ≡ true
some_of None e = e
some_of (Some ls) e = refl

pub fields_are_sized : (types : List NamedTy) (t : Ty) → 0 < length (fields_in types t) → is_sized types t ≡ true →
    is_some (all_of (map (layout_of types) (fields_in types t))) ≡ true
fields_are_sized types t some sized = some_of (all_of (map (layout_of types) (fields_in types t))) (ap is_some (sym (layout_of_fields types t some)) ∙ sized)

with_one : (l : Layout) (o : Option (List Layout)) (ls : List Layout) (n : ℕ) → ((ms : List Layout) → o ≡ Some ms → length ms ≡ n) → option_map (λ ms. l ∷ ms) o ≡ Some ls →
    length ls ≡ n + 1
with_one l None ls n count e = cc
with_one l (Some ms) ls n count e = let own : (l ∷ ms) ≡ ls = cc in let all = count ms refl in let long = ap length own in omega arith

one_more : (o : Option Layout) (os : List (Option Layout)) (n : ℕ) → ((ms : List Layout) → all_of os ≡ Some ms → length ms ≡ n) → (ls : List Layout) →
    all_of (o ∷ os) ≡ Some ls → length ls ≡ n + 1
one_more None os n count ls e = cc
one_more (Some l) os n count ls e = with_one l (all_of os) ls n count e

count_of : (types : List NamedTy) (ts : List Ty) (ls : List Layout) → all_of (map (layout_of types) ts) ≡ Some ls → length ls ≡ length ts
count_of types [] ls e = let own : [] ≡ ls = cc in ap length (sym own)
count_of types (t ∷ ts) ls e =
    omega (arith, one_more (layout_of types t) (map (layout_of types) ts) (length ts) (λ ms is. count_of types ts ms is) ls e)

small : (types : List NamedTy) (ts : List Ty) (k : ℕ) (o : Option (List Layout)) → all_of (map (layout_of types) ts) ≡ o → k < length ts →
    size_in (option_map of_struct o) ≤ 2147483648 → capped_size (offset_in o k) ≡ offset_in o k
small types ts k None e inside fits = as_it_is 0 (omega arith)
small types ts k (Some ls) e inside fits =
    as_it_is (offset_from 0 ls k) (omega (arith, struct_inside ls (fields_are_whole types ts ls e) k (omega (arith, count_of types ts ls e))))

-- the offset of a field of a type that isn't too large is kept as it is
pub offset_is_exact : (types : List NamedTy) (t : Ty) (k : ℕ) → k < length (fields_in types t) → size_of types t ≤ 2147483648 →
    capped_size (field_offset types t k) ≡ field_offset types t k
offset_is_exact types t k inside fits =
    small types (fields_in types t) k (all_of (map (layout_of types) (fields_in types t))) refl inside
    (subst (λ o. size_in o ≤ 2147483648) (layout_of_fields types t (omega arith)) fits)
