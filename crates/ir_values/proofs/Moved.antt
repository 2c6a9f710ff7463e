-- Addresses of parts: of related operands, in their kind, by the index 0, and where there are any.
use Rattle.std.proofs.Common.{◌≡◌, inl, inr, ℕ, ◌-◌, ◌*◌, Bool, true, false, ◌&&◌, ◌||◌, cond, List, [], ◌∷◌, map, Option, None, Some, refl, sym, ap, subst, ◌∙◌, arith}
use Rattle.std.specs.Prelude.{ℤ, pos, ◌+ℤ◌, ◌*ℤ◌}
use Rattle.std.specs.List.{AllZip, list_all, list_any}
use Rattle.std.specs.Option.{is_some, option_and_then, option_map}
use Rattle.std.proofs.lemmas.Int.{ints}
use Rattle.std.proofs.lemmas.Nat.{pow_pos}
use Rattle.ir_types.specs.declared.named.NamedTy.{NamedTy}
use Rattle.ir_types.specs.declared.ty.Ty.{Ty, Int, Ptr as address_of, out-Ty}
use Rattle.ir_types.specs.declared.ty.Ty.TheOpen.{Ty-F}
use Rattle.ir_types.specs.declared.ty.Ty.TheOpen as level
use Rattle.ir_types.specs.NameLaws.{all_true, left_true, right_true}
use Rattle.ir_types.specs.Named.{fields_of, fields_or_none, size_of}
use Rattle.ir_types.specs.Same.{same_ty}
use Rattle.ir_core.specs.Sizes.{entered_along, entered_behind}
use Rattle.ir_core.specs.Typing.{entered, entered_at_level, field_at, led_to}
use Rattle.ir_core.specs.declared.values.Value.{Value}
use Rattle.ir_core.specs.declared.values.Value.TheVariants.{Num, Ptr, Bare, Undef, Poison}
use Rattle.ir_core.specs.declared.values.Kind.TheVariants as kind
use Rattle.ir_values.specs.declared.operations.Outcome.TheVariants.{Gives}
use Rattle.ir_values.specs.Addresses.{GivenIndex, are_entered_small, distance, distances, distances_inside, gep_outcome, is_small, led_address, leaves, moved_address, moved_by, over, told_index, undef_inside, wrapped}
use Rattle.ir_values.specs.Numbers.{modulo, signed}
use Rattle.ir_values.specs.Operations.{IsOutcomeLessDefined}
use Rattle.ir_values.specs.PointerLaws.{AddressesFollowTypes, AddressesKeepRelated, AddressesStayInKind, AreIndicesRelated, IsOneSize, ZeroKeepsAddresses}
use Rattle.ir_values.specs.Related.{IsRelated, Pairing}
use Rattle.ir_values.specs.Values.{IsInKind, IsLessDefined, as_number, is_poison}
use Rattle.ir_values.proofs.InKind.{choice_in_kind, modulo_below}
use Rattle.ir_values.proofs.OperationLaws.{less_defined_refl}
use Rattle.ir_values.proofs.RelatedValues.{IsKept, below_both, cond_poison, number_kept, or_kept, poison_kept}
use Rattle.ir_values.proofs.Widths.{signed_low}
use Rattle.ir_values.proofs.Wrapped.{modulo_same, wrapped_fits, wrapped_same}

-- ---- what related indices enter

nothing_in_none : (b : Bool) (o : Option Ty) (u : Ty) → o ≡ None → cond b o None ≡ Some u → ⊥
nothing_in_none true o u e h = cc
nothing_in_none false o u e h = cc

-- an index that enters a field is a number, and so the same on both sides
field_kept : (fields : List Ty) (w : ℕ) (x y : Option ℕ) (u : Ty) → IsKept x y
    → field_at fields (record { ty = Int w; number = x }) ≡ Some u → field_at fields (record { ty = Int w; number = y }) ≡ Some u
field_kept fields w None y u k h = absurd (nothing_in_none (same_ty (Int w) (Int 32)) None u refl h)
field_kept fields w (Some n) y u (inl e) h = cc
field_kept fields w (Some n) y u (inr e) h = ap (λ z. field_at fields (record { ty = Int w; number = z })) e ∙ h

level_kept : (types : List NamedTy) (t : Ty-F Ty) (w : ℕ) (x y : Option ℕ) (u : Ty) → IsKept x y
    → entered_at_level types t (record { ty = Int w; number = x }) ≡ Some u → entered_at_level types t (record { ty = Int w; number = y }) ≡ Some u
level_kept types (level.Array count element) w x y u k h = h
level_kept types (level.Struct fields) w x y u k h = field_kept fields w x y u k h
level_kept types (level.Named name) w x y u k h = field_kept (fields_or_none (fields_of types name)) w x y u k h
level_kept types (level.Int width) w x y u k h = h
level_kept types (level.Ptr t) w x y u k h = h
level_kept types level.Void w x y u k h = h

module _ (ps : Pairing) where
  entered_kept : (types : List NamedTy) (t : Ty) (i j : GivenIndex) (u : Ty) → AreIndicesRelated ps i j
      → entered types t (told_index i) ≡ Some u → entered types t (told_index j) ≡ Some u
  entered_kept types t i j u r h =
      ap (λ w. entered types t (record { ty = Int w; number = as_number j.1 })) r.0
      ∙ level_kept types (out-Ty t) i.0 (as_number i.1) (as_number j.1) u (number_kept ps i.1 j.1 r.1) h

  -- where the source's indices lead somewhere, so do the target's
  inside_kept : (types : List NamedTy) (t : Ty) (is js : List GivenIndex) (ds : List ℤ) → AllZip (AreIndicesRelated ps) is js
      → distances_inside types t is ≡ Some ds → (es : List ℤ) × (distances_inside types t js ≡ Some es)
  inside_kept types t [] [] ds r h = ([], refl)
  inside_kept types t [] (j ∷ js) ds r h = absurd r
  inside_kept types t (i ∷ is) [] ds r h = absurd r
  inside_kept types t (i ∷ is) (j ∷ js) ds r h = at (λ u es e. inside_kept types u is js es r.1 e) (entered types t (told_index i)) refl h
    where
      further : ((u : Ty) (es : List ℤ) → distances_inside types u is ≡ Some es → (fs : List ℤ) × (distances_inside types u js ≡ Some fs)) → (u : Ty) (o : Option (List ℤ)) → distances_inside types u is ≡ o → option_map (λ es. distance types t i ∷ es) o ≡ Some ds
          → (fs : List ℤ) × (distances_inside types u js ≡ Some fs)
      further rest u None e h = cc
      further rest u (Some es) e h = rest u es e

      at : ((u : Ty) (es : List ℤ) → distances_inside types u is ≡ Some es → (fs : List ℤ) × (distances_inside types u js ≡ Some fs)) → (o : Option Ty) → entered types t (told_index i) ≡ o → option_and_then (λ u. option_map (λ es. distance types t i ∷ es) (distances_inside types u is)) o ≡ Some ds
          → (fs : List ℤ) × (distances_inside types t (j ∷ js) ≡ Some fs)
      at rest None e h = cc
      at rest (Some u) e h =
          let found = further rest u (distances_inside types u is) refl h in (
            distance types t j ∷ found.0,
            ap (option_and_then (λ u. option_map (λ es. distance types t j ∷ es) (distances_inside types u js))) (entered_kept types t i j u r.0 e)
                ∙ ap (option_map (λ es. distance types t j ∷ es)) found.1,
          )

  distances_kept : (types : List NamedTy) (of : Ty) (is js : List GivenIndex) (ds : List ℤ) → AllZip (AreIndicesRelated ps) is js
      → distances types of is ≡ Some ds → (es : List ℤ) × (distances types of js ≡ Some es)
  distances_kept types of [] [] ds r h = ([], refl)
  distances_kept types of [] (j ∷ js) ds r h = absurd r
  distances_kept types of (i ∷ is) [] ds r h = absurd r
  distances_kept types of (i ∷ is) (j ∷ js) ds r h = at (distances_inside types of is) refl h
    where
      at : (o : Option (List ℤ)) → distances_inside types of is ≡ o → option_map (λ es. over types of i ∷ es) o ≡ Some ds
          → (es : List ℤ) × (distances types of (j ∷ js) ≡ Some es)
      at None e h = cc
      at (Some es) e h =
          let rest = inside_kept types of is js es r.1 e in
          (over types of j ∷ rest.0, ap (option_map (λ es. over types of j ∷ es)) rest.1)

  -- and they enter the same types
  along_kept : (types : List NamedTy) (t : Ty) (is js : List GivenIndex) (ds : List ℤ) → AllZip (AreIndicesRelated ps) is js
      → distances_inside types t is ≡ Some ds → entered_along types t (map told_index js) ≡ entered_along types t (map told_index is)
  along_kept types t [] [] ds r h = refl
  along_kept types t [] (j ∷ js) ds r h = absurd r
  along_kept types t (i ∷ is) [] ds r h = absurd r
  along_kept types t (i ∷ is) (j ∷ js) ds r h = at (λ u es e. along_kept types u is js es r.1 e) (entered types t (told_index i)) refl h
    where
      further : (u : Ty) → ((es : List ℤ) → distances_inside types u is ≡ Some es → entered_along types u (map told_index js) ≡ entered_along types u (map told_index is)) → (o : Option (List ℤ))
          → distances_inside types u is ≡ o → option_map (λ es. distance types t i ∷ es) o ≡ Some ds → entered_along types u (map told_index js) ≡ entered_along types u (map told_index is)
      further u rest None e h = cc
      further u rest (Some es) e h = rest es e

      at : ((u : Ty) (es : List ℤ) → distances_inside types u is ≡ Some es → entered_along types u (map told_index js) ≡ entered_along types u (map told_index is)) → (o : Option Ty) → entered types t (told_index i) ≡ o
          → option_and_then (λ u. option_map (λ es. distance types t i ∷ es) (distances_inside types u is)) o ≡ Some ds
          → entered_behind (λ u. entered_along types u (map told_index js)) (entered types t (told_index j)) ≡ entered_behind (λ u. entered_along types u (map told_index is)) (entered types t (told_index i))
      at rest None e h = cc
      at rest (Some u) e h =
          ap (entered_behind (λ v. entered_along types v (map told_index js))) (entered_kept types t i j u r.0 e)
          ∙ ap (λ ts. u ∷ ts) (further u (rest u) (distances_inside types u is) refl h)
          ∙ sym (ap (entered_behind (λ v. entered_along types v (map told_index is))) e)

  small_kept : (types : List NamedTy) (of : Ty) (is js : List GivenIndex) (ds : List ℤ) → AllZip (AreIndicesRelated ps) is js
      → distances types of is ≡ Some ds → are_entered_small types of js ≡ are_entered_small types of is
  small_kept types of [] [] ds r h = refl
  small_kept types of [] (j ∷ js) ds r h = absurd r
  small_kept types of (i ∷ is) [] ds r h = absurd r
  small_kept types of (i ∷ is) (j ∷ js) ds r h = at (distances_inside types of is) refl h
    where
      at : (o : Option (List ℤ)) → distances_inside types of is ≡ o → option_map (λ es. over types of i ∷ es) o ≡ Some ds → are_entered_small types of (j ∷ js) ≡ are_entered_small types of (i ∷ is)
      at None e h = cc
      at (Some es) e h = ap (λ ts. list_all (is_small types) (of ∷ ts)) (along_kept types of is js es r.1 e)

  -- numbers are the same on both sides
  one_same : (w x : ℕ) (v u : Value) → x ≡ w → IsRelated ps v u → is_some (as_number v) ≡ true → ◌≡◌ {A = GivenIndex} (x, u) (w, v)
  one_same w x (Num n) u e r h = cc (e, r)
  one_same w x (Ptr b o) u e r h = cc
  one_same w x (Bare n) u e r h = cc
  one_same w x Undef u e r h = cc
  one_same w x Poison u e r h = cc

  all_same : (is js : List GivenIndex) → AllZip (AreIndicesRelated ps) is js → list_all (λ i. is_some (as_number i.1)) is ≡ true → js ≡ is
  all_same [] [] r h = refl
  all_same [] (j ∷ js) r h = absurd r
  all_same (i ∷ is) [] r h = absurd r
  all_same (i ∷ is) (j ∷ js) r h =
      let first : j ≡ i = one_same i.0 j.0 i.1 j.1 r.0.0 r.0.1 (left_true (is_some (as_number i.1)) (list_all (λ i. is_some (as_number i.1)) is) h) in
      let rest = all_same is js r.1 (right_true (is_some (as_number i.1)) (list_all (λ i. is_some (as_number i.1)) is) h) in
      cc (first, rest)

  any_kept : (is js : List GivenIndex) → AllZip (AreIndicesRelated ps) is js → list_any (λ i. is_poison i.1) js ≡ true → list_any (λ i. is_poison i.1) is ≡ true
  any_kept [] [] r h = h
  any_kept [] (j ∷ js) r h = absurd r
  any_kept (i ∷ is) [] r h = absurd r
  any_kept (i ∷ is) (j ∷ js) r h =
      or_kept (is_poison j.1) (list_any (λ i. is_poison i.1) js) (is_poison i.1) (list_any (λ i. is_poison i.1) is)
      (poison_kept ps i.1 j.1 r.0.1) (any_kept is js r.1) h

  -- ---- where they lead

  undef_below : (many few : Bool) → (few ≡ true → many ≡ true) → (b : Value) (n : ℕ) (ds : List ℤ) → IsRelated ps (undef_inside many) (moved_address few b n ds)
  undef_below true few h b n ds = tt
  undef_below false true h b n ds = cc (h refl)
  undef_below false false h (Ptr x o) n ds = tt
  undef_below false false h (Bare a) n ds = tt
  undef_below false false h (Num k) n ds = tt
  undef_below false false h Undef n ds = tt
  undef_below false false h Poison n ds = tt

  and_first_kept : (few many c : Bool) → (few ≡ true → many ≡ true) → (few && c) ≡ true → (many && c) ≡ true
  and_first_kept true many c h k = rw (h refl) k
  and_first_kept false many c h k = cc

  moved_related : (many few : Bool) → (few ≡ true → many ≡ true) → (a b : Value) (m n : ℕ) (ds : List ℤ) → IsRelated ps a b → IsOneSize a m n
      → IsRelated ps (moved_address many a m ds) (moved_address few b n ds)
  moved_related many few h (Ptr x o) b m n ds r size =
      rw (r.2, size) (cond_poison ps (many && leaves m o ds) (few && leaves m o ds) (Ptr x (wrapped (moved_by o ds))) (Ptr r.0 (wrapped (moved_by o ds)))
      (and_first_kept few many (leaves m o ds) h) (r.0, r.1, refl))
  moved_related many few h (Bare a) b m n ds r size =
      rw r (cond_poison ps many few (Bare (modulo 64 (moved_by (pos a) ds))) (Bare (modulo 64 (moved_by (pos a) ds))) h refl)
  moved_related many few h (Num k) b m n ds r size = undef_below many few h b n ds
  moved_related many few h Undef b m n ds r size = undef_below many few h b n ds
  moved_related many few h Poison b m n ds r size = undef_below many few h b n ds

  undef_related : (many few : Bool) → (few ≡ true → many ≡ true) → IsRelated ps (undef_inside many) (undef_inside few)
  undef_related true few h = tt
  undef_related false true h = cc (h refl)
  undef_related false false h = tt

  led_related : (many few : Bool) → (few ≡ true → many ≡ true) → (types : List NamedTy) (of : Ty) (a b : Value) (m n : ℕ) (is js : List GivenIndex)
      → IsRelated ps a b → IsOneSize a m n → AllZip (AreIndicesRelated ps) is js
      → IsRelated ps (led_address many a m is (distances types of is)) (led_address few b n js (distances types of js))
  led_related many few h types of a b m n is js r size indices = at (distances types of is) refl (list_all (λ i. is_some (as_number i.1)) is) refl
    where
      at : (o : Option (List ℤ)) → distances types of is ≡ o → (t : Bool) → list_all (λ i. is_some (as_number i.1)) is ≡ t
          → IsRelated ps (led_address many a m is o) (led_address few b n js (distances types of js))
      at None e t f = tt
      at (Some ds) e true f =
          subst (λ ks. IsRelated ps (led_address many a m is (Some ds)) (led_address few b n ks (distances types of ks))) (sym (all_same is js indices f))
          (rw (e, f) (moved_related many few h a b m n ds r size))
      at (Some ds) e false f =
          let there = distances_kept types of is js ds indices e in
          rw (f, there.1) (below_both ps (list_all (λ i. is_some (as_number i.1)) js) (undef_inside many) (moved_address few b n there.0) (undef_inside few)
          (undef_below many few h b n there.0) (undef_related many few h))

  -- and where the source's types are small, so are the target's
  small_related : (many few : Bool) → (few ≡ true → many ≡ true) → (types : List NamedTy) (of : Ty) (a b : Value) (m n : ℕ) (is js : List GivenIndex)
      → IsRelated ps a b → IsOneSize a m n → AllZip (AreIndicesRelated ps) is js
      → IsRelated ps (cond (are_entered_small types of is) (led_address many a m is (distances types of is)) Poison)
      (cond (are_entered_small types of js) (led_address few b n js (distances types of js)) Poison)
  small_related many few h types of a b m n is js r size indices = at (are_entered_small types of is) refl (distances types of is) refl
    where
      led : Value
      led = led_address few b n js (distances types of js)

      at : (s : Bool) → are_entered_small types of is ≡ s → (o : Option (List ℤ)) → distances types of is ≡ o
          → IsRelated ps (cond s (led_address many a m is o) Poison) (cond (are_entered_small types of js) led Poison)
      at false e o f = tt
      at true e None f = tt
      at true e (Some ds) f =
          subst (λ o. IsRelated ps (led_address many a m is o) (cond (are_entered_small types of js) led Poison)) f
          (subst (λ s. IsRelated ps (led_address many a m is (distances types of is)) (cond s led Poison)) (sym (small_kept types of is js ds indices f ∙ e))
          (led_related many few h types of a b m n is js r size indices))

pub gep_related : AddressesKeepRelated
gep_related ps many few h types of a b m n is js r size indices =
    cond_poison ps (is_poison a || list_any (λ i. is_poison i.1) is) (is_poison b || list_any (λ i. is_poison i.1) js)
    (cond (are_entered_small types of is) (led_address many a m is (distances types of is)) Poison)
    (cond (are_entered_small types of js) (led_address few b n js (distances types of js)) Poison)
    (or_kept (is_poison b) (list_any (λ i. is_poison i.1) js) (is_poison a) (list_any (λ i. is_poison i.1) is) (poison_kept ps a b r) (any_kept ps is js indices))
    (small_related ps many few h types of a b m n is js r size indices)

-- ---- kinds

undef_inside_in_kind : (inbounds : Bool) → IsInKind kind.Ptr (undef_inside inbounds)
undef_inside_in_kind true = tt
undef_inside_in_kind false = tt

moved_in_kind : (inbounds : Bool) (base : Value) (size : ℕ) (ds : List ℤ) → IsInKind kind.Ptr (moved_address inbounds base size ds)
moved_in_kind inbounds (Ptr b o) size ds =
    choice_in_kind kind.Ptr (inbounds && leaves size o ds) Poison (Ptr b (wrapped (moved_by o ds))) tt (wrapped_fits (moved_by o ds))
moved_in_kind inbounds (Bare a) size ds =
    choice_in_kind kind.Ptr inbounds Poison (Bare (modulo 64 (moved_by (pos a) ds))) tt (modulo_below 64 (moved_by (pos a) ds))
moved_in_kind inbounds (Num n) size ds = undef_inside_in_kind inbounds
moved_in_kind inbounds Undef size ds = undef_inside_in_kind inbounds
moved_in_kind inbounds Poison size ds = undef_inside_in_kind inbounds

led_in_kind : (inbounds : Bool) (base : Value) (size : ℕ) (is : List GivenIndex) (o : Option (List ℤ)) → IsInKind kind.Ptr (led_address inbounds base size is o)
led_in_kind inbounds base size is None = tt
led_in_kind inbounds base size is (Some ds) =
    choice_in_kind kind.Ptr (list_all (λ i. is_some (as_number i.1)) is) (moved_address inbounds base size ds) (undef_inside inbounds)
    (moved_in_kind inbounds base size ds) (undef_inside_in_kind inbounds)

pub gep_in_kind : AddressesStayInKind
gep_in_kind inbounds types of base size is =
    let led = led_address inbounds base size is (distances types of is) in
    choice_in_kind kind.Ptr (is_poison base || list_any (λ i. is_poison i.1) is) Poison (cond (are_entered_small types of is) led Poison) tt
    (choice_in_kind kind.Ptr (are_entered_small types of is) led Poison (led_in_kind inbounds base size is (distances types of is)) tt)

-- ---- the index 0

nowhere : (o : ℤ) (size width : ℕ) → o +ℤ (pos size *ℤ signed width 0) ≡ o
nowhere o size width =
    let none : signed width 0 ≡ pos 0 = signed_low width 0 (pow_pos (width - 1)) in
    let product : size * 0 ≡ 0 = omega arith in
    ap (λ z. o +ℤ (pos size *ℤ z)) none ∙ ap (λ n. o +ℤ pos n) product ∙ omega (arith, ints)

less_than_kept : (t : Bool) (v w : Value) → v ≡ w → IsLessDefined (cond t Poison v) w
less_than_kept true v w e = tt
less_than_kept false v w e = rw e (less_defined_refl w)

abbrev led_by_zero : Bool → List NamedTy → Ty → Value → ℕ → ℕ → Value
led_by_zero inbounds types of base size width = led_address inbounds base size ((width, Num 0) ∷ []) (distances types of ((width, Num 0) ∷ []))

pub zero_keeps : ZeroKeepsAddresses
zero_keeps = record {
  kept = kept;
  less = less;
}
  where
    pointer_kept : (types : List NamedTy) (of : Ty) (b width : ℕ) (o : ℤ) → IsInKind kind.Ptr (Ptr b o) → Ptr b (wrapped (o +ℤ (pos (size_of types of) *ℤ signed width 0))) ≡ Ptr b o
    pointer_kept types of b width o h = ap (λ z. Ptr b z) (ap wrapped (nowhere o (size_of types of) width) ∙ wrapped_same o h)

    bare_kept : (types : List NamedTy) (of : Ty) (a width : ℕ) → IsInKind kind.Ptr (Bare a) → Bare (modulo 64 (pos a +ℤ (pos (size_of types of) *ℤ signed width 0))) ≡ Bare a
    bare_kept types of a width h = ap Bare (ap (modulo 64) (nowhere (pos a) (size_of types of) width) ∙ modulo_same a h)

    led_kept : (types : List NamedTy) (of : Ty) (base : Value) (size width : ℕ) → IsInKind kind.Ptr base → is_poison base ≡ false → led_by_zero false types of base size width ≡ base
    led_kept types of (Ptr b o) size width h p = pointer_kept types of b width o h
    led_kept types of (Bare a) size width h p = bare_kept types of a width h
    led_kept types of (Num n) size width h p = absurd h
    led_kept types of Undef size width h p = refl
    led_kept types of Poison size width h p = cc

    kept_unless : (s : Bool) (types : List NamedTy) (of : Ty) (base : Value) (size width : ℕ) → s ≡ true → IsInKind kind.Ptr base → (p : Bool) → is_poison base ≡ p
        → cond (p || false) Poison (cond s (led_by_zero false types of base size width) Poison) ≡ base
    kept_unless s types of Poison size width e h true f = refl
    kept_unless s types of Undef size width e h true f = cc
    kept_unless s types of (Num n) size width e h true f = cc
    kept_unless s types of (Ptr b o) size width e h true f = cc
    kept_unless s types of (Bare a) size width e h true f = cc
    kept_unless s types of base size width e h false f = ap (λ t. cond t (led_by_zero false types of base size width) Poison) e ∙ led_kept types of base size width h f

    kept : (types : List NamedTy) (of : Ty) (base : Value) (size width : ℕ) → is_small types of ≡ true → IsInKind kind.Ptr base
        → gep_outcome false types of base size ((width, Num 0) ∷ []) ≡ Gives base
    kept types of base size width small h = ap Gives (kept_unless (are_entered_small types of ((width, Num 0) ∷ [])) types of base size width (all_true small refl) h (is_poison base) refl)

    led_less : (inbounds : Bool) (types : List NamedTy) (of : Ty) (base : Value) (size width : ℕ) → IsInKind kind.Ptr base → is_poison base ≡ false → IsLessDefined (led_by_zero inbounds types of base size width) base
    led_less false types of base size width h p = subst (λ v. IsLessDefined v base) (sym (led_kept types of base size width h p)) (less_defined_refl base)
    led_less true types of (Ptr b o) size width h p =
        less_than_kept (leaves size o (over types of (width, Num 0) ∷ [])) (Ptr b (wrapped (o +ℤ (pos (size_of types of) *ℤ signed width 0)))) (Ptr b o) (pointer_kept types of b width o h)
    led_less true types of (Bare a) size width h p = tt
    led_less true types of (Num n) size width h p = absurd h
    led_less true types of Undef size width h p = tt
    led_less true types of Poison size width h p = tt

    less_unless : (p s : Bool) (v w : Value) → (p ≡ false → IsLessDefined v w) → IsLessDefined (cond (p || false) Poison (cond s v Poison)) w
    less_unless true s v w h = tt
    less_unless false true v w h = h refl
    less_unless false false v w h = tt

    less : (inbounds : Bool) (types : List NamedTy) (of : Ty) (base : Value) (size width : ℕ) → IsInKind kind.Ptr base
        → IsOutcomeLessDefined (gep_outcome inbounds types of base size ((width, Num 0) ∷ [])) (Gives base)
    less inbounds types of base size width h =
        less_unless (is_poison base) (are_entered_small types of ((width, Num 0) ∷ [])) (led_by_zero inbounds types of base size width) base (led_less inbounds types of base size width h)

-- ---- types

some_mapped : {A B : Type 0} (f : A → B) (o : Option A) → is_some (option_map f o) ≡ is_some o
some_mapped f None = refl
some_mapped f (Some x) = refl

pub inside_follows : (types : List NamedTy) (t : Ty) (is : List GivenIndex) → is_some (distances_inside types t is) ≡ is_some (led_to types t (map told_index is))
inside_follows types t [] = refl
inside_follows types t (i ∷ is) = at (λ u. inside_follows types u is) (entered types t (told_index i))
  where
    at : ((u : Ty) → is_some (distances_inside types u is) ≡ is_some (led_to types u (map told_index is))) → (o : Option Ty)
        → is_some (option_and_then (λ u. option_map (λ es. distance types t i ∷ es) (distances_inside types u is)) o)
        ≡ is_some (option_and_then (λ u. led_to types u (map told_index is)) o)
    at rest None = refl
    at rest (Some u) = some_mapped (λ es. distance types t i ∷ es) (distances_inside types u is) ∙ rest u

pub distances_follow : AddressesFollowTypes
distances_follow types of [] = refl
distances_follow types of (i ∷ is) =
    some_mapped (λ es. over types of i ∷ es) (distances_inside types of is) ∙ inside_follows types of is ∙ sym (some_mapped address_of (led_to types of (map told_index is)))
