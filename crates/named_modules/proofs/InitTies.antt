-- An initialiser is at fault at a type exactly where it is none of that type.
use Rattle.std.proofs.Common.{◌≡◌, ◌∙◌, ℕ, suc, ◌-◌, Bool, true, false, ◌&&◌, List, [], ◌∷◌, ◌++◌, length, map, Option, Some, None, refl, sym, ap, arith}
use Rattle.std.specs.Prelude.{nat_eq}
use Rattle.std.specs.List.{flat_map, list_all}
use Rattle.std.proofs.lemmas.Bool.{and_from, and_parts, eq-eqb, eqb-true}
use Rattle.std.specs.Cmp.{both_ways}
use Rattle.std.proofs.lemmas.List.{length-map}
use Rattle.ir_core.specs.declared.modules.Module.{Module}
use Rattle.ir_core.specs.Typing.{are_parts, is_bytes, parts_of_array, parts_of_struct}
use Rattle.ir_types.specs.declared.ty.Ty.{Ty, out-Ty}
use Rattle.ir_types.specs.Same.{same_list, same_ty}
use Rattle.name_claims.specs.declared.claims.Fault.{Fault}
use Rattle.name_claims.specs.declared.claims.Reason.TheVariants as reason
use Rattle.module_grammar.specs.declared.constants.ConstText.{ConstText}
use Rattle.module_grammar.specs.declared.constants.InitText.{InitText, Const, Zero, Bytes, Array, Struct}
use Rattle.module_grammar.specs.declared.places.Placed.{Placed}
use Rattle.module_grammar.specs.declared.types.TypeText.{TypeText}
use Rattle.module_grammar.proofs.InitFolds.{EachOf, by_parts}
use Rattle.named_modules.specs.Constants.{are_types, fits_at_level, fitting_part, init_fits}
use Rattle.named_modules.specs.Faults.{field_faults, fields_faults, first_of, from, further_faults, heads_of, init_at_level, init_faults, list_faults, type_faults, unless}
use Rattle.named_modules.specs.Types.{is_type, type_of}
use Rattle.named_modules.proofs.ConstKinds as kind
use Rattle.named_modules.proofs.ConstKinds.{told_each}
use Rattle.named_modules.proofs.ConstTies.{start_ties}
use Rattle.named_modules.proofs.Ties.{Ties, both, fits, never, none, seen, three, through}
use Rattle.named_modules.proofs.TypeTies.{type_ties}

-- what is at fault in one more part, behind the number of the parts
beside : {P Q : Type 0} (us ones bs : List Fault) → Ties ones P → Ties (us ++ bs) Q → Ties (us ++ (ones ++ bs)) (P × Q)
beside [] ones bs s t = both ones bs s t
beside (u ∷ us) ones bs s t = record { to = λ e. cc; back = λ h. let e = t.back h.1 in cc }

abbrev same_length : {A B : Type 0} → List A → List B → Bool
same_length [] [] = true
same_length [] (y ∷ ys) = false
same_length (x ∷ xs) [] = false
same_length (x ∷ xs) (y ∷ ys) = same_length xs ys

to_length : {A B : Type 0} (xs : List A) (ys : List B) → same_length xs ys ≡ true → length xs ≡ length ys
to_length [] [] e = refl
to_length [] (y ∷ ys) e = cc
to_length (x ∷ xs) [] e = cc
to_length (x ∷ xs) (y ∷ ys) e = ap (λ n. suc n) (to_length xs ys e)

of_length : {A B : Type 0} (xs : List A) (ys : List B) → length xs ≡ length ys → same_length xs ys ≡ true
of_length [] [] e = refl
of_length [] (y ∷ ys) e = absurd (omega (arith, e))
of_length (x ∷ xs) [] e = absurd (omega (arith, e))
of_length (x ∷ xs) (y ∷ ys) e = of_length xs ys (omega (arith, e))

counts_are : {A B : Type 0} (xs : List A) (ys : List B) → nat_eq (length xs) (length ys) ≡ same_length xs ys
counts_are xs ys =
    both_ways (nat_eq (length xs) (length ys)) (same_length xs ys) (λ h. of_length xs ys (eqb-true (length xs) (length ys) h)) (λ h. eq-eqb (length xs) (length ys) (to_length xs ys h))

module _ (m : Module) where
  abbrev IsTied : InitText → Type 0
  IsTied i = (ty : Ty) → Ties (init_faults (heads_of m) i ty) (init_fits m i ty ≡ true)

  formed : (i : InitText) (fs : Ty → List Fault) (fit : Ty → Bool) → init_faults (heads_of m) i ≡ fs → init_fits m i ≡ fit → ((ty : Ty) → Ties (fs ty) (fit ty ≡ true)) → IsTied i
  formed i fs fit e f t ty =
      let same : init_fits m i ty ≡ fit ty = ap (λ (g : Ty → Bool). g ty) f in
      through (init_faults (heads_of m) i ty) (seen (init_faults (heads_of m) i ty) (fs ty) (ap (λ (g : Ty → List Fault). g ty) e) (t ty)) (λ h. same ∙ h) (λ h. sym same ∙ h)

  abbrev Fits : Type 0
  Fits = List (TypeText × (Ty → Bool))

  abbrev are_of : List Ty → Fits → Bool
  are_of ts ps = are_types m ps && (same_list same_ty ts (map (λ p. p.0) (map fitting_part ps)) && list_all (λ p. p.1 p.0) (map fitting_part ps))

  field_ties : (due : Ty) (w : TypeText) (i : InitText) → IsTied i → Ties (field_faults (heads_of m) due (w, init_faults (heads_of m) i)) ((is_type m w && same_ty due (type_of w) && init_fits m i (type_of w)) ≡ true)
  field_ties due w i law =
      let f = from (first_of w) 1 reason.WrongType in
      let is = same_ty due (type_of w) in
      three (type_faults (heads_of m) w) (unless is f) (init_faults (heads_of m) i (type_of w)) (is_type m w) is (init_fits m i (type_of w)) (type_ties m w) (fits is f) (law (type_of w))

  fields_ties : (f : Fault) (ts : List Ty) (is : List (TypeText × InitText)) → EachOf IsTied is → Ties (unless (same_length ts (told_each (init_faults (heads_of m)) is)) f ++ fields_faults (heads_of m) ts (told_each (init_faults (heads_of m)) is)) (are_of ts (told_each (init_fits m) is) ≡ true)
  fields_ties f [] [] laws = none refl
  fields_ties f [] (i ∷ is) laws =
      let types = are_types m (told_each (init_fits m) (i ∷ is)) in
      never f (fields_faults (heads_of m) [] (told_each (init_faults (heads_of m)) (i ∷ is)))
      (λ h. let e = (and_parts types false h).1 in cc)
  fields_ties f (t ∷ ts) [] laws = never f [] (λ e. cc)
  fields_ties f (t ∷ ts) (i ∷ is) laws =
      let one = unless (same_length ts (told_each (init_faults (heads_of m)) is)) f in
      let here = field_faults (heads_of m) t (i.0, init_faults (heads_of m) i.1) in
      let more = fields_faults (heads_of m) ts (told_each (init_faults (heads_of m)) is) in
      let known = is_type m i.0 in
      let same = same_ty t (type_of i.0) in
      let fit = init_fits m i.1 (type_of i.0) in
      let all_known = are_types m (told_each (init_fits m) is) in
      let all_same = same_list same_ty ts (map (λ p. p.0) (map fitting_part (told_each (init_fits m) is))) in
      let all_fit = list_all (λ p. p.1 p.0) (map fitting_part (told_each (init_fits m) is)) in
      through (one ++ (here ++ more)) (beside one here more (field_ties t i.0 i.1 laws.0) (fields_ties f ts is laws.1))
      (λ h. let outer = and_parts (known && same) fit h.0 in
      let inner = and_parts known same outer.0 in
      let rest = and_parts all_known (all_same && all_fit) h.1 in
      let last = and_parts all_same all_fit rest.1 in
      and_from (known && all_known) ((same && all_same) && (fit && all_fit)) (and_from known all_known inner.0 rest.0)
      (and_from (same && all_same) (fit && all_fit) (and_from same all_same inner.1 last.0) (and_from fit all_fit outer.1 last.1)))
      (λ h. let outer = and_parts (known && all_known) ((same && all_same) && (fit && all_fit)) h in
      let types = and_parts known all_known outer.0 in
      let inner = and_parts (same && all_same) (fit && all_fit) outer.1 in
      let sames = and_parts same all_same inner.0 in
      let fitted = and_parts fit all_fit inner.1 in (
        and_from (known && same) fit (and_from known same types.0 sames.0) fitted.0,
        and_from all_known (all_same && all_fit) types.1 (and_from all_same all_fit sames.1 fitted.1),
      ))

  list_ties : (start : ℕ) (o : Option (List Ty)) (is : List (TypeText × InitText)) → EachOf IsTied is → Ties (list_faults (heads_of m) start o (told_each (init_faults (heads_of m)) is)) ((are_types m (told_each (init_fits m) is) && are_parts o (map fitting_part (told_each (init_fits m) is))) ≡ true)
  list_ties start None is laws =
      never (from start 1 reason.WrongType) (flat_map (further_faults (heads_of m)) (told_each (init_faults (heads_of m)) is))
      (λ h. let e = (and_parts (are_types m (told_each (init_fits m) is)) false h).1 in cc)
  list_ties start (Some ts) is laws =
      let f = from start 1 reason.WrongType in
      let parts = told_each (init_faults (heads_of m)) is in
      let all : Bool → List Fault = λ b. unless b f ++ fields_faults (heads_of m) ts parts in
      seen (all (nat_eq (length ts) (length parts))) (all (same_length ts parts)) (ap all (counts_are ts parts)) (fields_ties f ts is laws)

  at_const : (c : ConstText) → IsTied (Const c)
  at_const c =
      formed (Const c) (init_at_level (heads_of m) (kind.const_level c)) (fits_at_level m (kind.const_level c)) (kind.at_const (Ty → List Fault) (init_at_level (heads_of m)) c) (kind.at_const (Ty → Bool) (fits_at_level m) c)
      (λ ty. start_ties m ty c)

  at_zero : IsTied Zero
  at_zero = formed Zero (λ t. []) (λ t. true) (kind.at_zero (Ty → List Fault) (init_at_level (heads_of m))) (kind.at_zero (Ty → Bool) (fits_at_level m)) (λ ty. none refl)

  at_bytes : (bytes : Placed (List ℕ)) → IsTied (Bytes bytes)
  at_bytes bytes =
      formed (Bytes bytes) (init_at_level (heads_of m) (kind.bytes_level bytes)) (fits_at_level m (kind.bytes_level bytes)) (kind.at_bytes (Ty → List Fault) (init_at_level (heads_of m)) bytes) (kind.at_bytes (Ty → Bool) (fits_at_level m) bytes)
      (λ ty. bytes_ties bytes ty)
    where
      bytes_ties : (bytes : Placed (List ℕ)) (ty : Ty) → Ties (init_at_level (heads_of m) (kind.bytes_level bytes) ty) (fits_at_level m (kind.bytes_level bytes) ty ≡ true)
      bytes_ties bytes ty = fits (is_bytes (length bytes.what) (out-Ty ty)) (from (bytes.start - 1) 1 reason.WrongType)

  at_array : (start : ℕ) (is : List (TypeText × InitText)) → EachOf IsTied is → IsTied (Array start is)
  at_array start is laws =
      let fault = init_at_level (heads_of m) (kind.array_level start (told_each (init_faults (heads_of m)) is)) in
      let fit = fits_at_level m (kind.array_level start (told_each (init_fits m) is)) in
      formed (Array start is) fault fit (kind.at_array (Ty → List Fault) (init_at_level (heads_of m)) start is) (kind.at_array (Ty → Bool) (fits_at_level m) start is) tied
    where
      counts : length (told_each (init_faults (heads_of m)) is) ≡ length (told_each (init_fits m) is)
      counts = length-map is (λ c. (c.0, init_faults (heads_of m) c.1)) ∙ sym (length-map is (λ c. (c.0, init_fits m c.1)))

      tied : (ty : Ty) → Ties (list_faults (heads_of m) start (parts_of_array m.types (out-Ty ty) (length (told_each (init_faults (heads_of m)) is))) (told_each (init_faults (heads_of m)) is)) ((are_types m (told_each (init_fits m) is) && are_parts (parts_of_array m.types (out-Ty ty) (length (told_each (init_fits m) is))) (map fitting_part (told_each (init_fits m) is))) ≡ true)
      tied ty =
          let at_count : ℕ → List Fault = λ n. list_faults (heads_of m) start (parts_of_array m.types (out-Ty ty) n) (told_each (init_faults (heads_of m)) is) in
          seen (at_count (length (told_each (init_faults (heads_of m)) is))) (at_count (length (told_each (init_fits m) is))) (ap at_count counts)
          (list_ties start (parts_of_array m.types (out-Ty ty) (length (told_each (init_fits m) is))) is laws)

  at_struct : (start : ℕ) (is : List (TypeText × InitText)) → EachOf IsTied is → IsTied (Struct start is)
  at_struct start is laws =
      let fault = init_at_level (heads_of m) (kind.struct_level start (told_each (init_faults (heads_of m)) is)) in
      let fit = fits_at_level m (kind.struct_level start (told_each (init_fits m) is)) in
      formed (Struct start is) fault fit (kind.at_struct (Ty → List Fault) (init_at_level (heads_of m)) start is) (kind.at_struct (Ty → Bool) (fits_at_level m) start is)
      (λ ty. list_ties start (parts_of_struct m.types (out-Ty ty)) is laws)

  pub init_ties : (i : InitText) → IsTied i
  init_ties = by_parts IsTied at_const at_zero at_bytes at_array at_struct
