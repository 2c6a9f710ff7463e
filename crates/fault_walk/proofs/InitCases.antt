-- What is told of each kind of initialiser.
use Rattle.std.proofs.Common.{◌≡◌, ◌∙◌, ℕ, zero, suc, Bool, true, false, cond, List, [], ◌∷◌, ◌++◌, length, replicate, Option, None, Some, refl, sym, ap, rules}
use Rattle.std.proofs.lemmas.List.Folds.{flat_map-map}
use Rattle.std.specs.List.{flat_map}
use Rattle.std.specs.Option.{option_map}
use Rattle.std.specs.Prelude.{nat_eq}
use Rattle.ir_core.specs.Typing.{parts_of_array, parts_of_struct}
use Rattle.ir_types.specs.declared.ty.Ty.{Ty, out-Ty}
use Rattle.ir_types.specs.declared.ty.Ty.TheOpen.{Ty-F}
use Rattle.ir_types.specs.declared.ty.Ty.TheOpen as layer
use Rattle.module_grammar.specs.declared.constants.ConstText.{ConstText}
use Rattle.module_grammar.specs.declared.constants.InitText.{InitText, Const, Zero, Bytes, Array, Struct}
use Rattle.module_grammar.specs.declared.places.Placed.{Placed}
use Rattle.module_grammar.specs.declared.types.TypeText.{TypeText}
use Rattle.module_spelling.specs.Blocks as blocks
use Rattle.module_spelling.specs.Blocks.{Wanted, wanted_by_const, wanted_by_init}
use Rattle.name_claims.specs.declared.claims.Fault.{Fault}
use Rattle.name_claims.specs.declared.claims.Reason.TheVariants as reason
use Rattle.named_modules.specs.Faults as faults
use Rattle.named_modules.specs.Faults.{Heads, const_faults, fields_faults, first_of, from, further_faults, init_at_level, init_faults, type_faults, unless}
use Rattle.named_modules.specs.Types.{type_of}
use Rattle.named_modules.proofs.ConstKinds as kind
use Rattle.named_modules.proofs.ConstKinds.{told_each}
use Rattle.fault_walk.specs.Dues.{Each', Fields', Due, array_dues, bytes_faults, first_due, further_dues, is_due, list_faults, part_faults, rest_faults, struct_dues, wanted_by_part}
use Rattle.fault_walk.specs.Told.{faults_more, noted, told_more}
use Rattle.fault_walk.specs.declared.told.Told.{Told}
use Rattle.fault_walk.proofs.Joined.{noted_joined, told_joined}

abbrev Parts : Type 0
Parts = List (TypeText × InitText)

abbrev Faults : Type 0
Faults = Ty → List Fault

length_replicated : (n : ℕ) (t : Ty) → length (replicate n t) ≡ n
length_replicated zero t = refl
length_replicated (suc n) t = ap suc (length_replicated n t)

same_count : (n : ℕ) → nat_eq n n ≡ true
same_count n = search rules

module _ (h : Heads) where
  abbrev init_parts : Parts → List (TypeText × Faults)
  init_parts = told_each (init_faults h)

  as_long : (ps : Parts) → length (init_parts ps) ≡ length ps
  as_long [] = refl
  as_long (p ∷ ps) = ap suc (as_long ps)

  -- ---- parts

  fields_are : (ts : List Ty) (ps : Parts) → fields_faults h ts (init_parts ps) ≡ rest_faults h (Fields' ts) ps
  fields_are [] [] = refl
  fields_are (t ∷ ts) [] = refl
  fields_are [] (p ∷ ps) = ap (λ fs. further_faults h (p.0, init_faults h p.1) ++ fs) (fields_are [] ps)
  fields_are (t ∷ ts) (p ∷ ps) = ap (λ fs. part_faults h (Some t) p ++ fs) (fields_are ts ps)

  further_are : (ps : Parts) → flat_map (further_faults h) (init_parts ps) ≡ rest_faults h (Fields' []) ps
  further_are [] = refl
  further_are (p ∷ ps) = ap (λ fs. further_faults h (p.0, init_faults h p.1) ++ fs) (further_are ps)

  each_are : (t : Ty) (ps : Parts) → fields_faults h (replicate (length ps) t) (init_parts ps) ≡ rest_faults h (Each' t) ps
  each_are t [] = refl
  each_are t (p ∷ ps) = ap (λ fs. part_faults h (Some t) p ++ fs) (each_are t ps)

  parts_wanted : (ps : Parts) → flat_map (λ (p : TypeText × List Wanted). p.1) (told_each (wanted_by_init h) ps) ≡ flat_map (wanted_by_part h) ps
  parts_wanted ps = flat_map-map (λ (p : TypeText × List Wanted). p.1) (λ (p : TypeText × InitText). (p.0, wanted_by_init h p.1)) ps

  -- ---- lists

  nothing_due : (start : ℕ) (ps : Parts) → faults.list_faults h start None (init_parts ps) ≡ list_faults h start None (length ps) ps
  nothing_due start ps = ap (λ fs. from start 1 reason.WrongType ∷ fs) (further_are ps)

  fields_due : (start : ℕ) (ts : List Ty) (ps : Parts) → faults.list_faults h start (Some ts) (init_parts ps) ≡ list_faults h start (Some (Fields' ts)) (length ps) ps
  fields_due start ts ps =
      ap (λ n. unless (nat_eq (length ts) n) (from start 1 reason.WrongType) ++ fields_faults h ts (init_parts ps)) (as_long ps)
      ∙ ap (λ fs. unless (nat_eq (length ts) (length ps)) (from start 1 reason.WrongType) ++ fs) (fields_are ts ps)

  each_due : (start : ℕ) (t : Ty) (ps : Parts)
      → faults.list_faults h start (Some (replicate (length ps) t)) (init_parts ps) ≡ list_faults h start (Some (Each' t)) (length ps) ps
  each_due start t ps =
      ap (λ n. unless (nat_eq n (length (init_parts ps))) (from start 1 reason.WrongType) ++ fields_faults h (replicate (length ps) t) (init_parts ps))
      (length_replicated (length ps) t)
      ∙ ap (λ n. unless (nat_eq (length ps) n) (from start 1 reason.WrongType) ++ fields_faults h (replicate (length ps) t) (init_parts ps)) (as_long ps)
      ∙ ap (λ b. unless b (from start 1 reason.WrongType) ++ fields_faults h (replicate (length ps) t) (init_parts ps)) (same_count (length ps))
      ∙ each_are t ps

  array_list : (start : ℕ) (l : Ty-F Ty) (ps : Parts)
      → faults.list_faults h start (parts_of_array h.types l (length ps)) (init_parts ps) ≡ list_faults h start (array_dues l (length ps)) (length ps) ps
  array_list start (layer.Array count element) ps = by (nat_eq count (length ps))
    where
      by : (b : Bool) → faults.list_faults h start (cond b (Some (replicate (length ps) element)) None) (init_parts ps)
          ≡ list_faults h start (cond b (Some (Each' element)) None) (length ps) ps
      by true = each_due start element ps
      by false = nothing_due start ps
  array_list start (layer.Int width) ps = nothing_due start ps
  array_list start (layer.Ptr t) ps = nothing_due start ps
  array_list start (layer.Struct ts) ps = nothing_due start ps
  array_list start (layer.Named x) ps = nothing_due start ps
  array_list start layer.Void ps = nothing_due start ps

  struct_list : (start : ℕ) (l : Ty-F Ty) (ps : Parts)
      → faults.list_faults h start (parts_of_struct h.types l) (init_parts ps) ≡ list_faults h start (struct_dues h.types l) (length ps) ps
  struct_list start l ps = by (parts_of_struct h.types l)
    where
      by : (o : Option (List Ty)) → faults.list_faults h start o (init_parts ps) ≡ list_faults h start (option_map (λ ts. Fields' ts) o) (length ps) ps
      by None = nothing_due start ps
      by (Some ts) = fields_due start ts ps

  -- ---- each kind

  abbrev both : Ty → Told → Faults → List Wanted → Told
  both t x f ws = told_more h (f t) ws x

  from_both : (t : Ty) (x : Told) (f g : Faults) (vs ws : List Wanted) → f ≡ g → vs ≡ ws → both t x f vs ≡ both t x g ws
  from_both t x f g vs ws p q = ap (λ e. both t x e vs) p ∙ ap (both t x g) q

  pub of_const : (c : ConstText) (t : Ty) (x : Told)
      → told_more h (init_faults h (Const c) t) (wanted_by_init h (Const c)) x ≡ told_more h (const_faults h c t) (wanted_by_const h c) x
  of_const c t x = from_both t x _ _ _ _ (kind.at_const Faults (init_at_level h) c) (kind.at_const (List Wanted) (blocks.init_at_level h) c)

  pub of_zero : (t : Ty) (x : Told) → told_more h (init_faults h Zero t) (wanted_by_init h Zero) x ≡ x
  of_zero t x = from_both t x _ _ _ _ (kind.at_zero Faults (init_at_level h)) (kind.at_zero (List Wanted) (blocks.init_at_level h))

  pub of_bytes : (bytes : Placed (List ℕ)) (t : Ty) (x : Told)
      → told_more h (init_faults h (Bytes bytes) t) (wanted_by_init h (Bytes bytes)) x ≡ told_more h (bytes_faults t bytes) [] x
  of_bytes bytes t x = from_both t x _ _ _ _ (kind.at_bytes Faults (init_at_level h) bytes) (kind.at_bytes (List Wanted) (blocks.init_at_level h) bytes)

  pub of_array : (start : ℕ) (ps : Parts) (t : Ty) (x : Told)
      → told_more h (init_faults h (Array start ps) t) (wanted_by_init h (Array start ps)) x
      ≡ told_more h (list_faults h start (array_dues (out-Ty t) (length ps)) (length ps) ps) (flat_map (wanted_by_part h) ps) x
  of_array start ps t x =
      from_both t x _ _ _ _ (kind.at_array Faults (init_at_level h) start ps) (kind.at_array (List Wanted) (blocks.init_at_level h) start ps ∙ parts_wanted ps)
      ∙ ap (λ n. told_more h (faults.list_faults h start (parts_of_array h.types (out-Ty t) n) (init_parts ps)) (flat_map (wanted_by_part h) ps) x) (as_long ps)
      ∙ ap (λ fs. told_more h fs (flat_map (wanted_by_part h) ps) x) (array_list start (out-Ty t) ps)

  pub of_struct : (start : ℕ) (ps : Parts) (t : Ty) (x : Told)
      → told_more h (init_faults h (Struct start ps) t) (wanted_by_init h (Struct start ps)) x
      ≡ told_more h (list_faults h start (struct_dues h.types (out-Ty t)) (length ps) ps) (flat_map (wanted_by_part h) ps) x
  of_struct start ps t x =
      from_both t x _ _ _ _ (kind.at_struct Faults (init_at_level h) start ps) (kind.at_struct (List Wanted) (blocks.init_at_level h) start ps ∙ parts_wanted ps)
      ∙ ap (λ fs. told_more h fs (flat_map (wanted_by_part h) ps) x) (struct_list start (out-Ty t) ps)

  -- ---- as they are found

  told_is : {a b : Option Fault} {c d : Option ℕ} → a ≡ b → c ≡ d → (let one : Told = record { fault = a; large = c } in one) ≡ record { fault = b; large = d }
  told_is p q = cc

  pub part_found : (w : TypeText) (i j : InitText) (due : Option Ty) (built : Ty) (place : ℕ) (fits : Bool) (fault : Fault) (before one two now : Told)
      → j ≡ i → built ≡ type_of w → place ≡ first_of w → fits ≡ is_due due built → fault ≡ from place 1 reason.WrongType
      → one ≡ told_more h (type_faults h w) [] before → two ≡ faults_more (unless fits fault) one → now ≡ told_more h (init_faults h j built) (wanted_by_init h j) two
      → now ≡ told_more h (part_faults h due (w, i)) (wanted_by_init h i) before
  part_found w i j due built place fits fault before one two now is builds stands fit at_fault first second third =
      let wrong = unless (is_due due (type_of w)) (from (first_of w) 1 reason.WrongType) in
      let own = init_faults h i (type_of w) in
      third ∙ ap (λ (k : InitText). told_more h (init_faults h k built) (wanted_by_init h k) two) is
      ∙ ap (λ (t : Ty). told_more h (init_faults h i t) (wanted_by_init h i) two) builds
      ∙ ap (told_more h own (wanted_by_init h i))
      (second ∙ ap (λ b. faults_more (unless b fault) one) (fit ∙ ap (is_due due) builds)
      ∙ ap (λ f. faults_more (unless (is_due due (type_of w)) f) one) (at_fault ∙ ap (λ (n : ℕ). from n 1 reason.WrongType) stands)
      ∙ ap (faults_more wrong) first)
      ∙ sym (told_is (noted_joined (type_faults h w) (wrong ++ own) before.fault ∙ noted_joined wrong own (noted (type_faults h w) before.fault)) refl)

  -- one part more
  pub rest_more : (d e : Due) (due : Option Ty) (p : TypeText × InitText) (ps qs : Parts) (before now : Told) → qs ≡ p ∷ ps → due ≡ first_due d → e ≡ further_dues d
      → now ≡ told_more h (part_faults h due p) (wanted_by_part h p) before
      → told_more h (rest_faults h e ps) (flat_map (wanted_by_part h) ps) now ≡ told_more h (rest_faults h d qs) (flat_map (wanted_by_part h) qs) before
  rest_more d e due p ps qs before now are is_due_first are_others told =
      ap (λ (x : Due). told_more h (rest_faults h x ps) (flat_map (wanted_by_part h) ps) now) are_others
      ∙ ap (told_more h (rest_faults h (further_dues d) ps) (flat_map (wanted_by_part h) ps))
      (told ∙ ap (λ (o : Option Ty). told_more h (part_faults h o p) (wanted_by_part h p) before) is_due_first)
      ∙ sym (told_joined h (part_faults h (first_due d) p) (rest_faults h (further_dues d) ps) (wanted_by_part h p) (flat_map (wanted_by_part h) ps) before)
      ∙ sym (ap (λ (rs : Parts). told_more h (rest_faults h d rs) (flat_map (wanted_by_part h) rs) before) are)

  pub array_found : (start place count : ℕ) (ps qs : Parts) (t : Ty) (d : Option Due) (before now : Told) → place ≡ start → qs ≡ ps → count ≡ length qs
      → d ≡ array_dues (out-Ty t) count → now ≡ told_more h (list_faults h place d count qs) (flat_map (wanted_by_part h) qs) before
      → now ≡ told_more h (init_faults h (Array start ps) t) (wanted_by_init h (Array start ps)) before
  array_found start place count ps qs t d before now stands are counts dues told =
      told ∙ ap (λ (n : ℕ). told_more h (list_faults h n d count qs) (flat_map (wanted_by_part h) qs) before) stands
      ∙ ap (λ (o : Option Due). told_more h (list_faults h start o count qs) (flat_map (wanted_by_part h) qs) before) dues
      ∙ ap (λ (n : ℕ). told_more h (list_faults h start (array_dues (out-Ty t) n) n qs) (flat_map (wanted_by_part h) qs) before) counts
      ∙ ap (λ (rs : Parts). told_more h (list_faults h start (array_dues (out-Ty t) (length rs)) (length rs) rs) (flat_map (wanted_by_part h) rs) before) are
      ∙ sym (of_array start ps t before)

  pub struct_found : (start place count : ℕ) (ps qs : Parts) (t : Ty) (d : Option Due) (before now : Told) → place ≡ start → qs ≡ ps → count ≡ length qs
      → d ≡ struct_dues h.types (out-Ty t) → now ≡ told_more h (list_faults h place d count qs) (flat_map (wanted_by_part h) qs) before
      → now ≡ told_more h (init_faults h (Struct start ps) t) (wanted_by_init h (Struct start ps)) before
  struct_found start place count ps qs t d before now stands are counts dues told =
      told ∙ ap (λ (n : ℕ). told_more h (list_faults h n d count qs) (flat_map (wanted_by_part h) qs) before) stands
      ∙ ap (λ (o : Option Due). told_more h (list_faults h start o count qs) (flat_map (wanted_by_part h) qs) before) dues
      ∙ ap (λ (n : ℕ). told_more h (list_faults h start (struct_dues h.types (out-Ty t)) n qs) (flat_map (wanted_by_part h) qs) before) counts
      ∙ ap (λ (rs : Parts). told_more h (list_faults h start (struct_dues h.types (out-Ty t)) (length rs) rs) (flat_map (wanted_by_part h) rs) before) are
      ∙ sym (of_struct start ps t before)
