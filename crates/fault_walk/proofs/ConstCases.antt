-- What is told of each kind of constant.
use Rattle.std.proofs.Common.{◌≡◌, ◌∙◌, ℕ, Bool, List, [], ◌∷◌, ◌++◌, map, Option, refl, sym, ap}
use Rattle.std.proofs.lemmas.List.Folds.{flat_map-map}
use Rattle.std.specs.List.{flat_map}
use Rattle.ir_core.specs.Types.{is_pointer}
use Rattle.ir_core.specs.Typing.{Index}
use Rattle.ir_types.specs.Same.{same_ty}
use Rattle.ir_types.specs.declared.ty.Ty.{Ty}
use Rattle.module_grammar.specs.declared.constants.ConstText.{ConstText, Int, Null, Undef, Global, Element, Cast}
use Rattle.module_grammar.specs.declared.constants.GlobalNameText.{GlobalNameText}
use Rattle.module_grammar.specs.declared.constants.IntText.{IntText}
use Rattle.module_grammar.specs.declared.types.TypeText.{TypeText}
use Rattle.module_grammar.proofs.ConstFolds.{by_parts}
use Rattle.module_spelling.specs.Blocks.{Asked, Wanted, asked_at_level, index_asked, wanted_by_const, wants_along}
use Rattle.name_claims.specs.declared.claims.Fault.{Fault}
use Rattle.name_claims.specs.declared.claims.Reason.TheVariants as reason
use Rattle.named_modules.specs.Addresses.{address_type}
use Rattle.named_modules.specs.Constants.{global_name, may_be}
use Rattle.named_modules.specs.Faults as faults
use Rattle.named_modules.specs.Faults.{Heads, const_at_level, const_faults, from, index_told, int_faults, type_faults, unless}
use Rattle.named_modules.specs.Types.{type_of}
use Rattle.named_modules.proofs.ConstKinds as kind
use Rattle.named_modules.proofs.ConstKinds.{told_each}
use Rattle.fault_walk.specs.Indices.{const_index, number_at}
use Rattle.fault_walk.specs.Parts.{named_faults, part_faults, wanted_by_part}
use Rattle.fault_walk.specs.Told.{faults_more, noted, noted_large, told_more}
use Rattle.fault_walk.specs.declared.told.Told.{Told}
use Rattle.fault_walk.proofs.Joined.{large_joined, large_swapped, noted_joined, told_joined}
use Rattle.fault_walk.proofs.NumberedKinds as numbered

abbrev Parts : Type 0
Parts = List (TypeText × ConstText)

module _ (h : Heads) where
  abbrev told_of : ConstText → faults.Told
  told_of = kind.told faults.Told (const_at_level h)

  abbrev asked_of : ConstText → Asked
  asked_of = kind.told Asked (asked_at_level h)

  -- ---- numbers

  number_told : (c : ConstText) → (t : Ty) → (told_of c).number t ≡ number_at c t
  number_told = by_parts (λ c. (t : Ty) → (told_of c).number t ≡ number_at c t)
      (λ i t. ap (λ (x : faults.Told). x.number t) (kind.at_int faults.Told (const_at_level h) i) ∙ sym (numbered.of_int t i))
      (λ start t. ap (λ (x : faults.Told). x.number t) (kind.at_null faults.Told (const_at_level h) start) ∙ sym (numbered.of_null t start))
      (λ t. ap (λ (x : faults.Told). x.number t) (kind.at_undef faults.Told (const_at_level h)) ∙ sym (numbered.of_undef t))
      (λ g t. ap (λ (x : faults.Told). x.number t) (kind.at_global faults.Told (const_at_level h) g) ∙ sym (numbered.of_global t g))
      (λ start inbounds of base_ty base indices law laws t. ap (λ (x : faults.Told). x.number t) (kind.at_element faults.Told (const_at_level h) start inbounds of base_ty base indices) ∙ sym (numbered.of_element t start inbounds (of, base_ty, base, indices)))
      (λ start source c target law t. ap (λ (x : faults.Told). x.number t) (kind.at_cast faults.Told (const_at_level h) start source c target) ∙ sym (numbered.of_cast t start (source, c, target)))

  number_asked : (c : ConstText) → (t : Ty) → (asked_of c).number t ≡ number_at c t
  number_asked = by_parts (λ c. (t : Ty) → (asked_of c).number t ≡ number_at c t)
      (λ i t. ap (λ (x : Asked). x.number t) (kind.at_int Asked (asked_at_level h) i) ∙ sym (numbered.of_int t i))
      (λ start t. ap (λ (x : Asked). x.number t) (kind.at_null Asked (asked_at_level h) start) ∙ sym (numbered.of_null t start))
      (λ t. ap (λ (x : Asked). x.number t) (kind.at_undef Asked (asked_at_level h)) ∙ sym (numbered.of_undef t))
      (λ g t. ap (λ (x : Asked). x.number t) (kind.at_global Asked (asked_at_level h) g) ∙ sym (numbered.of_global t g))
      (λ start inbounds of base_ty base indices law laws t. ap (λ (x : Asked). x.number t) (kind.at_element Asked (asked_at_level h) start inbounds of base_ty base indices) ∙ sym (numbered.of_element t start inbounds (of, base_ty, base, indices)))
      (λ start source c target law t. ap (λ (x : Asked). x.number t) (kind.at_cast Asked (asked_at_level h) start source c target) ∙ sym (numbered.of_cast t start (source, c, target)))

  indices_told : (ps : Parts) → map index_told (told_each told_of ps) ≡ map const_index ps
  indices_told [] = refl
  indices_told (p ∷ ps) =
      ap (λ (n : Option ℕ). record { ty = type_of p.0; number = n } ∷ map index_told (told_each told_of ps)) (number_told p.1 (type_of p.0))
      ∙ ap (λ (is : List Index). const_index p ∷ is) (indices_told ps)

  indices_asked : (ps : Parts) → map index_asked (told_each asked_of ps) ≡ map const_index ps
  indices_asked [] = refl
  indices_asked (p ∷ ps) =
      ap (λ (n : Option ℕ). record { ty = type_of p.0; number = n } ∷ map index_asked (told_each asked_of ps)) (number_asked p.1 (type_of p.0))
      ∙ ap (λ (is : List Index). const_index p ∷ is) (indices_asked ps)

  -- ---- parts

  parts_told : (ps : Parts) → flat_map (faults.part_faults h) (told_each told_of ps) ≡ flat_map (part_faults h) ps
  parts_told ps = flat_map-map (faults.part_faults h) (λ (p : TypeText × ConstText). (p.0, told_of p.1)) ps

  parts_asked : (ps : Parts) → flat_map (λ (p : TypeText × Asked). p.1.wanted) (told_each asked_of ps) ≡ flat_map (wanted_by_part h) ps
  parts_asked ps = flat_map-map (λ (p : TypeText × Asked). p.1.wanted) (λ (p : TypeText × ConstText). (p.0, asked_of p.1)) ps

  -- ---- each kind

  abbrev both : Ty → Told → faults.Told → Asked → Told
  both t x f a = told_more h (f.faults t) a.wanted x

  from_both : (t : Ty) (x : Told) (f g : faults.Told) (a b : Asked) → f ≡ g → a ≡ b → both t x f a ≡ both t x g b
  from_both t x f g a b p q = ap (λ e. both t x e a) p ∙ ap (both t x g) q

  pub of_int : (i : IntText) (t : Ty) (x : Told) → told_more h (const_faults h (Int i) t) (wanted_by_const h (Int i)) x ≡ told_more h (int_faults t i) [] x
  of_int i t x = from_both t x _ _ _ _ (kind.at_int faults.Told (const_at_level h) i) (kind.at_int Asked (asked_at_level h) i)

  pub of_null : (start : ℕ) (t : Ty) (x : Told)
      → told_more h (const_faults h (Null start) t) (wanted_by_const h (Null start)) x ≡ told_more h (unless (is_pointer t) (from start 4 reason.WrongType)) [] x
  of_null start t x = from_both t x _ _ _ _ (kind.at_null faults.Told (const_at_level h) start) (kind.at_null Asked (asked_at_level h) start)

  pub of_undef : (t : Ty) (x : Told) → told_more h (const_faults h Undef t) (wanted_by_const h Undef) x ≡ x
  of_undef t x = from_both t x _ _ _ _ (kind.at_undef faults.Told (const_at_level h)) (kind.at_undef Asked (asked_at_level h))

  pub of_global : (g : GlobalNameText) (t : Ty) (x : Told)
      → told_more h (const_faults h (Global g) t) (wanted_by_const h (Global g)) x ≡ told_more h (named_faults h t (global_name g)) [] x
  of_global g t x = from_both t x _ _ _ _ (kind.at_global faults.Told (const_at_level h) g) (kind.at_global Asked (asked_at_level h) g)

  -- ---- addresses

  abbrev led_wrong : ℕ → TypeText → TypeText → Ty → List Index → List Fault
  led_wrong start base of t is = unless (may_be (address_type h.types (type_of base) (type_of of) is) t) (from start 13 reason.WrongType)

  faults_of_element : (start : ℕ) (inbounds : Bool) (of base_ty : TypeText) (base : ConstText) (ps : Parts) (t : Ty) (o : Option Fault)
      → noted (const_faults h (Element start inbounds (of, base_ty, base, ps)) t) o
      ≡ noted (led_wrong start base_ty of t (map const_index ps)) (noted (flat_map (part_faults h) ps) (noted (part_faults h (base_ty, base)) (noted (type_faults h of) o)))
  faults_of_element start inbounds of base_ty base ps t o =
      let first = part_faults h (base_ty, base) in
      let others = flat_map (faults.part_faults h) (told_each told_of ps) in
      let wrong = led_wrong start base_ty of t (map index_told (told_each told_of ps)) in
      let here = noted (type_faults h of) o in
      ap (λ (x : faults.Told). noted (x.faults t) o) (kind.at_element faults.Told (const_at_level h) start inbounds of base_ty base ps)
      ∙ noted_joined (type_faults h of) ((first ++ others) ++ wrong) o
      ∙ noted_joined (first ++ others) wrong here
      ∙ ap (noted wrong) (noted_joined first others here ∙ ap (λ (fs : List Fault). noted fs (noted first here)) (parts_told ps))
      ∙ ap (λ (is : List Index). noted (led_wrong start base_ty of t is) (noted (flat_map (part_faults h) ps) (noted first here))) (indices_told ps)

  -- what it wants itself is noted behind what its parts want
  wanted_of_element : (start : ℕ) (inbounds : Bool) (of base_ty : TypeText) (base : ConstText) (ps : Parts) (o : Option ℕ)
      → noted_large h (wanted_by_const h (Element start inbounds (of, base_ty, base, ps))) o
      ≡ noted_large h (wants_along h of (map const_index ps)) (noted_large h (flat_map (wanted_by_part h) ps) (noted_large h (wanted_by_const h base) o))
  wanted_of_element start inbounds of base_ty base ps o =
      let own = wants_along h of (map const_index ps) in
      let inside = wanted_by_const h base in
      let further = flat_map (wanted_by_part h) ps in
      ap (λ (x : Asked). noted_large h x.wanted o) (kind.at_element Asked (asked_at_level h) start inbounds of base_ty base ps)
      ∙ ap (λ (is : List Index). noted_large h (wants_along h of is ++ (inside ++ flat_map (λ (p : TypeText × Asked). p.1.wanted) (told_each asked_of ps))) o) (indices_asked ps)
      ∙ ap (λ (ws : List Wanted). noted_large h (own ++ (inside ++ ws)) o) (parts_asked ps)
      ∙ large_joined h own (inside ++ further) o
      ∙ large_swapped h own (inside ++ further) o
      ∙ ap (noted_large h own) (large_joined h inside further o)

  told_is : {a b : Option Fault} {c d : Option ℕ} → a ≡ b → c ≡ d → (let one : Told = record { fault = a; large = c } in one) ≡ record { fault = b; large = d }
  told_is p q = cc

  pub of_element : (start : ℕ) (inbounds : Bool) (of base_ty : TypeText) (base : ConstText) (ps : Parts) (t : Ty) (x : Told)
      → told_more h (const_faults h (Element start inbounds (of, base_ty, base, ps)) t) (wanted_by_const h (Element start inbounds (of, base_ty, base, ps))) x
      ≡ told_more h (led_wrong start base_ty of t (map const_index ps)) [] (told_more h [] (wants_along h of (map const_index ps))
      (told_more h (flat_map (part_faults h) ps) (flat_map (wanted_by_part h) ps) (told_more h (part_faults h (base_ty, base)) (wanted_by_const h base) (told_more h (type_faults h of) [] x))))
  of_element start inbounds of base_ty base ps t x =
      told_is (faults_of_element start inbounds of base_ty base ps t x.fault) (wanted_of_element start inbounds of base_ty base ps x.large)

  -- ---- casts

  pub of_cast : (start : ℕ) (source : TypeText) (c : ConstText) (target : TypeText) (t : Ty) (x : Told)
      → told_more h (const_faults h (Cast start (source, c, target)) t) (wanted_by_const h (Cast start (source, c, target))) x
      ≡ told_more h (unless (same_ty (type_of target) t) (from start 7 reason.WrongType)) [] (told_more h (type_faults h target) [] (told_more h (part_faults h (source, c)) (wanted_by_const h c) x))
  of_cast start source c target t x =
      let first = part_faults h (source, c) in
      let wrong = unless (same_ty (type_of target) t) (from start 7 reason.WrongType) in
      from_both t x _ _ _ _ (kind.at_cast faults.Told (const_at_level h) start source c target) (kind.at_cast Asked (asked_at_level h) start source c target)
      ∙ told_is (noted_joined first (type_faults h target ++ wrong) x.fault ∙ noted_joined (type_faults h target) wrong (noted first x.fault)) refl

  -- ---- as they are found

  pub null_found : (start place : ℕ) (t : Ty) (fits : Bool) (fault : Fault) (before now : Told) → place ≡ start → fits ≡ is_pointer t → fault ≡ from place 4 reason.WrongType
      → now ≡ faults_more (unless fits fault) before → now ≡ told_more h (const_faults h (Null start) t) (wanted_by_const h (Null start)) before
  null_found start place t fits fault before now stands fit at_fault told =
      told ∙ ap (λ b. faults_more (unless b fault) before) fit
      ∙ ap (λ f. faults_more (unless (is_pointer t) f) before) (at_fault ∙ ap (λ (n : ℕ). from n 4 reason.WrongType) stands)
      ∙ sym (of_null start t before)

  pub cast_found : (start place : ℕ) (source v : TypeText) (c k : ConstText) (target u : TypeText) (t built : Ty) (fits : Bool) (fault : Fault) (before one two now : Told)
      → place ≡ start → v ≡ source → k ≡ c → u ≡ target → built ≡ type_of u → fits ≡ same_ty built t → fault ≡ from place 7 reason.WrongType
      → one ≡ told_more h (part_faults h (v, k)) (wanted_by_const h k) before → two ≡ told_more h (type_faults h u) [] one → now ≡ faults_more (unless fits fault) two
      → now ≡ told_more h (const_faults h (Cast start (source, c, target)) t) (wanted_by_const h (Cast start (source, c, target))) before
  cast_found start place source v c k target u t built fits fault before one two now stands is_source is_const is_target builds fit at_fault first second third =
      third ∙ ap (λ b. faults_more (unless b fault) two) (fit ∙ ap (λ (w : Ty). same_ty w t) (builds ∙ ap type_of is_target))
      ∙ ap (λ f. faults_more (unless (same_ty (type_of target) t) f) two) (at_fault ∙ ap (λ (n : ℕ). from n 7 reason.WrongType) stands)
      ∙ ap (faults_more (unless (same_ty (type_of target) t) (from start 7 reason.WrongType)))
      (second ∙ ap (λ (w : TypeText). told_more h (type_faults h w) [] one) is_target
      ∙ ap (told_more h (type_faults h target) [])
      (first ∙ ap (λ (w : TypeText). told_more h (part_faults h (w, k)) (wanted_by_const h k) before) is_source
      ∙ ap (λ (w : ConstText). told_more h (part_faults h (source, w)) (wanted_by_const h w) before) is_const))
      ∙ sym (of_cast start source c target t before)

  pub element_found : (start place : ℕ) (inbounds : Bool) (of v : TypeText) (base_ty b : TypeText) (base k : ConstText) (ps qs : Parts) (t of_built base_built : Ty) (fits : Bool) (fault : Fault)
      (before one two three four now : Told)
      → place ≡ start → v ≡ of → b ≡ base_ty → k ≡ base → qs ≡ ps → of_built ≡ type_of v → base_built ≡ type_of b
      → fits ≡ may_be (address_type h.types base_built of_built (map const_index qs)) t → fault ≡ from place 13 reason.WrongType
      → one ≡ told_more h (type_faults h v) [] before → two ≡ told_more h (part_faults h (b, k)) (wanted_by_const h k) one
      → three ≡ told_more h (flat_map (part_faults h) qs) (flat_map (wanted_by_part h) qs) two → four ≡ told_more h [] (wants_along h v (map const_index qs)) three
      → now ≡ faults_more (unless fits fault) four
      → now ≡ told_more h (const_faults h (Element start inbounds (of, base_ty, base, ps)) t) (wanted_by_const h (Element start inbounds (of, base_ty, base, ps))) before
  element_found start place inbounds of v base_ty b base k ps qs t of_built base_built fits fault before one two three four now
      stands is_of is_base_ty is_base are builds_of builds_base fit at_fault first second third fourth fifth =
      let wrong = led_wrong start base_ty of t (map const_index ps) in
      let fits_so = may_be (address_type h.types (type_of base_ty) (type_of of) (map const_index ps)) t in
      fifth
      ∙ ap (λ x. faults_more (unless x fault) four)
      (fit ∙ ap (λ (w : Ty). may_be (address_type h.types w of_built (map const_index qs)) t) (builds_base ∙ ap type_of is_base_ty)
      ∙ ap (λ (w : Ty). may_be (address_type h.types (type_of base_ty) w (map const_index qs)) t) (builds_of ∙ ap type_of is_of)
      ∙ ap (λ (rs : Parts). may_be (address_type h.types (type_of base_ty) (type_of of) (map const_index rs)) t) are)
      ∙ ap (λ f. faults_more (unless fits_so f) four) (at_fault ∙ ap (λ (n : ℕ). from n 13 reason.WrongType) stands)
      ∙ ap (faults_more wrong)
      (fourth ∙ ap (λ (w : TypeText). told_more h [] (wants_along h w (map const_index qs)) three) is_of
      ∙ ap (λ (rs : Parts). told_more h [] (wants_along h of (map const_index rs)) three) are
      ∙ ap (told_more h [] (wants_along h of (map const_index ps)))
      (third ∙ ap (λ (rs : Parts). told_more h (flat_map (part_faults h) rs) (flat_map (wanted_by_part h) rs) two) are
      ∙ ap (told_more h (flat_map (part_faults h) ps) (flat_map (wanted_by_part h) ps))
      (second ∙ ap (λ (w : TypeText). told_more h (part_faults h (w, k)) (wanted_by_const h k) one) is_base_ty
      ∙ ap (λ (w : ConstText). told_more h (part_faults h (base_ty, w)) (wanted_by_const h w) one) is_base
      ∙ ap (told_more h (part_faults h (base_ty, base)) (wanted_by_const h base))
      (first ∙ ap (λ (w : TypeText). told_more h (type_faults h w) [] before) is_of))))
      ∙ sym (of_element start inbounds of base_ty base ps t before)

  -- one part more
  pub part_more : (p : TypeText × ConstText) (ps qs : Parts) (before now all : Told) → qs ≡ p ∷ ps → now ≡ told_more h (part_faults h p) (wanted_by_part h p) before
      → told_more h (flat_map (part_faults h) qs) (flat_map (wanted_by_part h) qs) before ≡ all
      → told_more h (flat_map (part_faults h) ps) (flat_map (wanted_by_part h) ps) now ≡ all
  part_more p ps qs before now all are told so_far =
      ap (told_more h (flat_map (part_faults h) ps) (flat_map (wanted_by_part h) ps)) told
      ∙ sym (told_joined h (part_faults h p) (flat_map (part_faults h) ps) (wanted_by_part h p) (flat_map (wanted_by_part h) ps) before)
      ∙ sym (ap (λ (rs : Parts). told_more h (flat_map (part_faults h) rs) (flat_map (wanted_by_part h) rs) before) are) ∙ so_far

pub index_more : (before all : List Index) (i : Index) (p : TypeText × ConstText) (ps qs : Parts) → qs ≡ p ∷ ps → i ≡ const_index p → before ++ map const_index qs ≡ all
    → (before ++ i ∷ []) ++ map const_index ps ≡ all
index_more before all i p ps qs are is so_far = joined before ∙ sym (ap (λ (rs : Parts). before ++ map const_index rs) are ∙ ap (λ (j : Index). before ++ j ∷ map const_index ps) (sym is)) ∙ so_far
  where
    joined : (js : List Index) → (js ++ i ∷ []) ++ map const_index ps ≡ js ++ i ∷ map const_index ps
    joined [] = refl
    joined (j ∷ js) = ap (λ ks. j ∷ ks) (joined js)
