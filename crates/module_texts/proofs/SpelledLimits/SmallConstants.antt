-- What a constant or an initialiser of the module wants, what is written of it wants.
use Rattle.std.proofs.Common.{◌≡◌, ◌∙◌, ℕ, Bool, true, false, ◌&&◌, List, [], ◌∷◌, ◌++◌, length, map, Option, Some, None, refl, sym, ap, subst}
use Rattle.std.specs.Prelude.{◌||◌, Result, Err}
use Rattle.std.specs.List.{AllByRecursion, flat_map, list_all}
use Rattle.std.proofs.lemmas.Bool.{and_parts}
use Rattle.ir_core.specs.declared.modules.Init.{Init, fold-Init}
use Rattle.ir_core.specs.declared.modules.Module.{Module}
use Rattle.ir_core.specs.declared.operands.Const.{Const, fold-Const}
use Rattle.ir_core.specs.Sizes.{AreSmall, Blocks, indices_behind, one_of_each, stepped, wanted_at_level, wanted_by_constant, wanted_by_init_at, wanted_by_parts}
use Rattle.ir_core.specs.Sizes.{Wanted as Counted}
use Rattle.ir_core.specs.Typing.{Index, are_parts, is_bytes, parts_of_array, parts_of_struct}
use Rattle.ir_core.proofs.Constants as constant
use Rattle.ir_core.proofs.Inits as init
use Rattle.ir_types.specs.declared.sizes.SizeFault.{SizeFault}
use Rattle.ir_types.specs.declared.sizes.SizeFault.TheVariants.{TooLarge}
use Rattle.ir_types.specs.declared.ty.Ty.{Ty, out-Ty}
use Rattle.ir_types.specs.Named.{block_of}
use Rattle.ir_types.specs.Same.{same_list, same_ty}
use Rattle.module_grammar.specs.declared.constants.ConstText.{ConstText, Int, Null, Undef, Global, Element, Cast}
use Rattle.module_grammar.specs.declared.constants.ConstText.TheViews.{outs-Int, outs-Null, outs-Global, outs-Element, outs-Cast}
use Rattle.module_grammar.specs.declared.constants.GlobalNameText.{GlobalNameText}
use Rattle.module_grammar.specs.declared.constants.InitText.{InitText}
use Rattle.module_grammar.specs.declared.constants.InitText as held
use Rattle.module_grammar.specs.declared.constants.IntText.{IntText}
use Rattle.module_grammar.specs.declared.places.Placed.{Placed}
use Rattle.module_grammar.specs.declared.types.TypeText.{TypeText}
use Rattle.module_grammar.proofs.ConstFolds.{EachOf, by_parts}
use Rattle.module_grammar.proofs.InitFolds as held_folds
use Rattle.module_spelling.specs.Blocks.{Asked, Wanted, asked_at_level, if_faultless, index_asked, init_at_level, is_large, is_too_large, wanted_by_const, wanted_by_init, wants, wants_along}
use Rattle.named_modules.specs.Addresses.{address_type}
use Rattle.named_modules.specs.Constants.{Judged, are_types, built_init_part, built_part, const_at_level, const_fits, const_of, fits_at_level, fitting_part, global_name, index_part, init_fits, init_of, is_undef, is_undef_at_level, judged, judged_at_level, may_be, number_or_undef, part_fits}
use Rattle.named_modules.specs.Constants as built
use Rattle.named_modules.specs.Faults.{Heads, first_of, heads_of}
use Rattle.named_modules.specs.Types.{int_of, is_type, is_value_type, type_of}
use Rattle.named_modules.proofs.ConstKinds as kind
use Rattle.named_modules.proofs.ConstKinds.{told_each}
use Rattle.named_modules.proofs.Lists.{all_append, all_left, all_right}
use Rattle.named_modules.proofs.TypeTies.{type_ties}

-- ---- what is wanted of types

abbrev pub AreFew : Heads → List Wanted → Type 0
AreFew h = AllByRecursion (λ (w : Wanted). is_large h w ≡ false)

small_told : (r : Result ℕ SizeFault) → is_too_large r ≡ false → r ≡ Err TooLarge → ⊥
small_told r e f = let large : is_too_large r ≡ true = ap is_too_large f in cc

module _ (m : Module) where
  abbrev pub h : Heads
  h = heads_of m

  abbrev placed : ℕ → List (Ty × ℕ) → List Wanted
  placed place each = map (λ (e : Ty × ℕ). let one : Wanted = record { place = place; ty = e.0; count = e.1 } in one) each

  each_small : (place : ℕ) (each : List (Ty × ℕ)) → AreFew h (placed place each) → AreSmall m.types each
  each_small place [] few = tt
  each_small place (e ∷ es) few = (small_told (block_of m.types e.0 e.1) few.0, each_small place es few.1)

  -- a type of the module has no fault, and wants what stands there
  pub wants_small : (w : TypeText) (each : List (Ty × ℕ)) → is_type m w ≡ true → AreFew h (wants h w each) → AreSmall m.types each
  wants_small w each is few = each_small (first_of w) each (subst (λ fs. AreFew h (if_faultless fs (placed (first_of w) each))) ((type_ties m w).back is) few)

  -- ---- constants

  abbrev pub asked : ConstText → Asked
  asked = kind.told Asked (asked_at_level h)

  abbrev pub counted : Const → Counted
  counted = fold-Const Counted (wanted_at_level m.types)

  pub record Agrees (c : ConstText) : Type 0 where
    pub number : (t : Ty) → const_fits m c t ≡ true → (asked c).number t ≡ (counted (const_of c t)).number
    pub small : (t : Ty) → (is_undef c || const_fits m c t) ≡ true → AreFew h (asked c).wanted → AreSmall m.types (counted (const_of c t)).blocks

  -- one that isn't `undef`, of which this is so
  formed :
      (c : ConstText) (a : Asked) (w : Ty → Counted) → is_undef c ≡ false → asked c ≡ a → ((t : Ty) → counted (const_of c t) ≡ w t)
      → ((t : Ty) → const_fits m c t ≡ true → a.number t ≡ (w t).number) → ((t : Ty) → const_fits m c t ≡ true → AreFew h a.wanted → AreSmall m.types (w t).blocks)
      → Agrees c
  formed c a w defined e f number small = record {
    number = λ t fits. ap (λ (x : Asked). x.number t) e ∙ number t fits ∙ ap (λ (x : Counted). x.number) (sym (f t));
    small = λ t fits few.
        subst (λ (x : Counted). AreSmall m.types x.blocks) (sym (f t))
        (small t (subst (λ b. (b || const_fits m c t) ≡ true) defined fits) (subst (λ (x : Asked). AreFew h x.wanted) e few));
  }

  abbrev nothing : Counted
  nothing = record { number = None; blocks = [] }

  abbrev none_asked : Asked
  none_asked = record { number = λ t. None; wanted = [] }

  abbrev numbered : Option ℕ → Counted
  numbered o = record { number = o; blocks = [] }

  number_counted : (o : Option ℕ) → counted (number_or_undef o) ≡ numbered o
  number_counted None = constant.at_undef Counted (wanted_at_level m.types)
  number_counted (Some n) = constant.at_number Counted (wanted_at_level m.types) n

  of_int : (i : IntText) → Agrees (Int i)
  of_int i =
      formed (Int i) (record { number = λ t. int_of t i; wanted = [] }) (λ t. numbered (int_of t i))
      (ap is_undef_at_level (outs-Int i)) (kind.at_int Asked (asked_at_level h) i)
      (λ t. ap (λ (f : Ty → Const). counted (f t)) (kind.at_int (Ty → Const) const_at_level i) ∙ number_counted (int_of t i))
      (λ t fits. refl) (λ t fits few. tt)

  of_null : (start : ℕ) → Agrees (Null start)
  of_null start =
      formed (Null start) none_asked (λ t. nothing) (ap is_undef_at_level (outs-Null start)) (kind.at_null Asked (asked_at_level h) start)
      (λ t. ap (λ (f : Ty → Const). counted (f t)) (kind.at_null (Ty → Const) const_at_level start) ∙ constant.at_null Counted (wanted_at_level m.types))
      (λ t fits. refl) (λ t fits few. tt)

  of_undef : Agrees Undef
  of_undef = record {
    number = λ t fits. ap (λ (x : Asked). x.number t) (kind.at_undef Asked (asked_at_level h)) ∙ ap (λ (x : Counted). x.number) (sym (same t));
    small = λ t fits few. subst (λ (x : Counted). AreSmall m.types x.blocks) (sym (same t)) tt;
  }
    where
      same : (t : Ty) → counted (const_of Undef t) ≡ nothing
      same t = ap (λ (f : Ty → Const). counted (f t)) (kind.at_undef (Ty → Const) const_at_level) ∙ constant.at_undef Counted (wanted_at_level m.types)

  of_global : (g : GlobalNameText) → Agrees (Global g)
  of_global g =
      formed (Global g) none_asked (λ t. nothing) (ap is_undef_at_level (outs-Global g)) (kind.at_global Asked (asked_at_level h) g)
      (λ t. ap (λ (f : Ty → Const). counted (f t)) (kind.at_global (Ty → Const) const_at_level g) ∙ constant.at_global Counted (wanted_at_level m.types) (global_name g).what)
      (λ t fits. refl) (λ t fits few. tt)

  -- ---- constants in constants

  abbrev Parts : Type 0
  Parts = List (TypeText × ConstText)

  abbrev counted_parts : Parts → List (Ty × Counted)
  counted_parts ps = constant.folded_parts Counted (wanted_at_level m.types) (map built_part (told_each const_of ps))

  abbrev PartsFit : Parts → Type 0
  PartsFit ps = list_all (part_fits m) (told_each (judged m) ps) ≡ true

  of_part : (p : TypeText × ConstText) → part_fits m (p.0, judged m p.1) ≡ true → const_fits m p.1 (type_of p.0) ≡ true
  of_part p fits = (and_parts (is_value_type m p.0) (const_fits m p.1 (type_of p.0)) fits).1

  part_and_more : (p : TypeText × ConstText) (ps : Parts) → PartsFit (p ∷ ps) → (const_fits m p.1 (type_of p.0) ≡ true) × PartsFit ps
  part_and_more p ps fit =
      let both = and_parts (part_fits m (p.0, judged m p.1)) (list_all (part_fits m) (told_each (judged m) ps)) fit in (of_part p both.0, both.1)

  or_right : (a b : Bool) → b ≡ true → (a || b) ≡ true
  or_right true b e = refl
  or_right false b e = e

  indices_same : (ps : Parts) → EachOf Agrees ps → PartsFit ps → map index_asked (told_each asked ps) ≡ map (λ (p : Ty × Counted). let i : Index = record { ty = p.0; number = p.1.number } in i) (counted_parts ps)
  indices_same [] all fit = refl
  indices_same (p ∷ ps) all fit =
      let both = part_and_more p ps fit in
      ap (λ (n : Option ℕ). record { ty = type_of p.0; number = n } ∷ map index_asked (told_each asked ps)) (all.0.number (type_of p.0) both.0)
      ∙ ap (λ (is : List Index). record { ty = type_of p.0; number = (counted (const_of p.1 (type_of p.0))).number } ∷ is) (indices_same ps all.1 both.1)

  parts_small : (ps : Parts) → EachOf Agrees ps → PartsFit ps → AreFew h (flat_map (λ (p : TypeText × Asked). p.1.wanted) (told_each asked ps)) → AreSmall m.types (wanted_by_parts (counted_parts ps))
  parts_small [] all fit few = tt
  parts_small (p ∷ ps) all fit few =
      let both = part_and_more p ps fit in
      let mine = (asked p.1).wanted in
      let others = flat_map (λ (p : TypeText × Asked). p.1.wanted) (told_each asked ps) in
      let here = all.0.small (type_of p.0) (or_right (is_undef p.1) (const_fits m p.1 (type_of p.0)) both.0) (all_left (λ (w : Wanted). is_large h w ≡ false) mine others few) in
      all_append _ (counted (const_of p.1 (type_of p.0))).blocks (wanted_by_parts (counted_parts ps)) here
      (parts_small ps all.1 both.1 (all_right (λ (w : Wanted). is_large h w ≡ false) mine others few))

  of_element :
      (start : ℕ) (inbounds : Bool) (of base_ty : TypeText) (base : ConstText) (indices : Parts) → Agrees base → EachOf Agrees indices
      → Agrees (Element start inbounds (of, base_ty, base, indices))
  of_element start inbounds of base_ty base indices law laws =
      let whole : Parts = (base_ty, base) ∷ indices in
      let taken = map index_asked (told_each asked indices) in
      let others = (asked base).wanted ++ flat_map (λ (p : TypeText × Asked). p.1.wanted) (told_each asked indices) in
      formed (Element start inbounds (of, base_ty, base, indices)) (record { number = λ t. None; wanted = wants_along h of taken ++ others })
      (λ t. record { number = None; blocks = one_of_each (stepped m.types (type_of of) (indices_behind (counted_parts whole))) ++ wanted_by_parts (counted_parts whole) })
      (ap is_undef_at_level (outs-Element start inbounds (of, base_ty, base, indices)))
      (kind.at_element Asked (asked_at_level h) start inbounds of base_ty base indices)
      (λ t. ap (λ (f : Ty → Const). counted (f t)) (kind.at_element (Ty → Const) const_at_level start inbounds of base_ty base indices)
      ∙ constant.at_element Counted (wanted_at_level m.types) inbounds (type_of of) (map built_part (told_each const_of whole)))
      (λ t fits. refl)
      (λ t fits few.
      let judged_whole : (is_type m of && list_all (part_fits m) (told_each (judged m) whole) && may_be (address_type m.types (type_of base_ty) (type_of of) (map index_part (told_each (judged m) indices))) t) ≡ true =
      subst (λ (j : Judged). j.fits t ≡ true) (kind.at_element Judged (judged_at_level m) start inbounds of base_ty base indices) fits in
      let front = (and_parts (is_type m of && list_all (part_fits m) (told_each (judged m) whole)) (may_be (address_type m.types (type_of base_ty) (type_of of) (map index_part (told_each (judged m) indices))) t) judged_whole).0 in
      let both = and_parts (is_type m of) (list_all (part_fits m) (told_each (judged m) whole)) front in
      let inner = part_and_more (base_ty, base) indices both.1 in
      let entered : AreSmall m.types (one_of_each (stepped m.types (type_of of) taken)) =
      wants_small of (one_of_each (stepped m.types (type_of of) taken)) both.0 (all_left (λ (w : Wanted). is_large h w ≡ false) (wants_along h of taken) others few) in
      all_append _ (one_of_each (stepped m.types (type_of of) (indices_behind (counted_parts whole)))) (wanted_by_parts (counted_parts whole))
      (subst (λ is. AreSmall m.types (one_of_each (stepped m.types (type_of of) is))) (indices_same indices laws inner.1) entered)
      (parts_small whole (law, laws) both.1 (all_right (λ (w : Wanted). is_large h w ≡ false) (wants_along h of taken) others few)))

  of_cast : (start : ℕ) (from : TypeText) (c : ConstText) (target : TypeText) → Agrees c → Agrees (Cast start (from, c, target))
  of_cast start from c target law =
      let part : Parts = (from, c) ∷ [] in
      formed (Cast start (from, c, target)) (record { number = λ t. None; wanted = (asked c).wanted }) (λ t. record { number = None; blocks = wanted_by_parts (counted_parts part) })
      (ap is_undef_at_level (outs-Cast start (from, c, target))) (kind.at_cast Asked (asked_at_level h) start from c target)
      (λ t. ap (λ (f : Ty → Const). counted (f t)) (kind.at_cast (Ty → Const) const_at_level start from c target)
      ∙ constant.at_cast Counted (wanted_at_level m.types) (type_of target) (map built_part (told_each const_of part)))
      (λ t fits. refl)
      (λ t fits few.
      let whole : (part_fits m (from, judged m c) && is_type m target && same_ty (type_of target) t) ≡ true =
      subst (λ (j : Judged). j.fits t ≡ true) (kind.at_cast Judged (judged_at_level m) start from c target) fits in
      let front = (and_parts (part_fits m (from, judged m c) && is_type m target) (same_ty (type_of target) t) whole).0 in
      let fit = of_part (from, c) (and_parts (part_fits m (from, judged m c)) (is_type m target) front).0 in
      all_append _ (counted (const_of c (type_of from))).blocks [] (law.small (type_of from) (or_right (is_undef c) (const_fits m c (type_of from)) fit) few) tt)

  agree : (c : ConstText) → Agrees c
  agree = by_parts Agrees of_int of_null of_undef of_global of_element of_cast

  pub constants_small : (c : ConstText) (t : Ty) → const_fits m c t ≡ true → AreFew h (wanted_by_const h c) → AreSmall m.types (wanted_by_constant m.types (const_of c t))
  constants_small c t fits few = (agree c).small t (or_right (is_undef c) (const_fits m c t) fits) few

  -- ---- initialisers

  abbrev held_by : Init → Blocks
  held_by = fold-Init Blocks (wanted_by_init_at m.types)

  abbrev IsHeld : InitText → Type 0
  IsHeld i = (t : Ty) → init_fits m i t ≡ true → AreFew h (wanted_by_init h i) → AreSmall m.types (held_by (init_of i t))

  settled :
      (i : InitText) (ws : List Wanted) (fits : Ty → Bool) (bs : Ty → Blocks) → wanted_by_init h i ≡ ws → init_fits m i ≡ fits
      → ((t : Ty) → held_by (init_of i t) ≡ bs t) → ((t : Ty) → fits t ≡ true → AreFew h ws → AreSmall m.types (bs t)) → IsHeld i
  settled i ws fits bs e f g law t is few =
      subst (AreSmall m.types) (sym (g t)) (law t (subst (λ (k : Ty → Bool). k t ≡ true) f is) (subst (AreFew h) e few))

  abbrev Fields : Type 0
  Fields = List (TypeText × InitText)

  abbrev held_parts : Fields → List (Ty × Blocks)
  held_parts ps = init.folded_parts Blocks (wanted_by_init_at m.types) (map built_init_part (told_each init_of ps))

  abbrev AllFit : Fields → Type 0
  AllFit ps = list_all (λ (p : Ty × (Ty → Bool)). p.1 p.0) (map fitting_part (told_each (init_fits m) ps)) ≡ true

  fields_small :
      (ps : Fields) → held_folds.EachOf IsHeld ps → AllFit ps → AreFew h (flat_map (λ (p : TypeText × List Wanted). p.1) (told_each (wanted_by_init h) ps))
      → AreSmall m.types (flat_map (λ (p : Ty × Blocks). p.1) (held_parts ps))
  fields_small [] laws fit few = tt
  fields_small (p ∷ ps) laws fit few =
      let both = and_parts (init_fits m p.1 (type_of p.0)) (list_all (λ (p : Ty × (Ty → Bool)). p.1 p.0) (map fitting_part (told_each (init_fits m) ps))) fit in
      let mine = wanted_by_init h p.1 in
      let others = flat_map (λ (p : TypeText × List Wanted). p.1) (told_each (wanted_by_init h) ps) in
      all_append (λ (b : Ty × ℕ). block_of m.types b.0 b.1 ≡ Err TooLarge → ⊥) (held_by (init_of p.1 (type_of p.0))) (flat_map (λ (p : Ty × Blocks). p.1) (held_parts ps))
      (laws.0 (type_of p.0) both.0 (all_left (λ (w : Wanted). is_large h w ≡ false) mine others few))
      (fields_small ps laws.1 both.1 (all_right (λ (w : Wanted). is_large h w ≡ false) mine others few))

  -- parts that are of some types fit those that are stated
  parts_fit : (o : Option (List Ty)) (ps : Fields) → (are_types m (told_each (init_fits m) ps) && are_parts o (map fitting_part (told_each (init_fits m) ps))) ≡ true → AllFit ps
  parts_fit o ps is = go o (and_parts (are_types m (told_each (init_fits m) ps)) (are_parts o (map fitting_part (told_each (init_fits m) ps))) is).1
    where
      go : (o : Option (List Ty)) → are_parts o (map fitting_part (told_each (init_fits m) ps)) ≡ true → AllFit ps
      go None e = cc
      go (Some ts) e =
          (and_parts (same_list same_ty ts (map (λ (p : Ty × (Ty → Bool)). p.0) (map fitting_part (told_each (init_fits m) ps))))
          (list_all (λ (p : Ty × (Ty → Bool)). p.1 p.0) (map fitting_part (told_each (init_fits m) ps))) e).1

  of_const_init : (c : ConstText) → IsHeld (held.Const c)
  of_const_init c =
      settled (held.Const c) (wanted_by_const h c) (λ t. is_undef c || const_fits m c t) (λ t. wanted_by_constant m.types (const_of c t))
      (kind.at_const (List Wanted) (init_at_level h) c) (kind.at_const (Ty → Bool) (fits_at_level m) c)
      (λ t. ap (λ (f : Ty → Init). held_by (f t)) (kind.at_const (Ty → Init) built.init_at_level c) ∙ init.at_const Blocks (wanted_by_init_at m.types) (const_of c t))
      (λ t fits few. (agree c).small t fits few)

  of_zero : IsHeld held.Zero
  of_zero =
      settled held.Zero [] (λ t. true) (λ t. []) (kind.at_zero (List Wanted) (init_at_level h)) (kind.at_zero (Ty → Bool) (fits_at_level m))
      (λ t. ap (λ (f : Ty → Init). held_by (f t)) (kind.at_zero (Ty → Init) built.init_at_level) ∙ init.at_zero Blocks (wanted_by_init_at m.types))
      (λ t fits few. tt)

  of_bytes : (bs : Placed (List ℕ)) → IsHeld (held.Bytes bs)
  of_bytes bs =
      settled (held.Bytes bs) [] (λ t. is_bytes (length bs.what) (out-Ty t)) (λ t. []) (kind.at_bytes (List Wanted) (init_at_level h) bs) (kind.at_bytes (Ty → Bool) (fits_at_level m) bs)
      (λ t. ap (λ (f : Ty → Init). held_by (f t)) (kind.at_bytes (Ty → Init) built.init_at_level bs) ∙ init.at_bytes Blocks (wanted_by_init_at m.types) bs.what)
      (λ t fits few. tt)

  of_array : (start : ℕ) (ps : Fields) → held_folds.EachOf IsHeld ps → IsHeld (held.Array start ps)
  of_array start ps laws =
      settled (held.Array start ps) (flat_map (λ (p : TypeText × List Wanted). p.1) (told_each (wanted_by_init h) ps))
      (λ t. are_types m (told_each (init_fits m) ps) && are_parts (parts_of_array m.types (out-Ty t) (length (told_each (init_fits m) ps))) (map fitting_part (told_each (init_fits m) ps)))
      (λ t. flat_map (λ (p : Ty × Blocks). p.1) (held_parts ps)) (kind.at_array (List Wanted) (init_at_level h) start ps) (kind.at_array (Ty → Bool) (fits_at_level m) start ps)
      (λ t. ap (λ (f : Ty → Init). held_by (f t)) (kind.at_array (Ty → Init) built.init_at_level start ps)
      ∙ init.at_array Blocks (wanted_by_init_at m.types) (map built_init_part (told_each init_of ps)))
      (λ t fits few. fields_small ps laws (parts_fit (parts_of_array m.types (out-Ty t) (length (told_each (init_fits m) ps))) ps fits) few)

  of_struct : (start : ℕ) (ps : Fields) → held_folds.EachOf IsHeld ps → IsHeld (held.Struct start ps)
  of_struct start ps laws =
      settled (held.Struct start ps) (flat_map (λ (p : TypeText × List Wanted). p.1) (told_each (wanted_by_init h) ps))
      (λ t. are_types m (told_each (init_fits m) ps) && are_parts (parts_of_struct m.types (out-Ty t)) (map fitting_part (told_each (init_fits m) ps)))
      (λ t. flat_map (λ (p : Ty × Blocks). p.1) (held_parts ps)) (kind.at_struct (List Wanted) (init_at_level h) start ps) (kind.at_struct (Ty → Bool) (fits_at_level m) start ps)
      (λ t. ap (λ (f : Ty → Init). held_by (f t)) (kind.at_struct (Ty → Init) built.init_at_level start ps)
      ∙ init.at_struct Blocks (wanted_by_init_at m.types) (map built_init_part (told_each init_of ps)))
      (λ t fits few. fields_small ps laws (parts_fit (parts_of_struct m.types (out-Ty t)) ps fits) few)

  pub inits_small : (i : InitText) (t : Ty) → init_fits m i t ≡ true → AreFew h (wanted_by_init h i) → AreSmall m.types (fold-Init Blocks (wanted_by_init_at m.types) (init_of i t))
  inits_small = held_folds.by_parts IsHeld of_const_init of_zero of_bytes of_array of_struct
