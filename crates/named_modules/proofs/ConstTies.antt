-- A constant is at fault at a type exactly where it is none of that type.
use Rattle.std.proofs.Common.{◌≡◌, ◌∙◌, ℕ, Bool, true, false, ◌&&◌, List, [], ◌∷◌, ◌++◌, map, Option, Some, None, refl, sym, ap, subst}
use Rattle.std.specs.Prelude.{◌||◌, is_some, cond}
use Rattle.std.specs.List.{flat_map, list_all}
use Rattle.std.specs.Option.{option_map}
use Rattle.std.proofs.lemmas.Bool.{and_parts}
use Rattle.ir_core.specs.declared.modules.Module.{Module}
use Rattle.ir_core.specs.Types.{is_first_class, is_pointer}
use Rattle.ir_core.specs.Typing.{Index, contents_of, is_due}
use Rattle.ir_types.specs.declared.names.Name.{Name}
use Rattle.ir_types.specs.declared.ty.Ty.{Ty, Ptr}
use Rattle.ir_types.specs.Same.{same_ty}
use Rattle.name_claims.specs.declared.claims.Fault.{Fault}
use Rattle.name_claims.specs.declared.claims.Reason.TheVariants as reason
use Rattle.module_grammar.specs.declared.constants.ConstText.{ConstText, Int, Null, Undef, Global, Element, Cast}
use Rattle.module_grammar.specs.declared.constants.ConstText.TheViews.{outs-Int, outs-Null, outs-Undef, outs-Global, outs-Element, outs-Cast}
use Rattle.module_grammar.specs.declared.constants.GlobalNameText.{GlobalNameText}
use Rattle.module_grammar.specs.declared.constants.IntText.{IntText}
use Rattle.module_grammar.specs.declared.places.Placed.{Placed}
use Rattle.module_grammar.specs.declared.types.TypeText.{TypeText}
use Rattle.module_grammar.proofs.ConstFolds.{EachOf, by_parts}
use Rattle.named_modules.specs.Addresses.{address_type}
use Rattle.named_modules.specs.Constants.{Judged, const_fits, global_name, index_part, is_undef, is_undef_at_level, judged, judged_at_level, may_be, part_fits}
use Rattle.named_modules.specs.Faults.{Told, at, const_at_level, const_faults, from, global_faults, heads_of, index_told, int_fault, is_function, part_faults, type_faults, unless, value_type_faults}
use Rattle.named_modules.specs.Types.{int_of, is_type, is_value_type, type_of}
use Rattle.named_modules.proofs.ConstKinds as kind
use Rattle.named_modules.proofs.ConstKinds.{told_each}
use Rattle.named_modules.proofs.Ties.{Ties, all_of, both, fits, never, none, three, through}
use Rattle.named_modules.proofs.TypeTies.{type_ties, value_type_ties}

-- what is told of faults is what is judged; `undef` is of each type of values
pub record Agree (t : Told) (j : Judged) (is_undefined : Bool) : Type 0 where
  pub same : (ty : Ty) → t.number ty ≡ j.number ty
  pub ties : (ty : Ty) → Ties (t.faults ty) ((is_undefined || j.fits ty) ≡ true)
  pub undefined : is_undefined ≡ true → (ty : Ty) → j.fits ty ≡ is_first_class ty

module _ (m : Module) where
  abbrev told : ConstText → Told
  told = kind.told Told (const_at_level (heads_of m))

  abbrev Agrees : ConstText → Type 0
  Agrees c = Agree (told c) (judged m c) (is_undef c)

  formed : (c : ConstText) (t : Told) (j : Judged) (u : Bool) → told c ≡ t → judged m c ≡ j → is_undef c ≡ u → Agree t j u → Agrees c
  formed c t j u e f g a =
      subst (λ x. Agree x (judged m c) (is_undef c)) (sym e) (subst (λ x. Agree t x (is_undef c)) (sym f) (subst (Agree t j) (sym g) a))

  at_int : (i : IntText) → Agrees (Int i)
  at_int i =
      formed (Int i) (record { number = λ t. int_of t i; faults = λ t. unless (is_some (int_of t i)) (int_fault i) }) (record { number = λ t. int_of t i; fits = λ t. is_some (int_of t i) }) false
      (kind.at_int Told (const_at_level (heads_of m)) i) (kind.at_int Judged (judged_at_level m) i) (ap is_undef_at_level (outs-Int i))
      (record { same = λ ty. refl; ties = λ ty. fits (is_some (int_of ty i)) (int_fault i); undefined = λ e. cc })

  at_null : (start : ℕ) → Agrees (Null start)
  at_null start =
      formed (Null start) (record { number = λ t. None; faults = λ t. unless (is_pointer t) (from start 4 reason.WrongType) }) (record { number = λ t. None; fits = is_pointer }) false
      (kind.at_null Told (const_at_level (heads_of m)) start) (kind.at_null Judged (judged_at_level m) start) (ap is_undef_at_level (outs-Null start))
      (record { same = λ ty. refl; ties = λ ty. fits (is_pointer ty) (from start 4 reason.WrongType); undefined = λ e. cc })

  at_undef : Agrees Undef
  at_undef =
      formed Undef (record { number = λ t. None; faults = λ t. [] }) (record { number = λ t. None; fits = is_first_class }) true
      (kind.at_undef Told (const_at_level (heads_of m))) (kind.at_undef Judged (judged_at_level m)) (ap is_undef_at_level outs-Undef)
      (record { same = λ ty. refl; ties = λ ty. none refl; undefined = λ e ty. refl })

  global_ties : (x : Placed Name) (ty : Ty) (o : Option Ty) → Ties (global_faults (heads_of m) ty x o) (is_due (option_map Ptr o) ty ≡ true)
  global_ties x ty None = never (at x (cond (is_function (heads_of m) x.what) reason.LeftOut reason.Unknown)) [] (λ e. cc)
  global_ties x ty (Some contents) = fits (same_ty (Ptr contents) ty) (at x reason.WrongType)

  at_global : (g : GlobalNameText) → Agrees (Global g)
  at_global g =
      formed (Global g) (record { number = λ t. None; faults = λ t. global_faults (heads_of m) t (global_name g) (contents_of m.globals (global_name g).what) }) (record { number = λ t. None; fits = is_due (option_map Ptr (contents_of m.globals (global_name g).what)) }) false
      (kind.at_global Told (const_at_level (heads_of m)) g) (kind.at_global Judged (judged_at_level m) g) (ap is_undef_at_level (outs-Global g))
      (record { same = λ ty. refl; ties = λ ty. global_ties (global_name g) ty (contents_of m.globals (global_name g).what); undefined = λ e. cc })

  -- a constant of a type of values is one that it fits
  at_values : (t : Told) (j : Judged) (u : Bool) → Agree t j u → (ty : Ty) → is_first_class ty ≡ true → Ties (t.faults ty) (j.fits ty ≡ true)
  at_values t j true a ty first = through (t.faults ty) (a.ties ty) (λ h. a.undefined refl ty ∙ first) (λ h. refl)
  at_values t j false a ty first = a.ties ty

  part_ties : (w : TypeText) (c : ConstText) → Agrees c → Ties (part_faults (heads_of m) (w, told c)) (part_fits m (w, judged m c) ≡ true)
  part_ties w c a =
      let front = value_type_faults (heads_of m) w in
      let back = (told c).faults (type_of w) in
      let first : is_value_type m w ≡ true → is_first_class (type_of w) ≡ true = λ h. (and_parts (is_type m w) (is_first_class (type_of w)) h).1 in
      all_of (front ++ back) (is_value_type m w) ((judged m c).fits (type_of w)) (record {
        to = λ e.
            let split = (both front back (value_type_ties m w) (whole back)).to e in
            let value = split.0 in
            (value, (at_values (told c) (judged m c) (is_undef c) a (type_of w) (first value)).to split.1);
        back = λ h.
            let value = h.0 in
            (both front back (value_type_ties m w) (at_values (told c) (judged m c) (is_undef c) a (type_of w) (first value))).back (h.0, h.1);
      })
    where
      whole : (fs : List Fault) → Ties fs (fs ≡ [])
      whole fs = record { to = λ e. e; back = λ e. e }

  parts_ties : (cs : List (TypeText × ConstText)) → EachOf Agrees cs → Ties (flat_map (part_faults (heads_of m)) (told_each told cs)) (list_all (part_fits m) (told_each (judged m) cs) ≡ true)
  parts_ties [] laws = none refl
  parts_ties (c ∷ cs) laws =
      let here = part_faults (heads_of m) (c.0, told c.1) in
      let more = flat_map (part_faults (heads_of m)) (told_each told cs) in
      all_of (here ++ more) (part_fits m (c.0, judged m c.1)) (list_all (part_fits m) (told_each (judged m) cs)) (both here more (part_ties c.0 c.1 laws.0) (parts_ties cs laws.1))

  same_indices : (cs : List (TypeText × ConstText)) → EachOf Agrees cs → map index_told (told_each told cs) ≡ map index_part (told_each (judged m) cs)
  same_indices [] laws = refl
  same_indices (c ∷ cs) laws =
      let index : Option ℕ → Index = λ n. record { ty = type_of c.0; number = n } in
      ap (λ n. index n ∷ map index_told (told_each told cs)) (laws.0.same (type_of c.0)) ∙ ap (λ is. index ((judged m c.1).number (type_of c.0)) ∷ is) (same_indices cs laws.1)

  at_element : (start : ℕ) (is_inbounds : Bool) (of base_ty : TypeText) (base : ConstText) (indices : List (TypeText × ConstText)) → Agrees base → EachOf Agrees indices → Agrees (Element start is_inbounds (of, base_ty, base, indices))
  at_element start is_inbounds of base_ty base indices law laws =
      let t = const_at_level (heads_of m) (kind.element_level start is_inbounds of base_ty (told base) (told_each told indices)) in
      let j = judged_at_level m (kind.element_level start is_inbounds of base_ty (judged m base) (told_each (judged m) indices)) in
      formed (Element start is_inbounds (of, base_ty, base, indices)) t j false
      (kind.at_element Told (const_at_level (heads_of m)) start is_inbounds of base_ty base indices) (kind.at_element Judged (judged_at_level m) start is_inbounds of base_ty base indices)
      (ap is_undef_at_level (outs-Element start is_inbounds (of, base_ty, base, indices)))
      (record { same = λ ty. refl; ties = tied; undefined = λ e. cc })
    where
      told_parts : List (TypeText × Told)
      told_parts = told_each told ((base_ty, base) ∷ indices)

      judged_parts : List (TypeText × Judged)
      judged_parts = told_each (judged m) ((base_ty, base) ∷ indices)

      tied : (ty : Ty) → Ties (type_faults (heads_of m) of ++ (flat_map (part_faults (heads_of m)) told_parts ++ unless (may_be (address_type m.types (type_of base_ty) (type_of of) (map index_told (told_each told indices))) ty) (from start 13 reason.WrongType))) ((is_type m of && list_all (part_fits m) judged_parts && may_be (address_type m.types (type_of base_ty) (type_of of) (map index_part (told_each (judged m) indices))) ty) ≡ true)
      tied ty =
          let f = from start 13 reason.WrongType in
          let leads : List Index → Bool = λ is. may_be (address_type m.types (type_of base_ty) (type_of of) is) ty in
          let is_told = leads (map index_told (told_each told indices)) in
          let is_judged = leads (map index_part (told_each (judged m) indices)) in
          let same : is_told ≡ is_judged = ap leads (same_indices indices laws) in
          let parts = flat_map (part_faults (heads_of m)) told_parts in
          let end = through (unless is_told f) (fits is_told f) (λ h. sym same ∙ h) (λ h. same ∙ h) in
          three (type_faults (heads_of m) of) parts (unless is_told f) (is_type m of) (list_all (part_fits m) judged_parts) is_judged (type_ties m of) (parts_ties ((base_ty, base) ∷ indices) (law, laws)) end

  at_cast : (start : ℕ) (source : TypeText) (c : ConstText) (target : TypeText) → Agrees c → Agrees (Cast start (source, c, target))
  at_cast start source c target law =
      formed (Cast start (source, c, target)) (const_at_level (heads_of m) (kind.cast_level start source (told c) target)) (judged_at_level m (kind.cast_level start source (judged m c) target)) false
      (kind.at_cast Told (const_at_level (heads_of m)) start source c target) (kind.at_cast Judged (judged_at_level m) start source c target)
      (ap is_undef_at_level (outs-Cast start (source, c, target)))
      (record { same = λ ty. refl; ties = tied; undefined = λ e. cc })
    where
      tied : (ty : Ty) → Ties (part_faults (heads_of m) (source, told c) ++ (type_faults (heads_of m) target ++ unless (same_ty (type_of target) ty) (from start 7 reason.WrongType))) ((part_fits m (source, judged m c) && is_type m target && same_ty (type_of target) ty) ≡ true)
      tied ty =
          let f = from start 7 reason.WrongType in
          let is = same_ty (type_of target) ty in
          let here = part_faults (heads_of m) (source, told c) in
          let kind = type_faults (heads_of m) target in
          three here kind (unless is f) (part_fits m (source, judged m c)) (is_type m target) is (part_ties source c law) (type_ties m target) (fits is f)

  agree : (c : ConstText) → Agrees c
  agree = by_parts Agrees at_int at_null at_undef at_global at_element at_cast

  pub const_ties : (ty : Ty) (c : ConstText) → is_first_class ty ≡ true → Ties (const_faults (heads_of m) c ty) (const_fits m c ty ≡ true)
  const_ties ty c first = at_values (told c) (judged m c) (is_undef c) (agree c) ty first

  pub start_ties : (ty : Ty) (c : ConstText) → Ties (const_faults (heads_of m) c ty) ((is_undef c || const_fits m c ty) ≡ true)
  start_ties ty c = (agree c).ties ty
