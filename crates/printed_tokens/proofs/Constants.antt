-- A printed constant is the symbols of a written constant that names it, at the type that is stated for it.
use Rattle.std.proofs.Common.{◌≡◌, ◌∙◌, ℕ, ◌&&◌, Bool, true, false, List, [], ◌∷◌, ◌++◌, codes, map, Option, Some, None, refl, ap, sym, subst}
use Rattle.std.specs.Prelude.{if◌then◌else◌, is_some}
use Rattle.std.specs.List.{AllByRecursion, AllZip, flat_map, list_all}
use Rattle.std.specs.Option.{option_map}
use Rattle.std.proofs.lemmas.Bool.{and_from, and_parts}
use Rattle.std.proofs.lemmas.List.{append-nil}
use Rattle.std.proofs.lemmas.List.Folds.{flat_map-map}
use Rattle.ir_types.specs.declared.names.Name.{Name}
use Rattle.ir_types.specs.declared.ty.Ty.{Ty, Ptr}
use Rattle.ir_types.specs.Named.{is_sized}
use Rattle.ir_types.specs.Same.{same_name, same_ty}
use Rattle.ir_types.proofs.SameLaws.{same_name_true, same_ty_true}
use Rattle.ir_core.specs.declared.modules.GlobalVar.{GlobalVar}
use Rattle.ir_core.specs.declared.modules.Module.{Module}
use Rattle.ir_core.specs.declared.operands.Const.{Const, Number, Undef, Null, Global, Element, Cast}
use Rattle.ir_core.specs.Ranges.{IsNameInRange, are_written, constant_at_level, constant_written, is_written}
use Rattle.ir_core.specs.StatedTypes.{behind_each, stated_at_level, stated_in}
use Rattle.ir_core.specs.Types.{constant_fits}
use Rattle.ir_core.specs.Typing.{Fitting, are_typed, contents_of, element_type, fitting_at_level, index_at, is_address, is_cast, is_constant_of, is_due}
use Rattle.ir_core.specs.WellFormed.{IsTypeKnown}
use Rattle.ir_core.specs.Words as words
use Rattle.ir_core.proofs.Constants as fold
use Rattle.module_grammar.proofs.ConstFolds as tree
use Rattle.module_grammar.specs.declared.constants.ConstText.{ConstText}
use Rattle.module_grammar.specs.declared.constants.ConstText as text
use Rattle.module_grammar.specs.declared.types.TypeText.{TypeText}
use Rattle.module_grammar.specs.declared.words.KeyWord.TheVariants as key
use Rattle.module_grammar.specs.declared.words.Language.{Language}
use Rattle.module_grammar.specs.Constants.{const, inbounds, typed_const}
use Rattle.module_grammar.specs.Listed.{further}
use Rattle.module_grammar.specs.Symbols.{Symbol, BitCast, close_paren, open_paren, to}
use Rattle.module_grammar.specs.Symbols as symbols
use Rattle.module_grammar.specs.Types.{ty}
use Rattle.named_modules.specs.Addresses.{address_type}
use Rattle.named_modules.specs.Constants.{IsConst, Judged, const_at_level, const_of, index_part, judged, judged_at_level, may_be, part_fits}
use Rattle.named_modules.specs.Constants as naming
use Rattle.named_modules.specs.Types.{is_type, type_of}
use Rattle.printed_tokens.proofs.Addresses.{from_pointer}
use Rattle.named_modules.proofs.ConstKinds as kind
use Rattle.named_modules.proofs.ConstKinds.{told_each}
use Rattle.named_modules.proofs.Lists.{all_left, all_right}
use Rattle.ir_printer.proofs.ExpressionPrinter.ConstantTexts as texts
use Rattle.ir_printer.proofs.ExpressionPrinter.ConstantTexts.{constants_by_parts}
use Rattle.ir_printer.specs.ExpressionPrinter.Printed.{constant_parts, element_head, further_text, printed_constant, printed_flag, printed_type}
use Rattle.printed_tokens.proofs.ConstantParts.{NamesConst, NamesPart, cast_grouped, element_grouped, judged_parts, parts_built, parts_fit, same_indices}
use Rattle.printed_tokens.proofs.ConstantTypes.{cast_typed, element_typed, fitted_parts, global_typed, null_typed, of_values, undef_typed}
use Rattle.printed_tokens.proofs.GlobalNames.{global_name}
use Rattle.printed_tokens.proofs.Marks as marks
use Rattle.printed_tokens.proofs.ModuleTypes.{HasNames, is_known, is_value, known_in_range}
use Rattle.printed_tokens.proofs.Numbers as numbers
use Rattle.printed_tokens.proofs.Prints.{IsFixed, Prints, before, behind, both, empty, of_text, read_as, wherever}
use Rattle.printed_tokens.proofs.ReadTexts.{Any, Stops}
use Rattle.printed_tokens.proofs.Types.{NamesTy, type}

-- a constant behind its type
abbrev pub part_text : Ty × Const → List ℕ
part_text c = printed_type c.0 ++ 32 ∷ constant_parts c.1 c.0

-- the first global of a name is of that name
abbrev Due : Ty → Option Ty → Type 0
Due t o = is_due (option_map Ptr o) t ≡ true

by_test : (g : GlobalVar) (x : Name) (t : Ty) (more : Option Ty) (same : Bool) → same_name g.name x ≡ same → IsNameInRange g.name → (Due t more → IsNameInRange x) → Due t (if same then Some g.ty else more) → IsNameInRange x
by_test g x t more true is ranged rest due = subst IsNameInRange (same_name_true g.name x is) ranged
by_test g x t more false is ranged rest due = rest due

found_in_range : (gs : List GlobalVar) (x : Name) → AllByRecursion (λ (g : GlobalVar). IsNameInRange g.name) gs → (t : Ty) → Due t (contents_of gs x) → IsNameInRange x
found_in_range [] x ranged t due = absurd (cc)
found_in_range (g ∷ gs) x ranged t due = by_test g x t (contents_of gs x) (same_name g.name x) refl ranged.0 (found_in_range gs x ranged.1 t) due

due_may : (o : Option Ty) (t : Ty) → is_due o t ≡ true → may_be o t ≡ true
due_may None t due = refl
due_may (Some u) t due = due

module _ (m : Module) (language : Language) (names : HasNames m) where
  abbrev PrintsConst : Ty → Const → List ℕ → Type 0
  PrintsConst t c bytes = Prints language Stops const (λ (w : ConstText). NamesConst m t w c) bytes

  -- what is asked of a constant at its type
  record Fits (t : Ty) (c : Const) : Type 0 where
    pub ty : is_written t ≡ true
    pub written : constant_written t c ≡ true
    pub typed : is_constant_of m t c ≡ true
    pub types : AllByRecursion (IsTypeKnown m) (stated_in c)

  abbrev CanPrint : Const → Type 0
  CanPrint c = (t : Ty) → Fits t c → PrintsConst t c (constant_parts c t)

  of_parts : (t : Ty) (c : Const) → PrintsConst t c (printed_constant t c) → PrintsConst t c (constant_parts c t)
  of_parts t c = of_text language (printed_constant t c) (constant_parts c t) (constants_by_parts t c)

  -- ---- constants without constants in them

  at_number : (n : ℕ) → CanPrint (Number n)
  at_number n t fits =
      let fits_here : constant_fits t (Number n) ≡ true = sym (ap (λ (f : Ty → Bool). f t) (fold.at_number (Ty → Bool) constant_at_level n)) ∙ fits.written in
      of_parts t (Number n)
      (read_as language const (λ (w : ConstText). NamesConst m t w (Number n)) text.Int (λ i named. sym (tree.at_int i))
      (λ i named. record {
        is = sym (ap (λ (f : Ty → Const). f t) (kind.at_int (Ty → Const) const_at_level i) ∙ ap naming.number_or_undef named);
        fits = ap (λ (j : Judged). j.fits t) (kind.at_int Judged (judged_at_level m) i) ∙ ap is_some named;
        number = ap (λ (j : Judged). j.number t) (kind.at_int Judged (judged_at_level m) i) ∙ named ∙ sym (ap (λ (f : Fitting). f.number) (fold.at_number Fitting (fitting_at_level m.types m.globals) n));
      })
      (numbers.int language t n fits.ty fits_here))

  at_undef : CanPrint Undef
  at_undef t fits =
      of_parts t Undef
      (read_as language const (λ (w : ConstText). NamesConst m t w Undef) (λ u. text.Undef) (λ u named. sym tree.at_undef)
      (λ u named. record {
        is = sym (ap (λ (f : Ty → Const). f t) (kind.at_undef (Ty → Const) const_at_level));
        fits = ap (λ (j : Judged). j.fits t) (kind.at_undef Judged (judged_at_level m)) ∙ (sym (undef_typed m t) ∙ fits.typed);
        number = ap (λ (j : Judged). j.number t) (kind.at_undef Judged (judged_at_level m)) ∙ sym (ap (λ (f : Fitting). f.number) (fold.at_undef Fitting (fitting_at_level m.types m.globals)));
      })
      (marks.key_alone language key.Undef tt))

  at_null : CanPrint Null
  at_null t fits =
      of_parts t Null
      (read_as language const (λ (w : ConstText). NamesConst m t w Null) text.Null (λ at named. sym (tree.at_null at))
      (λ at named. record {
        is = sym (ap (λ (f : Ty → Const). f t) (kind.at_null (Ty → Const) const_at_level at));
        fits = ap (λ (j : Judged). j.fits t) (kind.at_null Judged (judged_at_level m) at) ∙ (sym (null_typed m t) ∙ fits.typed);
        number = ap (λ (j : Judged). j.number t) (kind.at_null Judged (judged_at_level m) at) ∙ sym (ap (λ (f : Fitting). f.number) (fold.at_null Fitting (fitting_at_level m.types m.globals)));
      })
      (marks.null language))

  at_global : (x : Name) → CanPrint (Global x)
  at_global x t fits =
      let due = sym (global_typed m t x) ∙ fits.typed in
      of_parts t (Global x)
      (read_as language const (λ (w : ConstText). NamesConst m t w (Global x)) text.Global (λ g named. sym (tree.at_global g))
      (λ g named. record {
        is = sym (ap (λ (f : Ty → Const). f t) (kind.at_global (Ty → Const) const_at_level g) ∙ ap Global named);
        fits = ap (λ (j : Judged). j.fits t) (kind.at_global Judged (judged_at_level m) g) ∙ (ap (λ y. is_due (option_map Ptr (contents_of m.globals y)) t) named ∙ due);
        number = ap (λ (j : Judged). j.number t) (kind.at_global Judged (judged_at_level m) g) ∙ sym (ap (λ (f : Fitting). f.number) (fold.at_global Fitting (fitting_at_level m.types m.globals) x));
      })
      (global_name language x (found_in_range m.globals x names.globals t due)))

  -- ---- those behind their types

  abbrev PrintsPart : Ty × Const → Type 0
  PrintsPart c = Prints language Stops typed_const (λ (w : TypeText × ConstText). NamesPart m w c) (part_text c)

  one_part : (c : Ty × Const) → CanPrint c.1 → Fits c.0 c.1 → IsTypeKnown m c.0 → PrintsPart c
  one_part c can fits known =
      read_as language typed_const (λ (w : TypeText × ConstText). NamesPart m w c) (λ w. (w.0, w.1)) (λ w named. refl)
      (λ w named. record { type = named.0.0; value = is_value m w.0 c.0 named.0 known (of_values m c.1 c.0 fits.typed); constant = named.1 })
      (both language (type language c.0 fits.ty (known_in_range m names.types c.0 known)) (before language (marks.space language) (can c.0 fits)) (λ rest end. refl))

  can_parts : (cs : List (Ty × Const)) → fold.EachOf CanPrint cs
      → are_written (fold.folded_parts (Ty → Bool) constant_at_level cs) ≡ true → are_typed (fitted_parts m cs) ≡ true
      → AllByRecursion (IsTypeKnown m) (behind_each (fold.folded_parts (List Ty) stated_at_level cs)) → AllByRecursion PrintsPart cs
  can_parts [] can written typed known = tt
  can_parts (c ∷ cs) can written typed known =
      let here = and_parts (is_written c.0 && constant_written c.0 c.1) (are_written (fold.folded_parts (Ty → Bool) constant_at_level cs)) written in
      let own = and_parts (is_written c.0) (constant_written c.0 c.1) here.0 in
      let of = and_parts (is_constant_of m c.0 c.1) (are_typed (fitted_parts m cs)) typed in
      let more = behind_each (fold.folded_parts (List Ty) stated_at_level cs) in
      let types = all_left (IsTypeKnown m) (stated_in c.1) more known.1 in (
        one_part c can.0 (record { ty = own.0; written = own.1; typed = of.0; types = types }) known.0,
        can_parts cs can.1 here.1 of.1 (all_right (IsTypeKnown m) (stated_in c.1) more known.1),
      )

  -- ---- addresses

  bounds : (set : Bool) → IsFixed language Any (printed_flag set words.inbounds_word) (inbounds set)
  bounds true = marks.key language key.Inbounds tt
  bounds false = empty language Any

  -- `getelementptr inbounds (T, T CONST, T CONST)`, before the last parenthesis
  abbrev AddressTree : Type 0
  AddressTree = (ℕ × TypeText) × ((TypeText × ConstText) × List (TypeText × ConstText))

  abbrev address_written : Bool → AddressTree → List Symbol
  address_written set w =
      (((symbols.Element w.0.0 ∷ []) ++ inbounds set) ++ (open_paren ∷ ty w.0.1)) ++ (symbols.comma ∷ (typed_const w.1.0 ++ flat_map (λ i. symbols.comma ∷ typed_const i) w.1.1))

  abbrev NamesAddress : Ty → Ty × Const → List (Ty × Const) → AddressTree → Type 0
  NamesAddress of base indices w = NamesTy w.0.1 of × AllZip (NamesPart m) (w.1.0 ∷ w.1.1) (base ∷ indices)

  abbrev parts_text : List (Ty × Const) → List ℕ
  parts_text cs = flat_map (λ c. codes ", " ++ part_text c) cs

  address : (set : Bool) (of : Ty) (base : Ty × Const) (indices : List (Ty × Const)) → is_written of ≡ true → IsTypeKnown m of → PrintsPart base → AllByRecursion PrintsPart indices
      → Prints language Stops (address_written set) (NamesAddress of base indices) (element_head set of ++ parts_text (base ∷ indices))
  address set of base indices written known first others =
      read_as language (address_written set) (NamesAddress of base indices) (λ w. ((w.0.0, w.0.1), (w.1.0, w.1.1))) (λ w named. refl) (λ w named. (named.0.1, named.1))
      (both language
      (both language (behind language (marks.element language) (bounds set) (λ rest end. tt)) (before language (marks.open_paren language) (type language of written (known_in_range m names.types of known))) (λ rest end. tt))
      (before language (marks.comma language)
      (both language first (marks.further_flat language PrintsPart typed_const (NamesPart m) part_text (λ c one. one) indices others) (marks.flat_stops language part_text indices)))
      (λ rest end. refl))

  abbrev element_tree : Bool → AddressTree → ConstText
  element_tree set w = text.Element w.0.0 set (w.0.1, w.1.0.0, w.1.0.1, w.1.1)

  element_is_written : (set : Bool) (w : AddressTree) → address_written set w ++ (close_paren ∷ []) ≡ const (element_tree set w)
  element_is_written set w =
      ap (λ l. ((((symbols.Element w.0.0 ∷ []) ++ inbounds set) ++ (open_paren ∷ ty w.0.1)) ++ (symbols.comma ∷ (typed_const w.1.0 ++ l))) ++ (close_paren ∷ [])) (marks.further_is typed_const w.1.1)
      ∙ element_grouped (symbols.Element w.0.0 ∷ inbounds set) (ty w.0.1) (ty w.1.0.0) (const w.1.0.1) (further (map typed_const w.1.1)) (close_paren ∷ []) open_paren symbols.comma
      ∙ sym (tree.at_element w.0.0 set w.0.1 w.1.0.0 w.1.0.1 w.1.1)

  element_named : (t of : Ty) (set : Bool) (base : Ty × Const) (indices : List (Ty × Const)) (w : AddressTree) → IsTypeKnown m of
      → is_constant_of m t (Element (set, of, base ∷ indices)) ≡ true → NamesAddress of base indices w → NamesConst m t (element_tree set w) (Element (set, of, base ∷ indices))
  element_named t of set base indices w known typed named =
      let level_is = kind.at_element Judged (judged_at_level m) w.0.0 set w.0.1 w.1.0.0 w.1.0.1 w.1.1 in
      let led = and_parts (same_ty base.0 (Ptr of) && is_sized m.types of) (is_due (element_type m.types of (map index_at (fitted_parts m indices))) t)
      (and_parts (are_typed (fitted_parts m (base ∷ indices))) _ (sym (element_typed m t set of (base ∷ indices)) ∙ typed)).1 in
      let based = same_ty_true base.0 (Ptr of) (and_parts (same_ty base.0 (Ptr of)) (is_sized m.types of) led.0).0 in
      let leads = ap (λ u. may_be (address_type m.types u (type_of w.0.1) (map index_part (judged_parts m w.1.1))) t) (named.1.0.type ∙ based)
      ∙ ap (λ u. may_be (address_type m.types (Ptr of) u (map index_part (judged_parts m w.1.1))) t) named.0.0
      ∙ ap (λ is. may_be (address_type m.types (Ptr of) of is) t) (same_indices m w.1.1 indices named.1.1)
      ∙ ap (λ o. may_be o t) (from_pointer m.types of (map index_at (fitted_parts m indices)))
      ∙ due_may (element_type m.types of (map index_at (fitted_parts m indices))) t led.1 in
      record {
        is = sym (ap (λ (f : Ty → Const). f t) (kind.at_element (Ty → Const) const_at_level w.0.0 set w.0.1 w.1.0.0 w.1.0.1 w.1.1)
            ∙ ap (λ u. Element (set, u, map naming.built_part (told_each const_of (w.1.0 ∷ w.1.1)))) named.0.0
            ∙ ap (λ cs. Element (set, of, cs)) (parts_built m (w.1.0 ∷ w.1.1) (base ∷ indices) named.1));
        fits = ap (λ (j : Judged). j.fits t) level_is
            ∙ and_from (is_type m w.0.1 && list_all (part_fits m) (judged_parts m (w.1.0 ∷ w.1.1))) (may_be (address_type m.types (type_of w.1.0.0) (type_of w.0.1) (map index_part (judged_parts m w.1.1))) t)
            (and_from (is_type m w.0.1) (list_all (part_fits m) (judged_parts m (w.1.0 ∷ w.1.1))) (is_known m w.0.1 of named.0 known) (parts_fit m (w.1.0 ∷ w.1.1) (base ∷ indices) named.1)) leads;
        number = ap (λ (j : Judged). j.number t) level_is ∙ sym (ap (λ (f : Fitting). f.number) (fold.at_element Fitting (fitting_at_level m.types m.globals) set of (base ∷ indices)));
      }

  element_text : (t of : Ty) (set : Bool) (cs : List (Ty × Const)) → (element_head set of ++ parts_text cs) ++ 41 ∷ [] ≡ constant_parts (Element (set, of, cs)) t
  element_text t of set cs =
      ap (λ parts. (element_head set of ++ parts) ++ 41 ∷ []) (sym (flat_map-map further_text (λ c. (c.0, constant_parts c.1)) cs)) ∙ sym (texts.at_element t set of cs)

  element_of : (t of : Ty) (set : Bool) (cs : List (Ty × Const)) → Fits t (Element (set, of, cs)) → is_written of ≡ true → IsTypeKnown m of → AllByRecursion PrintsPart cs
      → PrintsConst t (Element (set, of, cs)) (constant_parts (Element (set, of, cs)) t)
  element_of t of set [] fits written known parts =
      let never : is_address m.types of [] t ≡ true = (and_parts (are_typed []) (is_address m.types of [] t) (sym (element_typed m t set of []) ∙ fits.typed)).1 in absurd (cc)
  element_of t of set (base ∷ indices) fits written known parts =
      of_text language ((element_head set of ++ parts_text (base ∷ indices)) ++ 41 ∷ []) (constant_parts (Element (set, of, base ∷ indices)) t) (element_text t of set (base ∷ indices))
      (read_as language const (λ (w : ConstText). NamesConst m t w (Element (set, of, base ∷ indices))) (element_tree set) (λ w named. element_is_written set w)
      (λ w named. element_named t of set base indices w known fits.typed named)
      (wherever language Stops (behind language (address set of base indices written known parts.0 parts.1) (marks.close_paren language) (λ rest end. refl))))

  at_element : (set : Bool) (of : Ty) (cs : List (Ty × Const)) → fold.EachOf CanPrint cs → CanPrint (Element (set, of, cs))
  at_element set of cs can t fits =
      let written = and_parts (is_written of) _ (sym (ap (λ (f : Ty → Bool). f t) (fold.at_element (Ty → Bool) constant_at_level set of cs)) ∙ fits.written) in
      let typed = and_parts (are_typed (fitted_parts m cs)) _ (sym (element_typed m t set of cs) ∙ fits.typed) in
      let known = subst (AllByRecursion (IsTypeKnown m)) (fold.at_element (List Ty) stated_at_level set of cs) fits.types in
      element_of t of set cs fits written.0 known.0 (can_parts cs can written.1 typed.0 known.1)

  -- ---- casts

  -- `bitcast (T CONST to T)`
  abbrev CastTree : Type 0
  CastTree = (ℕ × (TypeText × ConstText)) × TypeText

  abbrev cast_tree : CastTree → ConstText
  cast_tree w = text.Cast w.0.0 (w.0.1.0, w.0.1.1, w.1)

  abbrev NamesCast : Ty → Ty × Const → CastTree → Type 0
  NamesCast target source w = NamesPart m w.0.1 source × NamesTy w.1 target

  to_word : IsFixed language Any (codes " to ") (to ∷ [])
  to_word = before language (marks.space language) (marks.key language key.To tt)

  cast_named : (t target : Ty) (source : Ty × Const) (w : CastTree) → IsTypeKnown m target → is_constant_of m t (Cast (target, source ∷ [])) ≡ true → NamesCast target source w
      → NamesConst m t (cast_tree w) (Cast (target, source ∷ []))
  cast_named t target source w known typed named =
      let level_is = kind.at_cast Judged (judged_at_level m) w.0.0 w.0.1.0 w.0.1.1 w.1 in
      let same = (and_parts _ (same_ty target t) (sym (cast_typed m t target (source ∷ [])) ∙ typed)).1 in
      let part = part_fits m (w.0.1.0, judged m w.0.1.1) in
      record {
        is = sym (ap (λ (f : Ty → Const). f t) (kind.at_cast (Ty → Const) const_at_level w.0.0 w.0.1.0 w.0.1.1 w.1)
            ∙ ap (λ u. Cast (u, map naming.built_part (told_each const_of (w.0.1 ∷ [])))) named.1.0
            ∙ ap (λ cs. Cast (target, cs)) (parts_built m (w.0.1 ∷ []) (source ∷ []) (named.0, tt)));
        fits = ap (λ (j : Judged). j.fits t) level_is
            ∙ and_from (part && is_type m w.1) (same_ty (type_of w.1) t)
            (and_from part (is_type m w.1) (and_parts part true (parts_fit m (w.0.1 ∷ []) (source ∷ []) (named.0, tt))).0 (is_known m w.1 target named.1 known))
            (ap (λ u. same_ty u t) named.1.0 ∙ same);
        number = ap (λ (j : Judged). j.number t) level_is ∙ sym (ap (λ (f : Fitting). f.number) (fold.at_cast Fitting (fitting_at_level m.types m.globals) target (source ∷ [])));
      }

  cast_text : (t target : Ty) (source : Ty × Const) → (((codes "bitcast (" ++ part_text source) ++ codes " to ") ++ printed_type target) ++ 41 ∷ [] ≡ constant_parts (Cast (target, source ∷ [])) t
  cast_text t target source =
      ap (λ part. (((codes "bitcast (" ++ part) ++ codes " to ") ++ printed_type target) ++ 41 ∷ []) (sym (append-nil (part_text source))) ∙ sym (texts.at_cast t target (source ∷ []))

  one_cast : (t target : Ty) (source : Ty × Const) → Fits t (Cast (target, source ∷ [])) → is_written target ≡ true → IsTypeKnown m target → PrintsPart source
      → PrintsConst t (Cast (target, source ∷ [])) (constant_parts (Cast (target, source ∷ [])) t)
  one_cast t target source fits written known part =
      of_text language ((((codes "bitcast (" ++ part_text source) ++ codes " to ") ++ printed_type target) ++ 41 ∷ []) (constant_parts (Cast (target, source ∷ [])) t) (cast_text t target source)
      (read_as language const (λ (w : ConstText). NamesConst m t w (Cast (target, source ∷ []))) (λ w. text.Cast w.0.0 (w.0.1.0, w.0.1.1, w.1))
      (λ w named. cast_grouped (BitCast w.0.0 ∷ open_paren ∷ ty w.0.1.0) (const w.0.1.1) (ty w.1) (close_paren ∷ []) to ∙ sym (tree.at_cast w.0.0 w.0.1.0 w.0.1.1 w.1))
      (λ w named. cast_named t target source ((w.0.0, w.0.1), w.1) known fits.typed (named.0.1, named.1))
      (wherever language Stops
      (behind language
      (both language
      (behind language (both language (marks.bitcast language) (before language (marks.open_paren language) part) (λ rest end. tt)) to_word (λ rest end. refl))
      (type language target written (known_in_range m names.types target known)) (λ rest end. tt))
      (marks.close_paren language) (λ rest end. refl))))

  cast_of : (t target : Ty) (cs : List (Ty × Const)) → Fits t (Cast (target, cs)) → is_cast target (fitted_parts m cs) ≡ true → is_written target ≡ true → IsTypeKnown m target → AllByRecursion PrintsPart cs
      → PrintsConst t (Cast (target, cs)) (constant_parts (Cast (target, cs)) t)
  cast_of t target [] fits is written known parts = absurd (cc)
  cast_of t target (source ∷ []) fits is written known parts = one_cast t target source fits written known parts.0
  cast_of t target (source ∷ more ∷ others) fits is written known parts = absurd (cc)

  at_cast : (target : Ty) (cs : List (Ty × Const)) → fold.EachOf CanPrint cs → CanPrint (Cast (target, cs))
  at_cast target cs can t fits =
      let written = and_parts (is_written target) _ (sym (ap (λ (f : Ty → Bool). f t) (fold.at_cast (Ty → Bool) constant_at_level target cs)) ∙ fits.written) in
      let typed = and_parts (are_typed (fitted_parts m cs)) _ (and_parts _ (same_ty target t) (sym (cast_typed m t target cs) ∙ fits.typed)).0 in
      let stated = behind_each (fold.folded_parts (List Ty) stated_at_level cs) in
      let known = subst (AllByRecursion (IsTypeKnown m)) (fold.at_cast (List Ty) stated_at_level target cs) fits.types in
      cast_of t target cs fits typed.1 written.0 (all_right (IsTypeKnown m) stated (target ∷ []) known).0
      (can_parts cs can written.1 typed.0 (all_left (IsTypeKnown m) stated (target ∷ []) known))

  -- ---- all

  pub constant : (t : Ty) (c : Const) → is_written t ≡ true → constant_written t c ≡ true → is_constant_of m t c ≡ true → AllByRecursion (IsTypeKnown m) (stated_in c)
      → Prints language Stops const (λ (w : ConstText). IsConst m t w c) (printed_constant t c)
  constant t c ty written typed types =
      read_as language const (λ (w : ConstText). IsConst m t w c) (λ w. w) (λ w named. refl) (λ w named. (named.is, named.fits))
      (of_text language (constant_parts c t) (printed_constant t c) (sym (constants_by_parts t c))
      (fold.by_parts CanPrint at_number at_undef at_null at_global at_element at_cast c t (record { ty = ty; written = written; typed = typed; types = types })))
