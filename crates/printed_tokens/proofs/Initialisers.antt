-- A printed initialiser is the symbols of a written one that names it, at the type that is stated for it.
use Rattle.std.proofs.Common.{◌≡◌, ◌∙◌, ℕ, ◌^◌, ◌<◌, ◌&&◌, ◌||◌, Bool, true, List, [], ◌∷◌, ◌++◌, codes, map, length, Option, Some, None, refl, ap, sym, subst}
use Rattle.std.specs.Prelude.{nat_lt}
use Rattle.std.specs.List.{AllByRecursion, AllZip, flat_map, list_all}
use Rattle.std.proofs.lemmas.Bool.{and_from, and_parts, ltb-true, or_left, or_right}
use Rattle.ir_types.specs.declared.ty.Ty.{Ty, out-Ty}
use Rattle.ir_core.specs.declared.modules.Init.{Init, Zero, Bytes, Array, Struct}
use Rattle.ir_core.specs.declared.modules.Init as init_is
use Rattle.ir_core.specs.declared.modules.Module.{Module}
use Rattle.ir_core.specs.declared.operands.Const.{Const, Undef}
use Rattle.ir_core.specs.Ranges.{are_written, constant_written, init_at_level, init_written, is_written}
use Rattle.ir_core.specs.StatedTypes.{behind_each, stated_at_start, stated_by_init, stated_in}
use Rattle.ir_core.specs.Typing.{are_parts, is_bytes, is_constant_of, is_init_constant, is_init_of, parts_of_array, parts_of_struct}
use Rattle.ir_core.specs.Typing as typing
use Rattle.ir_core.specs.WellFormed.{IsTypeKnown}
use Rattle.ir_core.proofs.Inits as fold
use Rattle.module_grammar.proofs.ConstFolds as const_tree
use Rattle.module_grammar.proofs.InitFolds as tree
use Rattle.module_grammar.specs.declared.constants.ConstText.{ConstText}
use Rattle.module_grammar.specs.declared.constants.ConstText as const_text
use Rattle.module_grammar.specs.declared.constants.ConstText.TheViews.{outs-Undef}
use Rattle.module_grammar.specs.declared.constants.InitText.{InitText}
use Rattle.module_grammar.specs.declared.constants.InitText as text
use Rattle.module_grammar.specs.declared.types.TypeText.{TypeText}
use Rattle.module_grammar.specs.declared.words.KeyWord.TheVariants as key
use Rattle.module_grammar.specs.declared.words.Language.{Language}
use Rattle.module_grammar.specs.Constants.{const, inits, typed_init}
use Rattle.module_grammar.specs.Constants as write
use Rattle.module_grammar.specs.Symbols.{Symbol, Brace, Bracket, close_brace, close_bracket}
use Rattle.module_grammar.specs.Symbols as symbols
use Rattle.module_grammar.specs.Types.{ty}
use Rattle.named_modules.specs.Constants.{IsConst, IsInit, are_types, built_init_part, const_fits, const_of, fits_at_level, fitting_part, init_fits, init_of, is_undef, is_undef_at_level}
use Rattle.named_modules.specs.Constants as naming
use Rattle.named_modules.proofs.ConstKinds as kind
use Rattle.named_modules.proofs.ConstKinds.{told_each}
use Rattle.named_modules.proofs.Lists.{all_left, all_right}
use Rattle.ir_printer.specs.ExpressionPrinter.Printed.{listed, printed_constant, printed_type, quoted, struct_text, typed_text}
use Rattle.ir_printer.specs.Globals.{array_text, init_text, printed_init}
use Rattle.printed_tokens.proofs.Constants.{constant}
use Rattle.printed_tokens.proofs.InitialiserParts.{NamesInitPart, fitting_parts, inits_built, inits_known, parts_are, same_count, typed_parts}
use Rattle.printed_tokens.proofs.InitParts.{EachOf, by_parts}
use Rattle.printed_tokens.proofs.Marks as marks
use Rattle.printed_tokens.proofs.ModuleTypes.{HasNames, is_known, known_in_range}
use Rattle.printed_tokens.proofs.Prints.{Prints, before, behind, both, of_text, read_as, wherever}
use Rattle.printed_tokens.proofs.ReadTexts.{Stops}
use Rattle.printed_tokens.proofs.Strings.{byte_string}
use Rattle.printed_tokens.proofs.Types.{in_braces, no_braces, type}

-- an initialiser behind its type
abbrev pub part_text : Ty × Init → List ℕ
part_text p = printed_type p.0 ++ 32 ∷ printed_init p.1 p.0

each_typed : (ps : List (Ty × Init)) → map typed_text (map (λ p. (p.0, printed_init p.1)) ps) ≡ map part_text ps
each_typed [] = refl
each_typed (p ∷ ps) = ap (λ texts. part_text p ∷ texts) (each_typed ps)

small_bytes : (bytes : List ℕ) → list_all (λ b. nat_lt b (2 ^ 8)) bytes ≡ true → AllByRecursion (λ b. b < 2 ^ 8) bytes
small_bytes [] all = tt
small_bytes (b ∷ bytes) all =
    let parts = and_parts (nat_lt b (2 ^ 8)) (list_all (λ b. nat_lt b (2 ^ 8)) bytes) all in
    (ltb-true b (2 ^ 8) parts.0, small_bytes bytes parts.1)

module _ (m : Module) (language : Language) (names : HasNames m) where
  abbrev PrintsInit : Ty → Init → List ℕ → Type 0
  PrintsInit t i bytes = Prints language Stops write.init (λ (w : InitText). IsInit m t w i) bytes

  -- what is asked of an initialiser at its type
  record Fits (t : Ty) (i : Init) : Type 0 where
    pub ty : is_written t ≡ true
    pub written : init_written t i ≡ true
    pub typed : is_init_of m t i ≡ true
    pub types : AllByRecursion (IsTypeKnown m) (stated_at_start (Some i))

  abbrev CanPrint : Init → Type 0
  CanPrint i = (t : Ty) → Fits t i → PrintsInit t i (printed_init i t)

  of_level : (t : Ty) (i : Init) (text : List ℕ) → printed_init i t ≡ text → PrintsInit t i text → PrintsInit t i (printed_init i t)
  of_level t i text is = of_text language text (printed_init i t) (sym is)

  -- ---- constants

  -- the constant, which may be `undef` at any type
  abbrev NamesStart : Ty → Const → ConstText → Type 0
  NamesStart t c w = (c ≡ const_of w t) × ((is_undef w || const_fits m w t) ≡ true)

  start : (t : Ty) (c : Const) → is_written t ≡ true → constant_written t c ≡ true → is_init_constant m t c ≡ true → AllByRecursion (IsTypeKnown m) (stated_in c)
      → Prints language Stops const (λ (w : ConstText). NamesStart t c w) (printed_constant t c)
  start t Undef ty written typed types =
      read_as language const (λ (w : ConstText). NamesStart t Undef w) (λ u. const_text.Undef) (λ u named. sym const_tree.at_undef)
      (λ u named. (sym (ap (λ (f : Ty → Const). f t) (kind.at_undef (Ty → Const) naming.const_at_level)), or_left (is_undef const_text.Undef) _ (ap is_undef_at_level outs-Undef)))
      (marks.key_alone language key.Undef tt)
  start t c ty written typed types =
      read_as language const (λ (w : ConstText). NamesStart t c w) (λ w. w) (λ w named. refl) (λ w named. (named.0, or_right (is_undef w) (const_fits m w t) named.1))
      (constant m language names t c ty written typed types)

  at_const : (c : Const) → CanPrint (init_is.Const c)
  at_const c t fits =
      let written : constant_written t c ≡ true = sym (ap (λ (f : Ty → Bool). f t) (fold.at_const (Ty → Bool) init_at_level c)) ∙ fits.written in
      let typed : is_init_constant m t c ≡ true = sym (ap (λ (f : Ty → Bool). f t) (fold.at_const (Ty → Bool) (typing.init_at_level m) c)) ∙ fits.typed in
      let types = subst (AllByRecursion (IsTypeKnown m)) (fold.at_const (List Ty) stated_by_init c) fits.types in
      of_level t (init_is.Const c) (printed_constant t c) (ap (λ (f : Ty → List ℕ). f t) (fold.at_const (Ty → List ℕ) init_text c))
      (read_as language write.init (λ (w : InitText). IsInit m t w (init_is.Const c)) text.Const (λ w named. sym (tree.at_const w))
      (λ w named. (
        sym (ap (λ (f : Ty → Init). f t) (kind.at_const (Ty → Init) naming.init_at_level w) ∙ ap init_is.Const (sym named.0)),
        ap (λ (f : Ty → Bool). f t) (kind.at_const (Ty → Bool) (fits_at_level m) w) ∙ named.1,
      ))
      (start t c fits.ty written typed types))

  -- ---- zeros and bytes

  at_zero : CanPrint Zero
  at_zero t fits =
      of_level t Zero (codes "zeroinitializer") (ap (λ (f : Ty → List ℕ). f t) (fold.at_zero (Ty → List ℕ) init_text))
      (read_as language write.init (λ (w : InitText). IsInit m t w Zero) (λ u. text.Zero) (λ u named. sym tree.at_zero)
      (λ u named. (sym (ap (λ (f : Ty → Init). f t) (kind.at_zero (Ty → Init) naming.init_at_level)), ap (λ (f : Ty → Bool). f t) (kind.at_zero (Ty → Bool) (fits_at_level m))))
      (marks.key_alone language key.ZeroInitializer tt))

  at_bytes : (bytes : List ℕ) → CanPrint (Bytes bytes)
  at_bytes bytes t fits =
      let written = sym (ap (λ (f : Ty → Bool). f t) (fold.at_bytes (Ty → Bool) init_at_level bytes)) ∙ fits.written in
      let typed = sym (ap (λ (f : Ty → Bool). f t) (fold.at_bytes (Ty → Bool) (typing.init_at_level m) bytes)) ∙ fits.typed in
      of_level t (Bytes bytes) (99 ∷ quoted bytes) (ap (λ (f : Ty → List ℕ). f t) (fold.at_bytes (Ty → List ℕ) init_text bytes))
      (read_as language write.init (λ (w : InitText). IsInit m t w (Bytes bytes)) text.Bytes (λ w named. sym (tree.at_bytes w))
      (λ w named. (
        sym (ap (λ (f : Ty → Init). f t) (kind.at_bytes (Ty → Init) naming.init_at_level w) ∙ ap Bytes named),
        ap (λ (f : Ty → Bool). f t) (kind.at_bytes (Ty → Bool) (fits_at_level m) w) ∙ ap (λ bs. is_bytes (length bs) (out-Ty t)) named ∙ typed,
      ))
      (byte_string language bytes (small_bytes bytes written)))

  -- ---- parts

  abbrev PrintsPart : Ty × Init → Type 0
  PrintsPart p = Prints language Stops typed_init (λ (w : TypeText × InitText). NamesInitPart m w p) (part_text p)

  one_part : (p : Ty × Init) → CanPrint p.1 → Fits p.0 p.1 → IsTypeKnown m p.0 → PrintsPart p
  one_part p can fits known =
      read_as language typed_init (λ (w : TypeText × InitText). NamesInitPart m w p) (λ w. (w.0, w.1)) (λ w named. refl)
      (λ w named. record { type = named.0.0; known = is_known m w.0 p.0 named.0 known; init = named.1 })
      (both language (type language p.0 fits.ty (known_in_range m names.types p.0 known)) (before language (marks.space language) (can p.0 fits)) (λ rest end. refl))

  can_parts : (ps : List (Ty × Init)) → EachOf CanPrint ps
      → are_written (fold.folded_parts (Ty → Bool) init_at_level ps) ≡ true → list_all (λ q. q.1 q.0) (typed_parts m ps) ≡ true
      → AllByRecursion (IsTypeKnown m) (behind_each (fold.folded_parts (List Ty) stated_by_init ps)) → AllByRecursion PrintsPart ps
  can_parts [] can written typed known = tt
  can_parts (p ∷ ps) can written typed known =
      let here = and_parts (is_written p.0 && init_written p.0 p.1) (are_written (fold.folded_parts (Ty → Bool) init_at_level ps)) written in
      let own = and_parts (is_written p.0) (init_written p.0 p.1) here.0 in
      let of = and_parts (is_init_of m p.0 p.1) (list_all (λ q. q.1 q.0) (typed_parts m ps)) typed in
      let more = behind_each (fold.folded_parts (List Ty) stated_by_init ps) in
      let types = all_left (IsTypeKnown m) (stated_at_start (Some p.1)) more known.1 in (
        one_part p can.0 (record { ty = own.0; written = own.1; typed = of.0; types = types }) known.0,
        can_parts ps can.1 here.1 of.1 (all_right (IsTypeKnown m) (stated_at_start (Some p.1)) more known.1),
      )

  each_typed_so : (o : Option (List Ty)) (ps : List (Ty × Init)) → are_parts o (typed_parts m ps) ≡ true → list_all (λ q. q.1 q.0) (typed_parts m ps) ≡ true
  each_typed_so None ps are = absurd (cc)
  each_typed_so (Some types) ps are = (and_parts _ (list_all (λ q. q.1 q.0) (typed_parts m ps)) are).1

  -- one and further ones
  abbrev Parts : Type 0
  Parts = (TypeText × InitText) × List (TypeText × InitText)

  abbrev parts_written : Parts → List Symbol
  parts_written w = typed_init w.0 ++ flat_map (λ i. symbols.comma ∷ typed_init i) w.1

  parts_listed : (w : Parts) → parts_written w ≡ inits (w.0 ∷ w.1)
  parts_listed w = ap (λ l. typed_init w.0 ++ l) (marks.further_is typed_init w.1)

  some_parts : (p : Ty × Init) (ps : List (Ty × Init)) → PrintsPart p → AllByRecursion PrintsPart ps
      → Prints language Stops parts_written (λ (w : Parts). AllZip (NamesInitPart m) (w.0 ∷ w.1) (p ∷ ps)) (part_text p ++ listed (codes ", ") (map part_text ps))
  some_parts p ps first others = marks.some language PrintsPart typed_init (NamesInitPart m) part_text (λ p one. one) p ps first others

  -- ---- arrays

  array_named : (t : Ty) (at : ℕ) (ws : List (TypeText × InitText)) (ps : List (Ty × Init)) → AllZip (NamesInitPart m) ws ps
      → are_parts (parts_of_array m.types (out-Ty t) (length (typed_parts m ps))) (typed_parts m ps) ≡ true → IsInit m t (text.Array at ws) (Array ps)
  array_named t at ws ps zip are = (
    sym (ap (λ (f : Ty → Init). f t) (kind.at_array (Ty → Init) naming.init_at_level at ws) ∙ ap Array (inits_built m ws ps zip)),
    ap (λ (f : Ty → Bool). f t) (kind.at_array (Ty → Bool) (fits_at_level m) at ws)
        ∙ and_from (are_types m (fitting_parts m ws)) _ (inits_known m ws ps zip)
        (ap (λ n. are_parts (parts_of_array m.types (out-Ty t) n) (map fitting_part (fitting_parts m ws))) (same_count m ws ps zip)
        ∙ parts_are m (parts_of_array m.types (out-Ty t) (length (typed_parts m ps))) ws ps zip are),
  )

  array_parts : (t : Ty) (ps : List (Ty × Init)) → AllByRecursion PrintsPart ps → are_parts (parts_of_array m.types (out-Ty t) (length (typed_parts m ps))) (typed_parts m ps) ≡ true
      → PrintsInit t (Array ps) (array_text (map part_text ps))
  array_parts t [] all are =
      read_as language write.init (λ (w : InitText). IsInit m t w (Array [])) (λ w. text.Array w.0 []) (λ w named. sym (tree.at_array w.0 [])) (λ w named. array_named t w.0 [] [] tt are)
      (wherever language Stops (both language (marks.open_bracket language) (marks.close_bracket language) (λ rest end. tt)))
  array_parts t (p ∷ ps) all are =
      read_as language write.init (λ (w : InitText). IsInit m t w (Array (p ∷ ps))) (λ w. text.Array w.0 (w.1.0 ∷ w.1.1))
      (λ w named. ap (λ l. Bracket w.0 ∷ (l ++ (close_bracket ∷ []))) (parts_listed w.1) ∙ sym (tree.at_array w.0 (w.1.0 ∷ w.1.1)))
      (λ w named. array_named t w.0 (w.1.0 ∷ w.1.1) (p ∷ ps) named.1 are)
      (wherever language Stops
      (both language (marks.open_bracket language) (behind language (some_parts p ps all.0 all.1) (marks.close_bracket language) (λ rest end. refl)) (λ rest end. tt)))

  at_array : (ps : List (Ty × Init)) → EachOf CanPrint ps → CanPrint (Array ps)
  at_array ps can t fits =
      let written = sym (ap (λ (f : Ty → Bool). f t) (fold.at_array (Ty → Bool) init_at_level ps)) ∙ fits.written in
      let typed = sym (ap (λ (f : Ty → Bool). f t) (fold.at_array (Ty → Bool) (typing.init_at_level m) ps)) ∙ fits.typed in
      let known = subst (AllByRecursion (IsTypeKnown m)) (fold.at_array (List Ty) stated_by_init ps) fits.types in
      of_level t (Array ps) (array_text (map part_text ps)) (ap (λ (f : Ty → List ℕ). f t) (fold.at_array (Ty → List ℕ) init_text ps) ∙ ap array_text (each_typed ps))
      (array_parts t ps (can_parts ps can written (each_typed_so (parts_of_array m.types (out-Ty t) (length (typed_parts m ps))) ps typed) known) typed)

  -- ---- structs

  struct_named : (t : Ty) (at : ℕ) (ws : List (TypeText × InitText)) (ps : List (Ty × Init)) → AllZip (NamesInitPart m) ws ps
      → are_parts (parts_of_struct m.types (out-Ty t)) (typed_parts m ps) ≡ true → IsInit m t (text.Struct at ws) (Struct ps)
  struct_named t at ws ps zip are = (
    sym (ap (λ (f : Ty → Init). f t) (kind.at_struct (Ty → Init) naming.init_at_level at ws) ∙ ap Struct (inits_built m ws ps zip)),
    ap (λ (f : Ty → Bool). f t) (kind.at_struct (Ty → Bool) (fits_at_level m) at ws)
        ∙ and_from (are_types m (fitting_parts m ws)) _ (inits_known m ws ps zip) (parts_are m (parts_of_struct m.types (out-Ty t)) ws ps zip are),
  )

  struct_parts : (t : Ty) (ps : List (Ty × Init)) → AllByRecursion PrintsPart ps → are_parts (parts_of_struct m.types (out-Ty t)) (typed_parts m ps) ≡ true
      → PrintsInit t (Struct ps) (struct_text (map part_text ps))
  struct_parts t [] all are =
      read_as language write.init (λ (w : InitText). IsInit m t w (Struct [])) (λ at. text.Struct at []) (λ at named. sym (tree.at_struct at [])) (λ at named. struct_named t at [] [] tt are)
      (wherever language Stops (no_braces language))
  struct_parts t (p ∷ ps) all are =
      read_as language write.init (λ (w : InitText). IsInit m t w (Struct (p ∷ ps))) (λ w. text.Struct w.0 (w.1.0 ∷ w.1.1))
      (λ w named. ap (λ l. Brace w.0 ∷ (l ++ (close_brace ∷ []))) (parts_listed w.1) ∙ sym (tree.at_struct w.0 (w.1.0 ∷ w.1.1)))
      (λ w named. struct_named t w.0 (w.1.0 ∷ w.1.1) (p ∷ ps) named are)
      (wherever language Stops (in_braces language (some_parts p ps all.0 all.1)))

  at_struct : (ps : List (Ty × Init)) → EachOf CanPrint ps → CanPrint (Struct ps)
  at_struct ps can t fits =
      let written = sym (ap (λ (f : Ty → Bool). f t) (fold.at_struct (Ty → Bool) init_at_level ps)) ∙ fits.written in
      let typed = sym (ap (λ (f : Ty → Bool). f t) (fold.at_struct (Ty → Bool) (typing.init_at_level m) ps)) ∙ fits.typed in
      let known = subst (AllByRecursion (IsTypeKnown m)) (fold.at_struct (List Ty) stated_by_init ps) fits.types in
      of_level t (Struct ps) (struct_text (map part_text ps)) (ap (λ (f : Ty → List ℕ). f t) (fold.at_struct (Ty → List ℕ) init_text ps) ∙ ap struct_text (each_typed ps))
      (struct_parts t ps (can_parts ps can written (each_typed_so (parts_of_struct m.types (out-Ty t)) ps typed) known) typed)

  -- ---- all

  pub init : (t : Ty) (i : Init) → is_written t ≡ true → init_written t i ≡ true → is_init_of m t i ≡ true → AllByRecursion (IsTypeKnown m) (stated_at_start (Some i))
      → Prints language Stops write.init (λ (w : InitText). IsInit m t w i) (printed_init i t)
  init t i ty written typed types = by_parts CanPrint at_const at_zero at_bytes at_array at_struct i t (record { ty = ty; written = written; typed = typed; types = types })
