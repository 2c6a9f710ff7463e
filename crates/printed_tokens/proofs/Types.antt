-- A printed type is the symbols of a written type that names it.
use Rattle.std.proofs.Common.{◌≡◌, ℕ, ◌^◌, ◌<◌, Bool, true, false, List, [], ◌∷◌, ◌++◌, codes, map, Some, arith, refl, ap, sym, ◌∙◌, subst}
use Rattle.std.specs.Prelude.{nat_lt}
use Rattle.std.specs.List.{AllByRecursion, AllZip, flat_map, list_all}
use Rattle.std.specs.Char.{is_ascii_digit}
use Rattle.std.specs.Fmt.{decimal, digits}
use Rattle.std.proofs.lemmas.Bool.{agree_below_at, and_from, and_parts, cond-true, lt-ltb, ltb-true}
use Rattle.ir_types.specs.declared.names.Name.{Name}
use Rattle.ir_types.specs.declared.ty.Ty.{Ty, Int, Ptr, Array, Struct, Named, Void}
use Rattle.ir_types.proofs.Induction as fold
use Rattle.ir_core.specs.Ranges.{IsNameInRange, is_written, written_at_level}
use Rattle.ir_core.specs.TypeNames.{names_in_type}
use Rattle.ir_core.specs.Types.{is_width}
use Rattle.ir_core.proofs.TypeNames as names
use Rattle.ir_lexer.specs.declared.token.Number.{Number}
use Rattle.ir_lexer.specs.Pieces.{plain}
use Rattle.module_grammar.proofs.TypeFolds as tree
use Rattle.module_grammar.specs.declared.places.Placed.{Placed}
use Rattle.module_grammar.specs.declared.types.TypeText.{TypeText}
use Rattle.module_grammar.specs.declared.types.TypeText as type_text
use Rattle.module_grammar.specs.declared.words.KeyWord.TheVariants as key
use Rattle.module_grammar.specs.declared.words.Language.{Language}
use Rattle.module_grammar.specs.declared.words.Word.TheVariants as word
use Rattle.module_grammar.specs.Spelled.{at, word_symbol}
use Rattle.module_grammar.specs.Symbols.{Symbol, Brace, close_brace, times}
use Rattle.module_grammar.specs.Types.{ty}
use Rattle.module_grammar.specs.Words.{are_width, width_of, word_said}
use Rattle.named_modules.specs.Types.{count_built, counted_at_level, is_count, is_counted, type_at_level, type_of}
use Rattle.named_modules.proofs.Lists.{all_left, all_right}
use Rattle.named_modules.proofs.TypeKinds as kind
use Rattle.ir_printer.proofs.ExpressionPrinter.TypeTexts.{types_by_parts}
use Rattle.ir_printer.specs.ExpressionPrinter.Printed.{printed_local, printed_parts, printed_type, struct_text}
use Rattle.ir_printer.specs.ExpressionPrinter.Printed as printed
use Rattle.printed_tokens.proofs.Decimals.{decimal_means}
use Rattle.printed_tokens.proofs.Marks as marks
use Rattle.printed_tokens.proofs.Numbers.{at_most_64, numeral, unsigned}
use Rattle.printed_tokens.proofs.Prints.{IsFixed, Prints, before, behind, both, of_text, one_token, read_as, wherever}
use Rattle.printed_tokens.proofs.ReadTexts.{Any, IsWord, Stops}
use Rattle.printed_tokens.proofs.ReadTexts as reads
use Rattle.printed_tokens.proofs.Runs.{digits_in_name}
use Rattle.printed_tokens.proofs.TokenWords as kinds
use Rattle.printed_tokens.proofs.WordSymbols.{width_said}

-- ---- integers

letter_first : (ds : List ℕ) → list_all is_ascii_digit ds ≡ true → IsWord (105 ∷ ds)
unfolding plain
letter_first ds all = record { all = and_from _ _ refl (digits_in_name ds all); is = refl }

-- true of the widths alone, which is found by going over all of them
are_written : ℕ → Bool
are_written w = are_width (decimal w)

width_written : (w : ℕ) → is_width w ≡ true → are_width (decimal w) ≡ true
unfolding are_written digits
width_written w is = agree_below_at are_written is_width 65 w refl (omega (arith, at_most_64 w is)) ∙ is

width_word : (w : ℕ) → is_width w ≡ true → word_said (105 ∷ decimal w) ≡ word.Width w
unfolding word_said
width_word w is =
    let small : w < 2 ^ 64 = omega (arith, at_most_64 w is) in
    let found : width_of (105 ∷ decimal w) ≡ Some w =
    cond-true (are_width (decimal w)) _ _ (width_written w is) ∙ ap Some (decimal_means w small).value in
    rw found refl

-- ---- counts

count_kept : (n : ℕ) (w : Number) → n < 2 ^ 64 → w ≡ unsigned n → (count_built w ≡ n) × (is_count w ≡ true)
count_kept n w small is =
    let below = lt-ltb n (2 ^ 64) small in
    let counts : is_count w ≡ true = ap is_count is ∙ and_from (nat_lt n (2 ^ 64)) true below refl in
    (cond-true (is_count w) w.magnitude 0 counts ∙ ap (λ (k : Number). k.magnitude) is, counts)

-- ---- lists of types

-- what is written names the type, and its counts are counts
abbrev pub NamesTy : TypeText → Ty → Type 0
NamesTy w t = (type_of w ≡ t) × (is_counted w ≡ true)

zipped : (ws : List TypeText) (ts : List Ty) → AllZip NamesTy ws ts → (map type_of ws ≡ ts) × (list_all (λ f. f) (map is_counted ws) ≡ true)
zipped [] [] all = (refl, refl)
zipped [] (t ∷ ts) all = absurd all
zipped (w ∷ ws) [] all = absurd all
zipped (w ∷ ws) (t ∷ ts) all =
    let more = zipped ws ts all.1 in
    (ap (λ u. u ∷ map type_of ws) all.0.0 ∙ ap (λ us. t ∷ us) more.0, and_from (is_counted w) (list_all (λ f. f) (map is_counted ws)) all.0.1 more.1)

-- the names that stand in a type are in range
abbrev pub AreNamesInRange : Ty → Type 0
AreNamesInRange t = AllByRecursion IsNameInRange (names_in_type t)

module _ (language : Language) where
  -- the text is a type that names this one
  abbrev pub PrintsType : Ty → List ℕ → Type 0
  PrintsType t bytes = Prints language Stops ty (λ (w : TypeText). NamesTy w t) bytes

  abbrev CanPrint : Ty → Type 0
  CanPrint t = is_written t ≡ true → AreNamesInRange t → PrintsType t (printed_parts t)

  at_int : (w : ℕ) → CanPrint (Int w)
  at_int w written ranged =
      let is : is_width w ≡ true = sym (fold.at_int Bool written_at_level w) ∙ written in
      let small : w < 2 ^ 64 = omega (arith, at_most_64 w is) in
      let said = width_said language (decimal w) w (width_word w is) in
      of_text language (105 ∷ decimal w) (printed_parts (Int w)) (sym (fold.at_int (List ℕ) printed.type_text w))
      (one_token language Stops ty (λ (v : TypeText). NamesTy v (Int w)) (105 ∷ decimal w) (kinds.word (105 ∷ decimal w))
      (λ start end. type_text.Int (at w start end)) (reads.word (105 ∷ decimal w) (letter_first (decimal w) (decimal_means w small).all))
      (λ i j. ap (λ s. word_symbol s i j ∷ []) said ∙ sym (tree.at_int (at w i j)))
      (λ i j. (kind.at_int Ty type_at_level (at w i j), kind.at_int Bool counted_at_level (at w i j))))

  at_named : (x : Name) → CanPrint (Named x)
  at_named x written ranged =
      let own = subst (AllByRecursion IsNameInRange) (names.at_named x) ranged in
      of_text language (printed_local x) (printed_parts (Named x)) (sym (fold.at_named (List ℕ) printed.type_text x))
      (read_as language ty (λ (v : TypeText). NamesTy v (Named x)) type_text.Named (λ n named. sym (tree.at_named n))
      (λ n named. (kind.at_named Ty type_at_level n ∙ ap Named (sym named), kind.at_named Bool counted_at_level n))
      (marks.local language x own.0))

  at_ptr : (t : Ty) → CanPrint t → CanPrint (Ptr t)
  at_ptr t one written ranged =
      let inner = one (sym (fold.at_ptr Bool written_at_level t) ∙ written) (subst (AllByRecursion IsNameInRange) (names.at_ptr t) ranged) in
      of_text language (printed_parts t ++ 42 ∷ []) (printed_parts (Ptr t)) (sym (fold.at_ptr (List ℕ) printed.type_text t))
      (read_as language ty (λ (v : TypeText). NamesTy v (Ptr t)) (λ w. type_text.Ptr w.1 w.0) (λ w named. sym (tree.at_ptr w.1 w.0))
      (λ w named. (kind.at_ptr Ty type_at_level w.1 w.0 ∙ ap Ptr named.0.0, kind.at_ptr Bool counted_at_level w.1 w.0 ∙ named.0.1))
      (wherever language Stops (both language inner (marks.star language) (λ rest end. refl))))

  -- ` x `
  by : IsFixed language Any (codes " x ") (times ∷ [])
  by = before language (marks.space language) (marks.key language key.Times tt)

  array_named : (n : ℕ) (t : Ty) (start : ℕ) (count : Placed Number) (w : TypeText) → (count_built count.what ≡ n) × (is_count count.what ≡ true) → NamesTy w t → NamesTy (type_text.Array start (count, w)) (Array n t)
  array_named n t start count w counted named = (
    kind.at_array Ty type_at_level start count w ∙ ap (λ k. Array k (type_of w)) counted.0 ∙ ap (Array n) named.0,
    kind.at_array Bool counted_at_level start count w ∙ and_from (is_count count.what) (is_counted w) counted.1 named.1,
  )

  at_array : (n : ℕ) (t : Ty) → CanPrint t → CanPrint (Array n t)
  at_array n t one written ranged =
      let parts = and_parts (nat_lt n (2 ^ 64)) (is_written t) (sym (fold.at_array Bool written_at_level n t) ∙ written) in
      let small : n < 2 ^ 64 = ltb-true n (2 ^ 64) parts.0 in
      let inner = one parts.1 (subst (AllByRecursion IsNameInRange) (names.at_array n t) ranged) in
      of_text language (91 ∷ decimal n ++ codes " x " ++ printed_parts t ++ 93 ∷ []) (printed_parts (Array n t)) (sym (fold.at_array (List ℕ) printed.type_text n t))
      (read_as language ty (λ (v : TypeText). NamesTy v (Array n t)) (λ w. type_text.Array w.0 (w.1.0, w.1.1)) (λ w named. sym (tree.at_array w.0 w.1.0 w.1.1))
      (λ w named. array_named n t w.0 w.1.0 w.1.1 (count_kept n w.1.0.what small named.1.0) named.1.1)
      (wherever language Stops
      (both language (marks.open_bracket language)
      (behind language (both language (behind language (numeral language n small) by (λ rest end. refl)) inner (λ rest end. tt)) (marks.close_bracket language) (λ rest end. refl))
      (λ rest end. tt))))

  -- ---- structs

  -- `{}`
  pub no_braces : Prints language Any (λ (at : ℕ). Brace at ∷ close_brace ∷ []) (λ (at : ℕ). Unit {0}) (codes "{}")
  no_braces =
      read_as language (λ (at : ℕ). Brace at ∷ close_brace ∷ []) (λ (at : ℕ). Unit {0}) (λ t. t.0) (λ t named. refl) (λ t named. tt)
      (both language (marks.open_brace language) (marks.close_brace language) (λ rest end. tt))

  -- `{ .. }`
  pub in_braces :
      {A : Type 0} {v : A → List Symbol} {M : A → Type 0} {text : List ℕ}
      → Prints language Stops v M text → Prints language Any (λ (w : ℕ × A). Brace w.0 ∷ (v w.1 ++ (close_brace ∷ []))) (λ (w : ℕ × A). M w.1) (codes "{ " ++ (text ++ codes " }"))
  in_braces {A} {v} {M} {text} inner =
      read_as language (λ (w : ℕ × A). Brace w.0 ∷ (v w.1 ++ (close_brace ∷ []))) (λ (w : ℕ × A). M w.1) (λ w. w) (λ w named. refl) (λ w named. named.1)
      (both language (marks.open_brace language)
      (before language (marks.space language) (behind language inner (before language (marks.space language) (marks.close_brace language)) (λ rest end. refl)))
      (λ rest end. tt))

  can_print : (ts : List Ty) → AllByRecursion CanPrint ts → list_all (λ b. b) (map is_written ts) ≡ true → AllByRecursion IsNameInRange (flat_map names_in_type ts)
      → AllByRecursion (λ t. PrintsType t (printed_parts t)) ts
  can_print [] all written ranged = tt
  can_print (t ∷ ts) all written ranged =
      let parts = and_parts (is_written t) (list_all (λ b. b) (map is_written ts)) written in (
        all.0 parts.0 (all_left IsNameInRange (names_in_type t) (flat_map names_in_type ts) ranged),
        can_print ts all.1 parts.1 (all_right IsNameInRange (names_in_type t) (flat_map names_in_type ts) ranged),
      )

  struct_named : (at : ℕ) (ws : List TypeText) (ts : List Ty) → AllZip NamesTy ws ts → NamesTy (type_text.Struct at ws) (Struct ts)
  struct_named at ws ts all =
      let named = zipped ws ts all in
      (kind.at_struct Ty type_at_level at ws ∙ ap Struct named.0, kind.at_struct Bool counted_at_level at ws ∙ named.1)

  struct_parts : (ts : List Ty) → AllByRecursion (λ t. PrintsType t (printed_parts t)) ts → PrintsType (Struct ts) (struct_text (map printed_parts ts))
  struct_parts [] all =
      read_as language ty (λ (v : TypeText). NamesTy v (Struct [])) (λ at. type_text.Struct at []) (λ at named. sym (tree.at_struct at [])) (λ at named. struct_named at [] [] tt)
      (wherever language Stops no_braces)
  struct_parts (t ∷ ts) all =
      read_as language ty (λ (v : TypeText). NamesTy v (Struct (t ∷ ts))) (λ w. type_text.Struct w.0 (w.1.0 ∷ w.1.1))
      (λ w named. ap (λ l. Brace w.0 ∷ ((ty w.1.0 ++ l) ++ (close_brace ∷ []))) (marks.further_is ty w.1.1) ∙ sym (tree.at_struct w.0 (w.1.0 ∷ w.1.1)))
      (λ w named. struct_named w.0 (w.1.0 ∷ w.1.1) (t ∷ ts) named)
      (wherever language Stops (in_braces (marks.some language (λ t. PrintsType t (printed_parts t)) ty NamesTy printed_parts (λ t one. one) t ts all.0 all.1)))

  at_struct : (ts : List Ty) → AllByRecursion CanPrint ts → CanPrint (Struct ts)
  at_struct ts all written ranged =
      of_text language (struct_text (map printed_parts ts)) (printed_parts (Struct ts)) (sym (fold.at_struct (List ℕ) printed.type_text ts))
      (struct_parts ts (can_print ts all (sym (fold.at_struct Bool written_at_level ts) ∙ written) (subst (AllByRecursion IsNameInRange) (names.at_struct ts) ranged)))

  at_void : CanPrint Void
  at_void written ranged = let never : false ≡ true = sym (fold.at_void Bool written_at_level) ∙ written in absurd (cc)

  -- A type that can be written, and whose names can.
  pub type : (t : Ty) → is_written t ≡ true → AreNamesInRange t → PrintsType t (printed_type t)
  type t written ranged =
      of_text language (printed_parts t) (printed_type t) (sym (types_by_parts t))
      (fold.by_parts CanPrint at_int at_ptr at_array at_struct at_named at_void t written ranged)
