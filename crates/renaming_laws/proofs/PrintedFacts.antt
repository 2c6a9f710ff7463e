-- A printed fact is read as that fact.
use Rattle.std.proofs.Common.{◌≡◌, ◌||◌, if◌then◌else◌, ℕ, Bool, true, false, not, true≢false, List, [], codes, Option, Some, Ok, Err, arith, refl, ap, sym, ◌∙◌}
use Rattle.std.specs.Int.{is_power_of_two}
use Rattle.std.specs.Prelude.{◌<◌, ◌≤◌, ◌^◌, is_some, nat_le, option_and_then}
use Rattle.std.proofs.lemmas.Bool.{and_parts, leb-true}
use Rattle.json.specs.Json as json
use Rattle.json.specs.Print.{ArePrintable}
use Rattle.json.specs.Tree.{depth, json_tokens}
use Rattle.json.specs.Lex.{tokens}
use Rattle.json.specs.Token.{Token}
use Rattle.json.proofs.Printed.Decimals.{IsNumber-decimal}
use Rattle.json.proofs.Printed.Tokens.{tokens-print}
use Rattle.json.proofs.Printed.Trees.{value-json_tokens}
use Rattle.std.proofs.lemmas.List.{append-nil}
use Rattle.serde_json.specs.Data.{Data, string, number, unsigned, array, no_items, item}
use Rattle.serde_json.specs.Read.{max_depth, of_json, read}
use Rattle.serde_json.specs.Written.{compact_text, outline}
use Rattle.serde_json.proofs.Numbers.{number_of-decimal}
use Rattle.serde_json.proofs.Texts.{print-outline}
use Rattle.ir_core.specs.declared.expressions.Reg.{Reg}
use Rattle.ir_core.specs.declared.expressions.Reg.TheVariants.{Now, Old, Ghost}
use Rattle.ir_core.specs.Expressions.{Expr0, expr_has}
use Rattle.ir_core.specs.Types.{kind_of}
use Rattle.ir_types.specs.declared.names.Sigil.TheVariants.{Local}
use Rattle.ir_types.specs.declared.ty.Ty.{Ty}
use Rattle.ir_printer.specs.ExpressionPrinter.Printed.{printed_expr, printed_register, printed_type}
use Rattle.erhl_assert.specs.declared.facts.Fact.TheVariants.{LessDef}
use Rattle.erhl_assert.specs.declared.facts.Fact.TheVariants as fact
use Rattle.erhl_assert.specs.Edges.{is_old}
use Rattle.json_forms.specs.Faults.{here}
use Rattle.json_forms.specs.Forms.{Reading, read_then}
use Rattle.hint_format.specs.Form.{Leaves, AreLeaves, expression_of_text, is_align, now_of_text, type_of_text}
use Rattle.hint_format.proofs.Readings.{expression_read, type_read}
use Rattle.renaming_laws.specs.HintLaws.{IsShortExpression, IsShortRegister, IsShortType, PrintedFactsAreRead}
use Rattle.renaming_laws.proofs.PrintedExpressions.{printed_expressions_are_read}
use Rattle.renaming_laws.proofs.PrintedNames.{printed_names_are_keys}
use Rattle.renaming_laws.proofs.PrintedTypes.{printed_types_are_read}

-- the value that tokens are, where they are one value and nothing more
of_tokens : List Token → Option Data
of_tokens ts = option_and_then of_json (option_and_then (λ p. json.if_last p.0 p.1) (json.value max_depth ts))

-- a value whose tokens can be printed is read of what is printed of it
module _ (d : Data) (printable : ArePrintable (json_tokens (outline d))) (shallow : depth (outline d) ≤ max_depth) (whole : of_json (outline d) ≡ Some d) where
  tokens_read : of_tokens (json_tokens (outline d)) ≡ Some d
  unfolding of_tokens
  tokens_read =
      let one : json.value max_depth (json_tokens (outline d)) ≡ Some (outline d, []) =
      ap (json.value max_depth) (sym (append-nil (json_tokens (outline d)))) ∙ value-json_tokens (outline d) max_depth [] shallow in
      ap (λ found. option_and_then of_json (option_and_then (λ p. json.if_last p.0 p.1) found)) one ∙ whole

  value_read : read (compact_text d) ≡ Some d
  unfolding of_tokens
  value_read =
      let cut : tokens (compact_text d) ≡ json_tokens (outline d) =
      ap tokens (sym (print-outline d)) ∙ tokens-print (json_tokens (outline d)) printable in
      ap of_tokens cut ∙ tokens_read

-- arrays of texts, the last with a number behind them
abbrev two : List ℕ → List ℕ → Data
two a b = array (item (string a) (item (string b) no_items))

abbrev three : List ℕ → List ℕ → List ℕ → Data
three a b c = array (item (string a) (item (string b) (item (string c) no_items)))

abbrev four : List ℕ → List ℕ → List ℕ → ℕ → Data
four a b c n = array (item (string a) (item (string b) (item (string c) (item (number (unsigned n)) no_items))))

two_printable : (a b : List ℕ) → ArePrintable (json_tokens (outline (two a b)))
unfolding ArePrintable
two_printable a b = (tt, (tt, (tt, (tt, tt))))

three_printable : (a b c : List ℕ) → ArePrintable (json_tokens (outline (three a b c)))
unfolding ArePrintable
three_printable a b c = (tt, (tt, (tt, (tt, (tt, tt)))))

four_printable : (a b c : List ℕ) (n : ℕ) → n < 2 ^ 64 → ArePrintable (json_tokens (outline (four a b c n)))
unfolding ArePrintable
four_printable a b c n small = (tt, (tt, (tt, (tt, (IsNumber-decimal n small, (tt, tt))))))

two_read : (a b : List ℕ) → read (compact_text (two a b)) ≡ Some (two a b)
two_read a b = value_read (two a b) (two_printable a b) (omega arith) refl

three_read : (a b c : List ℕ) → read (compact_text (three a b c)) ≡ Some (three a b c)
three_read a b c = value_read (three a b c) (three_printable a b c) (omega arith) refl

four_read : (a b c : List ℕ) (n : ℕ) → n < 2 ^ 64 → read (compact_text (four a b c n)) ≡ Some (four a b c n)
four_read a b c n small = value_read (four a b c n) (four_printable a b c n small) (omega arith) (rw (number_of-decimal n small) refl)

-- what passes its test is kept
chosen : {A : Type 0} (b : Bool) (a : A) → b ≡ true → ◌≡◌ {A = Reading A} (if b then Ok a else Err here) (Ok a)
chosen true a e = refl
chosen false a e = absurd (true≢false (sym e))

-- an expression that names old registers only where they may stand is kept
kept_by : (old may : Bool) (e : Expr0) → (old ≡ true → may ≡ true) → ◌≡◌ {A = Reading Expr0} (if may || not old then Ok e else Err here) (Ok e)
kept_by true true e allowed = refl
kept_by true false e allowed = absurd (true≢false (sym (allowed refl)))
kept_by false true e allowed = refl
kept_by false false e allowed = refl

kept : (leaves : Leaves) (may : Bool) (text : List ℕ) (e : Expr0) → leaves.expression text ≡ Ok e → (expr_has is_old e ≡ true → may ≡ true)
    → expression_of_text leaves may text ≡ Ok e
kept leaves may text e is allowed =
    ap (λ found. read_then found (λ x. if may || not (expr_has is_old x) then Ok x else Err here)) is ∙ kept_by (expr_has is_old e) may e allowed

or_true : (b : Bool) → (b || true) ≡ true
or_true true = refl
or_true false = refl

module _ (leaves : Leaves) (are : AreLeaves leaves) (may : Bool) where
  expression_kept : (e : Expr0) → IsShortExpression e → (expr_has is_old e ≡ true → may ≡ true)
      → expression_of_text leaves may (printed_expr printed_register e) ≡ Ok e
  expression_kept e short allowed =
      kept leaves may (printed_expr printed_register e) e
      (expression_read leaves are (printed_expr printed_register e) e short.1 (printed_expressions_are_read e short.0)) allowed

  pair_kept : (a b : Expr0) → IsShortExpression a × IsShortExpression b → ((expr_has is_old a || expr_has is_old b) ≡ true → may ≡ true)
      → (expression_of_text leaves may (printed_expr printed_register a) ≡ Ok a) × (expression_of_text leaves may (printed_expr printed_register b) ≡ Ok b)
  pair_kept a b short allowed = (
    expression_kept a short.0 (λ old. allowed (ap (λ x. x || expr_has is_old b) old)),
    expression_kept b short.1 (λ old. allowed (ap (λ x. expr_has is_old a || x) old ∙ or_true (expr_has is_old a))),
  )

  register_kept : (r : Reg) → IsShortRegister r → now_of_text leaves (printed_register r) ≡ Ok r
  register_kept (Now name) short = ap (λ found. read_then found (λ n. Ok (Now n))) (printed_names_are_keys leaves are Local name short.0 short.1)
  register_kept (Old name) short = absurd short
  register_kept (Ghost name) short = absurd short

  type_kept : (t : Ty) → IsShortType t → type_of_text leaves (printed_type t) ≡ Ok t
  type_kept t short =
      ap (λ found. read_then found (λ x. if is_some (kind_of x) then Ok x else Err here))
      (type_read leaves are (printed_type t) t short.2 (printed_types_are_read t short.0))
      ∙ chosen (is_some (kind_of t)) t short.1

small_align : (n : ℕ) → is_align n ≡ true → n < 2 ^ 64
small_align n is = let most = leb-true n (2 ^ 29) (and_parts (is_power_of_two n) (nat_le n (2 ^ 29)) is).1 in omega (arith, most)

pub printed_facts_are_read : PrintedFactsAreRead
printed_facts_are_read leaves are (LessDef a b) may writable allowed =
    let left = printed_expr printed_register a in
    let right = printed_expr printed_register b in
    let both = pair_kept leaves are may a b writable allowed in
    (three (codes "ge") left right, three_read (codes "ge") left right, rw (both.0, both.1) refl)
printed_facts_are_read leaves are (fact.Unique r) may writable allowed =
    (two (codes "unique") (printed_register r), two_read (codes "unique") (printed_register r), rw (register_kept leaves are may r writable) refl)
printed_facts_are_read leaves are (fact.Private r) may writable allowed =
    (two (codes "private") (printed_register r), two_read (codes "private") (printed_register r), rw (register_kept leaves are may r writable) refl)
printed_facts_are_read leaves are (fact.NoAlias a b) may writable allowed =
    let left = printed_expr printed_register a in
    let right = printed_expr printed_register b in
    let both = pair_kept leaves are may a b writable allowed in
    (three (codes "noalias") left right, three_read (codes "noalias") left right, rw (both.0, both.1) refl)
printed_facts_are_read leaves are (fact.Ok e t align) may writable allowed =
    let address = printed_expr printed_register e in
    let at = expression_kept leaves are may e writable.0 allowed in
    let of = type_kept leaves are may t writable.1 in (
      four (codes "ok") address (printed_type t) align,
      four_read (codes "ok") address (printed_type t) align (small_align align writable.2),
      rw (at, of, chosen (is_align align) align writable.2) refl,
    )
