-- What stands at the front of a text, by the class of its first byte.
use Rattle.std.proofs.Common.{◌≡◌, ℕ, ◌+◌, ◌-◌, Bool, true, false, cond, List, [], ◌∷◌, length, take, drop, codes, refl, ap, sym, ◌∙◌, subst, arith}
use Rattle.std.specs.Prelude.{◌==◌, ◌&&◌}
use Rattle.std.specs.Char.{is_ascii_digit}
use Rattle.std.specs.Str.{bytes_eq}
use Rattle.std.proofs.lemmas.Bool.{and_left, cond-false, cond-true, cond_both}
use Rattle.std.proofs.lemmas.Bool.Decides.{nat_tests}
use Rattle.std.proofs.lemmas.List.{take_rest}
use Rattle.std.proofs.lemmas.List.Sums.{take_while-cons}
use Rattle.ir_core.specs.Names.{is_name_byte}
use Rattle.ir_lexer.specs.declared.bytes.Class.{Class}
use Rattle.ir_lexer.specs.declared.bytes.Class.TheVariants as class
use Rattle.ir_lexer.specs.declared.pieces.Outline.TheVariants as outline_is
use Rattle.ir_lexer.specs.declared.token.Kind.TheVariants as alone
use Rattle.ir_lexer.specs.declared.token.TokenKind.TheVariants as kind
use Rattle.ir_lexer.specs.Bytes.{are_digits, begins_with_colon, begins_word, class_of, is_blank, is_letter, is_mark}
use Rattle.ir_lexer.specs.Names.{name_at}
use Rattle.ir_lexer.specs.Pieces.{Piece, attribute, label, lettered, metadata, named, outline, piece, plain, quoted, run}
use Rattle.ir_lexer.specs.Runs.{digits_at, quoted_at, rest_of_line, run_at}

-- two choices by one test
both : {A B : Type 0} (t : Bool) (f : A → B) (x y : B) (u v : A) → x ≡ f u → y ≡ f v → cond t x y ≡ f (cond t u v)
both true f x y u v first second = first
both false f x y u v first second = second

-- ---- letters

letter_in_name : (b : ℕ) → is_letter b ≡ true → is_name_byte b ≡ true
letter_in_name b is = grind (arith, nat_tests)

letter_no_digit : (b : ℕ) → is_letter b ≡ true → is_ascii_digit b ≡ false
letter_no_digit b is = grind (arith, nat_tests)

letter_no_minus : (b : ℕ) → is_letter b ≡ true → (b == 45) ≡ false
letter_no_minus b is = grind (arith, nat_tests)

letter_no_dot : (b : ℕ) → is_letter b ≡ true → (b == 46) ≡ false
letter_no_dot b is = grind (arith, nat_tests)

letter_begins_word : (b : ℕ) → is_letter b ≡ true → begins_word b ≡ true
letter_begins_word b is = grind (arith, nat_tests)

label_of : (b : ℕ) (w : List ℕ) → is_letter b ≡ true → outline (label (b ∷ w)) ≡ outline_is.Token alone.Label (length w + 2)
unfolding label
label_of b w is =
    ap outline (cond-false (are_digits (b ∷ w)) _ _ (and_left (is_ascii_digit b) _ (letter_no_digit b is)))
    ∙ ap (λ n. outline_is.Token alone.Label n) (omega arith)

word_of : (b : ℕ) (w : List ℕ) → is_letter b ≡ true → outline (plain (b ∷ w)) ≡ outline_is.Token alone.Word (length w + 1)
unfolding plain
word_of b w is =
    ap outline
    (cond-false (bytes_eq (b ∷ w) (codes "...")) _ _ (and_left (b == 46) _ (letter_no_dot b is))
    ∙ cond-false (are_digits (b ∷ w)) _ _ (and_left (is_ascii_digit b) _ (letter_no_digit b is))
    ∙ cond-false (b == 45 && are_digits w) _ _ (and_left (b == 45) _ (letter_no_minus b is))
    ∙ cond-true (begins_word b) _ _ (letter_begins_word b is))
    ∙ ap (λ n. outline_is.Token alone.Word n) (omega arith)

pub run_begun : (b : ℕ) (rest : List ℕ) → is_name_byte b ≡ true → run_at (b ∷ rest) ≡ b ∷ run_at rest
unfolding run_at
run_begun b rest is = take_while-cons is_name_byte b rest ∙ cond-true (is_name_byte b) _ _ is

letter_run : (b : ℕ) (rest : List ℕ) → is_letter b ≡ true → outline (run (run_at (b ∷ rest)) (drop (length (run_at (b ∷ rest))) (b ∷ rest))) ≡ lettered rest
letter_run b rest is =
    ap (λ w. outline (run w (drop (length w) (b ∷ rest)))) (run_begun b rest (letter_in_name b is))
    ∙ sym (both (begins_with_colon (drop (length (run_at rest)) rest)) outline _ _ (label (b ∷ run_at rest)) (plain (b ∷ run_at rest)) (sym (label_of b (run_at rest) is)) (sym (word_of b (run_at rest) is)))

-- ---- classes

abbrev piece_of : Class → ℕ → List ℕ → Piece
piece_of class.Blank b rest = Piece.Gap 1
piece_of class.Comment b rest = Piece.Gap (length (rest_of_line rest) + 1)
piece_of class.Local b rest = named kind.Local (name_at rest)
piece_of class.Global b rest = named kind.Global (name_at rest)
piece_of class.Attribute b rest = attribute (digits_at rest)
piece_of class.Metadata b rest = metadata (run_at rest)
piece_of class.Quote b rest = quoted rest (quoted_at rest)
piece_of class.Letter b rest = run (run_at (b ∷ rest)) (drop (length (run_at (b ∷ rest))) (b ∷ rest))
piece_of class.Run b rest = run (run_at (b ∷ rest)) (drop (length (run_at (b ∷ rest))) (b ∷ rest))
piece_of class.Mark b rest = Piece.Token (kind.Mark b) 1
piece_of class.Other b rest = Piece.BadByte

-- a letter is of a run too
named_first : (b : ℕ) (x y : Piece) (f : Class → Piece) (v : Class) → x ≡ f class.Letter → x ≡ f class.Run → y ≡ f v → cond (is_name_byte b) x y ≡ f (cond (is_letter b) class.Letter (cond (is_name_byte b) class.Run v))
named_first b x y f v letter other second =
    cond_both (is_letter b) class.Letter (cond (is_name_byte b) class.Run v) (λ c. cond (is_name_byte b) x y ≡ f c)
    (λ yes. cond-true (is_name_byte b) _ _ (letter_in_name b yes) ∙ letter)
    (λ none. both (is_name_byte b) f x y class.Run v other second)

piece_is : (b : ℕ) (rest : List ℕ) → piece (b ∷ rest) ≡ piece_of (class_of b) b rest
unfolding piece class_of
piece_is b rest =
    let f = λ (c : Class). piece_of c b rest in
    both (is_blank b) f _ _ class.Blank _ refl
    (both (b == 59) f _ _ class.Comment _ refl
    (both (b == 37) f _ _ class.Local _ refl
    (both (b == 64) f _ _ class.Global _ refl
    (both (b == 35) f _ _ class.Attribute _ refl
    (both (b == 33) f _ _ class.Metadata _ refl
    (both (b == 34) f _ _ class.Quote _ refl
    (named_first b _ _ f _ refl refl
    (both (is_mark b) f _ _ class.Mark class.Other refl refl))))))))

abbrev IsLetterIn : Class → ℕ → Type 0
IsLetterIn class.Letter b = is_letter b ≡ true
IsLetterIn _ b = Unit {0}

is_letter_in : (b : ℕ) → IsLetterIn (class_of b) b
unfolding class_of
is_letter_in b =
    cond_both (is_blank b) _ _ (λ c. IsLetterIn c b) (λ yes. tt)
    (λ no. cond_both (b == 59) _ _ (λ c. IsLetterIn c b) (λ yes. tt)
    (λ no. cond_both (b == 37) _ _ (λ c. IsLetterIn c b) (λ yes. tt)
    (λ no. cond_both (b == 64) _ _ (λ c. IsLetterIn c b) (λ yes. tt)
    (λ no. cond_both (b == 35) _ _ (λ c. IsLetterIn c b) (λ yes. tt)
    (λ no. cond_both (b == 33) _ _ (λ c. IsLetterIn c b) (λ yes. tt)
    (λ no. cond_both (b == 34) _ _ (λ c. IsLetterIn c b) (λ yes. tt)
    (λ no. cond_both (is_letter b) _ _ (λ c. IsLetterIn c b) (λ yes. yes)
    (λ no. cond_both (is_name_byte b) _ _ (λ c. IsLetterIn c b) (λ yes. tt)
    (λ no. cond_both (is_mark b) _ _ (λ c. IsLetterIn c b) (λ yes. tt) (λ no. tt))))))))))

of_class : (b : ℕ) (rest : List ℕ) (c : Class) → class_of b ≡ c → outline (piece (b ∷ rest)) ≡ outline (piece_of c b rest)
of_class b rest c is = ap outline (piece_is b rest) ∙ ap (λ c. outline (piece_of c b rest)) is

pub at_end : outline (piece []) ≡ outline_is.End
unfolding piece
at_end = refl

pub at_blank : (b : ℕ) (rest : List ℕ) → class_of b ≡ class.Blank → outline (piece (b ∷ rest)) ≡ outline_is.Gap 1
at_blank b rest is = of_class b rest class.Blank is

pub at_comment : (b : ℕ) (rest : List ℕ) → class_of b ≡ class.Comment → outline (piece (b ∷ rest)) ≡ outline_is.Gap (length (rest_of_line rest) + 1)
at_comment b rest is = of_class b rest class.Comment is

pub at_local : (b : ℕ) (rest : List ℕ) → class_of b ≡ class.Local → outline (piece (b ∷ rest)) ≡ outline (named kind.Local (name_at rest))
at_local b rest is = of_class b rest class.Local is

pub at_global : (b : ℕ) (rest : List ℕ) → class_of b ≡ class.Global → outline (piece (b ∷ rest)) ≡ outline (named kind.Global (name_at rest))
at_global b rest is = of_class b rest class.Global is

pub at_attribute : (b : ℕ) (rest : List ℕ) → class_of b ≡ class.Attribute → outline (piece (b ∷ rest)) ≡ outline (attribute (digits_at rest))
at_attribute b rest is = of_class b rest class.Attribute is

pub at_metadata : (b : ℕ) (rest : List ℕ) → class_of b ≡ class.Metadata → outline (piece (b ∷ rest)) ≡ outline (metadata (run_at rest))
at_metadata b rest is = of_class b rest class.Metadata is

pub at_quote : (b : ℕ) (rest : List ℕ) → class_of b ≡ class.Quote → outline (piece (b ∷ rest)) ≡ outline (quoted rest (quoted_at rest))
at_quote b rest is = of_class b rest class.Quote is

pub at_letter : (b : ℕ) (rest : List ℕ) → class_of b ≡ class.Letter → outline (piece (b ∷ rest)) ≡ lettered rest
at_letter b rest is = of_class b rest class.Letter is ∙ letter_run b rest (subst (λ c. IsLetterIn c b) is (is_letter_in b))

pub at_run : (b : ℕ) (rest : List ℕ) → class_of b ≡ class.Run → outline (piece (b ∷ rest)) ≡ outline (run (run_at (b ∷ rest)) (drop (length (run_at (b ∷ rest))) (b ∷ rest)))
at_run b rest is = of_class b rest class.Run is

pub run_found : (text found : List ℕ) (b : ℕ) (rest : List ℕ) → text ≡ b ∷ rest → class_of b ≡ class.Run → found ≡ run_at text → outline (run found (take (length text - length found) (drop (length found) text))) ≡ outline (piece text)
run_found text found b rest is here front =
    ap (λ after. outline (run found after)) (take_rest text (length found))
    ∙ ap (λ w. outline (run w (drop (length w) text))) front
    ∙ ap (λ t. outline (run (run_at t) (drop (length (run_at t)) t))) is
    ∙ sym (at_run b rest here)
    ∙ sym (ap (λ t. outline (piece t)) is)

pub at_mark : (b : ℕ) (rest : List ℕ) → class_of b ≡ class.Mark → outline (piece (b ∷ rest)) ≡ outline_is.Token alone.Mark 1
at_mark b rest is = of_class b rest class.Mark is

pub at_other : (b : ℕ) (rest : List ℕ) → class_of b ≡ class.Other → outline (piece (b ∷ rest)) ≡ outline_is.BadByte
at_other b rest is = of_class b rest class.Other is

pub ruleset by_class = (at_end, at_blank, at_comment, at_local, at_global, at_attribute, at_metadata, at_quote, at_letter, at_run, at_mark, at_other)
