-- What a token says as a word, and what it doesn't say.
use Rattle.std.proofs.Common.{◌≡◌, ◌∙◌, ◌==◌, ◌-◌, ℕ, true, false, Bool, List, [], drop, Some, get_or, if◌then◌else◌, refl, ap, sym}
use Rattle.derivation_cursor.specs.At.{Takes, ahead_of}
use Rattle.derivation_cursor.specs.declared.cursor.Cursor.{Cursor}
use Rattle.derivation_cursor.specs.Leaves.{IsAsWord, word_in}
use Rattle.ir_core.specs.Functions.{is_debug}
use Rattle.ir_lexer.specs.Said.{between, bytes_of, mark_said, name_said, said}
use Rattle.ir_lexer.specs.Strings.{unescaped}
use Rattle.ir_lexer.specs.declared.token.Kind.{Kind}
use Rattle.ir_lexer.specs.declared.token.Kind.TheVariants as kind
use Rattle.ir_lexer.specs.declared.token.Token.{Token}
use Rattle.ir_types.specs.declared.names.Name.{Name}
use Rattle.module_derivations.specs.Empty.{no_name, no_number}
use Rattle.module_derivations.specs.Empty.{said as seen}
use Rattle.module_derivations.specs.Said as leaf
use Rattle.module_grammar.specs.Spelled.{at, global_symbol, mark_symbol, symbol_at, text_symbol, word_symbol}
use Rattle.module_grammar.specs.Symbols.{Symbol, Global, Debug, Bytes, Fixed, Star, Bracket, Brace, foreign, string}
use Rattle.module_grammar.specs.declared.words.Language.{Language}
use Rattle.module_grammar.specs.declared.words.Word.{Word}
use Rattle.module_grammar.specs.declared.words.Word.TheVariants as word

-- ---- by cases

either : (P : Symbol → Type 0) (b : Bool) (s t : Symbol) → P s → P t → P (if b then s else t)
either P true s t p q = p
either P false s t p q = q

of_global : (P : Symbol → Type 0) (name : Name) (start end : ℕ) → P (Debug (at name start end)) → P (Global (at name start end)) → P (global_symbol name start end)
of_global P name start end p q = either P (is_debug name) _ _ p q

of_text : (P : Symbol → Type 0) (text bytes : List ℕ) (start end : ℕ) → P (Bytes (at bytes start end)) → P string → P (text_symbol text bytes start end)
of_text P text bytes start end p q = either P (get_or text (start - 1) 0 == 99) _ _ p q

of_mark : (P : Symbol → Type 0) (b start : ℕ) → ((k : ℕ) → P (Fixed k)) → P (Brace start) → P (Bracket start) → P (Star start) → P (mark_symbol b start)
unfolding mark_symbol
of_mark P b start fixed brace bracket star =
    either P (b == 44) _ _ (fixed 41)
    (either P (b == 61) _ _ (fixed 42)
    (either P (b == 40) _ _ (fixed 43)
    (either P (b == 41) _ _ (fixed 44)
    (either P (b == 123) _ _ brace
    (either P (b == 125) _ _ (fixed 45)
    (either P (b == 91) _ _ bracket
    (either P (b == 93) _ _ (fixed 46)
    (either P (b == 42) _ _ star (fixed 0)))))))))

-- ---- as words

fixed : (k : ℕ) → IsAsWord (Fixed k) foreign
fixed k = record { width = refl; truth = refl; overflow = refl; exact = refl; plain = refl; resize = refl; pred = refl; flag = refl; linkage = refl; extension = refl; holding = refl }

by_kind : (l : Language) (text : List ℕ) (k : Kind) (bytes : List ℕ) (start end : ℕ) → IsAsWord (symbol_at l text (said k bytes) start end) (word_symbol (word_in l k bytes) start end)
by_kind l text kind.Local bytes start end = record { width = refl; truth = refl; overflow = refl; exact = refl; plain = refl; resize = refl; pred = refl; flag = refl; linkage = refl; extension = refl; holding = refl }
by_kind l text kind.Global bytes start end = of_global (λ s. IsAsWord s foreign) (name_said (drop 1 bytes)) start end (record { width = refl; truth = refl; overflow = refl; exact = refl; plain = refl; resize = refl; pred = refl; flag = refl; linkage = refl; extension = refl; holding = refl }) (record { width = refl; truth = refl; overflow = refl; exact = refl; plain = refl; resize = refl; pred = refl; flag = refl; linkage = refl; extension = refl; holding = refl })
by_kind l text kind.Attribute bytes start end = record { width = refl; truth = refl; overflow = refl; exact = refl; plain = refl; resize = refl; pred = refl; flag = refl; linkage = refl; extension = refl; holding = refl }
by_kind l text kind.Bang bytes start end = record { width = refl; truth = refl; overflow = refl; exact = refl; plain = refl; resize = refl; pred = refl; flag = refl; linkage = refl; extension = refl; holding = refl }
by_kind l text kind.Metadata bytes start end = record { width = refl; truth = refl; overflow = refl; exact = refl; plain = refl; resize = refl; pred = refl; flag = refl; linkage = refl; extension = refl; holding = refl }
by_kind l text kind.Label bytes start end = record { width = refl; truth = refl; overflow = refl; exact = refl; plain = refl; resize = refl; pred = refl; flag = refl; linkage = refl; extension = refl; holding = refl }
by_kind l text kind.Dots bytes start end = record { width = refl; truth = refl; overflow = refl; exact = refl; plain = refl; resize = refl; pred = refl; flag = refl; linkage = refl; extension = refl; holding = refl }
by_kind l text kind.Number bytes start end = record { width = refl; truth = refl; overflow = refl; exact = refl; plain = refl; resize = refl; pred = refl; flag = refl; linkage = refl; extension = refl; holding = refl }
by_kind l text kind.Word bytes start end = record { width = refl; truth = refl; overflow = refl; exact = refl; plain = refl; resize = refl; pred = refl; flag = refl; linkage = refl; extension = refl; holding = refl }
by_kind l text kind.Text bytes start end = of_text (λ s. IsAsWord s foreign) text (unescaped (between bytes)) start end (record { width = refl; truth = refl; overflow = refl; exact = refl; plain = refl; resize = refl; pred = refl; flag = refl; linkage = refl; extension = refl; holding = refl }) (record { width = refl; truth = refl; overflow = refl; exact = refl; plain = refl; resize = refl; pred = refl; flag = refl; linkage = refl; extension = refl; holding = refl })
by_kind l text kind.Mark bytes start end = of_mark (λ s. IsAsWord s foreign) (mark_said bytes) start fixed (record { width = refl; truth = refl; overflow = refl; exact = refl; plain = refl; resize = refl; pred = refl; flag = refl; linkage = refl; extension = refl; holding = refl }) (record { width = refl; truth = refl; overflow = refl; exact = refl; plain = refl; resize = refl; pred = refl; flag = refl; linkage = refl; extension = refl; holding = refl }) (record { width = refl; truth = refl; overflow = refl; exact = refl; plain = refl; resize = refl; pred = refl; flag = refl; linkage = refl; extension = refl; holding = refl })

pub as_word :
    (old new : Cursor) (t : Token) (w : Word) → Takes (Some t) old new → w ≡ word_in new.language t.kind (bytes_of new.text.now t)
    → IsAsWord (seen (ahead_of old)) (word_symbol w t.start t.end)
as_word old new t w takes is =
    let language = takes.passes.same.language in
    let text = takes.passes.same.text in
    let same : w ≡ word_in old.language t.kind (bytes_of old.text.now t) =
    is ∙ ap (λ l. word_in l t.kind (bytes_of new.text.now t)) language ∙ ap (λ b. word_in old.language t.kind (bytes_of b.now t)) text in
    rw takes.said (rw same (by_kind old.language old.text.now t.kind (bytes_of old.text.now t) t.start t.end))

pub as_none : (s : Symbol) → s ≡ foreign → IsAsWord s (word_symbol word.Foreign 0 0)
as_none s is = rw is (fixed 0)

-- ---- what is no name, number or bytes, and has no place

pub name_of_global : (name : Name) (start end : ℕ) → leaf.name_of (global_symbol name start end) ≡ at name start end
name_of_global name start end = of_global (λ s. leaf.name_of s ≡ at name start end) name start end refl refl

pub no_name_of_word : (w : Word) (start end : ℕ) → leaf.name_of (word_symbol w start end) ≡ no_name
no_name_of_word (word.Width x) start end = refl
no_name_of_word (word.Truth x) start end = refl
no_name_of_word (word.Overflow x) start end = refl
no_name_of_word (word.Exact x) start end = refl
no_name_of_word (word.Plain x) start end = refl
no_name_of_word (word.Resize x) start end = refl
no_name_of_word (word.Pred x) start end = refl
no_name_of_word (word.Flag x) start end = refl
no_name_of_word (word.Linkage x) start end = refl
no_name_of_word (word.Extension x) start end = refl
no_name_of_word (word.Holding x) start end = refl
no_name_of_word word.Null start end = refl
no_name_of_word word.Element start end = refl
no_name_of_word word.BitCast start end = refl
no_name_of_word (word.Key x) start end = refl
no_name_of_word word.Foreign start end = refl

pub no_number_of_word : (w : Word) (start end : ℕ) → leaf.number_of (word_symbol w start end) ≡ no_number
no_number_of_word (word.Width x) start end = refl
no_number_of_word (word.Truth x) start end = refl
no_number_of_word (word.Overflow x) start end = refl
no_number_of_word (word.Exact x) start end = refl
no_number_of_word (word.Plain x) start end = refl
no_number_of_word (word.Resize x) start end = refl
no_number_of_word (word.Pred x) start end = refl
no_number_of_word (word.Flag x) start end = refl
no_number_of_word (word.Linkage x) start end = refl
no_number_of_word (word.Extension x) start end = refl
no_number_of_word (word.Holding x) start end = refl
no_number_of_word word.Null start end = refl
no_number_of_word word.Element start end = refl
no_number_of_word word.BitCast start end = refl
no_number_of_word (word.Key x) start end = refl
no_number_of_word word.Foreign start end = refl

pub no_bytes_of_word : (w : Word) (start end : ℕ) → leaf.bytes_of (word_symbol w start end) ≡ at [] 0 0
no_bytes_of_word (word.Width x) start end = refl
no_bytes_of_word (word.Truth x) start end = refl
no_bytes_of_word (word.Overflow x) start end = refl
no_bytes_of_word (word.Exact x) start end = refl
no_bytes_of_word (word.Plain x) start end = refl
no_bytes_of_word (word.Resize x) start end = refl
no_bytes_of_word (word.Pred x) start end = refl
no_bytes_of_word (word.Flag x) start end = refl
no_bytes_of_word (word.Linkage x) start end = refl
no_bytes_of_word (word.Extension x) start end = refl
no_bytes_of_word (word.Holding x) start end = refl
no_bytes_of_word word.Null start end = refl
no_bytes_of_word word.Element start end = refl
no_bytes_of_word word.BitCast start end = refl
no_bytes_of_word (word.Key x) start end = refl
no_bytes_of_word word.Foreign start end = refl

pub no_name_of_mark : (b start : ℕ) → leaf.name_of (mark_symbol b start) ≡ no_name
no_name_of_mark b start = of_mark (λ s. leaf.name_of s ≡ no_name) b start (λ k. refl) refl refl refl

pub no_number_of_mark : (b start : ℕ) → leaf.number_of (mark_symbol b start) ≡ no_number
no_number_of_mark b start = of_mark (λ s. leaf.number_of s ≡ no_number) b start (λ k. refl) refl refl refl

pub no_bytes_of_mark : (b start : ℕ) → leaf.bytes_of (mark_symbol b start) ≡ at [] 0 0
no_bytes_of_mark b start = of_mark (λ s. leaf.bytes_of s ≡ at [] 0 0) b start (λ k. refl) refl refl refl

pub no_name_of_text : (text bytes : List ℕ) (start end : ℕ) → leaf.name_of (text_symbol text bytes start end) ≡ no_name
no_name_of_text text bytes start end = of_text (λ s. leaf.name_of s ≡ no_name) text bytes start end refl refl

pub no_number_of_text : (text bytes : List ℕ) (start end : ℕ) → leaf.number_of (text_symbol text bytes start end) ≡ no_number
no_number_of_text text bytes start end = of_text (λ s. leaf.number_of s ≡ no_number) text bytes start end refl refl

pub no_place_of_text : (text bytes : List ℕ) (start end : ℕ) → leaf.place_of (text_symbol text bytes start end) ≡ 0
no_place_of_text text bytes start end = of_text (λ s. leaf.place_of s ≡ 0) text bytes start end refl refl

pub no_number_of_global : (name : Name) (start end : ℕ) → leaf.number_of (global_symbol name start end) ≡ no_number
no_number_of_global name start end = of_global (λ s. leaf.number_of s ≡ no_number) name start end refl refl

pub no_bytes_of_global : (name : Name) (start end : ℕ) → leaf.bytes_of (global_symbol name start end) ≡ at [] 0 0
no_bytes_of_global name start end = of_global (λ s. leaf.bytes_of s ≡ at [] 0 0) name start end refl refl

pub no_place_of_global : (name : Name) (start end : ℕ) → leaf.place_of (global_symbol name start end) ≡ 0
no_place_of_global name start end = of_global (λ s. leaf.place_of s ≡ 0) name start end refl refl
