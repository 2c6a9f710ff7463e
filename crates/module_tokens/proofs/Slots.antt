-- No two words have one slot, so that a word is looked for at one place alone.
use Rattle.std.proofs.Common.{◌≡◌, ◌≤◌, ℕ, Bool, true, false, List, [], ◌∷◌, map, length, get_or, nat_lt, if◌then◌else◌, refl, sym, ap, ◌∙◌, true≢false, arith}
use Rattle.std.specs.Borrow.{Bor}
use Rattle.std.specs.Str.{bytes_eq}
use Rattle.std.proofs.Math.ListN.{get_or-map}
use Rattle.std.proofs.lemmas.Bool.Decides.{Decides-ltb}
use Rattle.std.proofs.lemmas.Bool.{ltb-false}
use Rattle.std.proofs.lemmas.List.{get_or_past, length-map}
use Rattle.std.proofs.lemmas.List as std
use Rattle.std.proofs.lemmas.Slice.Eq.{bytes_eq-Decides}
use Rattle.module_grammar.specs.declared.words.Word.{Word}
use Rattle.module_grammar.specs.declared.words.Word.TheVariants.{Foreign}
use Rattle.module_grammar.specs.Words.{Entry, found_in, words}
use Rattle.module_tokens.specs.Slots.{AreOfSlots, entry_of, nothing, said_as, said_named, slot}

-- ---- an entry of a slice

pub entry_at : (xs : List (Bor (List ℕ) × Word)) (n : ℕ) (e : Bor (List ℕ) × Word) → true ≡ nat_lt n (length xs) → e ≡ get_or xs n e
    → get_or (map entry_of xs) n nothing ≡ entry_of e
entry_at xs n e inside is = std.get_or-map entry_of xs n e nothing ((Decides-ltb n (length xs)).0 (sym inside)) ∙ ap entry_of (sym is)

foreign_anyhow : (same : Bool) → Foreign ≡ (if same then Foreign else Foreign)
foreign_anyhow true = refl
foreign_anyhow false = refl

pub foreign_past : (xs : List (Bor (List ℕ) × Word)) (n : ℕ) (w : List ℕ) → false ≡ nat_lt n (length xs)
    → Foreign ≡ said_as (get_or (map entry_of xs) n nothing) w
foreign_past xs n w past =
    let outside : length xs ≤ n = ltb-false n (length xs) (sym past) in
    let same : length (map entry_of xs) ≡ length xs = length-map xs entry_of in
    rw (get_or_past (map entry_of xs) n nothing (omega (arith, outside, same))) (foreign_anyhow (bytes_eq w []))

pub said_there : (e : Entry) (w : List ℕ) → true ≡ bytes_eq w e.0 → e.1 ≡ said_as e w
said_there e w same = rw (← same) refl

pub foreign_there : (e : Entry) (w : List ℕ) → false ≡ bytes_eq w e.0 → Foreign ≡ said_as e w
foreign_there e w other = rw (← other) refl

-- ---- one place alone

-- a word that isn't the one where it is looked for is none of those that stand where they are looked for
none_of : (place : List ℕ → Entry) (es : List Entry) (w : List ℕ) → map (λ (e : Entry). place e.0) es ≡ es → bytes_eq w (place w).0 ≡ false
    → found_in es Foreign w ≡ Foreign
none_of place [] w each other = refl
none_of place (e ∷ es) w each other = go (bytes_eq w e.0) refl (none_of place es w (ap tail each) other)
  where
    tail : List Entry → List Entry
    tail [] = []
    tail (x ∷ xs) = xs

    head : List Entry → Entry
    head [] = nothing
    head (x ∷ xs) = x

    go : (same : Bool) → bytes_eq w e.0 ≡ same → found_in es Foreign w ≡ Foreign → found_in (e ∷ es) Foreign w ≡ Foreign
    go true same rest =
        let is : w ≡ e.0 = (bytes_eq-Decides w e.0).0 same in
        let there : place w ≡ e = ap place is ∙ ap head each in
        absurd (true≢false (sym ((bytes_eq-Decides w (place w).0).1 (is ∙ ap (λ (e : Entry). e.0) (sym there))) ∙ other))
    go false same rest = rw same rest

-- an entry says what all of them say of its word
says_its_own : (all : List Entry) (n : ℕ) → map (λ (e : Entry). found_in all Foreign e.0) all ≡ map (λ (e : Entry). e.1) all
    → found_in all Foreign [] ≡ Foreign → found_in all Foreign (get_or all n nothing).0 ≡ (get_or all n nothing).1
says_its_own all n each empty =
    sym (get_or-map (λ (e : Entry). found_in all Foreign e.0) all n nothing)
    ∙ ap (get_or (map (λ (e : Entry). found_in all Foreign e.0) all) n) empty
    ∙ ap (λ says. get_or says n Foreign) each
    ∙ get_or-map (λ (e : Entry). e.1) all n nothing

one_place : (all : List Entry) (place : List ℕ → ℕ) (w : List ℕ) → map (λ (e : Entry). get_or all (place e.0) nothing) all ≡ all
    → map (λ (e : Entry). found_in all Foreign e.0) all ≡ map (λ (e : Entry). e.1) all → found_in all Foreign [] ≡ Foreign
    → said_as (get_or all (place w) nothing) w ≡ found_in all Foreign w
one_place all place w there each empty = go (bytes_eq w e.0) refl
  where
    e : Entry
    e = get_or all (place w) nothing

    own : found_in all Foreign e.0 ≡ e.1
    own = says_its_own all (place w) each empty

    none : bytes_eq w e.0 ≡ false → found_in all Foreign w ≡ Foreign
    none other = none_of (λ w. get_or all (place w) nothing) all w there other

    go : (same : Bool) → bytes_eq w e.0 ≡ same → said_as e w ≡ found_in all Foreign w
    go true same = rw same (sym own ∙ ap (found_in all Foreign) (sym ((bytes_eq-Decides w e.0).0 same)))
    go false same = rw same (sym (none same))

-- the words stand at the numbers of their slots, and no word stands twice
by_slot : (all : List Entry) (numbers : List ℕ) (entries : List Entry) (w : List ℕ) (at number : ℕ) → at ≡ slot w → number ≡ get_or numbers at 0
    → entries ≡ all → map (λ (e : Entry). get_or all (get_or numbers (slot e.0) 0) nothing) all ≡ all
    → map (λ (e : Entry). found_in all Foreign e.0) all ≡ map (λ (e : Entry). e.1) all → found_in all Foreign [] ≡ Foreign
    → said_as (get_or entries number nothing) w ≡ found_in all Foreign w
by_slot all numbers entries w at number is_slot is_number are_all there each empty =
    ap (λ (es : List Entry). said_as (get_or es number nothing) w) are_all
    ∙ (ap (λ k. said_as (get_or all k nothing) w) (is_number ∙ ap (λ k. get_or numbers k 0) is_slot)
    ∙ one_place all (λ w. get_or numbers (slot w) 0) w there each empty)

pub said_by_slot : (numbers : List ℕ) (entries : List Entry) (w : List ℕ) (at number : ℕ) → at ≡ slot w → number ≡ get_or numbers at 0
    → entries ≡ words → AreOfSlots numbers → said_as (get_or entries number nothing) w ≡ said_named w
unfolding said_named
said_by_slot numbers entries w at number is_slot is_number are_words there =
    by_slot words numbers entries w at number is_slot is_number are_words there refl refl
