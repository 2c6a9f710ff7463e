-- Naming renames functions, and gives each number a fresh text.
use Rattle.std.proofs.Common.{◌≡◌, ◌∙◌, ⊎_elim, ℕ, ◌<◌, ◌^◌, List, [], length, get_or, map, take, refl, sym, ap, subst, arith}
use Rattle.std.proofs.lemmas.List.{get_or-map, get_or_default}
use Rattle.std.proofs.lemmas.List.Elements.{Contains-append_left}
use Rattle.std.specs.List.{AllByRecursion, Contains}
use Rattle.ir_core.specs.declared.functions.Function.{Function}
use Rattle.ir_types.specs.declared.names.Name.{Name}
use Rattle.ir_types.specs.declared.names.Name.TheVariants.{Text, Number}
use Rattle.ir_core.specs.Functions.{names_of}
use Rattle.ir_core.specs.Ranges.{IsNameInRange}
use Rattle.ir_rename.specs.Laws.{GivesFreshAt, IsText, NamedAreTexts, NamingRenames, NumbersGetFreshNames}
use Rattle.ir_rename.specs.Named.{dotted, fresh, named, named_function, text_of}
use Rattle.ir_rename.specs.Numbered.{renaming}
use Rattle.ir_rename.specs.Renamed.{IsInjectiveOn, IsRenamed}
use Rattle.ir_rename.proofs.Apart.{AreApart, apart_from_new, given_word, one_place}
use Rattle.ir_rename.proofs.Counting.{bytes_in}
use Rattle.ir_rename.proofs.Freshness.{fewest, is_free, number_is}
use Rattle.ir_rename.proofs.Lists.{all_from, all_mapped, all_to, append_cases, in_taken, same_mapped, zip_mapped}
use Rattle.ir_rename.proofs.Renames.{names_renamed}

-- ---- no two get one

-- the texts that are given to two numbers
two_numbers : (names : List Name) (m n : ℕ) → m < 2 ^ 32 → n < 2 ^ 32 → fresh names (text_of m) ≡ fresh names (text_of n) → m ≡ n
two_numbers names m n small_m small_n e =
    let few_m = fewest (length names) names (text_of m) in
    let few_n = fewest (length names) names (text_of n) in number_is m n few_m.0 few_n.0 small_m small_n (sym few_m.1 ∙ e ∙ few_n.1)

word_injective : (names : List Name) (a b : Name) → Contains names a → Contains names b → IsNameInRange a → IsNameInRange b → named names a ≡ named names b → a ≡ b
word_injective names (Text a) (Text b) in_a in_b range_a range_b e = e
word_injective names (Text a) (Number n) in_a in_b range_a range_b e = absurd (is_free names (text_of n) (subst (Contains names) e in_a))
word_injective names (Number m) (Text b) in_a in_b range_a range_b e = absurd (is_free names (text_of m) (subst (Contains names) (sym e) in_b))
word_injective names (Number m) (Number n) in_a in_b range_a range_b e =
    ap Number (two_numbers names m n range_a range_b (ap bytes_in e))

abbrev by_text : List Name → Name → Name
by_text names = renaming names (map (named names) names)

by_text_injective : (names : List Name) → AllByRecursion IsNameInRange names → IsInjectiveOn names (by_text names)
by_text_injective names range a b in_a in_b e =
    word_injective names a b in_a in_b (all_to IsNameInRange names range a in_a) (all_to IsNameInRange names range b in_b)
    (sym (given_word (named names) names a in_a) ∙ e ∙ given_word (named names) names b in_b)

pub naming_renames : NamingRenames
naming_renames m range = record {
  types = refl;
  globals = refl;
  declarations = refl;
  functions =
      zip_mapped (λ f g. (ρ : Name → Name) × IsRenamed ρ f g) named_function m.functions
      (all_from (λ f. (ρ : Name → Name) × IsRenamed ρ f (named_function f)) m.functions
      (λ f there. (
        by_text (names_of f),
        record {
          same = refl;
          injective = by_text_injective (names_of f) (all_to (λ g. AllByRecursion IsNameInRange (names_of g)) m.functions range f there);
        },
      )));
}

-- ---- texts

named_names : (f : Function) → names_of (named_function f) ≡ map (named (names_of f)) (names_of f)
named_names f =
    names_renamed (by_text (names_of f)) f
    ∙ same_mapped (by_text (names_of f)) (named (names_of f)) (names_of f) (λ x there. given_word (named (names_of f)) (names_of f) x there)

text_is : (names : List Name) (x : Name) → IsText (named names x)
text_is names (Text bytes) = tt
text_is names (Number n) = tt

pub named_are_texts : NamedAreTexts
named_are_texts m =
    all_mapped (λ f. AllByRecursion IsText (names_of f)) named_function m.functions
    (all_from (λ f. AllByRecursion IsText (names_of (named_function f))) m.functions
    (λ f there.
    subst (AllByRecursion IsText) (sym (named_names f))
    (all_mapped IsText (named (names_of f)) (names_of f) (all_from (λ x. IsText (named (names_of f) x)) (names_of f) (λ x inside. text_is (names_of f) x)))))

-- ---- fresh texts

-- the text of the k-th name isn't given to one before it
not_before : (names : List Name) → AllByRecursion IsNameInRange names → AreApart names → (k n : ℕ) → k < length names → get_or names k (Number n) ≡ Number n → Contains (take k (map (named names) names)) (Text (fresh names (text_of n))) → ⊥
not_before names range apart k n inside is there = by (get_or names j (Number n)) refl
  where
    text : Name
    text = Text (fresh names (text_of n))

    place : (j : ℕ) × (j < k) × (j < length (map (named names) names)) × (get_or (map (named names) names) j text ≡ text)
    place = in_taken k (map (named names) names) text there

    j : ℕ
    j = place.0

    within : j < length names
    within = omega (arith, place.1, inside)

    given : named names (get_or names j (Number n)) ≡ text
    given = sym (get_or-map (named names) names j (Number n) text within) ∙ place.3

    among : (x : Name) → get_or names j (Number n) ≡ x → Contains names x
    among x e = (j, within, get_or_default names j x (Number n) within ∙ e)

    by : (x : Name) → get_or names j (Number n) ≡ x → ⊥
    by (Text b) e =
        let same : Text b ≡ text = sym (ap (named names) e) ∙ given in is_free names (text_of n) (subst (Contains names) same (among (Text b) e))
    by (Number m) e =
        let same : m ≡ n =
        two_numbers names m n (all_to IsNameInRange names range (Number m) (among (Number m) e)) (all_to IsNameInRange names range (Number n) (k, inside, is))
        (ap bytes_in (sym (ap (named names) e) ∙ given)) in
        one_place names apart j k (Number n) place.1 inside (e ∙ ap Number same) is

fresh_at : (f : Function) → AllByRecursion IsNameInRange (names_of f) → AreApart (names_of f) → (k n : ℕ) → k < length (names_of f) → get_or (names_of f) k (Number n) ≡ Number n → GivesFreshAt f k n
fresh_at f range apart k n inside is =
    let names = names_of f in
    let few = fewest (length names) names (text_of n) in (
      fresh names (text_of n),
      ap (λ ns. get_or ns k (Number n)) (named_names f) ∙ get_or-map (named names) names k (Number n) (Number n) inside ∙ ap (named names) is,
      record {
        dots = few.0;
        is = few.1;
        not_taken =
            λ there.
            ⊎_elim
            (λ own. is_free names (text_of n) own)
            (λ before. not_before names range apart k n inside is (subst (λ ns. Contains (take k ns) (Text (fresh names (text_of n)))) (named_names f) before))
            (append_cases names (take k (names_of (named_function f))) (Text (fresh names (text_of n))) there);
        fewest =
            λ fewer less. Contains-append_left names (take k (names_of (named_function f))) (Text (dotted (text_of n) fewer)) (few.2 fewer less);
      },
    )

pub numbers_get_fresh_names : NumbersGetFreshNames
numbers_get_fresh_names f range new k n inside is = fresh_at f range (apart_from_new [] (names_of f) new) k n inside is
