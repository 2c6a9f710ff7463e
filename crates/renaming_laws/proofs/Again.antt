-- Texts stay where modules are named, and counted numbers where they are numbered.
use Rattle.std.proofs.Common.{◌≡◌, ◌∙◌, ℕ, ◌+◌, List, [], ◌∷◌, map, refl, sym, ap}
use Rattle.std.specs.List.{AllByRecursion}
use Rattle.ir_core.specs.declared.functions.Function.{Function}
use Rattle.ir_core.specs.declared.modules.Module.{Module}
use Rattle.ir_types.specs.declared.names.Name.{Name}
use Rattle.ir_types.specs.declared.names.Name.TheVariants.{Text, Number}
use Rattle.ir_core.specs.Functions.{names_of}
use Rattle.ir_core.specs.Order.{AreNew}
use Rattle.ir_rename.specs.Laws.{IsText, NamedAreTexts}
use Rattle.ir_rename.specs.Named.{named, named_all, named_function}
use Rattle.ir_rename.specs.Numbered.{counted, number_due, numbered_function, numbered_in_order, renaming}
use Rattle.ir_rename.proofs.Apart.{all_given, apart_from_new, given_itself}
use Rattle.ir_rename.proofs.Counting.{length-counted}
use Rattle.ir_rename.proofs.Lists.{all_kept, all_to}
use Rattle.ir_rename.proofs.Renames.{names_renamed, stays}
use Rattle.ir_rename.proofs.Shaped.{all_under}
use Rattle.renaming_laws.specs.Laws.{NamedHaveNoNumbers, NamingAgainChangesNothing, NumberingAgainChangesNothing, TextsStay}
use Rattle.renaming_laws.proofs.Names.{by_count, by_text}

-- names that become themselves
unchanged : (names to : List Name) → to ≡ names → (n : Name) → renaming names to n ≡ n
unchanged names to same n = ap (λ ns. renaming names ns n) same ∙ given_itself names n

-- functions of which each stays
functions_stay : (given : Function → Function) (m : Module) (fs : List Function) → AllByRecursion (λ f. given f ≡ f) fs → record m { functions = map given fs } ≡ record m { functions = fs }
functions_stay given m fs all =
    ap (λ (gs : List Function). record m { functions = gs }) (all_kept given fs (λ f there. all_to (λ g. given g ≡ g) fs all f there))

each : (P Q : Function → Type 0) → ((f : Function) → P f → Q f) → (fs : List Function) → AllByRecursion P fs → AllByRecursion Q fs
each P Q step [] all = tt
each P Q step (f ∷ fs) all = (step f all.0, each P Q step fs all.1)

-- ---- texts

abbrev AllTexts : Function → Type 0
AllTexts f = AllByRecursion IsText (names_of f)

text_stays : (names : List Name) (x : Name) → IsText x → named names x ≡ x
text_stays names (Text bytes) is = refl
text_stays names (Number n) is = absurd is

named_stays : (f : Function) → AllTexts f → named_function f ≡ f
named_stays f texts =
    let names = names_of f in
    stays (by_text f)
    (unchanged names (map (named names) names) (all_kept (named names) names (λ x there. text_stays names x (all_to IsText names texts x there)))) f

pub texts_stay : TextsStay
texts_stay m texts =
    functions_stay named_function m m.functions (each AllTexts (λ f. named_function f ≡ f) named_stays m.functions texts)

pub naming_again : NamedAreTexts → NamingAgainChangesNothing
naming_again are m = texts_stay (named_all m) (are m)

-- ---- numbers

texts_uncounted : (names : List Name) → AllByRecursion IsText names → counted 0 names ≡ names
texts_uncounted [] texts = refl
texts_uncounted (Text bytes ∷ names) texts = ap (λ ns. Text bytes ∷ ns) (texts_uncounted names texts.1)
texts_uncounted (Number n ∷ names) texts = absurd texts.0

uncounted_stays : (f : Function) → AllTexts f → numbered_function f ≡ f
uncounted_stays f texts =
    stays (by_count f) (unchanged (names_of f) (counted 0 (names_of f)) (texts_uncounted (names_of f) texts)) f

pub named_have_no_numbers : NamedAreTexts → NamedHaveNoNumbers
named_have_no_numbers are m =
    functions_stay numbered_function (named_all m) (named_all m).functions
    (each AllTexts (λ f. numbered_function f ≡ f) uncounted_stays (named_all m).functions (are m))

counted_again : (due : ℕ) (names : List Name) → counted due (counted due names) ≡ counted due names
counted_again due [] = refl
counted_again due (Text bytes ∷ names) = ap (λ ns. Text bytes ∷ ns) (counted_again due names)
counted_again due (Number n ∷ names) = ap (λ ns. number_due due ∷ ns) (counted_again (due + 1) names)

numbered_names : (f : Function) → AreNew [] (names_of f) → names_of (numbered_function f) ≡ counted 0 (names_of f)
numbered_names f new =
    names_renamed (by_count f) f
    ∙ all_given (names_of f) (counted 0 (names_of f)) (apart_from_new [] (names_of f) new) (length-counted 0 (names_of f))

numbered_again : (f : Function) → AreNew [] (names_of f) → numbered_function (numbered_function f) ≡ numbered_function f
numbered_again f new =
    let g = numbered_function f in
    let are = numbered_names f new in
    stays (by_count g) (unchanged (names_of g) (counted 0 (names_of g)) (ap (counted 0) are ∙ counted_again 0 (names_of f) ∙ sym are)) g

pub numbering_again : NumberingAgainChangesNothing
numbering_again m apart =
    functions_stay numbered_function (numbered_in_order m) (numbered_in_order m).functions
    (all_under (λ f. AreNew [] (names_of f)) (λ g. numbered_function g ≡ g) numbered_function numbered_again m.functions apart)
