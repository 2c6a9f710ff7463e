-- Names that are given are in range.
use Rattle.std.proofs.Common.{◌≡◌, ℕ, zero, suc, ◌<◌, ◌+◌, ◌%◌, ◌^◌, Bool, true, false, cond, List, [], ◌∷◌, ◌++◌, length, map, replicate, refl, sym, subst, arith}
use Rattle.std.specs.Prelude.{nat_lt}
use Rattle.std.specs.Fmt.{decimal}
use Rattle.std.proofs.lemmas.Bool.{ltb-true}
use Rattle.std.proofs.lemmas.Fmt.{decimal_by_steps}
use Rattle.std.specs.List.{AllByRecursion}
use Rattle.ir_core.specs.declared.functions.Function.{Function}
use Rattle.ir_types.specs.declared.names.Name.{Name}
use Rattle.ir_types.specs.declared.names.Name.TheVariants.{Text, Number}
use Rattle.ir_types.specs.Same.{same_name}
use Rattle.ir_core.specs.Functions.{names_of}
use Rattle.ir_core.specs.Ranges.{AreBytes, IsNameInRange}
use Rattle.ir_rename.specs.Named.{dotted, named, named_function, text_of}
use Rattle.ir_rename.specs.Numbered.{counted, number_due, numbered_function, renaming}
use Rattle.ir_rename.specs.Renamed.{rename_function}
use Rattle.ir_rename.proofs.Freshness.{fewest}
use Rattle.ir_rename.proofs.Renames.{names_renamed}
use Rattle.ir_rename.proofs.Shaped.{all_under}

-- ---- renamings

-- where each name that is given is in range
given_in_range : (from to : List Name) → AllByRecursion IsNameInRange to → (x : Name) → IsNameInRange x → IsNameInRange (renaming from to x)
given_in_range [] to range x is = is
given_in_range (y ∷ from) [] range x is = is
given_in_range (y ∷ from) (z ∷ to) range x is = by (same_name x y) (given_in_range from to range.1 x is)
  where
    by : (b : Bool) → IsNameInRange (renaming from to x) → IsNameInRange (cond b z (renaming from to x))
    by true further = range.0
    by false further = further

all_in_range : (ρ : Name → Name) → ((x : Name) → IsNameInRange x → IsNameInRange (ρ x)) → (f : Function) → AllByRecursion IsNameInRange (names_of f) → AllByRecursion IsNameInRange (names_of (rename_function ρ f))
all_in_range ρ keeps f range =
    subst (AllByRecursion IsNameInRange) (sym (names_renamed ρ f)) (all_under IsNameInRange IsNameInRange ρ keeps (names_of f) range)

-- ---- texts

more_bytes : (xs ys : List ℕ) → AreBytes xs → AreBytes ys → AreBytes (xs ++ ys)
more_bytes [] ys front more = more
more_bytes (x ∷ xs) ys front more = (front.0, more_bytes xs ys front.1 more)

digits : (n : ℕ) → n < 2 ^ 64 → AreBytes (decimal n)
digits =
    decimal_by_steps (λ n ds. AreBytes ds) (λ n small. (omega (arith, small), tt))
    (λ n ds large front. more_bytes ds ((48 + n % 10) ∷ []) front (omega arith, tt))

dots : (many : ℕ) → AreBytes (replicate many 46)
dots zero = tt
dots (suc many) = (omega arith, dots many)

with_dots : (n many : ℕ) → n < 2 ^ 32 → IsNameInRange (Text (dotted (text_of n) many))
with_dots n many small =
    (omega arith, (omega arith, (omega arith, more_bytes (decimal n) (replicate many 46) (digits n (omega (arith, small))) (dots many))))

free_in_range : (names : List Name) (x : Name) → IsNameInRange x → IsNameInRange (named names x)
free_in_range names (Text bytes) is = is
free_in_range names (Number n) is =
    let few = fewest (length names) names (text_of n) in subst (λ text. IsNameInRange (Text text)) (sym few.1) (with_dots n few.0 is)

abbrev pub by_text : Function → Name → Name
by_text f = renaming (names_of f) (map (named (names_of f)) (names_of f))

pub text_in_range : (f : Function) → AllByRecursion IsNameInRange (names_of f) → (x : Name) → IsNameInRange x → IsNameInRange (by_text f x)
text_in_range f range =
    given_in_range (names_of f) (map (named (names_of f)) (names_of f))
    (all_under IsNameInRange IsNameInRange (named (names_of f)) (free_in_range (names_of f)) (names_of f) range)

pub named_in_range : (f : Function) → AllByRecursion IsNameInRange (names_of f) → AllByRecursion IsNameInRange (names_of (named_function f))
named_in_range f range = all_in_range (by_text f) (text_in_range f range) f range

-- ---- numbers

number_in_range : (due : ℕ) → IsNameInRange (number_due due)
number_in_range due = by (nat_lt due (2 ^ 32)) refl
  where
    by : (b : Bool) → nat_lt due (2 ^ 32) ≡ b → cond b due 0 < 2 ^ 32
    by true e = ltb-true due (2 ^ 32) e
    by false e = omega arith

count_in_range : (due : ℕ) (names : List Name) → AllByRecursion IsNameInRange names → AllByRecursion IsNameInRange (counted due names)
count_in_range due [] range = tt
count_in_range due (Text bytes ∷ names) range = (range.0, count_in_range due names range.1)
count_in_range due (Number n ∷ names) range = (number_in_range due, count_in_range (due + 1) names range.1)

abbrev pub by_count : Function → Name → Name
by_count f = renaming (names_of f) (counted 0 (names_of f))

pub numbered_in_range : (f : Function) → AllByRecursion IsNameInRange (names_of f) → AllByRecursion IsNameInRange (names_of (numbered_function f))
numbered_in_range f range =
    all_in_range (by_count f) (given_in_range (names_of f) (counted 0 (names_of f)) (count_in_range 0 (names_of f) range)) f range
