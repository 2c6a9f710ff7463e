-- Names that are counted are in order.
use Rattle.std.proofs.Common.{◌≡◌, ◌∙◌, ⊎_elim, ℕ, suc, ◌<◌, ◌≤◌, ◌+◌, ◌^◌, Bool, true, false, cond, List, [], ◌∷◌, length, refl, sym, ap, subst, arith, eqb}
use Rattle.std.specs.Prelude.{nat_lt}
use Rattle.std.proofs.lemmas.Bool.{lt-ltb, eqb-true, or_cases}
use Rattle.std.proofs.lemmas.Map.Steps.{length-le_from_distinct_below}
use Rattle.std.specs.List.{AllByRecursion, Contains, IsDistinct, list_any}
use Rattle.ir_types.specs.declared.names.Name.{Name}
use Rattle.ir_types.specs.declared.names.Name.TheVariants.{Text, Number}
use Rattle.ir_core.specs.Order.{AreCounted, Counts}
use Rattle.ir_core.specs.Ranges.{IsNameInRange}
use Rattle.ir_rename.specs.Numbered.{counted, number_due}
use Rattle.ir_rename.proofs.Apart.{AreApart}
use Rattle.ir_rename.proofs.Lists.{all_from, all_to, behind, cases, here, none_in}

pub length-counted : (due : ℕ) (names : List Name) → length (counted due names) ≡ length names
length-counted due [] = refl
length-counted due (Text bytes ∷ names) = ap suc (length-counted due names)
length-counted due (Number n ∷ names) = ap suc (length-counted (due + 1) names)

-- ---- the numbers among names

abbrev pub numbers_in : List Name → List ℕ
numbers_in [] = []
numbers_in (Text bytes ∷ names) = numbers_in names
numbers_in (Number n ∷ names) = n ∷ numbers_in names

pub due_is : (due : ℕ) → due < 2 ^ 32 → number_due due ≡ Number due
due_is due small = ap (λ b. Number (cond b due 0)) (lt-ltb due (2 ^ 32) small)

-- ---- they are counted

plus_none : (n : ℕ) → n + 0 ≡ n
plus_none n = omega arith

pub are_counted : (due : ℕ) (names : List Name) (last : ℕ) → last ≡ due + length (numbers_in names) → last ≤ 2 ^ 32 → AreCounted due (counted due names) last
are_counted due [] last is small = is ∙ plus_none due
are_counted due (Text bytes ∷ names) last is small = (due, refl, are_counted due names last is small)
are_counted due (Number n ∷ names) last is small =
    let next : last ≡ (due + 1) + length (numbers_in names) = omega (arith, is) in
    let below : due < 2 ^ 32 = omega (arith, is, small) in
    (due + 1, subst (λ name. Counts due name (due + 1)) (sym (due_is due below)) (refl, refl), are_counted (due + 1) names last next small)

-- ---- they are apart

abbrev pub bytes_in : Name → List ℕ
bytes_in (Text bytes) = bytes
bytes_in (Number n) = []

abbrev pub number_in : Name → ℕ
number_in (Text bytes) = 0
number_in (Number n) = n

abbrev pub is_text : Name → Bool
is_text (Text bytes) = true
is_text (Number n) = false

pub no_text : (n : ℕ) (bytes : List ℕ) → Number n ≡ Text bytes → ⊥
no_text n bytes e = let never : false ≡ true = ap is_text e in cc

text_stays : (due : ℕ) (names : List Name) (bytes : List ℕ) → Contains (counted due names) (Text bytes) → Contains names (Text bytes)
text_stays due [] bytes there = absurd (none_in (Text bytes) there)
text_stays due (Text b ∷ names) bytes there =
    ⊎_elim
    (λ e. subst (Contains (Text b ∷ names)) e (here (Text b) names))
    (λ more. behind (Text b) (Text bytes) names (text_stays due names bytes more))
    (cases (Text b) (Text bytes) (counted due names) there)
text_stays due (Number n ∷ names) bytes there =
    ⊎_elim
    (λ e. absurd (no_text (cond (nat_lt due (2 ^ 32)) due 0) bytes e))
    (λ more. behind (Number n) (Text bytes) names (text_stays (due + 1) names bytes more))
    (cases (number_due due) (Text bytes) (counted (due + 1) names) there)

above_due : (due : ℕ) (names : List Name) (m : ℕ) → due + length (numbers_in names) ≤ 2 ^ 32 → Contains (counted due names) (Number m) → due ≤ m
above_due due [] m small there = absurd (none_in (Number m) there)
above_due due (Text b ∷ names) m small there =
    ⊎_elim
    (λ e. absurd (no_text m b (sym e)))
    (λ more. above_due due names m small more)
    (cases (Text b) (Number m) (counted due names) there)
above_due due (Number n ∷ names) m small there =
    ⊎_elim
    (λ e. let is : due ≡ m = ap number_in (sym (due_is due (omega (arith, small))) ∙ e) in omega (arith, is))
    (λ more. let later = above_due (due + 1) names m (omega (arith, small)) more in omega (arith, later))
    (cases (number_due due) (Number m) (counted (due + 1) names) there)

pub are_apart : (due : ℕ) (names : List Name) → due + length (numbers_in names) ≤ 2 ^ 32 → AreApart names → AreApart (counted due names)
are_apart due [] small apart = tt
are_apart due (Text bytes ∷ names) small apart = (λ there. apart.0 (text_stays due names bytes there), are_apart due names small apart.1)
are_apart due (Number n ∷ names) small apart =
    let less : (due + 1) + length (numbers_in names) ≤ 2 ^ 32 = omega (arith, small) in (
      λ there.
          let later = above_due (due + 1) names due less (subst (Contains (counted (due + 1) names)) (due_is due (omega (arith, small))) there) in
          omega (arith, later),
      are_apart (due + 1) names less apart.1,
    )

-- ---- names in range that are apart have few numbers

number_there : (names : List Name) (n : ℕ) → Contains (numbers_in names) n → Contains names (Number n)
number_there [] n there = absurd (none_in n there)
number_there (Text bytes ∷ names) n there = behind (Text bytes) (Number n) names (number_there names n there)
number_there (Number m ∷ names) n there =
    ⊎_elim
    (λ e. subst (λ k. Contains (Number m ∷ names) (Number k)) e (here (Number m) names))
    (λ more. behind (Number m) (Number n) names (number_there names n more))
    (cases m n (numbers_in names) there)

any_there : (q : ℕ) (ns : List ℕ) → list_any (eqb q) ns ≡ true → Contains ns q
any_there q [] e = cc
any_there q (n ∷ ns) e =
    ⊎_elim
    (λ same. subst (Contains (n ∷ ns)) (sym (eqb-true q n same)) (here n ns))
    (λ more. behind n q ns (any_there q ns more))
    (or_cases (eqb q n) (list_any (eqb q) ns) e)

other : (m n : ℕ) → (m ≡ n → ⊥) → eqb m n ≡ false
other m n apart = by (eqb m n) refl
  where
    by : (b : Bool) → eqb m n ≡ b → eqb m n ≡ false
    by true e = absurd (apart (eqb-true m n e))
    by false e = e

distinct : (names : List Name) → AreApart names → IsDistinct eqb (numbers_in names)
unfolding IsDistinct
distinct [] apart = tt
distinct (Text bytes ∷ names) apart = distinct names apart.1
distinct (Number n ∷ names) apart = (
  all_from (λ m. eqb n m ≡ false) (numbers_in names)
      (λ m there. other n m (λ e. apart.0 (subst (λ k. Contains names (Number k)) (sym e) (number_there names m there)))),
  distinct names apart.1,
)

pub few : (names : List Name) → AllByRecursion IsNameInRange names → AreApart names → length (numbers_in names) ≤ 2 ^ 32
few names range apart =
    length-le_from_distinct_below (numbers_in names) (2 ^ 32) (distinct names apart)
    (λ q there. all_to IsNameInRange names range (Number q) (number_there names q (any_there q (numbers_in names) there)))

-- ---- what is counted stays

pub in_order_stays : (due : ℕ) (names : List Name) (last : ℕ) → AllByRecursion IsNameInRange names → AreCounted due names last → counted due names ≡ names
in_order_stays due [] last range are = refl
in_order_stays due (Text bytes ∷ names) last range are =
    ap (λ ns. Text bytes ∷ ns) (in_order_stays due names last range.1 (subst (λ d. AreCounted d names last) are.1 are.2))
in_order_stays due (Number n ∷ names) last range are =
    let same = are.1.0 in
    let rest = subst (λ d. AreCounted d names last) are.1.1 are.2 in
    ap (λ name. name ∷ counted (due + 1) names) (due_is due (subst (λ k. k < 2 ^ 32) same range.0) ∙ ap Number (sym same))
    ∙ ap (λ ns. Number n ∷ ns) (in_order_stays (due + 1) names last range.1 rest)
