-- Names of which no two are one.
use Rattle.std.proofs.Common.{◌≡◌, ◌∙◌, ⊎_elim, ℕ, zero, suc, ◌<◌, List, [], ◌∷◌, ◌++◌, length, get_or, map, refl, sym, ap, subst, arith, true, false, cond}
use Rattle.std.proofs.lemmas.List.Elements.{Contains-append_left, Contains-push, Contains-push_cases}
use Rattle.std.specs.List.{Contains}
use Rattle.ir_types.specs.declared.names.Name.{Name}
use Rattle.ir_types.specs.NameLaws.{same_name_refl}
use Rattle.ir_types.specs.Same.{same_name}
use Rattle.ir_core.specs.Order.{AreNew}
use Rattle.ir_rename.specs.Renamed.{IsInjectiveOn}
use Rattle.ir_rename.specs.Numbered.{renaming}
use Rattle.ir_rename.proofs.Lists.{behind, cases, differ, here, none_in, same_mapped, same_or}

-- none of them stands behind itself
abbrev pub AreApart : List Name → Type 0
AreApart [] = Unit {0}
AreApart (x ∷ xs) = (Contains xs x → ⊥) × AreApart xs

-- ---- names that are new are apart, and the other way round

not_taken : (taken xs : List Name) → AreNew taken xs → (x : Name) → Contains taken x → Contains xs x → ⊥
not_taken taken [] new x there more = none_in x more
not_taken taken (y ∷ xs) new x there more =
    ⊎_elim (λ e. new.0 (subst (Contains taken) (sym e) there)) (λ later. not_taken (taken ++ y ∷ []) xs new.1 x (Contains-append_left taken (y ∷ []) x there) later)
    (cases y x xs more)

pub apart_from_new : (taken xs : List Name) → AreNew taken xs → AreApart xs
apart_from_new taken [] new = tt
apart_from_new taken (x ∷ xs) new =
    (not_taken (taken ++ x ∷ []) xs new.1 x (Contains-push taken x), apart_from_new (taken ++ x ∷ []) xs new.1)

new_from_apart : (taken xs : List Name) → AreApart xs → ((x : Name) → Contains taken x → Contains xs x → ⊥) → AreNew taken xs
new_from_apart taken [] apart free = tt
new_from_apart taken (x ∷ xs) apart free = (
  λ there. free x there (here x xs),
  new_from_apart (taken ++ x ∷ []) xs apart.1
      (λ y there more. ⊎_elim (λ old. free y old (behind x y xs more)) (λ e. apart.0 (subst (Contains xs) (sym e) more)) (Contains-push_cases taken x y there)),
)

pub are_new : (xs : List Name) → AreApart xs → AreNew [] xs
are_new xs apart = new_from_apart [] xs apart (λ x there more. none_in x there)

-- ---- renamings

pub given_here : (x y : Name) (from to : List Name) → renaming (x ∷ from) (y ∷ to) x ≡ y
given_here x y from to = ap (λ b. cond b y (renaming from to x)) (same_name_refl x)

pub given_behind : (name x y : Name) (from to : List Name) → (name ≡ x → ⊥) → renaming (x ∷ from) (y ∷ to) name ≡ renaming from to name
given_behind name x y from to apart = ap (λ b. cond b y (renaming from to name)) (differ name x apart)

-- by a word over the names
pub given_word : (σ : Name → Name) (names : List Name) (x : Name) → Contains names x → renaming names (map σ names) x ≡ σ x
given_word σ [] x there = absurd (none_in x there)
given_word σ (y ∷ names) x there = ⊎_elim same (other (λ more. given_word σ names x more)) (same_or x y)
  where
    same : x ≡ y → renaming (y ∷ names) (map σ (y ∷ names)) x ≡ σ x
    same e = ap (λ z. renaming (y ∷ names) (map σ (y ∷ names)) z) e ∙ given_here y (σ y) names (map σ names) ∙ ap σ (sym e)

    other : (Contains names x → renaming names (map σ names) x ≡ σ x) → same_name x y ≡ false → renaming (y ∷ names) (map σ (y ∷ names)) x ≡ σ x
    other further e =
        ap (λ b. cond b (σ y) (renaming names (map σ names) x)) e
        ∙ ⊎_elim (λ is. absurd (let yes : same_name x y ≡ true = ap (λ z. same_name x z) is ∙ same_name_refl x in cc)) further (cases y x names there)

pub given_itself : (names : List Name) (x : Name) → renaming names names x ≡ x
given_itself [] x = refl
given_itself (y ∷ names) x =
    ⊎_elim
    (λ e. ap (λ z. renaming (y ∷ names) (y ∷ names) z) e ∙ given_here y y names names ∙ sym e)
    (λ e. ap (λ b. cond b y (renaming names names x)) e ∙ given_itself names x)
    (same_or x y)

pub all_given : (from to : List Name) → AreApart from → length to ≡ length from → map (renaming from to) from ≡ to
all_given [] [] apart many = refl
all_given [] (y ∷ to) apart many = cc
all_given (x ∷ from) [] apart many = cc
all_given (x ∷ from) (y ∷ to) apart many =
    let less : length to ≡ length from = omega (arith, many) in
    let tail : map (renaming (x ∷ from) (y ∷ to)) from ≡ map (renaming from to) from =
    same_mapped (renaming (x ∷ from) (y ∷ to)) (renaming from to) from (λ z there. given_behind z x y from to (λ e. apart.0 (subst (Contains from) e there))) in
    ap (λ z. z ∷ map (renaming (x ∷ from) (y ∷ to)) from) (given_here x y from to) ∙ ap (λ zs. y ∷ zs) (tail ∙ all_given from to apart.1 less)

-- ---- words that are injective

pub is_one_of : (from to : List Name) → length to ≡ length from → (x : Name) → Contains from x → Contains to (renaming from to x)
is_one_of [] to many x there = absurd (none_in x there)
is_one_of (z ∷ from) [] many x there = cc
is_one_of (z ∷ from) (y ∷ to) many x there =
    ⊎_elim
    (λ e. subst (Contains (y ∷ to)) (sym (ap (λ w. renaming (z ∷ from) (y ∷ to) w) e ∙ given_here z y from to)) (here y to))
    (λ e.
    ⊎_elim
    (λ same. absurd (let yes : same_name x z ≡ true = ap (λ w. same_name x w) same ∙ same_name_refl x in cc))
    (λ more. subst (Contains (y ∷ to)) (sym (ap (λ b. cond b y (renaming from to x)) e)) (behind y (renaming from to x) to (is_one_of from to (omega (arith, many)) x more)))
    (cases z x from there))
    (same_or x z)

pub injective : (from to : List Name) → AreApart to → length to ≡ length from → IsInjectiveOn from (renaming from to)
injective [] to apart many a b in_a in_b e = absurd (none_in a in_a)
injective (x ∷ from) [] apart many a b in_a in_b e = cc
injective (x ∷ from) (y ∷ to) apart many a b in_a in_b e =
    ⊎_elim first_a (other_a (λ p q in_p in_q is. injective from to apart.1 less p q in_p in_q is)) (same_or a x)
  where
    less : length to ≡ length from
    less = omega (arith, many)

    tail : (n : Name) → same_name n x ≡ false → Contains (x ∷ from) n → Contains from n
    tail n other there = ⊎_elim (λ same. absurd (let yes : same_name n x ≡ true = ap (λ w. same_name n w) same ∙ same_name_refl n in cc)) (λ more. more) (cases x n from there)

    head : (n : Name) → n ≡ x → renaming (x ∷ from) (y ∷ to) n ≡ y
    head n is = ap (λ w. renaming (x ∷ from) (y ∷ to) w) is ∙ given_here x y from to

    rest : (n : Name) → same_name n x ≡ false → renaming (x ∷ from) (y ∷ to) n ≡ renaming from to n
    rest n other = ap (λ t. cond t y (renaming from to n)) other

    never : (n : Name) → same_name n x ≡ false → Contains (x ∷ from) n → renaming (x ∷ from) (y ∷ to) n ≡ y → ⊥
    never n other there same = apart.0 (subst (Contains to) (sym (rest n other) ∙ same) (is_one_of from to less n (tail n other there)))

    first_a : a ≡ x → a ≡ b
    first_a is = ⊎_elim (λ too. is ∙ sym too) (λ other. absurd (never b other in_b (sym e ∙ head a is))) (same_or b x)

    other_a : IsInjectiveOn from (renaming from to) → same_name a x ≡ false → a ≡ b
    other_a further other =
        ⊎_elim
        (λ is. absurd (never a other in_a (e ∙ head b is)))
        (λ too. further a b (tail a other in_a) (tail b too in_b) (sym (rest a other) ∙ e ∙ rest b too))
        (same_or b x)

-- ---- places

pub one_place : (names : List Name) → AreApart names → (j k : ℕ) (x : Name) → j < k → k < length names → get_or names j x ≡ x → get_or names k x ≡ x → ⊥
one_place [] apart j k x less inside at_j at_k = omega (arith, inside)
one_place (y ∷ names) apart zero zero x less inside at_j at_k = omega (arith, less)
one_place (y ∷ names) apart zero (suc k) x less inside at_j at_k =
    apart.0 (subst (Contains names) (sym at_j) (k, omega (arith, inside), at_k))
one_place (y ∷ names) apart (suc j) zero x less inside at_j at_k = omega (arith, less)
one_place (y ∷ names) apart (suc j) (suc k) x less inside at_j at_k =
    one_place names apart.1 j k x (omega (arith, less)) (omega (arith, inside)) at_j at_k
