-- A text has at most one first fault, and none where it is derived.
use Rattle.std.proofs.Common.{◌≡◌, ◌<◌, ◌≤◌, ℕ, zero, suc, List, [], ◌∷◌, ◌++◌, length, take, drop, refl, ap, sym, subst, arith, ◌⊎◌, inl, inr}
use Rattle.std.proofs.lemmas.Bool.{cases_order}
use Rattle.std.proofs.lemmas.List.{take-append-drop}
use Rattle.predictive.specs.declared.symbol.Symbol.{Symbol}
use Rattle.predictive.specs.Grammar.{Grammar, Derives, Agree, IsFirstFault}

agrees : (ks : List ℕ) → Agree ks ks
agrees [] = tt
agrees (k ∷ ks) = refl

pub none_in_text : (g : Grammar) (s : List Symbol) (ks : List ℕ) (place : ℕ) → Derives g s ks → IsFirstFault g s ks place → ⊥
none_in_text g s ks place d fault =
    fault.2 (drop place ks) (agrees (drop place ks)) (subst (λ l. Derives g s l) (sym (take-append-drop place ks)) d)

-- a longer beginning goes on from a shorter one as the text does
longer :
    (ks more : List ℕ) (a b : ℕ) → a < b → b ≤ length ks
    → Agree (drop a (take b ks) ++ more) (drop a ks) × (take a ks ++ (drop a (take b ks) ++ more) ≡ take b ks ++ more)
longer [] more a b h within = absurd (grind arith)
longer (k ∷ ks) more a zero h within = absurd (omega arith)
longer (k ∷ ks) more zero (suc b) h within = (refl, refl)
longer (k ∷ ks) more (suc a) (suc b) h within =
    let rest = longer ks more a b (omega arith) (grind arith) in
    (rest.0, ap (λ l. k ∷ l) rest.1)

not_before : (g : Grammar) (s : List Symbol) (ks : List ℕ) (a b : ℕ) → a < b → IsFirstFault g s ks a → IsFirstFault g s ks b → ⊥
not_before g s ks a b h first later =
    let more = later.1.0 in
    let l = longer ks later.1.0 a b h later.0 in
    first.2 (drop a (take b ks) ++ later.1.0) l.0 (subst (λ l. Derives g s l) (sym l.1) later.1.1)

pub one_fault : (g : Grammar) (s : List Symbol) (ks : List ℕ) (a b : ℕ) → IsFirstFault g s ks a → IsFirstFault g s ks b → a ≡ b
one_fault g s ks a b x y = go (cases_order a b)
  where
    go : (a ≡ b) ⊎ ((a < b) ⊎ (b < a)) → a ≡ b
    go (inl e) = e
    go (inr (inl h)) = absurd (not_before g s ks a b h x y)
    go (inr (inr h)) = absurd (not_before g s ks b a h y x)
