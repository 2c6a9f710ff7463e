-- The roles by their numbers.
use Rattle.std.proofs.Common.{◌≡◌, ◌<◌, ◌≤◌, ◌+◌, ℕ, zero, suc, Bool, true, false, ◌&&◌, ◌||◌, nat_eq, nat_lt, List, [], ◌∷◌, get_or, refl, ap, sym, ◌∙◌, arith}
use Rattle.std.proofs.lemmas.Bool.{and_parts, ltb-true, ltb-false, false_from_ne_true, eqb-true}
use Rattle.module_spelling.specs.Opened.{constant_rules, definition, flow_rules, init_rules, is_among, line_rules, pointers, type_rules}
use Rattle.derivation_writer.specs.TokenLimits.Roles.{base_rules, role_of}
use Rattle.derivation_writer.specs.declared.token_limits.role.Role.{Role}
use Rattle.derivation_writer.specs.declared.token_limits.role.Role.TheVariants.{Plain}

-- the roles from a number on, so many
abbrev pub roles_from : ℕ → ℕ → List Role
roles_from m zero = []
roles_from m (suc n) = role_of m ∷ roles_from (suc m) n

listed_at : (m n p : ℕ) → p < n → get_or (roles_from m n) p Plain ≡ role_of (m + p)
listed_at m zero p h = absurd (omega arith)
listed_at m (suc n) zero h = ap role_of (omega arith)
listed_at m (suc n) (suc p) h = listed_at (suc m) n p (omega arith) ∙ ap role_of (omega arith)

not_listed : (m n p : ℕ) → n ≤ p → get_or (roles_from m n) p Plain ≡ Plain
not_listed m zero p h = refl
not_listed m (suc n) zero h = absurd (omega arith)
not_listed m (suc n) (suc p) h = not_listed (suc m) n p (omega arith)

other : (p q : ℕ) → q < p → nat_eq p q ≡ false
other p q h = false_from_ne_true (nat_eq p q) (λ e. go (eqb-true p q e))
  where
    go : p ≡ q → ⊥
    go e = omega arith

abbrev all_below : ℕ → List ℕ → Bool
all_below n [] = true
all_below n (x ∷ xs) = nat_lt x n && all_below n xs

none_among : (n p : ℕ) → n ≤ p → (xs : List ℕ) → all_below n xs ≡ true → is_among p xs ≡ false
none_among n p h [] e = refl
none_among n p h (x ∷ xs) e =
    let here = and_parts _ _ e in
    let low = ltb-true x n here.0 in
    ap (λ b. b || is_among p xs) (other p x (omega arith)) ∙ none_among n p h xs here.1

-- the rules behind these have none
none_past : (p : ℕ) → 199 ≤ p → role_of p ≡ Plain
unfolding role_of
none_past p h =
    rw (
      other p pointers (omega arith),
      other p definition (omega arith),
      none_among 199 p h base_rules refl,
      none_among 199 p h type_rules refl,
      none_among 199 p h constant_rules refl,
      none_among 199 p h init_rules refl,
      none_among 199 p h line_rules refl,
      none_among 199 p h flow_rules refl,
    )
    refl

pub role_listed : (p : ℕ) → get_or (roles_from 0 199) p Plain ≡ role_of p
role_listed p = go (nat_lt p 199) refl
  where
    go : (b : Bool) → nat_lt p 199 ≡ b → get_or (roles_from 0 199) p Plain ≡ role_of p
    go true e = listed_at 0 199 p (ltb-true p 199 e) ∙ ap role_of (omega arith)
    go false e = not_listed 0 199 p (ltb-false p 199 e) ∙ sym (none_past p (ltb-false p 199 e))
