-- What is made by this rule, or by another.
use Rattle.std.proofs.Common.{◌≡◌, ℕ, cond, Bool, true, false, Option, Some, None, refl, ap, nat_eq, sym, subst}
use Rattle.module_derivations.specs.Parts.{if_rule}
use Rattle.module_walk.proofs.Differ.{differ}

-- what holds of both holds of what is made by this rule or another
pub either : {T : Type 0} (P : T → Type 0) (r : Option ℕ) (n : ℕ) (then other : T) → P then → P other → P (if_rule r n then other)
either P None n then other p q = q
either P (Some m) n then other p q = both (nat_eq m n)
  where
    both : (b : Bool) → P (cond b then other)
    both true = p
    both false = q

-- what another rule than this makes is the other
pub another : {T : Type 0} (r : Option ℕ) (n : ℕ) (then other : T) → (r ≡ Some n → ⊥) → if_rule r n then other ≡ other
another None n then other h = refl
another (Some m) n then other h = ap (λ b. cond b then other) (differ m n (λ e. h (ap (λ m. Some m) e)))

-- what holds of the other holds where it isn't this rule
pub by_another : {T : Type 0} (P : T → Type 0) (r : Option ℕ) (n : ℕ) (then other : T) → (r ≡ Some n → ⊥) → P other → P (if_rule r n then other)
by_another P r n then other h q = subst P (sym (another r n then other h)) q
