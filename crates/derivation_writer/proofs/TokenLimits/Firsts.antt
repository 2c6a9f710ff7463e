-- The first mark is of the first token that passes a limit.
use Rattle.std.proofs.Common.{◌≡◌, ◌<◌, ◌≤◌, ℕ, zero, suc, Bool, true, false, cond, nat_lt, List, [], ◌∷◌, length, get_or, Option, Some, None, MatchOption, refl, arith}
use Rattle.std.proofs.lemmas.Bool.{ltb-true, ltb-false}
use Rattle.ir_core.specs.Limits.{depth_limit, line_limit}
use Rattle.ir_core.specs.declared.limits.Limit.{Limit}
use Rattle.ir_core.specs.declared.limits.Limit.TheVariants as limit
use Rattle.derivation_writer.specs.TokenLimits.Watched.{mark_at}
use Rattle.derivation_writer.proofs.TokenLimits.Seen.{first_mark, or_else}

-- a token passes the limit that stands so deep, where so many lines have begun
abbrev pub PassesHere : ℕ → ℕ → Limit → Type 0
PassesHere level lines limit.Depth = depth_limit < level
PassesHere level lines limit.Lines = line_limit < lines
PassesHere level lines l = ⊥

abbrev pub PassesAt : List ℕ → List ℕ → ℕ → Limit → Type 0
PassesAt levels lines k l = PassesHere (get_or levels k 0) (get_or lines k 0) l

abbrev Marks : ℕ → ℕ → Option Limit → Type 0
Marks a b m = MatchOption m ((l : Limit) → PassesHere a b l → ⊥) (λ l. PassesHere a b l)

none_passed : (a b : ℕ) → a ≤ depth_limit → b ≤ line_limit → (l : Limit) → PassesHere a b l → ⊥
none_passed a b low few limit.Depth p = omega arith
none_passed a b low few limit.Lines p = omega arith
none_passed a b low few limit.Text p = p
none_passed a b low few limit.Json p = p
none_passed a b low few limit.Block p = p
none_passed a b low few limit.Facts p = p

marks : (a b : ℕ) → Marks a b (mark_at a b)
marks a b = deep (nat_lt depth_limit a) refl
  where
    long : (x : Bool) → nat_lt line_limit b ≡ x → a ≤ depth_limit → Marks a b (cond x (Some limit.Lines) None)
    long true e low = ltb-true line_limit b e
    long false e low = none_passed a b low (ltb-false line_limit b e)

    deep : (x : Bool) → nat_lt depth_limit a ≡ x → Marks a b (cond x (Some limit.Depth) (cond (nat_lt line_limit b) (Some limit.Lines) None))
    deep true e = ltb-true depth_limit a e
    deep false e = long (nat_lt line_limit b) refl (ltb-false depth_limit a e)

-- what the mark says after so many tokens
abbrev pub Told : ℕ → List ℕ → List ℕ → Option Limit → Type 0
Told n levels lines m =
    MatchOption m
    ((k : ℕ) (l : Limit) → k < n → PassesAt levels lines k l → ⊥)
    (λ l. (k : ℕ) × (k < n) × PassesAt levels lines k l × ((j : ℕ) (o : Limit) → j < k → PassesAt levels lines j o → ⊥))

told_here : (n a b : ℕ) (levels lines : List ℕ) (l : Limit) → PassesHere a b l → Told (suc n) (a ∷ levels) (b ∷ lines) (Some l)
told_here n a b levels lines l p = (0, omega arith, p, λ j o h. absurd (omega arith))

told_none :
    (n a b : ℕ) (levels lines : List ℕ) → ((l : Limit) → PassesHere a b l → ⊥) → Told n levels lines None → Told (suc n) (a ∷ levels) (b ∷ lines) None
told_none n a b levels lines here rest zero l h p = here l p
told_none n a b levels lines here rest (suc k) l h p = rest k l (omega arith) p

none_before :
    (a b : ℕ) (levels lines : List ℕ) (k : ℕ) → ((l : Limit) → PassesHere a b l → ⊥) → ((j : ℕ) (o : Limit) → j < k → PassesAt levels lines j o → ⊥)
    → (j : ℕ) (o : Limit) → j < suc k → PassesAt (a ∷ levels) (b ∷ lines) j o → ⊥
none_before a b levels lines k here rest zero o h p = here o p
none_before a b levels lines k here rest (suc j) o h p = rest j o (omega arith) p

told_later :
    (n a b : ℕ) (levels lines : List ℕ) → ((l : Limit) → PassesHere a b l → ⊥) → (m : Option Limit) → Told n levels lines m
    → Told (suc n) (a ∷ levels) (b ∷ lines) m
told_later n a b levels lines here None t = told_none n a b levels lines here t
told_later n a b levels lines here (Some l) t = (suc t.0, omega (arith, t.1), t.2, none_before a b levels lines t.0 here t.3)

told_joined :
    (n a b : ℕ) (levels lines : List ℕ) (m rest : Option Limit) → Marks a b m → Told n levels lines rest
    → Told (suc n) (a ∷ levels) (b ∷ lines) (or_else m rest)
told_joined n a b levels lines None rest here t = told_later n a b levels lines here rest t
told_joined n a b levels lines (Some l) rest here t = told_here n a b levels lines l here

pub told : (n : ℕ) (levels lines : List ℕ) → length levels ≡ length lines → Told n levels lines (first_mark n levels lines)
told zero levels lines e = λ k l h p. omega arith
told (suc n) [] [] e = λ k l h p. none_passed 0 0 (omega arith) (omega arith) l p
told (suc n) [] (b ∷ lines) e = cc
told (suc n) (a ∷ levels) [] e = cc
told (suc n) (a ∷ levels) (b ∷ lines) e = told_joined n a b levels lines (mark_at a b) (first_mark n levels lines) (marks a b) (told n levels lines (less e))
  where
    less : suc (length levels) ≡ suc (length lines) → length levels ≡ length lines
    less e = cc
