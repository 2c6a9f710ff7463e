-- What is found from the left is a fault, and none is before it.
use Rattle.std.proofs.Common.{◌≡◌, ℕ, suc, zero, ◌<◌, Bool, true, false, List, [], ◌∷◌, ◌++◌, length, get_or, Option, Some, None, refl, ap, sym, ◌∙◌, subst, arith}
use Rattle.std.proofs.Math.Logic.{◌⊎◌, inl, inr, ⊎_elim}
use Rattle.std.specs.List.{Contains}
use Rattle.std.specs.Prelude.{IfNone, IfSome, unwrap_or, if◌then◌else◌, nat_lt, ◌==◌, ◌&&◌, ◌||◌, ◌≤◌}
use Rattle.name_claims.specs.declared.claims.Claim.{Claim}
use Rattle.name_claims.specs.declared.claims.Definition.{Definition}
use Rattle.name_claims.specs.declared.claims.Fault.{Fault}
use Rattle.name_claims.specs.declared.claims.Item.{Item}
use Rattle.name_claims.specs.declared.claims.Reason.{Reason}
use Rattle.name_claims.specs.Faults.{before, fault_at, says_wrong, ClaimHasFault, HasFault, IsFirst, rank, SomeHas}
use Rattle.name_claims.specs.Indexes.{fault_of, first_in, first_of, from_left, sooner}

-- the order, on numbers
sooner_at : ℕ → ℕ → ℕ → ℕ → Bool
sooner_at p a q b = nat_lt p q || ((p == q) && nat_lt a b)

means_not : (p a q b : ℕ) → sooner_at p a q b ≡ false → (q ≤ p) × (p ≡ q → b ≤ a)
unfolding sooner_at
means_not p a q b e = (grind (arith, e), grind (arith, e))

means : (p a q b : ℕ) → sooner_at p a q b ≡ true → (p ≤ q) × (p ≡ q → a < b)
unfolding sooner_at
means p a q b e = (grind (arith, e), grind (arith, e))

not_sooner : (p a q b : ℕ) → q ≤ p → (p ≡ q → b ≤ a) → sooner_at p a q b ≡ false
unfolding sooner_at
not_sooner p a q b l r = grind (arith, l, r)

is_at : (f g : Fault) → before f g ≡ sooner_at f.start (rank f.reason) g.start (rank g.reason)
unfolding sooner_at
is_at f g = refl

itself : (f : Fault) → before f f ≡ false
itself f = grind arith

later : (f g h : Fault) → before h g ≡ false → before g f ≡ false → before h f ≡ false
later f g h a b =
    let x = means_not h.start (rank h.reason) g.start (rank g.reason) (sym (is_at h g) ∙ a) in
    let y = means_not g.start (rank g.reason) f.start (rank f.reason) (sym (is_at g f) ∙ b) in
    is_at h f ∙ not_sooner h.start (rank h.reason) f.start (rank f.reason) (omega (arith, x.0, y.0)) (λ e. omega (arith, x.1 (omega (arith, x.0, y.0, e)), y.1 (omega (arith, x.0, y.0, e))))

earlier : (f g h : Fault) → before g f ≡ true → before h f ≡ false → before h g ≡ false
earlier f g h a b =
    let x = means g.start (rank g.reason) f.start (rank f.reason) (sym (is_at g f) ∙ a) in
    let y = means_not h.start (rank h.reason) f.start (rank f.reason) (sym (is_at h f) ∙ b) in
    is_at h g ∙ not_sooner h.start (rank h.reason) g.start (rank g.reason) (omega (arith, x.0, y.0)) (λ e. omega (arith, x.1 (omega (arith, x.0, y.0, e)), y.1 (omega (arith, x.0, y.0, e))))

-- the least of those with P, or there is none
abbrev Least : (Fault → Type 0) → Option Fault → Type 0
Least P None = (f : Fault) → P f → ⊥
Least P (Some b) = P b × ((g : Fault) → P g → before g b ≡ false)

alike : (P Q : Fault → Type 0) (o : Option Fault) → ((f : Fault) → P f → Q f) → ((f : Fault) → Q f → P f) → Least P o → Least Q o
alike P Q None to from l = λ f q. l f (from f q)
alike P Q (Some b) to from l = (to b l.0, λ g q. l.1 g (from g q))

both : (P Q : Fault → Type 0) (a b : Option Fault) → Least P a → Least Q b → Least (λ f. P f ⊎ Q f) (sooner a b)
both P Q None b la lb = alike Q (λ f. P f ⊎ Q f) b (λ f q. inr q) (λ f. ⊎_elim (λ p. absurd (la f p)) (λ q. q)) lb
both P Q (Some f) None la lb = alike P (λ f. P f ⊎ Q f) (Some f) (λ f p. inl p) (λ f. ⊎_elim (λ p. p) (λ q. absurd (lb f q))) la
both P Q (Some f) (Some g) la lb = by (before g f) refl
  where
    by : (first : Bool) → before g f ≡ first → Least (λ f. P f ⊎ Q f) (Some (if first then g else f))
    by true e = (inr lb.0, λ h. ⊎_elim (λ p. earlier f g h e (la.1 h p)) (λ q. lb.1 h q))
    by false e = (inl la.0, λ h. ⊎_elim (λ p. la.1 h p) (λ q. later f g h (lb.1 h q) e))

only : (o : Option Fault) → Least (λ f. o ≡ Some f) o
only None = λ f e. cc
only (Some b) = (refl, λ g e. subst (λ f. before f b ≡ false) (ap (λ o. unwrap_or o b) e) (itself b))

module _ {T : Type 0} (has : T → Fault → Type 0) (step : Option Fault → T → Option Fault) (keeps : (P : Fault → Type 0) (best : Option Fault) (x : T) → Least P best → Least (λ f. P f ⊎ has x f) (step best x)) where
  in_front : (P : Fault → Type 0) (x : T) (xs : List T) (f : Fault) → (P f ⊎ has x f) ⊎ SomeHas has xs f → P f ⊎ SomeHas has (x ∷ xs) f
  in_front P x xs f = ⊎_elim
      (⊎_elim (λ p. inl p) (λ h. inr (x, (0, omega arith, refl), h)))
      (λ more. inr (more.0, (suc more.1.0, omega (arith, more.1.1), more.1.2), more.2))

  taken : (x : T) (xs : List T) (y : T) (k : ℕ) → k < length (x ∷ xs) → get_or (x ∷ xs) k y ≡ y → (x ≡ y) ⊎ Contains xs y
  taken x xs y zero inside e = inl e
  taken x xs y (suc k) inside e = inr (k, omega (arith, inside), e)

  apart : (P : Fault → Type 0) (x : T) (xs : List T) (f : Fault) → P f ⊎ SomeHas has (x ∷ xs) f → (P f ⊎ has x f) ⊎ SomeHas has xs f
  apart P x xs f = ⊎_elim
      (λ p. inl (inl p))
      (λ some. ⊎_elim
      (λ same. inl (inr (subst (λ y. has y f) (sym same) some.2)))
      (λ more. inr (some.0, more, some.2))
      (taken x xs some.0 some.1.0 some.1.1 some.1.2))

  goes : (P : Fault → Type 0) (best : Option Fault) → Least P best → (xs : List T) → Least (λ f. P f ⊎ SomeHas has xs f) (from_left step best xs)
  goes P best l [] = alike P (λ f. P f ⊎ SomeHas has [] f) best (λ f p. inl p) (λ f. ⊎_elim (λ p. p) (λ some. absurd (omega (arith, some.1.1)))) l
  goes P best l (x ∷ xs) =
      alike (λ f. (P f ⊎ has x f) ⊎ SomeHas has xs f) (λ f. P f ⊎ SomeHas has (x ∷ xs) f) (from_left step (step best x) xs)
      (in_front P x xs) (apart P x xs) (goes (λ f. P f ⊎ has x f) (step best x) (keeps P best x l) xs)

-- in two parts
pub left_in_parts : {T : Type 0} (step : Option Fault → T → Option Fault) (best : Option Fault) (xs ys : List T)
    → from_left step best (xs ++ ys) ≡ from_left step (from_left step best xs) ys
left_in_parts step best [] ys = refl
left_in_parts step best (x ∷ xs) ys = left_in_parts step (step best x) xs ys

pub found_in_parts : (ds : List Definition) (best : Option Fault) (xs ys : List Claim) → first_in ds best (xs ++ ys) ≡ first_in ds (first_in ds best xs) ys
found_in_parts ds = left_in_parts (λ best claim. sooner best (fault_of claim (says_wrong ds claim.says)))

pub items_in_parts : (best : Option Fault) (xs ys : List Item) → first_of best (xs ++ ys) ≡ first_of (first_of best xs) ys
items_in_parts = left_in_parts (λ best (item : Item). first_in item.definitions best item.claims)

-- a claim's fault is the one at its place
fault_same : (f g : Fault) → f.start ≡ g.start → f.end ≡ g.end → f.reason ≡ g.reason → f ≡ g
fault_same f g start end reason =
    let of : ℕ → ℕ → Reason → Fault = λ s e r. record { start = s; end = e; reason = r } in
    ap (λ s. of s f.end f.reason) start ∙ ap (λ e. of g.start e f.reason) end ∙ ap (λ r. of g.start g.end r) reason

to_claim : (claim : Claim) (r : Option Reason) (f : Fault) → fault_of claim r ≡ Some f → (f.start ≡ claim.start) × (f.end ≡ claim.end) × (r ≡ Some f.reason)
to_claim claim None f e = cc
to_claim claim (Some r) f e =
    let same : record { start = claim.start; end = claim.end; reason = r } ≡ f = ap (λ o. unwrap_or o f) e in
    (sym (ap (λ (g : Fault). g.start) same), sym (ap (λ (g : Fault). g.end) same), ap (λ (g : Fault). Some g.reason) same)

of_claim : (claim : Claim) (r : Option Reason) (f : Fault) → (f.start ≡ claim.start) × (f.end ≡ claim.end) × (r ≡ Some f.reason) → fault_of claim r ≡ Some f
of_claim claim None f h = let e = h.2 in cc
of_claim claim (Some r) f h =
    ap Some (fault_same (record { start = claim.start; end = claim.end; reason = r }) f (sym h.0) (sym h.1) (ap (λ o. unwrap_or o f.reason) h.2))

claim_least : (item : Item) (claim : Claim) → Least (ClaimHasFault item claim) (fault_of claim (fault_at item claim))
claim_least item claim =
    alike (λ f. fault_of claim (fault_at item claim) ≡ Some f) (ClaimHasFault item claim) (fault_of claim (fault_at item claim))
    (λ f e. to_claim claim (fault_at item claim) f e) (λ f h. of_claim claim (fault_at item claim) f h) (only (fault_of claim (fault_at item claim)))

all : (items : List Item) → Least (HasFault items) (first_of None items)
all items =
    alike (λ f. ⊥ ⊎ HasFault items f) (HasFault items) (first_of None items) (λ f. ⊎_elim (λ no. absurd no) (λ some. some)) (λ f some. inr some)
    (goes (λ item. SomeHas (ClaimHasFault item) item.claims) (λ best item. first_in item.definitions best item.claims)
    (λ P best item l. goes (ClaimHasFault item) (λ best claim. sooner best (fault_of claim (fault_at item claim)))
    (λ P best claim l. both P (ClaimHasFault item claim) best (fault_of claim (fault_at item claim)) l (claim_least item claim)) P best l item.claims)
    (λ f. ⊥) None (λ f no. no) items)

none_of : (items : List Item) → first_of None items ≡ None → (f : Fault) → HasFault items f → ⊥
none_of items e = subst (Least (HasFault items)) e (all items)

pub first_is : (items : List Item) (f : Fault) → first_of None items ≡ Some f → IsFirst items f
first_is items f e = subst (Least (HasFault items)) e (all items)

pub none_if : (items : List Item) (r : Option Fault) → r ≡ first_of None items → IfNone r ((f : Fault) → HasFault items f → ⊥)
none_if items None e = none_of items (sym e)
none_if items (Some f) e = tt

pub some_if : (items : List Item) (r : Option Fault) → r ≡ first_of None items → IfSome r (λ f. IsFirst items f)
some_if items None e = tt
some_if items (Some f) e = first_is items f (sym e)

-- a fault before the first one is none of the faults
pub not_first : (items : List Item) (f g : Fault) → IsFirst items f → before f g ≡ true → IsFirst items g → ⊥
not_first items f g first sooner other = let later : before f g ≡ false = other.1 f first.0 in cc

pub not_later : (items : List Item) (f g : Fault) → IsFirst items f → before g f ≡ true → IsFirst items g → ⊥
not_later items f g first sooner other = let later : before g f ≡ false = first.1 g other.0 in cc
