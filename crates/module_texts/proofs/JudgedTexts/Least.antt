-- A list has a first element by an order, or none.
use Rattle.std.proofs.Common.{◌≡◌, ◌≤◌, ◌<◌, ℕ, Bool, true, false, nat_lt, List, [], ◌∷◌, ◌⊎◌, inl, inr, refl, sym, ◌∙◌, subst, arith}
use Rattle.std.specs.Prelude.{◌==◌, ◌&&◌, ◌||◌}
use Rattle.std.proofs.lemmas.Bool.{ltb-false, ltb-true}
use Rattle.std.specs.List.{Contains}
use Rattle.module_spelling.specs.Faults.{IsFirstOf}
use Rattle.name_claims.specs.Faults.{before, rank}
use Rattle.name_claims.specs.declared.claims.Fault.{Fault}
use Rattle.named_modules.proofs.Lists.{contains_behind, contains_cases, contains_here, contains_none}

-- ---- by an order

module _ {X : Type 0} (Upto : X → X → Type 0) (itself : (x : X) → Upto x x) (through : (x y z : X) → Upto x y → Upto y z → Upto x z) (either : (x y : X) → Upto x y ⊎ Upto y x) where
  pub record First (xs : List X) : Type 0 where
    pub first : X
    pub has : Contains xs first
    pub upto : (y : X) → Contains xs y → Upto first y

  alone : (x : X) → First (x ∷ [])
  alone x = record { first = x; has = contains_here x []; upto = λ y has. of y (contains_cases x y [] has) }
    where
      of : (y : X) → (x ≡ y) ⊎ Contains [] y → Upto x y
      of y (inl same) = subst (Upto x) same (itself x)
      of y (inr none) = absurd (contains_none y none)

  sooner : (x : X) (xs : List X) (f : First xs) → Upto x f.first → First (x ∷ xs)
  sooner x xs f less = record { first = x; has = contains_here x xs; upto = λ y has. of y (contains_cases x y xs has) }
    where
      of : (y : X) → (x ≡ y) ⊎ Contains xs y → Upto x y
      of y (inl same) = subst (Upto x) same (itself x)
      of y (inr later) = through x f.first y less (f.upto y later)

  later : (x : X) (xs : List X) (f : First xs) → Upto f.first x → First (x ∷ xs)
  later x xs f less = record { first = f.first; has = contains_behind x f.first xs f.has; upto = λ y has. of y (contains_cases x y xs has) }
    where
      of : (y : X) → (x ≡ y) ⊎ Contains xs y → Upto f.first y
      of y (inl same) = subst (Upto f.first) same less
      of y (inr there) = f.upto y there

  joined : (x : X) (xs : List X) (f : First xs) → Upto x f.first ⊎ Upto f.first x → First (x ∷ xs)
  joined x xs f (inl less) = sooner x xs f less
  joined x xs f (inr less) = later x xs f less

  pub first_or_none : (xs : List X) → First xs ⊎ (xs ≡ [])
  first_or_none [] = inr refl
  first_or_none (x ∷ xs) = of (first_or_none xs)
    where
      of : First xs ⊎ (xs ≡ []) → First (x ∷ xs) ⊎ (x ∷ xs ≡ [])
      of (inl f) = inl (joined x xs f (either x f.first))
      of (inr none) = inl (subst (λ l. First (x ∷ l)) (sym none) (alone x))

-- ---- places

upto_either : (a b : ℕ) → (a ≤ b) ⊎ (b ≤ a)
upto_either a b = by (nat_lt a b) refl
  where
    by : (less : Bool) → nat_lt a b ≡ less → (a ≤ b) ⊎ (b ≤ a)
    by true e = let less : a < b = ltb-true a b e in inl (omega arith)
    by false e = inr (ltb-false a b e)

pub first_place : (places : List ℕ) → ((place : ℕ) × Contains places place × ((other : ℕ) → Contains places other → place ≤ other)) ⊎ (places ≡ [])
first_place places = of (first_or_none (λ (a : ℕ) b. a ≤ b) (λ a. omega arith) (λ a b c x y. omega (arith, x, y)) upto_either places)
  where
    of : First (λ (a : ℕ) b. a ≤ b) (λ a. omega arith) (λ a b c x y. omega (arith, x, y)) upto_either places ⊎ (places ≡ [])
        → ((place : ℕ) × Contains places place × ((other : ℕ) → Contains places other → place ≤ other)) ⊎ (places ≡ [])
    of (inl f) = inl (f.first, f.has, f.upto)
    of (inr none) = inr none

-- ---- faults

-- by place and rank
before_at : ℕ → ℕ → ℕ → ℕ → Bool
before_at p a q b = nat_lt p q || ((p == q) && nat_lt a b)

is_at : (f g : Fault) → before f g ≡ before_at f.start (rank f.reason) g.start (rank g.reason)
unfolding before_at
is_at f g = refl

means_not : (p a q b : ℕ) → before_at p a q b ≡ false → (q ≤ p) × (p ≡ q → b ≤ a)
unfolding before_at
means_not p a q b e = (grind (arith, e), grind (arith, e))

not_before : (p a q b : ℕ) → q ≤ p → (p ≡ q → b ≤ a) → before_at p a q b ≡ false
unfolding before_at
not_before p a q b l r = grind (arith, l, r)

one_not_before : (p a q b : ℕ) → (before_at p a q b ≡ false) ⊎ (before_at q b p a ≡ false)
unfolding before_at
one_not_before p a q b = by (before_at p a q b) refl
  where
    by : (is : Bool) → before_at p a q b ≡ is → (before_at p a q b ≡ false) ⊎ (before_at q b p a ≡ false)
    by true e = inr (grind (arith, e))
    by false e = inl e

-- none comes before the first of them
abbrev Upto : Fault → Fault → Type 0
Upto f g = before g f ≡ false

itself : (f : Fault) → Upto f f
itself f = is_at f f ∙ not_before f.start (rank f.reason) f.start (rank f.reason) (omega arith) (λ e. omega arith)

through : (f g h : Fault) → Upto f g → Upto g h → Upto f h
through f g h x y =
    let a = means_not g.start (rank g.reason) f.start (rank f.reason) (sym (is_at g f) ∙ x) in
    let b = means_not h.start (rank h.reason) g.start (rank g.reason) (sym (is_at h g) ∙ y) in
    is_at h f
    ∙ not_before h.start (rank h.reason) f.start (rank f.reason) (omega (arith, a.0, b.0))
    (λ e. omega (arith, a.1 (omega (arith, a.0, b.0, e)), b.1 (omega (arith, a.0, b.0, e))))

either : (f g : Fault) → Upto f g ⊎ Upto g f
either f g = of (one_not_before g.start (rank g.reason) f.start (rank f.reason))
  where
    of :
        (before_at g.start (rank g.reason) f.start (rank f.reason) ≡ false) ⊎ (before_at f.start (rank f.reason) g.start (rank g.reason) ≡ false)
        → Upto f g ⊎ Upto g f
    of (inl e) = inl (is_at g f ∙ e)
    of (inr e) = inr (is_at f g ∙ e)

pub first_fault : (faults : List Fault) → ((f : Fault) × IsFirstOf faults f) ⊎ (faults ≡ [])
first_fault faults = of (first_or_none Upto itself through either faults)
  where
    of : First Upto itself through either faults ⊎ (faults ≡ []) → ((f : Fault) × IsFirstOf faults f) ⊎ (faults ≡ [])
    of (inl f) = inl (f.first, (f.has, f.upto))
    of (inr none) = inr none

-- where none comes before the first, it begins no later
pub not_behind : (f g : Fault) → before g f ≡ false → f.start ≤ g.start
not_behind f g e = (means_not g.start (rank g.reason) f.start (rank f.reason) (sym (is_at g f) ∙ e)).0
