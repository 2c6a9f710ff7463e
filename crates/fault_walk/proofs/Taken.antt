-- Names that are taken.
use Rattle.std.proofs.Common.{◌≡◌, ◌∙◌, ◌||◌, ◌+◌, ℕ, Bool, true, false, cond, [], Option, Some, is_some, nat_eq, refl, sym, ap, arith}
use Rattle.std.specs.Prelude.{nat_lt}
use Rattle.std.proofs.lemmas.Bool.{eq-eqb, eqb-true, ltb-false, ltb-true}
use Rattle.std.specs.HashMap.{get_by}
use Rattle.std.specs.Map.{lookup}
use Rattle.ir_types.specs.declared.names.Name.{Name}
use Rattle.ir_types.specs.declared.names.Name.TheVariants as name
use Rattle.ir_types.specs.NameLaws.{name_equivalence, same_name_true}
use Rattle.ir_types.specs.Same.{same_name}
use Rattle.fault_walk.specs.Names.{also, is_counted, is_taken, none_taken}
use Rattle.fault_walk.specs.declared.names.Taken.{Taken}

none_counted : (y : Name) → (is_counted 0 y || false) ≡ false
none_counted (name.Text bytes) = refl
none_counted (name.Number n) = go (nat_lt n 0) refl
  where
    go : (b : Bool) → nat_lt n 0 ≡ b → (b || false) ≡ false
    go false e = refl
    go true e = absurd (omega (arith, ltb-true n 0 e))

pub none_there : (taken : Taken) → taken.counted ≡ 0 → taken.names.entries ≡ [] → is_taken taken ≡ none_taken
unfolding is_taken
none_there taken e f = λ i y. at y i
  where
    at : (y : Name) → (is_counted taken.counted y || is_some (get_by (same_name y) taken.names)) ≡ false
    at y =
        ap (λ k. is_counted k y || is_some (get_by (same_name y) taken.names)) e
        ∙ ap (λ es. is_counted 0 y || is_some (lookup (same_name y) es)) f
        ∙ none_counted y

or_there : (b c : Bool) → (c ≡ true → b ≡ true) → b ≡ (c || b)
or_there true true so = refl
or_there true false so = refl
or_there false true so = so refl
or_there false false so = refl

pub there : (taken : Taken) (x : Name) → is_taken taken x ≡ true → is_taken taken ≡ also (is_taken taken) x
unfolding also
there taken x is = λ i y. at y i
  where
    at : (y : Name) → is_taken taken y ≡ (same_name y x || is_taken taken y)
    at y = or_there (is_taken taken y) (same_name y x) (λ same. ap (is_taken taken) (same_name_true y x same) ∙ is)

-- a number is below the next one if it is this one, or below it
below_next : (m n : ℕ) → nat_lt m (n + 1) ≡ (nat_eq m n || nat_lt m n)
below_next m n = go (nat_lt m (n + 1)) (nat_eq m n) (nat_lt m n) refl refl refl
  where
    go : (a b c : Bool) → nat_lt m (n + 1) ≡ a → nat_eq m n ≡ b → nat_lt m n ≡ c → a ≡ (b || c)
    go true true c e f g = refl
    go true false true e f g = refl
    go true false false e f g =
        let same : m ≡ n = omega (arith, ltb-true m (n + 1) e, ltb-false m n g) in
        let wrong : false ≡ true = sym f ∙ eq-eqb m n same in
        absurd (cc)
    go false true c e f g = absurd (omega (arith, ltb-false m (n + 1) e, eqb-true m n f))
    go false false true e f g = absurd (omega (arith, ltb-false m (n + 1) e, ltb-true m n g))
    go false false false e f g = refl

or_assoc : (a b c : Bool) → ((a || b) || c) ≡ (a || (b || c))
or_assoc true b c = refl
or_assoc false b c = refl

-- the number behind those that are counted
pub counted_put : (taken new : Taken) (n : ℕ) → n ≡ taken.counted → new.counted ≡ n + 1 → new.names ≡ taken.names → is_taken new ≡ also (is_taken taken) (name.Number n)
unfolding is_taken also
counted_put taken new n is next same = λ i y. at y i
  where
    by : (y : Name) (b : Bool) → (is_counted (n + 1) y || b) ≡ (same_name y (name.Number n) || (is_counted n y || b))
    by (name.Text bytes) b = refl
    by (name.Number m) b = ap (λ c. c || b) (below_next m n) ∙ or_assoc (nat_eq m n) (nat_lt m n) b

    at : (y : Name) → (is_counted new.counted y || is_some (get_by (same_name y) new.names)) ≡ (same_name y (name.Number n) || (is_counted taken.counted y || is_some (get_by (same_name y) taken.names)))
    at y =
        ap (λ k. is_counted k y || is_some (get_by (same_name y) new.names)) next
        ∙ ap (λ m. is_counted (n + 1) y || is_some (get_by (same_name y) m)) same
        ∙ by y (is_some (get_by (same_name y) taken.names))
        ∙ ap (λ k. same_name y (name.Number n) || (is_counted k y || is_some (get_by (same_name y) taken.names))) is

apart : (a s : Bool) (o : Option Unit) → (a || is_some (cond s (Some tt) o)) ≡ (s || (a || is_some o))
apart true true o = refl
apart true false o = refl
apart false true o = refl
apart false false o = refl

-- a name that stands apart
pub put_apart : (taken new : Taken) (x : Name) → ((q : Name) → get_by (same_name q) new.names ≡ cond (same_name x q) (Some tt) (get_by (same_name q) taken.names)) → new.counted ≡ taken.counted
    → is_taken new ≡ also (is_taken taken) x
unfolding is_taken also
put_apart taken new x put same = λ i y. at y i
  where
    at : (y : Name) → (is_counted new.counted y || is_some (get_by (same_name y) new.names)) ≡ (same_name y x || (is_counted taken.counted y || is_some (get_by (same_name y) taken.names)))
    at y =
        ap (λ k. is_counted k y || is_some (get_by (same_name y) new.names)) same
        ∙ ap (λ o. is_counted taken.counted y || is_some o) (put y)
        ∙ apart (is_counted taken.counted y) (same_name x y) (get_by (same_name y) taken.names)
        ∙ ap (λ b. b || (is_counted taken.counted y || is_some (get_by (same_name y) taken.names))) (name_equivalence.symm x y)
