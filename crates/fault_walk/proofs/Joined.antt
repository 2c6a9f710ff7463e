-- What is told of lists that are joined, and of what is noted apart.
use Rattle.std.proofs.Common.{◌≡◌, ◌∙◌, ◌&&◌, ◌||◌, ◌==◌, ◌≤◌, ◌<◌, ℕ, Bool, true, false, not, cond, List, [], ◌∷◌, ◌++◌, Option, None, Some, refl, sym, ap, arith}
use Rattle.std.specs.Prelude.{is_some, nat_lt}
use Rattle.module_spelling.specs.Blocks.{Wanted, is_large}
use Rattle.name_claims.specs.Faults.{before, rank}
use Rattle.name_claims.specs.declared.claims.Fault.{Fault}
use Rattle.named_modules.specs.Faults.{Heads}
use Rattle.fault_walk.specs.Told.{is_faultless, noted, noted_large, told_more, with_fault, with_other, with_place, with_place_if}
use Rattle.fault_walk.specs.declared.told.Told.{Told}

pub noted_joined : (fs gs : List Fault) (o : Option Fault) → noted (fs ++ gs) o ≡ noted gs (noted fs o)
noted_joined [] gs o = refl
noted_joined (f ∷ fs) gs o = noted_joined fs gs (with_fault o f)

-- ---- the first of faults that are noted apart

-- the order, on numbers
sooner_at : ℕ → ℕ → ℕ → ℕ → Bool
sooner_at p a q b = nat_lt p q || ((p == q) && nat_lt a b)

means_not : (p a q b : ℕ) → sooner_at p a q b ≡ false → (q ≤ p) × (p ≡ q → b ≤ a)
unfolding sooner_at
means_not p a q b e = (grind (arith, e), grind (arith, e))

means : (p a q b : ℕ) → sooner_at p a q b ≡ true → (p ≤ q) × (p ≡ q → a < b)
unfolding sooner_at
means p a q b e = (grind (arith, e), grind (arith, e))

not_sooner : (p a q b : ℕ) → q ≤ p → (p ≡ q → b ≤ a) → sooner_at p a q b ≡ false
unfolding sooner_at
not_sooner p a q b l r = grind (arith, l, r)

is_at : (f g : Fault) → before f g ≡ sooner_at f.start (rank f.reason) g.start (rank g.reason)
unfolding sooner_at
is_at f g = refl

later : (f g h : Fault) → before h g ≡ false → before g f ≡ false → before h f ≡ false
later f g h a b =
    let x = means_not h.start (rank h.reason) g.start (rank g.reason) (sym (is_at h g) ∙ a) in
    let y = means_not g.start (rank g.reason) f.start (rank f.reason) (sym (is_at g f) ∙ b) in
    is_at h f ∙ not_sooner h.start (rank h.reason) f.start (rank f.reason) (omega (arith, x.0, y.0)) (λ e. omega (arith, x.1 (omega (arith, x.0, y.0, e)), y.1 (omega (arith, x.0, y.0, e))))

earlier : (f g h : Fault) → before g f ≡ true → before h f ≡ false → before h g ≡ false
earlier f g h a b =
    let x = means g.start (rank g.reason) f.start (rank f.reason) (sym (is_at g f) ∙ a) in
    let y = means_not h.start (rank h.reason) f.start (rank f.reason) (sym (is_at h f) ∙ b) in
    is_at h g ∙ not_sooner h.start (rank h.reason) g.start (rank g.reason) (omega (arith, x.0, y.0)) (λ e. omega (arith, x.1 (omega (arith, x.0, y.0, e)), y.1 (omega (arith, x.0, y.0, e))))

-- the first of three, whichever two are compared first
of_three : (e f g : Fault) → Some (cond (before (cond (before g f) g f) e) (cond (before g f) g f) e) ≡ with_fault (Some (cond (before f e) f e)) g
of_three e f g = by (before g f) (before f e) (before g e) refl refl refl
  where
    by : (a b c : Bool) → before g f ≡ a → before f e ≡ b → before g e ≡ c
        → Some (cond (before (cond a g f) e) (cond a g f) e) ≡ Some (cond (before g (cond b f e)) g (cond b f e))
    by true true true p q r = ap (λ x. Some (cond x g e)) r ∙ sym (ap (λ x. Some (cond x g f)) p)
    by true true false p q r = absurd (let no : before g f ≡ false = earlier e f g q r in cc)
    by true false c p q r = refl
    by false true c p q r = ap (λ x. Some (cond x f e)) q ∙ sym (ap (λ x. Some (cond x g f)) p)
    by false false true p q r = absurd (let no : before g e ≡ false = later e f g p q in cc)
    by false false false p q r = ap (λ x. Some (cond x f e)) q ∙ sym (ap (λ x. Some (cond x g e)) r)

with_both : (o : Option Fault) (f g : Fault) → with_fault o (cond (before g f) g f) ≡ with_fault (with_fault o f) g
with_both None f g = refl
with_both (Some e) f g = of_three e f g

noted_behind : (fs : List Fault) (o : Option Fault) (f : Fault) → with_other o (noted fs (Some f)) ≡ noted fs (with_fault o f)
noted_behind [] o f = refl
noted_behind (g ∷ fs) o f = noted_behind fs o (cond (before g f) g f) ∙ ap (noted fs) (with_both o f g)

pub noted_apart : (fs : List Fault) (o : Option Fault) → with_other o (noted fs None) ≡ noted fs o
noted_apart [] o = refl
noted_apart (f ∷ fs) o = noted_behind fs o f

still_there : (fs : List Fault) (f : Fault) → is_some (noted fs (Some f)) ≡ true
still_there [] f = refl
still_there (g ∷ fs) f = still_there fs (cond (before g f) g f)

pub none_noted : (fs : List Fault) → not (is_some (noted fs None)) ≡ is_faultless fs
none_noted [] = refl
none_noted (f ∷ fs) = ap not (still_there fs f)

-- ---- places

both_places : (p q : ℕ) (o : Option ℕ) → with_place p (with_place q o) ≡ with_place q (with_place p o)
both_places p q None = by (nat_lt p q) (nat_lt q p) refl refl
  where
    by : (a b : Bool) → nat_lt p q ≡ a → nat_lt q p ≡ b → Some (cond a p q) ≡ Some (cond b q p)
    by true false u v = refl
    by false true u v = refl
    by true true u v = absurd (grind (arith, u, v))
    by false false u v = ap (λ x. Some x) (grind (arith, u, v))
both_places p q (Some r) = ap (λ x. Some x) (least_of_three p q r)
  where
    least_of_three : (p q r : ℕ) → cond (nat_lt p (cond (nat_lt q r) q r)) p (cond (nat_lt q r) q r) ≡ cond (nat_lt q (cond (nat_lt p r) p r)) q (cond (nat_lt p r) p r)
    least_of_three p q r = by (nat_lt q r) (nat_lt p r) (nat_lt p q) (nat_lt q p) refl refl refl refl
      where
        by : (a b c d : Bool) → nat_lt q r ≡ a → nat_lt p r ≡ b → nat_lt p q ≡ c → nat_lt q p ≡ d
            → cond (nat_lt p (cond a q r)) p (cond a q r) ≡ cond (nat_lt q (cond b p r)) q (cond b p r)
        by true true true true u v w x = absurd (grind (arith, w, x))
        by true true true false u v w x = ap (λ y. cond y p q) w ∙ sym (ap (λ y. cond y q p) x)
        by true true false true u v w x = ap (λ y. cond y p q) w ∙ sym (ap (λ y. cond y q p) x)
        by true true false false u v w x = ap (λ y. cond y p q) w ∙ grind (arith, w, x) ∙ sym (ap (λ y. cond y q p) x)
        by true false true d u v w x = absurd (grind (arith, u, v, w))
        by true false false d u v w x = ap (λ y. cond y p q) w ∙ sym (ap (λ y. cond y q r) u)
        by false true c true u v w x = absurd (grind (arith, u, v, x))
        by false true c false u v w x = ap (λ y. cond y p r) v ∙ sym (ap (λ y. cond y q p) x)
        by false false c d u v w x = ap (λ y. cond y p r) v ∙ sym (ap (λ y. cond y q r) u)

swapped : (a b : Bool) (p q : ℕ) (o : Option ℕ) → with_place_if a p (with_place_if b q o) ≡ with_place_if b q (with_place_if a p o)
swapped true true p q o = both_places p q o
swapped true false p q o = refl
swapped false true p q o = refl
swapped false false p q o = refl

module _ (h : Heads) where
  pub large_joined : (ws vs : List Wanted) (o : Option ℕ) → noted_large h (ws ++ vs) o ≡ noted_large h vs (noted_large h ws o)
  large_joined [] vs o = refl
  large_joined (w ∷ ws) vs o = large_joined ws vs (with_place_if (is_large h w) w.place o)

  one_late : (w : Wanted) (ws : List Wanted) (o : Option ℕ)
      → noted_large h ws (with_place_if (is_large h w) w.place o) ≡ with_place_if (is_large h w) w.place (noted_large h ws o)
  one_late w [] o = refl
  one_late w (v ∷ ws) o =
      ap (noted_large h ws) (swapped (is_large h v) (is_large h w) v.place w.place o) ∙ one_late w ws (with_place_if (is_large h v) v.place o)

  -- in any order
  pub large_swapped : (ws vs : List Wanted) (o : Option ℕ) → noted_large h vs (noted_large h ws o) ≡ noted_large h ws (noted_large h vs o)
  large_swapped [] vs o = refl
  large_swapped (w ∷ ws) vs o =
      large_swapped ws vs (with_place_if (is_large h w) w.place o) ∙ ap (noted_large h ws) (one_late w vs o)

  -- ---- both

  pub told_joined : (fs gs : List Fault) (ws vs : List Wanted) (t : Told) → told_more h (fs ++ gs) (ws ++ vs) t ≡ told_more h gs vs (told_more h fs ws t)
  told_joined fs gs ws vs t = told (noted_joined fs gs t.fault) (large_joined ws vs t.large)
    where
      told : {a b : Option Fault} {c d : Option ℕ} → a ≡ b → c ≡ d → (let one : Told = record { fault = a; large = c } in one) ≡ record { fault = b; large = d }
      told p q = cc

  -- nothing is wanted by the first, by the second, or by both
  pub then_told : (fs gs : List Fault) (vs : List Wanted) (t : Told) → told_more h (fs ++ gs) vs t ≡ told_more h gs vs (told_more h fs [] t)
  then_told fs gs vs t = told_joined fs gs [] vs t

  pub told_first : (fs gs : List Fault) (ws : List Wanted) (t : Told) → told_more h (fs ++ gs) ws t ≡ told_more h gs [] (told_more h fs ws t)
  told_first fs gs ws t = ap (λ (o : Option Fault). let one : Told = record { fault = o; large = noted_large h ws t.large } in one) (noted_joined fs gs t.fault)

  pub faults_joined : (fs gs : List Fault) (t : Told) → told_more h (fs ++ gs) [] t ≡ told_more h gs [] (told_more h fs [] t)
  faults_joined fs gs t = told_joined fs gs [] [] t

  -- nothing is at fault in the second
  pub wanted_joined : (fs : List Fault) (ws vs : List Wanted) (t : Told) → told_more h fs (ws ++ vs) t ≡ told_more h [] vs (told_more h fs ws t)
  wanted_joined fs ws vs t = ap (λ (o : Option ℕ). let one : Told = record { fault = noted fs t.fault; large = o } in one) (large_joined ws vs t.large)

  -- what is wanted is noted late
  pub wanted_late : (fs gs : List Fault) (ws vs : List Wanted) (t : Told)
      → told_more h gs (ws ++ vs) (told_more h fs [] t) ≡ told_more h [] ws (told_more h gs vs (told_more h fs [] t))
  wanted_late fs gs ws vs t =
      ap (λ (o : Option ℕ). let one : Told = record { fault = noted gs (noted fs t.fault); large = o } in one) (large_joined ws vs t.large ∙ large_swapped ws vs t.large)
