-- The fault and the place that are noted are the first ones.
use Rattle.std.proofs.Common.{◌≡◌, ◌∙◌, ◌+◌, ◌*◌, ◌<◌, ◌≤◌, ℕ, ◌&&◌, ◌||◌, Bool, true, false, cond, List, [], ◌∷◌, map, Option, None, Some, refl, sym, ap, subst, arith}
use Rattle.std.specs.Prelude.{nat_eq, nat_lt}
use Rattle.std.specs.List.{Contains, filter, flat_map}
use Rattle.std.proofs.Math.Logic.{⊎_elim}
use Rattle.std.proofs.lemmas.Bool.{eqb-true, eq-eqb, ltb-true, ltb-false}
use Rattle.name_claims.specs.declared.claims.Fault.{Fault}
use Rattle.name_claims.specs.declared.claims.Reason.{Reason}
use Rattle.name_claims.specs.declared.claims.Reason.TheVariants as reason
use Rattle.name_claims.specs.Faults.{before, rank}
use Rattle.named_modules.proofs.Lists.{contains_behind, contains_cases, contains_here, contains_none}
use Rattle.module_grammar.specs.declared.items.ModuleText.{ModuleText}
use Rattle.module_spelling.specs.Blocks.{Wanted, is_large, large_places, wanted_by_item}
use Rattle.named_modules.specs.Faults.{Heads}
use Rattle.fault_walk.specs.First.{IsFirst, NoneIsNotedOfNone, NotedComeFirst}
use Rattle.fault_walk.specs.Told.{noted, noted_large, with_place, with_place_if}

-- ---- by one number

rank_below : (r : Reason) → rank r < 5
rank_below reason.Twice = omega arith
rank_below (reason.WrongNumber due) = omega arith
rank_below reason.Unknown = omega arith
rank_below reason.LeftOut = omega arith
rank_below reason.WrongType = omega arith

key : Fault → ℕ
key f = f.start * 5 + rank f.reason

less : (a b c d : ℕ) → (nat_lt a b || (nat_eq a b && nat_lt c d)) ≡ true → c < 5 → d < 5 → a * 5 + c < b * 5 + d
less a b c d e f g = go (nat_lt a b) (nat_eq a b) (nat_lt c d) refl refl refl e
  where
    go : (x y z : Bool) → nat_lt a b ≡ x → nat_eq a b ≡ y → nat_lt c d ≡ z → (x || (y && z)) ≡ true → a * 5 + c < b * 5 + d
    go true y z p q r h = omega (arith, ltb-true a b p)
    go false true true p q r h = omega (arith, eqb-true a b q, ltb-true c d r)
    go false true false p q r h = cc
    go false false z p q r h = cc

strict : (a b : ℕ) → nat_lt a b ≡ false → nat_eq a b ≡ false → b < a
strict a b p q = go (nat_lt b a) refl
  where
    go : (x : Bool) → nat_lt b a ≡ x → b < a
    go true r = ltb-true b a r
    go false r =
        let same : a ≡ b = omega (arith, ltb-false a b p, ltb-false b a r) in
        let wrong : false ≡ true = sym q ∙ eq-eqb a b same in
        absurd (cc)

more : (a b c d : ℕ) → (nat_lt a b || (nat_eq a b && nat_lt c d)) ≡ false → c < 5 → d < 5 → b * 5 + d ≤ a * 5 + c
more a b c d e f g = go (nat_lt a b) (nat_eq a b) (nat_lt c d) refl refl refl e
  where
    go : (x y z : Bool) → nat_lt a b ≡ x → nat_eq a b ≡ y → nat_lt c d ≡ z → (x || (y && z)) ≡ false → b * 5 + d ≤ a * 5 + c
    go true y z p q r h = cc
    go false true true p q r h = cc
    go false true false p q r h = omega (arith, eqb-true a b q, ltb-false c d r)
    go false false z p q r h = omega (arith, strict a b p q)

before_less : (f g : Fault) → before f g ≡ true → key f < key g
unfolding key
before_less f g e = less f.start g.start (rank f.reason) (rank g.reason) e (rank_below f.reason) (rank_below g.reason)

not_before : (f g : Fault) → before f g ≡ false → key g ≤ key f
unfolding key
not_before f g e = more f.start g.start (rank f.reason) (rank g.reason) e (rank_below f.reason) (rank_below g.reason)

is_not_before : (f g : Fault) → key g ≤ key f → before f g ≡ false
is_not_before f g h = go (before f g) refl
  where
    go : (b : Bool) → before f g ≡ b → b ≡ false
    go false e = refl
    go true e = absurd (omega (arith, before_less f g e))

-- ---- the first

-- what is noted behind a fault is this one or one of those, and comes before none of them
record Least (f r : Fault) (fs : List Fault) : Type 0 where
  there : Contains (f ∷ fs) r
  first : key r ≤ key f
  least : (g : Fault) → Contains fs g → key r ≤ key g

found : (fs : List Fault) (f r : Fault) → noted fs (Some f) ≡ Some r → Least f r fs
found [] f r e =
    let same : f ≡ r = cc in
    record { there = subst (Contains (f ∷ [])) same (contains_here f []); first = subst (λ (x : Fault). key x ≤ key f) same (omega arith); least = λ g there. absurd (contains_none g there) }
found (x ∷ fs) f r e = go (before x f) refl (λ y. found fs y r)
  where
    go : (b : Bool) → before x f ≡ b → ((y : Fault) → noted fs (Some y) ≡ Some r → Least y r fs) → Least f r (x ∷ fs)
    go true is next =
        let l = next x (sym (ap (λ c. noted fs (Some (cond c x f))) is) ∙ e) in
        record {
          there = contains_behind f r (x ∷ fs) l.there;
          first = omega (arith, l.first, before_less x f is);
          least = λ g there. ⊎_elim (λ (s : x ≡ g). subst (λ (y : Fault). key r ≤ key y) s l.first) (λ behind. l.least g behind) (contains_cases x g fs there);
        }
    go false is next =
        let l = next f (sym (ap (λ c. noted fs (Some (cond c x f))) is) ∙ e) in
        record {
          there = ⊎_elim (λ (s : f ≡ r). subst (Contains (f ∷ x ∷ fs)) s (contains_here f (x ∷ fs))) (λ behind. contains_behind f r (x ∷ fs) (contains_behind x r fs behind)) (contains_cases f r fs l.there);
          first = l.first;
          least = λ g there. ⊎_elim (λ (s : x ≡ g). subst (λ (y : Fault). key r ≤ key y) s (omega (arith, l.first, not_before x f is))) (λ behind. l.least g behind) (contains_cases x g fs there);
        }

some_stays : (fs : List Fault) (f : Fault) → noted fs (Some f) ≡ None → ⊥
some_stays [] f e = cc
some_stays (x ∷ fs) f e = some_stays fs (cond (before x f) x f) e

pub none_noted : NoneIsNotedOfNone
none_noted [] = (λ e. refl, λ e. refl)
none_noted (x ∷ fs) = (λ e. absurd (some_stays fs x e), λ e. cc)

pub first_noted : NotedComeFirst
first_noted [] f e = cc
first_noted (x ∷ fs) f e =
    let l = found fs x f e in
    (l.there, λ g there. is_not_before g f (⊎_elim (λ (s : x ≡ g). subst (λ (y : Fault). key f ≤ key y) s l.first) (λ behind. l.least g behind) (contains_cases x g fs there)))

-- ---- places

abbrev least : List ℕ → Option ℕ → Option ℕ
least [] told = told
least (p ∷ ps) told = least ps (with_place p told)

abbrev places : Heads → List Wanted → List ℕ
places h ws = map (λ (b : Wanted). b.place) (filter (is_large h) ws)

noted_least : (h : Heads) (ws : List Wanted) (told : Option ℕ) → noted_large h ws told ≡ least (places h ws) told
noted_least h [] told = refl
noted_least h (w ∷ ws) told = go (is_large h w) (noted_least h ws)
  where
    go : (b : Bool) → ((before : Option ℕ) → noted_large h ws before ≡ least (places h ws) before)
        → noted_large h ws (with_place_if b w.place told) ≡ least (map (λ (c : Wanted). c.place) (cond b (w ∷ filter (is_large h) ws) (filter (is_large h) ws))) told
    go true further = further (with_place w.place told)
    go false further = further told

-- what is noted behind a place is this one or one of those, and none of them comes before it
record Nearest (q : ℕ) (ps : List ℕ) (told : Option ℕ) : Type 0 where
  first : ℕ
  is : told ≡ Some first
  there : Contains (q ∷ ps) first
  before : first ≤ q
  least : (p : ℕ) → Contains ps p → first ≤ p

found_place : (ps : List ℕ) (q : ℕ) → Nearest q ps (least ps (Some q))
found_place [] q = record { first = q; is = refl; there = contains_here q []; before = omega arith; least = λ p there. absurd (contains_none p there) }
found_place (x ∷ ps) q = go (nat_lt x q) refl (found_place ps)
  where
    go : (b : Bool) → nat_lt x q ≡ b → ((p : ℕ) → Nearest p ps (least ps (Some p))) → Nearest q (x ∷ ps) (least ps (Some (cond b x q)))
    go true e further =
        let l = further x in
        record {
          first = l.first;
          is = l.is;
          there = contains_behind q l.first (x ∷ ps) l.there;
          before = omega (arith, l.before, ltb-true x q e);
          least = λ p there. ⊎_elim (λ (s : x ≡ p). subst (λ y. l.first ≤ y) s l.before) (λ behind. l.least p behind) (contains_cases x p ps there);
        }
    go false e further =
        let l = further q in
        record {
          first = l.first;
          is = l.is;
          there = ⊎_elim (λ (s : q ≡ l.first). subst (Contains (q ∷ x ∷ ps)) s (contains_here q (x ∷ ps))) (λ behind. contains_behind q l.first (x ∷ ps) (contains_behind x l.first ps behind)) (contains_cases q l.first ps l.there);
          before = l.before;
          least = λ p there. ⊎_elim (λ (s : x ≡ p). subst (λ y. l.first ≤ y) s (omega (arith, l.before, ltb-false x q e))) (λ behind. l.least p behind) (contains_cases x p ps there);
        }

first_of_places : (ps : List ℕ) → IsFirst ps (least ps None)
first_of_places [] = refl
first_of_places (p ∷ ps) =
    let l = found_place ps p in
    subst (IsFirst (p ∷ ps)) (sym l.is) (l.there, λ q there. ⊎_elim (λ (s : p ≡ q). subst (λ y. l.first ≤ y) s l.before) (λ behind. l.least q behind) (contains_cases p q ps there))

pub first_large : (h : Heads) (tree : ModuleText) → IsFirst (large_places h tree) (noted_large h (flat_map (wanted_by_item h) tree.items) None)
first_large h tree =
    let ws = flat_map (wanted_by_item h) tree.items in
    subst (IsFirst (places h ws)) (sym (noted_least h ws None)) (first_of_places (places h ws))
