-- Facts between two operands stay where they are found as facts are added and taken out.
use Rattle.std.proofs.Common.{◌≡◌, ◌∙◌, Bool, true, false, ◌||◌, ◌&&◌, cond, filter, List, [], ◌∷◌, ◌++◌, Option, None, Some, refl, sym, ap, subst}
use Rattle.std.proofs.lemmas.Bool.{false≢true}
use Rattle.std.proofs.lemmas.List.{append-nil}
use Rattle.std.proofs.lemmas.List.Folds.{list_any-append}
use Rattle.std.specs.List.{list_any}
use Rattle.ir_types.specs.declared.names.Name.{Name}
use Rattle.ir_types.specs.NameLaws.{same_name_true}
use Rattle.ir_types.specs.Same.{same_name}
use Rattle.ir_core.specs.declared.expressions.Reg.{Reg}
use Rattle.ir_core.specs.declared.operands.Operand.{Operand}
use Rattle.ir_core.specs.declared.expressions.Expr.TheVariants.{Plain}
use Rattle.erhl_assert.specs.declared.facts.Fact.{Fact}
use Rattle.erhl_assert.specs.declared.facts.Fact.TheVariants.{LessDef}
use Rattle.erhl_assert.specs.Facts.{same_fact, has_fact, with_fact}
use Rattle.erhl_assert.specs.FactLaws.{same_fact_true, same_fact_refl}
use Rattle.fact_sets.specs.declared.near_facts.NearFacts.{NearFacts}
use Rattle.fact_sets.specs.Near.{found_under, is_near, list_or_none, near_in, if_under, HasAllNear, AreNear}
use Rattle.fact_sets.proofs.Indexing.{or_cases}

pub none_near : (near : NearFacts) → AreNear near []
unfolding AreNear
none_near near x f h n = absurd (false≢true h)

-- ---- what is kept under a name
module _ (few mid many : Name → Option (List Fact)) (n : Name) (f : Fact) (found : Option (List Fact)) (kept : List Fact) where
  pub put_behind : found ≡ few n → ((q : Name) → mid q ≡ cond (same_name n q) None (few q)) → kept ≡ list_or_none found ++ f ∷ []
      → (m : Name) → m ≡ n → ((q : Name) → many q ≡ cond (same_name m q) (Some kept) (mid q))
      → (x : Name) → list_or_none (many x) ≡ list_or_none (few x) ++ if_under n x f
  put_behind was gone behind m is put x =
      ap list_or_none (put x ∙ ap (λ (y : Name). cond (same_name y x) (Some kept) (mid x)) is)
      ∙ ((elim (same_name n x) as (λ b. same_name n x ≡ b → list_or_none (cond b (Some kept) (mid x)) ≡ list_or_none (few x) ++ cond b (f ∷ []) []) [
        | true ↦ λ e. behind ∙ ap (λ o. list_or_none o ++ f ∷ []) (was ∙ ap few (same_name_true n x e))
        | false ↦ λ e. ap list_or_none (gone x ∙ ap (λ b. cond b None (few x)) e) ∙ sym (append-nil (list_or_none (few x)))
      ]) refl)

or_left : (a b : Bool) → a ≡ true → (a || b) ≡ true
or_left true b h = refl
or_left false b h = absurd (false≢true h)

or_right : (a b : Bool) → b ≡ true → (a || b) ≡ true
or_right true b h = refl
or_right false b h = h

-- ---- a fact more
has_more : (f : Fact) (xs ys : List Fact) → has_fact f xs ≡ true → has_fact f (xs ++ ys) ≡ true
has_more f xs ys h = list_any-append (same_fact f) xs ys ∙ or_left (has_fact f xs) (has_fact f ys) h

has_behind : (f : Fact) (xs ys : List Fact) → has_fact f ys ≡ true → has_fact f (xs ++ ys) ≡ true
has_behind f xs ys h = list_any-append (same_fact f) xs ys ∙ or_right (has_fact f xs) (has_fact f ys) h

-- what is there with a fact more was there, or is the fact
one_of : (f g : Fact) (fs : List Fact) → has_fact g (with_fact f fs) ≡ true → (has_fact g fs || same_fact g f) ≡ true
one_of f g fs =
    elim (has_fact f fs) as (λ b. has_fact g (cond b fs (fs ++ f ∷ [])) ≡ true → (has_fact g fs || same_fact g f) ≡ true) [
      | true ↦ λ h. or_left (has_fact g fs) (same_fact g f) h
      | false ↦ λ h. or_cases (has_fact g fs) (same_fact g f || false) (sym (list_any-append (same_fact g) fs (f ∷ [])) ∙ h)
          (λ k. or_left (has_fact g fs) (same_fact g f) k)
          (λ k. or_right (has_fact g fs) (same_fact g f) (or_cases (same_fact g f) false k (λ e. e) (λ e. absurd (false≢true e))))
    ]

under_it : (f : Fact) (x y : Name) → same_name x y ≡ true → has_fact f (if_under x y f) ≡ true
under_it f x y h = ap (λ b. has_fact f (cond b (f ∷ []) [])) h ∙ or_left (same_fact f f) false (same_fact_refl f)

module _ (old mid new : NearFacts) (a b : Operand Reg) where
  abbrev fact : Fact
  fact = LessDef (Plain a) (Plain b)

  module _ (first : (x : Name) → near_in mid x ≡ near_in old x ++ if_under (found_under a.atom) x fact)
      (second : (x : Name) → near_in new x ≡ near_in mid x ++ if_under (found_under b.atom) x fact) where
    stays : (x : Name) (g : Fact) → has_fact g (near_in old x) ≡ true → has_fact g (near_in new x) ≡ true
    stays x g h =
        ap (has_fact g) (second x)
        ∙ has_more g (near_in mid x) (if_under (found_under b.atom) x fact) (ap (has_fact g) (first x) ∙ has_more g (near_in old x) (if_under (found_under a.atom) x fact) h)

    comes : (x : Name) → is_near x fact ≡ true → has_fact fact (near_in new x) ≡ true
    comes x h =
        or_cases (same_name (found_under a.atom) x) (same_name (found_under b.atom) x) h
        (λ e. ap (has_fact fact) (second x)
        ∙ has_more fact (near_in mid x) (if_under (found_under b.atom) x fact)
        (ap (has_fact fact) (first x) ∙ has_behind fact (near_in old x) (if_under (found_under a.atom) x fact) (under_it fact (found_under a.atom) x e)))
        (λ e. ap (has_fact fact) (second x) ∙ has_behind fact (near_in mid x) (if_under (found_under b.atom) x fact) (under_it fact (found_under b.atom) x e))

    kept_near : (fs : List Fact) → AreNear old fs → AreNear new (with_fact fact fs)
    unfolding AreNear
    kept_near fs are x g h n =
        or_cases (has_fact g fs) (same_fact g fact) (one_of fact g fs h)
        (λ k. stays x g (are x g k n))
        (λ k. let e : g ≡ fact = same_fact_true g fact k in
        subst (λ f. has_fact f (near_in new x) ≡ true) (sym e) (comes x (ap (is_near x) (sym e) ∙ n)))

  pub kept_near_so : (f : Fact) → f ≡ fact → ((x : Name) → near_in mid x ≡ near_in old x ++ if_under (found_under a.atom) x f)
      → ((x : Name) → near_in new x ≡ near_in mid x ++ if_under (found_under b.atom) x f)
      → (fs : List Fact) → AreNear old fs → AreNear new (with_fact f fs)
  kept_near_so f e =
      subst
      (λ (g : Fact). ((x : Name) → near_in mid x ≡ near_in old x ++ if_under (found_under a.atom) x g)
      → ((x : Name) → near_in new x ≡ near_in mid x ++ if_under (found_under b.atom) x g)
      → (fs : List Fact) → AreNear old fs → AreNear new (with_fact g fs))
      (sym e) (λ first second fs are. kept_near first second fs are)

-- a fact more that is between no two operands
pub not_near : (near : NearFacts) (f : Fact) (fs : List Fact) → ((x : Name) → is_near x f ≡ false) → AreNear near fs → AreNear near (with_fact f fs)
unfolding AreNear
not_near near f fs never are x g h n =
    or_cases (has_fact g fs) (same_fact g f) (one_of f g fs h)
    (λ k. are x g k n)
    (λ k. absurd (false≢true (sym (ap (is_near x) (same_fact_true g f k) ∙ never x) ∙ n)))

-- ---- facts fewer
any_filter : (q : Fact → Bool) (p : Fact → Bool) (fs : List Fact) → list_any p (filter q fs) ≡ true → list_any p fs ≡ true
any_filter q p [] h = h
any_filter q p (f ∷ fs) h =
    (elim (q f) as (λ b. list_any p (cond b (f ∷ filter q fs) (filter q fs)) ≡ true → (p f || list_any p fs) ≡ true) [
      | true ↦ λ h. or_cases (p f) (list_any p (filter q fs)) h (λ k. or_left (p f) (list_any p fs) k) (λ k. or_right (p f) (list_any p fs) (any_filter q p fs k))
      | false ↦ λ h. or_right (p f) (list_any p fs) (any_filter q p fs h)
    ]) h

pub fewer_near : (near : NearFacts) (q : Fact → Bool) (fs : List Fact) → AreNear near fs → AreNear near (filter q fs)
unfolding AreNear
fewer_near near q fs are x f h n = are x f (any_filter q (same_fact f) fs h) n

-- ---- what is found among those that are kept is found among all
module _ (p : Fact → Bool) (x : Name) (only : (f : Fact) → p f ≡ true → is_near x f ≡ true) (near fs : List Fact) (all : HasAllNear x near fs) where
  among_all : (gs : List Fact) → list_any (λ f. has_fact f fs && p f) gs ≡ true → list_any p fs ≡ true
  among_all [] h = absurd (false≢true h)
  among_all (g ∷ gs) h =
      or_cases (has_fact g fs && p g) (list_any (λ f. has_fact f fs && p f) gs) h
      (λ k. passes_too g fs (and_left (has_fact g fs) (p g) k) (and_right (has_fact g fs) (p g) k))
      (λ k. among_all gs k)
    where
      and_left : (a b : Bool) → (a && b) ≡ true → a ≡ true
      and_left true b h = refl
      and_left false b h = h

      and_right : (a b : Bool) → (a && b) ≡ true → b ≡ true
      and_right true b h = h
      and_right false b h = absurd (false≢true h)

      passes_too : (g : Fact) (hs : List Fact) → has_fact g hs ≡ true → p g ≡ true → list_any p hs ≡ true
      passes_too g [] h k = absurd (false≢true h)
      passes_too g (f ∷ hs) h k =
          or_cases (same_fact g f) (has_fact g hs) h
          (λ e. or_left (p f) (list_any p hs) (ap p (sym (same_fact_true g f e)) ∙ k))
          (λ e. or_right (p f) (list_any p hs) (passes_too g hs e k))

  known_near : (f : Fact) (gs : List Fact) → has_fact f gs ≡ true → has_fact f fs ≡ true → p f ≡ true → list_any (λ f. has_fact f fs && p f) gs ≡ true
  known_near f [] h k l = absurd (false≢true h)
  known_near f (g ∷ gs) h k l =
      or_cases (same_fact f g) (has_fact f gs) h
      (λ e. or_left (has_fact g fs && p g) (list_any (λ f. has_fact f fs && p f) gs)
      (let is : f ≡ g = same_fact_true f g e in subst (λ i. (has_fact i fs && p i) ≡ true) is (ap (λ b. b && p f) k ∙ l)))
      (λ e. or_right (has_fact g fs && p g) (list_any (λ f. has_fact f fs && p f) gs) (known_near f gs e k l))

  near_all : (gs : List Fact) → ((f : Fact) → has_fact f gs ≡ true → has_fact f fs ≡ true) → list_any p gs ≡ true → list_any (λ f. has_fact f fs && p f) near ≡ true
  near_all [] less h = absurd (false≢true h)
  near_all (g ∷ gs) less h =
      or_cases (p g) (list_any p gs) h
      (λ k. let here = less g (or_left (same_fact g g) (has_fact g gs) (same_fact_refl g)) in known_near g near (all g here (only g k)) here k)
      (λ k. near_all gs (λ f l. less f (or_right (same_fact f g) (has_fact f gs) l)) k)

  pub found_near : list_any (λ f. has_fact f fs && p f) near ≡ list_any p fs
  found_near = both (list_any (λ f. has_fact f fs && p f) near) (list_any p fs) (among_all near) (near_all fs (λ f h. h))
    where
      both : (a b : Bool) → (a ≡ true → b ≡ true) → (b ≡ true → a ≡ true) → a ≡ b
      both true b h k = sym (h refl)
      both false true h k = k refl
      both false false h k = refl
