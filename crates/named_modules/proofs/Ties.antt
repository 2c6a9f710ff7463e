-- A list of faults is tied to what it tests: it is empty exactly where that holds.
use Rattle.std.proofs.Common.{◌≡◌, ◌∙◌, Bool, true, false, ◌&&◌, List, [], ◌∷◌, ◌++◌, map, refl, sym, ap}
use Rattle.std.specs.List.{AllByRecursion, AllZip, flat_map}
use Rattle.std.proofs.lemmas.Bool.{and_from, and_parts}
use Rattle.name_claims.specs.declared.claims.Fault.{Fault}
use Rattle.named_modules.specs.Faults.{unless}

pub record Ties (fs : List Fault) (P : Type 0) : Type 0 where
  pub to : fs ≡ [] → P
  pub back : P → fs ≡ []

pub nil_left : (xs ys : List Fault) → xs ++ ys ≡ [] → xs ≡ []
nil_left [] ys e = refl
nil_left (x ∷ xs) ys e = cc

pub nil_right : (xs ys : List Fault) → xs ++ ys ≡ [] → ys ≡ []
nil_right [] ys e = e
nil_right (x ∷ xs) ys e = cc

pub both : {P Q : Type 0} (xs ys : List Fault) → Ties xs P → Ties ys Q → Ties (xs ++ ys) (P × Q)
both xs ys s t = record {
  to = λ e. (s.to (nil_left xs ys e), t.to (nil_right xs ys e));
  back = λ h. ap (λ l. l ++ ys) (s.back h.0) ∙ t.back h.1;
}

pub through : {P Q : Type 0} (fs : List Fault) → Ties fs P → (P → Q) → (Q → P) → Ties fs Q
through fs t f g = record { to = λ e. f (t.to e); back = λ q. t.back (g q) }

-- the same faults under another form
pub seen : {P : Type 0} (fs gs : List Fault) → fs ≡ gs → Ties gs P → Ties fs P
seen fs gs e t = record { to = λ h. t.to (sym e ∙ h); back = λ p. e ∙ t.back p }

pub none : {P : Type 0} → P → Ties [] P
none p = record { to = λ e. p; back = λ h. refl }

pub never : {P : Type 0} (f : Fault) (fs : List Fault) → (P → ⊥) → Ties (f ∷ fs) P
never f fs wrong = record { to = λ e. cc; back = λ p. absurd (wrong p) }

pub fits : (b : Bool) (f : Fault) → Ties (unless b f) (b ≡ true)
fits true f = none refl
fits false f = never f [] (λ e. cc)

-- two tests are one
pub all_of : (fs : List Fault) (a b : Bool) → Ties fs ((a ≡ true) × (b ≡ true)) → Ties fs ((a && b) ≡ true)
all_of fs a b t = through fs t (λ h. and_from a b h.0 h.1) (λ h. and_parts a b h)

pub each : {A : Type 0} (faults : A → List Fault) (P : A → Type 0) → ((x : A) → Ties (faults x) (P x)) → (xs : List A) → Ties (flat_map faults xs) (AllByRecursion P xs)
each faults P at [] = none tt
each faults P at (x ∷ xs) = both (faults x) (flat_map faults xs) (at x) (each faults P at xs)

-- what is built of each is what each names
pub each_built : {A B : Type 0} (faults : A → List Fault) (R : A → B → Type 0) (f : A → B) → ((x : A) → Ties (faults x) (R x (f x))) → (xs : List A) → Ties (flat_map faults xs) (AllZip R xs (map f xs))
each_built faults R f at [] = none tt
each_built faults R f at (x ∷ xs) = both (faults x) (flat_map faults xs) (at x) (each_built faults R f at xs)

pub zip_is : {A B : Type 0} (R : A → B → Type 0) (f : A → B) → ((x : A) (y : B) → R x y → y ≡ f x) → (xs : List A) (ys : List B) → AllZip R xs ys → ys ≡ map f xs
zip_is R f is [] [] zip = refl
zip_is R f is [] (y ∷ ys) zip = absurd zip
zip_is R f is (x ∷ xs) [] zip = absurd zip
zip_is R f is (x ∷ xs) (y ∷ ys) zip = ap (λ z. z ∷ ys) (is x y zip.0) ∙ ap (λ zs. f x ∷ zs) (zip_is R f is xs ys zip.1)

-- three tests one after another
pub three : (fs gs hs : List Fault) (a b c : Bool) → Ties fs (a ≡ true) → Ties gs (b ≡ true) → Ties hs (c ≡ true) → Ties (fs ++ (gs ++ hs)) ((a && b && c) ≡ true)
three fs gs hs a b c s t u =
    through (fs ++ (gs ++ hs)) (both fs (gs ++ hs) s (both gs hs t u))
    (λ h. and_from (a && b) c (and_from a b h.0 h.1.0) h.1.1)
    (λ h. let outer = and_parts (a && b) c h in let inner = and_parts a b outer.0 in (inner.0, (inner.1, outer.1)))

-- the second where the first holds
pub in_turn : {P Q : Type 0} (xs ys : List Fault) → Ties xs P → (P → Ties ys Q) → Ties (xs ++ ys) (P × Q)
in_turn xs ys s t = record {
  to = λ e. let p = s.to (nil_left xs ys e) in (p, (t p).to (nil_right xs ys e));
  back = λ h. ap (λ l. l ++ ys) (s.back h.0) ∙ (t h.0).back h.1;
}
