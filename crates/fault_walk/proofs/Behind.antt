-- What is told of one part and then of what stands behind it.
use Rattle.std.proofs.Common.{◌≡◌, ◌∙◌, ◌++◌, ℕ, List, [], ◌∷◌, Option, Some, None, Result, Ok, Err, refl, ap, sym, append_assoc, subst}
use Rattle.std.proofs.lemmas.List.{append-nil}
use Rattle.std.specs.List.{flat_map}
use Rattle.std.specs.Prelude.{IfOk, OnOk}
use Rattle.ir_core.specs.Typing.{Index, number_in}
use Rattle.ir_core.specs.declared.operands.Atom.TheVariants.{Constant}
use Rattle.ir_core.specs.declared.operands.Const.{Const}
use Rattle.ir_types.specs.declared.named.NamedTy.{NamedTy}
use Rattle.ir_types.specs.declared.names.Name.{Name}
use Rattle.ir_types.specs.declared.ty.Ty.{Ty}
use Rattle.module_grammar.proofs.ConstFolds.{by_parts}
use Rattle.module_grammar.specs.declared.constants.ConstText.{ConstText}
use Rattle.module_grammar.specs.declared.lines.CountText.{CountText}
use Rattle.module_grammar.specs.declared.types.TypeText.{TypeText}
use Rattle.module_spelling.specs.Blocks.{Wanted, so_many, wanted_by_count}
use Rattle.name_claims.specs.declared.claims.Fault.{Fault}
use Rattle.named_modules.proofs.BuiltConstants as built
use Rattle.named_modules.specs.Constants.{const_of, number_or_undef}
use Rattle.named_modules.specs.Faults.{Heads}
use Rattle.named_modules.specs.Types.{int_of}
use Rattle.fault_walk.proofs.Joined.{large_joined, large_swapped, noted_joined, told_first, told_joined, wanted_joined}
use Rattle.fault_walk.proofs.NumberedKinds as numbered
use Rattle.fault_walk.specs.Indices.{IsPath, number_at}
use Rattle.fault_walk.specs.Lines.{counted}
use Rattle.fault_walk.specs.Told.{faults_more, noted, noted_large, told_more}
use Rattle.fault_walk.specs.declared.constants.Path.{Path}
use Rattle.fault_walk.specs.declared.told.Told.{Told}

-- ---- results

pub if_ok : {A E : Type 0} (r : Result A E) {P Q : A → Type 0} → ((a : A) → P a → Q a) → IfOk r P → IfOk r Q
if_ok (Ok a) f h = f a h
if_ok (Err e) f h = h

pub on_ok : {A E : Type 0} (r : Result A E) {P Q : Type 0} → (P → Q) → OnOk r P → OnOk r Q
on_ok (Ok a) f h = f h
on_ok (Err e) f h = h

pub both_are : {A B : Type 0} (p : A × B) (a : A) (b : B) → p.0 ≡ a → p.1 ≡ b → p ≡ (a, b)
both_are p a b e f = ap (λ x. (x, p.1)) e ∙ ap (λ y. (a, y)) f

-- ---- one part and then another

module _ (h : Heads) where
  pub in_turn : (fs gs : List Fault) (ws vs : List Wanted) (t a b : Told) → a ≡ told_more h fs ws t → b ≡ told_more h gs vs a → b ≡ told_more h (fs ++ gs) (ws ++ vs) t
  in_turn fs gs ws vs t a b p q = q ∙ ap (told_more h gs vs) p ∙ sym (told_joined h fs gs ws vs t)

  -- nothing is wanted by the last
  pub faults_last : (fs gs : List Fault) (ws : List Wanted) (t a b : Told) → a ≡ told_more h fs ws t → b ≡ faults_more gs a → b ≡ told_more h (fs ++ gs) ws t
  faults_last fs gs ws t a b p q = q ∙ ap (faults_more gs) p ∙ sym (told_first h fs gs ws t)

  -- one of a list more
  pub one_more : {A : Type 0} (faults : A → List Fault) (wanted : A → List Wanted) (t a : Told) (x : A) (xs rest : List A)
      → xs ≡ x ∷ rest → a ≡ told_more h (faults x) (wanted x) t
      → told_more h (flat_map faults rest) (flat_map wanted rest) a ≡ told_more h (flat_map faults xs) (flat_map wanted xs) t
  one_more {A} faults wanted t a x xs rest are p =
      ap (told_more h (flat_map faults rest) (flat_map wanted rest)) p
      ∙ sym (told_joined h (faults x) (flat_map faults rest) (wanted x) (flat_map wanted rest) t)
      ∙ sym (ap (λ (ys : List A). told_more h (flat_map faults ys) (flat_map wanted ys) t) are)

  -- three parts, of which the first two belong together
  pub regrouped : (fs gs ks : List Fault) (us vs ws : List Wanted) (t : Told)
      → told_more h ((fs ++ gs) ++ ks) ((us ++ vs) ++ ws) t ≡ told_more h (fs ++ (gs ++ ks)) (us ++ (vs ++ ws)) t
  regrouped fs gs ks us vs ws t =
      ap (λ (xs : List Fault). told_more h xs ((us ++ vs) ++ ws) t) (append_assoc fs gs ks)
      ∙ ap (λ (xs : List Wanted). told_more h (fs ++ (gs ++ ks)) xs t) (append_assoc us vs ws)

  -- what is wanted first is told last
  pub told_late : (fs : List Fault) (us vs ws : List Wanted) (t : Told) → told_more h fs (us ++ (vs ++ ws)) t ≡ told_more h fs (ws ++ (us ++ vs)) t
  told_late fs us vs ws t =
      ap (λ (o : Option ℕ). let one : Told = record { fault = noted fs t.fault; large = o } in one)
      (ap (λ (xs : List Wanted). noted_large h xs t.large) (sym (append_assoc us vs ws))
      ∙ large_joined h (us ++ vs) ws t.large ∙ large_swapped h (us ++ vs) ws t.large ∙ sym (large_joined h ws (us ++ vs) t.large))

  pub so_many_counted : (w : TypeText) (c : Option CountText) → so_many h w (counted c) ≡ wanted_by_count h w c
  so_many_counted w None = refl
  so_many_counted w (Some c) = refl

-- the same for faults alone
pub one_fault_more : {A : Type 0} (faults : A → List Fault) (t a : Told) (x : A) (xs rest : List A)
    → xs ≡ x ∷ rest → a ≡ faults_more (faults x) t → faults_more (flat_map faults rest) a ≡ faults_more (flat_map faults xs) t
one_fault_more {A} faults t a x xs rest are p =
    ap (faults_more (flat_map faults rest)) p ∙ joined (faults x) (flat_map faults rest) t ∙ sym (ap (λ (ys : List A). faults_more (flat_map faults ys) t) are)
  where
    joined : (fs gs : List Fault) (t : Told) → faults_more gs (faults_more fs t) ≡ faults_more (fs ++ gs) t
    joined fs gs t = ap (λ (o : Option Fault). let one : Told = record { fault = o; large = t.large } in one) (sym (noted_joined fs gs t.fault))

-- ---- the number that a constant is

kept : Const → Option ℕ
kept k = number_in {R = Name} (Constant k)

kept_number : (o : Option ℕ) → kept (number_or_undef o) ≡ o
unfolding kept
kept_number None = refl
kept_number (Some n) = refl

pub number_kept : (t : Ty) (w : ConstText) → number_at w t ≡ number_in {R = Name} (Constant (const_of w t))
unfolding kept
number_kept t = by_parts (λ w. number_at w t ≡ kept (const_of w t))
    (λ i. numbered.of_int t i ∙ sym (ap kept (built.of_int t i) ∙ kept_number (int_of t i)))
    (λ start. numbered.of_null t start ∙ sym (ap kept (built.of_null t start)))
    (numbered.of_undef t ∙ sym (ap kept (built.of_undef t)))
    (λ g. numbered.of_global t g ∙ sym (ap kept (built.of_global t g)))
    (λ start inbounds of base_ty base indices law laws. numbered.of_element t start inbounds (of, base_ty, base, indices) ∙ sym (ap kept (built.of_element t start inbounds (of, base_ty, base, indices))))
    (λ start source c target law. numbered.of_cast t start (source, c, target) ∙ sym (ap kept (built.of_cast t start (source, c, target))))

-- ---- paths

-- what is wanted of a type comes behind the rest
pub wanted_behind : (h : Heads) (fs : List Fault) (ws vs : List Wanted) (t a b : Told) → a ≡ told_more h fs ws t → b ≡ told_more h [] vs a → b ≡ told_more h fs (ws ++ vs) t
wanted_behind h fs ws vs t a b p q = q ∙ ap (told_more h [] vs) p ∙ sym (wanted_joined h fs ws vs t)

-- some of these indices have come, and those are left
abbrev pub IsLed : List NamedTy → Ty → Path → List Index → List Index → Type 0
IsLed types of path left all = (done : List Index) × IsPath types of done path × (done ++ left ≡ all)

pub led_on : (types : List NamedTy) (of : Ty) (old new : Path) (i : Index) (xs left all : List Index)
    → ((of : Ty) (indices : List Index) → IsPath types of indices old → IsPath types of (indices ++ i ∷ []) new)
    → xs ≡ i ∷ left → IsLed types of old xs all → IsLed types of new left all
led_on types of old new i xs left all leads are led =
    (led.0 ++ i ∷ [], leads of led.0 led.1, append_assoc led.0 (i ∷ []) left ∙ sym (ap (λ (ys : List Index). led.0 ++ ys) are) ∙ led.2)

-- all have come
pub led_all : (types : List NamedTy) (of : Ty) (path : Path) (left all : List Index) → left ≡ [] → IsLed types of path left all → IsPath types of all path
led_all types of path left all none led =
    subst (λ (is : List Index). IsPath types of is path) (sym (append-nil led.0) ∙ sym (ap (λ (ys : List Index). led.0 ++ ys) none) ∙ led.2) led.1
