-- Steps of a walk over a list by places.
use Rattle.std.proofs.Common.{◌≡◌, ◌∙◌, ℕ, zero, suc, ◌+◌, ◌<◌, ◌≤◌, Bool, true, false, ◌&&◌, ◌||◌, List, [], ◌∷◌, length, drop, get_or, slice_get, Some, refl, sym, ap, subst, arith, add-one}
use Rattle.std.specs.List.{AllByRecursion, list_all, list_any}
use Rattle.ir_types.specs.NameLaws.{left_true, right_true}

module _ {A : Type 0} where
  pub drop_past : (xs : List A) (k : ℕ) → length xs ≤ k → drop k xs ≡ []
  drop_past [] zero h = refl
  drop_past [] (suc k) h = refl
  drop_past (x ∷ xs) zero h = absurd (omega arith)
  drop_past (x ∷ xs) (suc k) h = drop_past xs k (omega arith)

  pub drop_there : (xs : List A) (k : ℕ) (x : A) → Some x ≡ slice_get xs k → drop k xs ≡ x ∷ drop (suc k) xs
  drop_there [] k x e = cc
  drop_there (y ∷ xs) zero x e = let same : x ≡ y = cc in ap (λ z. z ∷ xs) (sym same)
  drop_there (y ∷ xs) (suc k) x e = drop_there xs k x e

  module _ (xs : List A) (k : ℕ) (x : A) (there : Some x ≡ slice_get xs k) where
    pub drop_next : drop k xs ≡ x ∷ drop (k + 1) xs
    drop_next = drop_there xs k x there ∙ ap (λ n. x ∷ drop n xs) (sym (add-one k))

    module _ (P : A → Bool) (t : Bool) where
      pub any_found : P x ≡ true → list_any P (drop k xs) ≡ t → true ≡ t
      any_found is rest = sym (ap (λ b. b || list_any P (drop (k + 1) xs)) is) ∙ sym (ap (list_any P) drop_next) ∙ rest

      pub any_left : P x ≡ false → list_any P (drop k xs) ≡ t → list_any P (drop (k + 1) xs) ≡ t
      any_left is rest = sym (ap (λ b. b || list_any P (drop (k + 1) xs)) is) ∙ sym (ap (list_any P) drop_next) ∙ rest

      pub all_found : P x ≡ false → list_all P (drop k xs) ≡ t → false ≡ t
      all_found is rest = sym (ap (λ b. b && list_all P (drop (k + 1) xs)) is) ∙ sym (ap (list_all P) drop_next) ∙ rest

      pub all_left : P x ≡ true → list_all P (drop k xs) ≡ t → list_all P (drop (k + 1) xs) ≡ t
      all_left is rest = sym (ap (λ b. b && list_all P (drop (k + 1) xs)) is) ∙ sym (ap (list_all P) drop_next) ∙ rest

  pub none_there : (xs : List A) → length xs ≡ 0 → xs ≡ []
  none_there [] h = refl
  none_there (x ∷ xs) h = absurd (omega (arith, h))

  pub each_holds : (P : A → Type 0) (xs : List A) (k : ℕ) (x : A) → Some x ≡ slice_get xs k → AllByRecursion P xs → P x
  each_holds P [] k x e h = cc
  each_holds P (y ∷ xs) zero x e h = let same : x ≡ y = cc in subst P (sym same) h.0
  each_holds P (y ∷ xs) (suc k) x e h = each_holds P xs k x e h.1

  pub each_true : (P : A → Bool) (xs : List A) (k : ℕ) (x : A) → Some x ≡ slice_get xs k → list_all P xs ≡ true → P x ≡ true
  each_true P [] k x e h = cc
  each_true P (y ∷ xs) zero x e h = let same : x ≡ y = cc in subst (λ z. P z ≡ true) (sym same) (left_true (P y) (list_all P xs) h)
  each_true P (y ∷ xs) (suc k) x e h = each_true P xs k x e (right_true (P y) (list_all P xs) h)

  pub later_hold : (P : A → Type 0) (xs : List A) → AllByRecursion P xs → AllByRecursion P (drop 1 xs)
  later_hold P [] h = tt
  later_hold P (x ∷ xs) h = h.1

  pub later_true : (P : A → Bool) (xs : List A) → list_all P xs ≡ true → list_all P (drop 1 xs) ≡ true
  later_true P [] h = refl
  later_true P (x ∷ xs) h = right_true (P x) (list_all P xs) h

  pub single : (xs : List A) (d x : A) → 1 ≤ length xs → length xs < 2 → x ≡ get_or xs 0 d → xs ≡ x ∷ []
  single [] d x some few is = absurd (omega (arith, some))
  single (y ∷ []) d x some few is = ap (λ z. z ∷ []) (sym is)
  single (y ∷ z ∷ xs) d x some few is = absurd (omega (arith, few))
