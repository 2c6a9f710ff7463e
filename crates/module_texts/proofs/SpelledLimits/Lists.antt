-- What holds of each of a list, and what an option or a choice is.
use Rattle.std.proofs.Common.{◌≡◌, Bool, true, false, cond, List, [], ◌∷◌, ◌++◌, map, Some, None, refl}
use Rattle.std.specs.List.{AllByRecursion, AllZip, filter, flat_map}
use Rattle.std.proofs.lemmas.Bool.{cond_both}
use Rattle.module_grammar.specs.Listed.{behind_comma, further, listed}
use Rattle.module_grammar.specs.Symbols.{Symbol}
use Rattle.named_modules.proofs.Lists.{all_append, all_left, all_right}

-- ---- options and choices

pub some_is : {A : Type 0} (x y : A) → Some x ≡ Some y → x ≡ y
some_is x y e = cc

pub guard_ok : {A : Type 0} (b : Bool) (x y : A) → cond b (Some x) None ≡ Some y → (b ≡ true) × (x ≡ y)
guard_ok true x y e = (refl, some_is x y e)
guard_ok false x y e = cc

-- ---- lists

-- what holds of lists one behind another holds of each
pub all_lists : {A B : Type 0} (P : B → Type 0) (Q : A → Type 0) (w : A → List B) (xs : List A) → ((x : A) → AllByRecursion P (w x) → Q x) → AllByRecursion P (flat_map w xs) → AllByRecursion Q xs
all_lists P Q w [] each all = tt
all_lists P Q w (x ∷ xs) each all =
    (each x (all_left P (w x) (flat_map w xs) all), all_lists P Q w xs each (all_right P (w x) (flat_map w xs) all))

-- and what holds of each of them holds of all, one behind another
pub all_flat : {A B : Type 0} (P : A → Type 0) (Q : B → Type 0) (f : A → List B) → ((x : A) → P x → AllByRecursion Q (f x)) → (xs : List A) → AllByRecursion P xs → AllByRecursion Q (flat_map f xs)
all_flat P Q f each [] all = tt
all_flat P Q f each (x ∷ xs) all = all_append Q (f x) (flat_map f xs) (each x all.0) (all_flat P Q f each xs all.1)

pub all_mapped : {A B : Type 0} (P : A → Type 0) (Q : B → Type 0) (f : A → B) → ((x : A) → P x → Q (f x)) → (xs : List A) → AllByRecursion P xs → AllByRecursion Q (map f xs)
all_mapped P Q f each [] all = tt
all_mapped P Q f each (x ∷ xs) all = (each x all.0, all_mapped P Q f each xs all.1)

pub all_unmapped : {A B : Type 0} (P : B → Type 0) (f : A → B) (xs : List A) → AllByRecursion P (map f xs) → AllByRecursion (λ x. P (f x)) xs
all_unmapped P f [] all = tt
all_unmapped P f (x ∷ xs) all = (all.0, all_unmapped P f xs all.1)

pub all_kept : {A : Type 0} (P : A → Type 0) (test : A → Bool) (xs : List A) → AllByRecursion P xs → AllByRecursion P (filter test xs)
all_kept P test [] all = tt
all_kept P test (x ∷ xs) all =
    cond_both (test x) (x ∷ filter test xs) (filter test xs) (AllByRecursion P) (λ yes. (all.0, all_kept P test xs all.1)) (λ no. all_kept P test xs all.1)

-- what is asked of each of two lists, place by place
pub all_zipped : {A B : Type 0} (P : A → Type 0) (R : A → B → Type 0) (Q : B → Type 0) → ((x : A) (y : B) → P x → R x y → Q y) → (xs : List A) (ys : List B) → AllByRecursion P xs → AllZip R xs ys → AllByRecursion Q ys
all_zipped P R Q each [] [] all zip = tt
all_zipped P R Q each [] (y ∷ ys) all zip = absurd zip
all_zipped P R Q each (x ∷ xs) [] all zip = absurd zip
all_zipped P R Q each (x ∷ xs) (y ∷ ys) all zip = (each x y all.0 zip.0, all_zipped P R Q each xs ys all.1 zip.1)

-- ---- lists with commas

module _ (P : Symbol → Type 0) where
  pub further_rows : (rows : List (List Symbol)) → AllByRecursion P (further rows) → AllByRecursion (AllByRecursion P) rows
  further_rows rows all = all_lists P (AllByRecursion P) behind_comma rows (λ row behind. behind.1) all

  pub listed_rows : (rows : List (List Symbol)) → AllByRecursion P (listed rows) → AllByRecursion (AllByRecursion P) rows
  listed_rows [] all = tt
  listed_rows (row ∷ rows) all = (all_left P row (further rows) all, further_rows rows (all_right P row (further rows) all))

  -- each of them is written so
  pub further_each : {A : Type 0} (write : A → List Symbol) (xs : List A) → AllByRecursion P (further (map write xs)) → AllByRecursion (λ x. AllByRecursion P (write x)) xs
  further_each write xs all = all_unmapped (AllByRecursion P) write xs (further_rows (map write xs) all)

  pub listed_each : {A : Type 0} (write : A → List Symbol) (xs : List A) → AllByRecursion P (listed (map write xs)) → AllByRecursion (λ x. AllByRecursion P (write x)) xs
  listed_each write xs all = all_unmapped (AllByRecursion P) write xs (listed_rows (map write xs) all)

  -- also where more is written behind them
  pub listed_before : {A : Type 0} (write : A → List Symbol) (xs : List A) (more : List (List Symbol)) → AllByRecursion P (listed (map write xs ++ more)) → AllByRecursion (λ x. AllByRecursion P (write x)) xs
  listed_before write xs more all =
      all_unmapped (AllByRecursion P) write xs (all_left (AllByRecursion P) (map write xs) more (listed_rows (map write xs ++ more) all))
