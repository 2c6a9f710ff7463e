-- Labels that are met one after the other are each met where it first stands.
use Rattle.std.proofs.Common.{◌≡◌, ◌∙◌, ◌||◌, Bool, true, false, not, cond, List, [], ◌∷◌, ◌++◌, filter, refl, sym, ap, subst, append_assoc, if◌then◌else◌}
use Rattle.std.proofs.lemmas.List.Folds.{list_any-append}
use Rattle.ir_types.specs.declared.names.Name.{Name}
use Rattle.ir_types.specs.NameLaws.{same_name_true, same_name_refl}
use Rattle.ir_types.specs.Same.{same_name}
use Rattle.ir_core.specs.NameIndexes.Among.{is_among}
use Rattle.definedness.specs.Along.{with_names}
use Rattle.erhl_assert.specs.Acceptance.{labels_once}

abbrev fresh : List Name → List Name → List Name
fresh seen xs = filter (λ y. not (is_among y seen)) xs

abbrev others : Name → List Name → List Name
others x xs = filter (λ y. not (same_name x y)) xs

same_turned : (x y : Name) (b : Bool) → same_name x y ≡ b → same_name y x ≡ b
same_turned x y true e = subst (λ z. same_name z x ≡ true) (same_name_true x y e) (same_name_refl x)
same_turned x y false e = (elim (same_name y x) as (λ c. same_name y x ≡ c → c ≡ false) [
  | true ↦ λ t. let there : same_name x y ≡ true = subst (λ z. same_name z y ≡ true) (same_name_true y x t) (same_name_refl y) in absurd (cc)
  | false ↦ λ t. refl
]) refl

-- what is met already is no more fresh without it
fresh_without : (x : Name) (seen xs : List Name) → is_among x seen ≡ true → fresh seen (others x xs) ≡ fresh seen xs
fresh_without x seen [] met = refl
fresh_without x seen (y ∷ ys) met = (elim (same_name x y) as (λ b. same_name x y ≡ b
    → fresh seen (cond (not b) (y ∷ others x ys) (others x ys)) ≡ cond (not (is_among y seen)) (y ∷ fresh seen ys) (fresh seen ys)) [
      | true ↦ λ e.
          fresh_without x seen ys met
          ∙ sym (ap (λ c. cond (not c) (y ∷ fresh seen ys) (fresh seen ys)) (ap (λ z. is_among z seen) (sym (same_name_true x y e)) ∙ met))
      | false ↦ λ e. ap (λ rest. cond (not (is_among y seen)) (y ∷ rest) rest) (fresh_without x seen ys met)
    ]) refl

among_more : (x y : Name) (seen : List Name) → is_among y (seen ++ x ∷ []) ≡ (is_among y seen || (same_name y x || false))
among_more x y seen = list_any-append (same_name y) seen (x ∷ [])

fresh_more : (x : Name) (seen xs : List Name) → fresh (seen ++ x ∷ []) xs ≡ fresh seen (others x xs)
fresh_more x seen [] = refl
fresh_more x seen (y ∷ ys) =
    ap (λ c. cond (not c) (y ∷ fresh (seen ++ x ∷ []) ys) (fresh (seen ++ x ∷ []) ys)) (among_more x y seen)
    ∙ ap (λ rest. cond (not (is_among y seen || (same_name y x || false))) (y ∷ rest) rest) (fresh_more x seen ys)
    ∙ (elim (same_name x y) as (λ b. same_name x y ≡ b
    → cond (not (is_among y seen || (same_name y x || false))) (y ∷ fresh seen (others x ys)) (fresh seen (others x ys))
    ≡ fresh seen (cond (not b) (y ∷ others x ys) (others x ys))) [
      | true ↦ λ e.
          ap (λ c. cond (not (is_among y seen || (c || false))) (y ∷ fresh seen (others x ys)) (fresh seen (others x ys))) (same_turned x y true e)
          ∙ (elim (is_among y seen) as (λ (m : Bool). cond (not (m || true)) (y ∷ fresh seen (others x ys)) (fresh seen (others x ys)) ≡ fresh seen (others x ys)) [ true ↦ refl | false ↦ refl ])
      | false ↦ λ e.
          ap (λ c. cond (not (is_among y seen || (c || false))) (y ∷ fresh seen (others x ys)) (fresh seen (others x ys))) (same_turned x y false e)
          ∙ (elim (is_among y seen) as (λ (m : Bool).
          cond (not (m || false)) (y ∷ fresh seen (others x ys)) (fresh seen (others x ys)) ≡ cond (not m) (y ∷ fresh seen (others x ys)) (fresh seen (others x ys))) [ true ↦ refl | false ↦ refl ])
    ]) refl

all_fresh : (xs : List Name) → fresh [] xs ≡ xs
all_fresh [] = refl
all_fresh (x ∷ xs) = ap (λ rest. x ∷ rest) (all_fresh xs)

met_so : (xs seen : List Name) → with_names seen xs ≡ seen ++ fresh seen (labels_once xs)
met_so [] seen = nil seen
  where
    nil : (seen : List Name) → seen ≡ seen ++ []
    nil [] = refl
    nil (x ∷ xs) = ap (λ rest. x ∷ rest) (nil xs)
met_so (x ∷ xs) seen = (elim (is_among x seen) as (λ b. is_among x seen ≡ b
    → with_names (if b then seen else (seen ++ x ∷ [])) xs ≡ seen ++ cond (not b) (x ∷ fresh seen (others x (labels_once xs))) (fresh seen (others x (labels_once xs)))) [
      | true ↦ λ e. met_so xs seen ∙ ap (λ rest. seen ++ rest) (sym (fresh_without x seen (labels_once xs) e))
      | false ↦ λ e.
          met_so xs (seen ++ x ∷ [])
          ∙ append_assoc seen (x ∷ []) (fresh (seen ++ x ∷ []) (labels_once xs))
          ∙ ap (λ rest. seen ++ x ∷ rest) (fresh_more x seen (labels_once xs))
    ]) refl

pub once_met : (xs : List Name) → with_names [] xs ≡ labels_once xs
once_met xs = met_so xs [] ∙ all_fresh (labels_once xs)
