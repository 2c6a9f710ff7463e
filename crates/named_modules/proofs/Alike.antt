-- Lists that have the same things as often, in whatever order.
use Rattle.std.proofs.Common.{◌≡◌, Bool, true, false, cond, List, [], ◌∷◌, ◌++◌, Option, Some, None, refl, sym, subst}
use Rattle.std.specs.Prelude.{not}
use Rattle.std.specs.List.{Contains, cons_option, filter, filter_map}
use Rattle.std.proofs.Math.Logic.{⊎_elim}
use Rattle.std.proofs.lemmas.List.Elements.{Contains-append_left, Contains-append_right}
use Rattle.ir_types.specs.declared.names.Name.{Name}
use Rattle.module_grammar.specs.declared.places.Placed.{Placed}
use Rattle.named_modules.proofs.Lists.{AreDistinct, between_distinct, contains_behind, contains_cases, contains_either, contains_here, distinct_between}
use Rattle.named_modules.proofs.Ordered.{whats}

pub record Alike {A : Type 0} (xs ys : List A) : Type 0 where
  pub to : (x : A) → Contains xs x → Contains ys x
  pub back : (x : A) → Contains ys x → Contains xs x
  pub distinct : AreDistinct xs → AreDistinct ys
  pub undone : AreDistinct ys → AreDistinct xs

pub alike_self : {A : Type 0} (xs : List A) → Alike xs xs
alike_self xs = record { to = λ x h. h; back = λ x h. h; distinct = λ h. h; undone = λ h. h }

pub turned : {A : Type 0} (xs ys : List A) → Alike xs ys → Alike ys xs
turned xs ys a = record { to = a.back; back = a.to; distinct = a.undone; undone = a.distinct }

pub then_alike : {A : Type 0} (xs ys zs : List A) → Alike xs ys → Alike ys zs → Alike xs zs
then_alike xs ys zs a b = record {
  to = λ x h. b.to x (a.to x h);
  back = λ x h. a.back x (b.back x h);
  distinct = λ h. b.distinct (a.distinct h);
  undone = λ h. a.undone (b.undone h);
}

one_more : {A : Type 0} (x : A) (xs ys : List A) → ((y : A) → Contains xs y → Contains ys y) → (y : A) → Contains (x ∷ xs) y → Contains (x ∷ ys) y
one_more x xs ys to y there =
    ⊎_elim (λ e. subst (Contains (x ∷ ys)) e (contains_here x ys)) (λ h. contains_behind x y ys (to y h)) (contains_cases x y xs there)

pub cons_alike : {A : Type 0} (x : A) (xs ys : List A) → Alike xs ys → Alike (x ∷ xs) (x ∷ ys)
cons_alike x xs ys a = record {
  to = one_more x xs ys a.to;
  back = one_more x ys xs a.back;
  distinct = λ h. (λ there. h.0 (a.back x there), a.distinct h.1);
  undone = λ h. (λ there. h.0 (a.to x there), a.undone h.1);
}

pub middle : {A : Type 0} (x : A) (xs ys : List A) → Alike (x ∷ (xs ++ ys)) (xs ++ x ∷ ys)
middle {A} x xs ys = record {
  to = λ y there.
      ⊎_elim
      (λ e. subst (Contains (xs ++ x ∷ ys)) e (Contains-append_right xs (x ∷ ys) x (contains_here x ys)))
      (λ h. ⊎_elim (λ l. Contains-append_left xs (x ∷ ys) y l) (λ r. Contains-append_right xs (x ∷ ys) y (contains_behind x y ys r)) (contains_either xs ys y h))
      (contains_cases x y (xs ++ ys) there);
  back = λ y there.
      ⊎_elim
      (λ l. contains_behind x y (xs ++ ys) (Contains-append_left xs ys y l))
      (λ r.
      ⊎_elim
      (λ e. subst (Contains (x ∷ (xs ++ ys))) e (contains_here x (xs ++ ys)))
      (λ h. contains_behind x y (xs ++ ys) (Contains-append_right xs ys y h))
      (contains_cases x y ys r))
      (contains_either xs (x ∷ ys) y there);
  distinct = λ h. between_distinct xs ys x h.0 h.1;
  undone = λ h. distinct_between xs ys x h;
}

pub behind_alike : {A : Type 0} (front xs ys : List A) → Alike xs ys → Alike (front ++ xs) (front ++ ys)
behind_alike [] xs ys a = a
behind_alike (x ∷ front) xs ys a = cons_alike x (front ++ xs) (front ++ ys) (behind_alike front xs ys a)

pub swapped : {A : Type 0} (xs ys zs : List A) → Alike (xs ++ (ys ++ zs)) (ys ++ (xs ++ zs))
swapped [] ys zs = alike_self (ys ++ zs)
swapped (x ∷ xs) ys zs =
    then_alike (x ∷ (xs ++ (ys ++ zs))) (x ∷ (ys ++ (xs ++ zs))) (ys ++ (x ∷ (xs ++ zs))) (cons_alike x (xs ++ (ys ++ zs)) (ys ++ (xs ++ zs)) (swapped xs ys zs)) (middle x ys (xs ++ zs))

-- those of one kind first, and then the others
module _ {A : Type 0} (name : A → Option (Placed Name)) (kind : A → Bool) where
  abbrev those : List A → List Name
  those xs = whats (filter_map name (filter kind xs))

  abbrev others : List A → List Name
  others xs = whats (filter_map name (filter (λ x. not (kind x)) xs))

  pub sorted_alike : (xs : List A) → Alike (whats (filter_map name xs)) (those xs ++ others xs)
  sorted_alike [] = alike_self []
  sorted_alike (x ∷ xs) = by (name x) refl (kind x) (sorted_alike xs)
    where
      by : (o : Option (Placed Name)) → name x ≡ o → (b : Bool) → Alike (whats (filter_map name xs)) (those xs ++ others xs) → Alike (whats (cons_option (name x) (filter_map name xs))) (whats (filter_map name (cond b (x ∷ filter kind xs) (filter kind xs))) ++ whats (filter_map name (cond (not b) (x ∷ filter (λ x. not (kind x)) xs) (filter (λ x. not (kind x)) xs))))
      by o is true rest = subst (λ p. Alike (whats (cons_option p (filter_map name xs))) (whats (cons_option p (filter_map name (filter kind xs))) ++ others xs)) (sym is) (first o rest)
        where
          first : (o : Option (Placed Name)) → Alike (whats (filter_map name xs)) (those xs ++ others xs) → Alike (whats (cons_option o (filter_map name xs))) (whats (cons_option o (filter_map name (filter kind xs))) ++ others xs)
          first None rest = rest
          first (Some y) rest = cons_alike y.what (whats (filter_map name xs)) (those xs ++ others xs) rest
      by o is false rest = subst (λ p. Alike (whats (cons_option p (filter_map name xs))) (those xs ++ whats (cons_option p (filter_map name (filter (λ x. not (kind x)) xs))))) (sym is) (second o rest)
        where
          second : (o : Option (Placed Name)) → Alike (whats (filter_map name xs)) (those xs ++ others xs) → Alike (whats (cons_option o (filter_map name xs))) (those xs ++ whats (cons_option o (filter_map name (filter (λ x. not (kind x)) xs))))
          second None rest = rest
          second (Some y) rest =
              then_alike (y.what ∷ whats (filter_map name xs)) (y.what ∷ (those xs ++ others xs)) (those xs ++ y.what ∷ others xs) (cons_alike y.what (whats (filter_map name xs)) (those xs ++ others xs) rest) (middle y.what (those xs) (others xs))
