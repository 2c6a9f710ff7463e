-- Refinement leads from each module to itself, and from one over another to a third.
use Rattle.std.proofs.Common.{◌≡◌, ◌⊎◌, inl, inr, ℕ, List, [], ◌∷◌, ◌++◌, Option, None, Some, MatchOption, refl, sym, ap, ◌∙◌, subst}
use Rattle.std.proofs.lemmas.List.{append_assoc}
use Rattle.ir_core.specs.declared.modules.Module.{Module}
use Rattle.ir_machine.specs.declared.items.Item.{Item}
use Rattle.ir_machine.specs.declared.items.Item.TheVariants.{Wrong}
use Rattle.ir_machine.specs.State.{State}
use Rattle.ir_machine.specs.Machine.{ShowsFrom}
use Rattle.ir_machine.specs.Starting.{start}
use Rattle.ir_machine.specs.Refinement.{MayShowFrom, IsReflexive, IsTransitive}
use Rattle.ir_machine.proofs.WrongLast.{run_ends}

-- a first part of items with undefined behaviour at their end: of the items before it, or all of them
first_part : (items first rest : List Item) → items ++ Wrong ∷ [] ≡ first ++ rest → ((left : List Item) × (items ≡ first ++ left)) ⊎ (first ≡ items ++ Wrong ∷ [])
first_part items [] rest e = inl (items, refl)
first_part [] (x ∷ []) rest e = inr cc
first_part [] (x ∷ y ∷ ys) rest e = cc
first_part (y ∷ ys) (x ∷ xs) rest e = first_part_more x y xs ys (first_part ys xs rest cc) cc
  where
    first_part_more : (x y : Item) (xs ys : List Item) → ((left : List Item) × (ys ≡ xs ++ left)) ⊎ (xs ≡ ys ++ Wrong ∷ []) → y ≡ x
        → ((left : List Item) × (y ∷ ys ≡ x ∷ xs ++ left)) ⊎ (x ∷ xs ≡ y ∷ ys ++ Wrong ∷ [])
    first_part_more x y xs ys (inl h) e = inl (h.0, cc (h.1))
    first_part_more x y xs ys (inr h) e = inr (cc)

-- the last module's items are `seen` and more, and the one between shows undefined behaviour after `seen`
wrong_through : (m : Module) (s : State) (seen rest : List Item) → MayShowFrom m s (seen ++ Wrong ∷ []) → MayShowFrom m s (seen ++ rest)
wrong_through m s seen rest (inl h) = inr (h.0, seen, rest, refl, h.1)
wrong_through m s seen rest (inr h) = wrong_within (first_part seen h.1 h.2 h.3)
  where
    wrong_within : ((left : List Item) × (seen ≡ h.1 ++ left)) ⊎ (h.1 ≡ seen ++ Wrong ∷ []) → MayShowFrom m s (seen ++ rest)
    wrong_within (inl part) = inr (h.0, h.1, part.0 ++ rest, ap (λ (l : List Item). l ++ rest) part.1 ∙ append_assoc h.1 part.0 rest, h.4)
    wrong_within (inr whole) =
        let twice : ShowsFrom m h.0 s (seen ++ Wrong ∷ Wrong ∷ []) = subst (λ (l : List Item). ShowsFrom m h.0 s l) (ap (λ (l : List Item). l ++ Wrong ∷ []) whole ∙ append_assoc seen (Wrong ∷ []) (Wrong ∷ [])) h.4 in
        let nothing : Wrong ∷ [] ≡ [] = run_ends m h.0 s seen (Wrong ∷ []) twice in
        cc

also : (o : Option State) (P Q : State → Type 0) → ((s : State) → P s → Q s) → MatchOption o ⊥ P → MatchOption o ⊥ Q
also None P Q h x = absurd x
also (Some s) P Q h x = h s x

shown_through : (a b : Module) (o p : Option State) (items : List Item)
    → ((n : ℕ) (seen : List Item) → MatchOption p ⊥ (λ s. ShowsFrom b n s seen) → MatchOption o ⊥ (λ s. MayShowFrom a s seen))
    → MatchOption p ⊥ (λ s. MayShowFrom b s items) → MatchOption o ⊥ (λ s. MayShowFrom a s items)
shown_through a b o None items ab h = absurd h
shown_through a b o (Some t) items ab (inl h) = ab h.0 items h.1
shown_through a b o (Some t) items ab (inr h) = also o (λ s. MayShowFrom a s (h.1 ++ Wrong ∷ [])) (λ s. MayShowFrom a s items)
    (λ s more. subst (λ (l : List Item). MayShowFrom a s l) (sym h.3) (wrong_through a s h.1 h.2 more)) (ab h.0 (h.1 ++ Wrong ∷ []) h.4)

pub refines_itself : IsReflexive
refines_itself m f input n items h = also (start m f input) (λ s. ShowsFrom m n s items) (λ s. MayShowFrom m s items) (λ s shown. inl (n, shown)) h

pub refines_through : IsTransitive
refines_through a b c ab bc f input n items h = shown_through a b (start a f input) (start b f input) items (ab f input) (bc f input n items h)
