-- Runs that stand at the return of a value, and when one refines another.
use Rattle.std.proofs.Common.{◌≡◌, ◌⊎◌, inl, inr, ℕ, ℤ, zero, suc, ◌<◌, ◌^◌, Bool, true, false, cond, List, [], ◌∷◌, ◌++◌, Option, None, Some, refl, sym, ap, ◌∙◌, subst, lit<, arith}
use Rattle.std.specs.Option.{is_some}
use Rattle.std.proofs.lemmas.Bool.{ltb-true, lt-ltb}
use Rattle.std.proofs.lemmas.List.{append-nil}
use Rattle.ir_core.specs.declared.values.Value.{Value}
use Rattle.ir_core.specs.declared.values.Value.TheVariants as value
use Rattle.ir_core.specs.declared.values.Kind.TheVariants.{Int}
use Rattle.ir_core.specs.declared.modules.Module.{Module}
use Rattle.ir_core.specs.Types.{fits}
use Rattle.ir_values.specs.Values.{IsInKind, IsLessDefined}
use Rattle.block_memory.specs.declared.items.Choice.TheVariants.{Pick}
use Rattle.block_memory.specs.declared.items.Shown.{Shown}
use Rattle.block_memory.specs.declared.items.Shown.TheVariants as shown
use Rattle.block_memory.specs.Names.{Showing, name_of, under_name}
use Rattle.ir_machine.specs.declared.items.Item.{Item}
use Rattle.ir_machine.specs.declared.items.Item.TheVariants.{Turn, Returned, Wrong}
use Rattle.ir_machine.specs.State.{World, State, Over}
use Rattle.ir_machine.specs.Machine.{Asks, Does, Chosen, Told, FreshByte, Made, Follows, asks, chosen_by, return_step, shown_as, ShowsFrom}
use Rattle.ir_machine.specs.Refinement.{MayShowFrom}
use Rattle.ir_machine.proofs.Trees.{AllDo, all_do_made}
use Rattle.ir_machine.proofs.Runs.{over_shows, may_show_nothing}

-- the run returns this value of i32 next
abbrev pub Returns : Module → World → State → Value → Type 0
Returns m world s v = asks m s ≡ return_step (Some (Int 32)) v [] world

-- what the return of undef shows: some number
abbrev pub IsPicked : List Item → Type 0
IsPicked items = (k : ℕ) × (k < 2 ^ 32) × (items ≡ Turn ∷ Returned (Some (shown.Num k)) ∷ [])

-- an address in a block is shown by the block's first name, or by the next
abbrev pub address_shown : World → ℕ → ℤ → Shown
address_shown world block offset = let showing : Showing = under_name world.names block offset (name_of world.names block) in showing.0

-- what the return of the value shows
abbrev pub IsReturn : World → Value → List Item → Type 0
IsReturn world (value.Num n) items = items ≡ Turn ∷ Returned (Some (shown.Num n)) ∷ []
IsReturn world value.Undef items = IsPicked items
IsReturn world (value.Ptr block offset) items = items ≡ Turn ∷ Returned (Some (address_shown world block offset)) ∷ []
IsReturn world (value.Bare address) items = items ≡ Turn ∷ Returned (Some (shown.Bare address)) ∷ []
IsReturn world value.Poison items = items ≡ Turn ∷ Wrong ∷ []

abbrev EndsReturned : World → Value → List Item → State → Type 0
EndsReturned world v items after = (after ≡ Over) × IsReturn world v items

abbrev returned : Shown → World → Asks
returned s after = Does (Turn ∷ Returned (Some s) ∷ []) Over

module _ (world : World) where
  picks_end : (c : Chosen) → AllDo (EndsReturned world value.Undef) (shown_as (chosen_by (Int 32) world c) world returned)
  picks_end (Told (Pick (shown.Num k))) = by_fit (fits k 32) refl
    where
      by_fit : (fit : Bool) → fits k 32 ≡ fit → AllDo (EndsReturned world value.Undef) (shown_as (cond fit (Some (shown.Num k, world.names)) None) world returned)
      by_fit true e = (refl, (k, ltb-true k (2 ^ 32) e, refl))
      by_fit false e = tt
  picks_end (Told (Pick s)) = tt
  picks_end (Told c) = tt
  picks_end (FreshByte bound offset place) = tt

  return_ends : (v : Value) → AllDo (EndsReturned world v) (return_step (Some (Int 32)) v [] world)
  return_ends (value.Num n) = (refl, refl)
  return_ends value.Undef = λ c fits. picks_end c
  return_ends (value.Ptr block offset) = (refl, refl)
  return_ends (value.Bare address) = (refl, refl)
  return_ends value.Poison = (refl, refl)

  -- nothing is shown, or the return
  pub returns_only : (m : Module) (s : State) (v : Value) → Returns m world s v → (n : ℕ) (items : List Item) → ShowsFrom m n s items → (items ≡ []) ⊎ IsReturn world v items
  returns_only m s v is zero items h = inl h
  returns_only m s v is (suc n) items (inl e) = inl e
  returns_only m s v is (suc n) items (inr h) =
      let ends : EndsReturned world v h.0.items h.0.after =
      all_do_made (EndsReturned world v) (asks m s) h.0 (subst (λ (tree : Asks). AllDo (EndsReturned world v) tree) (sym is) (return_ends v)) h.2 in
      let none : h.1 ≡ [] = over_shows m n h.1 (subst (λ (after : State). ShowsFrom m n after h.1) ends.0 h.4) in
      let all : items ≡ h.0.items = h.3 ∙ ap (λ (rest : List Item). h.0.items ++ rest) none ∙ append-nil h.0.items in
      inr (subst (λ (seen : List Item). IsReturn world v seen) (sym all) ends.1)

  shown_by : (m : Module) (s : State) (tree : Asks) (made : Made) → asks m s ≡ tree → Follows tree made → made.after ≡ Over → ShowsFrom m (suc zero) s (made.items ++ [])
  shown_by m s tree made is f over = inr (made, [], subst (λ (asked : Asks). Follows asked made) (sym is) f, refl, refl)

  number_chosen : (k : ℕ) → k < 2 ^ 32 → chosen_by (Int 32) world (Told (Pick (shown.Num k))) ≡ Some (shown.Num k, world.names)
  number_chosen k fits = rw (lt-ltb k (2 ^ 32) fits) refl

  picks_shown : (m : Module) (s : State) → Returns m world s value.Undef → (items : List Item) → IsPicked items → ShowsFrom m (suc zero) s items
  picks_shown m s is items (k, fits, e) =
      let chosen : chosen_by (Int 32) world (Told (Pick (shown.Num k))) ≡ Some (shown.Num k, world.names) = number_chosen k fits in
      let made : Made = record { told = []; items = Turn ∷ Returned (Some (shown.Num k)) ∷ []; after = Over } in
      let follows : Follows (shown_as (chosen_by (Int 32) world (Told (Pick (shown.Num k)))) world returned) made =
      subst (λ (o : Option Showing). Follows (shown_as o world returned) made) (sym chosen) refl in
      subst (λ (l : List Item). ShowsFrom m (suc zero) s l) (sym e)
      (shown_by m s (return_step (Some (Int 32)) value.Undef [] world)
      (record { told = Told (Pick (shown.Num k)) ∷ []; items = Turn ∷ Returned (Some (shown.Num k)) ∷ []; after = Over })
      is (Told (Pick (shown.Num k)), made, ap is_some chosen, follows, refl) refl)

  pub returns_shown : (m : Module) (s : State) (v : Value) → Returns m world s v → (items : List Item) → IsReturn world v items → ShowsFrom m (suc zero) s items
  returns_shown m s (value.Num n) is items e = subst (λ (l : List Item). ShowsFrom m (suc zero) s l) (sym e)
      (shown_by m s (return_step (Some (Int 32)) (value.Num n) [] world) (record { told = []; items = Turn ∷ Returned (Some (shown.Num n)) ∷ []; after = Over }) is refl refl)
  returns_shown m s value.Undef is items picked = picks_shown m s is items picked
  returns_shown m s (value.Ptr block offset) is items e = subst (λ (l : List Item). ShowsFrom m (suc zero) s l) (sym e)
      (shown_by m s (return_step (Some (Int 32)) (value.Ptr block offset) [] world) (record { told = []; items = Turn ∷ Returned (Some (address_shown world block offset)) ∷ []; after = Over }) is refl refl)
  returns_shown m s (value.Bare address) is items e = subst (λ (l : List Item). ShowsFrom m (suc zero) s l) (sym e)
      (shown_by m s (return_step (Some (Int 32)) (value.Bare address) [] world) (record { told = []; items = Turn ∷ Returned (Some (shown.Bare address)) ∷ []; after = Over }) is refl refl)
  returns_shown m s value.Poison is items e = subst (λ (l : List Item). ShowsFrom m (suc zero) s l) (sym e)
      (shown_by m s (return_step (Some (Int 32)) value.Poison [] world) (record { told = []; items = Turn ∷ Wrong ∷ []; after = Over }) is refl refl)

  not_wrong : (x : Option Shown) (seen : List Item) → seen ++ Wrong ∷ [] ≡ Turn ∷ Returned x ∷ [] → ⊥
  not_wrong x [] e = cc
  not_wrong x (a ∷ []) e = cc
  not_wrong x (a ∷ b ∷ []) e = cc
  not_wrong x (a ∷ b ∷ c ∷ seen) e = cc

  something : (seen : List Item) (x : Item) → seen ++ x ∷ [] ≡ [] → ⊥
  something [] x e = cc
  something (a ∷ seen) x e = cc

  return_not_wrong : (v : Value) → (v ≡ value.Poison → ⊥) → (seen : List Item) → IsReturn world v (seen ++ Wrong ∷ []) → ⊥
  return_not_wrong (value.Num n) other seen e = not_wrong (Some (shown.Num n)) seen e
  return_not_wrong value.Undef other seen (k, fits, e) = not_wrong (Some (shown.Num k)) seen e
  return_not_wrong (value.Ptr block offset) other seen e = not_wrong (Some (address_shown world block offset)) seen e
  return_not_wrong (value.Bare address) other seen e = not_wrong (Some (shown.Bare address)) seen e
  return_not_wrong value.Poison other seen e = other refl

  -- what may be shown where no poison is returned
  pub may_return : (m : Module) (s : State) (v : Value) → Returns m world s v → (v ≡ value.Poison → ⊥) → (items : List Item) → MayShowFrom m s items → (items ≡ []) ⊎ IsReturn world v items
  may_return m s v is other items (inl h) = returns_only m s v is h.0 items h.1
  may_return m s v is other items (inr h) = absurd (never (returns_only m s v is h.0 (h.1 ++ Wrong ∷ []) h.4))
    where
      never : (h.1 ++ Wrong ∷ [] ≡ []) ⊎ IsReturn world v (h.1 ++ Wrong ∷ []) → ⊥
      never (inl e) = something h.1 Wrong e
      never (inr r) = return_not_wrong v other h.1 r

  -- what may be shown where poison is returned: whatever begins with a turn
  pub may_show_turn : (m : Module) (s : State) (rest : List Item) → Returns m world s value.Poison → MayShowFrom m s (Turn ∷ rest)
  may_show_turn m s rest is = inr (suc zero, Turn ∷ [], rest, refl, returns_shown m s value.Poison is (Turn ∷ Wrong ∷ []) refl)

  -- a return shows a turn first
  pub return_turns : (v : Value) (items : List Item) → IsReturn world v items → (rest : List Item) × (items ≡ Turn ∷ rest)
  return_turns (value.Num n) items e = (Returned (Some (shown.Num n)) ∷ [], e)
  return_turns value.Undef items (k, fits, e) = (Returned (Some (shown.Num k)) ∷ [], e)
  return_turns (value.Ptr block offset) items e = (Returned (Some (address_shown world block offset)) ∷ [], e)
  return_turns (value.Bare address) items e = (Returned (Some (shown.Bare address)) ∷ [], e)
  return_turns value.Poison items e = (Wrong ∷ [], e)

  module _ (source target : Module) (s t : State) (u v : Value) (first : Returns source world s u) (second : Returns target world t v) where
    abbrev pub Simulates : Type 0
    Simulates = (n : ℕ) (items : List Item) → ShowsFrom target n t items → MayShowFrom source s items

    shows_return : (w : Value) → v ≡ w → (items : List Item) → IsReturn world w items → ShowsFrom target (suc zero) t items
    shows_return w e items r = returns_shown target t v second items (subst (λ (x : Value). IsReturn world x items) (sym e) r)

    -- the number that the target returns is one that the source may return
    returned_by : Simulates → (u ≡ value.Poison → ⊥) → (items : List Item) → ShowsFrom target (suc zero) t (Turn ∷ items) → IsReturn world u (Turn ∷ items)
    returned_by h other items shows = among (may_return source s u first other (Turn ∷ items) (h (suc zero) (Turn ∷ items) shows))
      where
        among : (Turn ∷ items ≡ []) ⊎ IsReturn world u (Turn ∷ items) → IsReturn world u (Turn ∷ items)
        among (inl e) = absurd (cc)
        among (inr r) = r

    -- where each run of the target may be one of the source, the source's value is less defined
    pub less_defined : IsInKind (Int 32) u → IsInKind (Int 32) v → Simulates → IsLessDefined u v
    less_defined lies fits h = by_values u v refl refl lies fits
      where
        number_of : (m : ℕ) → u ≡ value.Num m → (k : ℕ) → ShowsFrom target (suc zero) t (Turn ∷ Returned (Some (shown.Num k)) ∷ []) → k ≡ m
        number_of m e k shows =
            let r : Turn ∷ Returned (Some (shown.Num k)) ∷ [] ≡ Turn ∷ Returned (Some (shown.Num m)) ∷ [] =
            subst (λ (x : Value). IsReturn world x (Turn ∷ Returned (Some (shown.Num k)) ∷ [])) e (returned_by h (λ p. cc) (Returned (Some (shown.Num k)) ∷ []) shows) in
            cc

        by_values : (a b : Value) → u ≡ a → v ≡ b → IsInKind (Int 32) a → IsInKind (Int 32) b → IsLessDefined a b
        by_values value.Poison b p q j k = tt
        by_values (value.Ptr block offset) b p q j k = absurd j
        by_values (value.Bare address) b p q j k = absurd j
        by_values value.Undef (value.Num n) p q j k = tt
        by_values value.Undef value.Undef p q j k = tt
        by_values value.Undef (value.Ptr block offset) p q j k = tt
        by_values value.Undef (value.Bare address) p q j k = tt
        by_values value.Undef value.Poison p q j k =
            let r : (k : ℕ) × (k < 2 ^ 32) × (Turn ∷ Wrong ∷ [] ≡ Turn ∷ Returned (Some (shown.Num k)) ∷ []) =
            subst (λ (x : Value). IsReturn world x (Turn ∷ Wrong ∷ [])) p (returned_by h (λ e. cc) (Wrong ∷ []) (shows_return value.Poison q (Turn ∷ Wrong ∷ []) refl)) in
            let no : Turn ∷ Wrong ∷ [] ≡ Turn ∷ Returned (Some (shown.Num r.0)) ∷ [] = r.2 in
            cc
        by_values (value.Num m) (value.Num n) p q j k = ap value.Num (number_of m p n (shows_return (value.Num n) q (Turn ∷ Returned (Some (shown.Num n)) ∷ []) refl))
        by_values (value.Num m) (value.Ptr block offset) p q j k = absurd k
        by_values (value.Num m) (value.Bare address) p q j k = absurd k
        by_values (value.Num m) value.Undef p q j k =
            let zero_is : 0 ≡ m = number_of m p 0 (shows_return value.Undef q (Turn ∷ Returned (Some (shown.Num 0)) ∷ []) (0, lit< tt, refl)) in
            let one_is : 1 ≡ m = number_of m p 1 (shows_return value.Undef q (Turn ∷ Returned (Some (shown.Num 1)) ∷ []) (1, lit< tt, refl)) in
            absurd (omega arith)
        by_values (value.Num m) value.Poison p q j k =
            let r : Turn ∷ Wrong ∷ [] ≡ Turn ∷ Returned (Some (shown.Num m)) ∷ [] =
            subst (λ (x : Value). IsReturn world x (Turn ∷ Wrong ∷ [])) p (returned_by h (λ e. cc) (Wrong ∷ []) (shows_return value.Poison q (Turn ∷ Wrong ∷ []) refl)) in
            cc

    -- and the other way round
    pub simulates : IsInKind (Int 32) v → IsLessDefined u v → Simulates
    simulates fits less n items shows = by_shown (returns_only target t v second n items shows)
      where
        by_values : (a b : Value) → u ≡ a → v ≡ b → IsInKind (Int 32) b → IsLessDefined a b → IsReturn world b items → MayShowFrom source s items
        by_values value.Poison b p q k l r =
            let turns = return_turns b items r in
            subst (λ (seen : List Item). MayShowFrom source s seen) (sym turns.1) (may_show_turn source s turns.0 (first ∙ ap (λ (x : Value). return_step (Some (Int 32)) x [] world) p))
        by_values value.Undef (value.Num n) p q k l r =
            inl (suc zero, returns_shown source s u first items (subst (λ (x : Value). IsReturn world x items) (sym p) (n, k, r)))
        by_values value.Undef value.Undef p q k l r = inl (suc zero, returns_shown source s u first items (subst (λ (x : Value). IsReturn world x items) (sym p) r))
        by_values value.Undef (value.Ptr block offset) p q k l r = absurd k
        by_values value.Undef (value.Bare address) p q k l r = absurd k
        by_values value.Undef value.Poison p q k l r = absurd l
        by_values (value.Ptr block offset) b p q k l r = absurd (subst (IsInKind (Int 32)) l k)
        by_values (value.Bare address) b p q k l r = absurd (subst (IsInKind (Int 32)) l k)
        by_values (value.Num m) b p q k l r =
            inl (suc zero, returns_shown source s u first items (subst (λ (x : Value). IsReturn world x items) (sym p) (subst (λ (x : Value). IsReturn world x items) l r)))

        by_shown : (items ≡ []) ⊎ IsReturn world v items → MayShowFrom source s items
        by_shown (inl e) = subst (λ (seen : List Item). MayShowFrom source s seen) (sym e) (may_show_nothing source s)
        by_shown (inr r) = by_values u v refl refl fits less r
