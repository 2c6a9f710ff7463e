-- The last terminator of a run: what the target's value shows, the source's shows too, or is undefined behaviour.
use Rattle.std.proofs.Common.{◌≡◌, ◌⊎◌, ◌^◌, ◌<◌, arith, ℕ, suc, ℤ, Bool, true, false, cond, nat_lt, List, [], ◌∷◌, ◌++◌, length, Option, None, Some, refl, sym, ap, ap₂, ◌∙◌, subst, inl, inr}
use Rattle.std.specs.List.{AllZip}
use Rattle.std.specs.Option.{is_some, option_map}
use Rattle.std.proofs.lemmas.Bool.{lt-ltb}
use Rattle.ir_core.specs.declared.values.Value.{Value}
use Rattle.ir_core.specs.declared.values.Value.TheVariants as value
use Rattle.ir_core.specs.declared.values.Kind.{Kind}
use Rattle.ir_core.specs.declared.values.Kind.TheVariants.{Int, Ptr}
use Rattle.ir_core.specs.Types.{fits}
use Rattle.ir_values.specs.Related.{ArePaired, IsOneToOne, IsRelated, Pairing}
use Rattle.ir_values.specs.Values.{IsInKindOf}
use Rattle.block_memory.specs.declared.items.Choice.TheVariants as choice
use Rattle.block_memory.specs.declared.items.Shown.{Shown}
use Rattle.block_memory.specs.declared.items.Shown.TheVariants as shown
use Rattle.block_memory.specs.Names.{Names, Showing, chosen, fresh, is_bound_to, is_unnamed, name_of, picked, next_if, shown_if, under_name, under_next}
use Rattle.ir_machine.specs.declared.items.Item.{Item}
use Rattle.ir_machine.specs.declared.items.Item.TheVariants.{Turn, Returned, Wrong}
use Rattle.ir_machine.specs.State.{World, Over}
use Rattle.ir_machine.specs.Machine.{Asks, Chosen, Told, FreshByte, Does, Made, Follows, shown_as, chosen_by, return_step}
use Rattle.erhl_soundness.specs.TwoSides.{AreNamesPaired}

-- a name that a block has is one of the names
name_is_there : (names : Names) (b x : ℕ) → name_of names b ≡ Some x → x < length names
name_is_there [] b x h = absurd (cc)
name_is_there (y ∷ names) b x h = at (is_bound_to b y) (name_of names b) (λ z e. name_is_there names b z e) h
  where
    at : (bound : Bool) (o : Option ℕ) → ((z : ℕ) → o ≡ Some z → z < length names) → cond bound (Some 0) (option_map suc o) ≡ Some x → x < suc (length names)
    at true o there e = let first : 0 ≡ x = cc in subst (λ z. z < suc (length names)) first (omega arith)
    at false None there e = absurd (cc)
    at false (Some z) there e =
        let next : suc z ≡ x = cc in
        let low : z < length names = there z refl in
        subst (λ z. z < suc (length names)) next (omega (arith, low))

-- ---- names of pairs

module _ (ps : Pairing) (one : IsOneToOne ps) where
  bound_alike : (b c : ℕ) → ArePaired ps b c → (x y : Option ℕ) → AreNamesPaired ps x y → is_bound_to b x ≡ is_bound_to c y
  bound_alike b c pair None None h = refl
  bound_alike b c pair None (Some e) h = absurd h
  bound_alike b c pair (Some d) None h = absurd h
  bound_alike b c pair (Some d) (Some e) h = one d e b c h pair

  -- two blocks of a pair have one name, or neither has any
  name_alike : (b c : ℕ) → ArePaired ps b c → (ns ms : Names) → AllZip (AreNamesPaired ps) ns ms → name_of ns b ≡ name_of ms c
  name_alike b c pair [] [] h = refl
  name_alike b c pair [] (y ∷ ms) h = absurd h
  name_alike b c pair (x ∷ ns) [] h = absurd h
  name_alike b c pair (x ∷ ns) (y ∷ ms) h =
      ap₂ (λ bound o. cond bound (Some 0) (option_map suc o)) (bound_alike b c pair x y h.0) (name_alike b c pair ns ms h.1)

many_alike : (ps : Pairing) (ns ms : Names) → AllZip (AreNamesPaired ps) ns ms → length ns ≡ length ms
many_alike ps [] [] h = refl
many_alike ps [] (y ∷ ms) h = absurd h
many_alike ps (x ∷ ns) [] h = absurd h
many_alike ps (x ∷ ns) (y ∷ ms) h = ap suc (many_alike ps ns ms h.1)

-- ---- the result of a run

abbrev pub wrong_made : Made
wrong_made = record { told = []; items = Turn ∷ Wrong ∷ []; after = Over }

abbrev result_of : Shown → World → Asks
result_of s after = Does (Turn ∷ Returned (Some s) ∷ []) Over

-- it shows the turn first, and the run is over
abbrev pub IsLast : Made → Type 0
IsLast made = (more : List Item) × (made.items ≡ Turn ∷ more) × (made.after ≡ Over)

module _ (world : World) where
  abbrev pub result_step : Option Kind → Value → Asks
  result_step k v = return_step k v [] world

  last_of : (made : Made) (told : List Chosen) (more : List Item) → made ≡ record { told = told; items = Turn ∷ more; after = Over } → IsLast made
  last_of made told more e = (more, ap (λ (x : Made). x.items) e, ap (λ (x : Made). x.after) e)

  shown_is_last : (o : Option Showing) (c : Chosen) (more made : Made) → Follows (shown_as o world result_of) more
      → made ≡ record { told = c ∷ more.told; items = more.items; after = more.after } → IsLast made
  shown_is_last None c more made is e = absurd is
  shown_is_last (Some showing) c more made is e =
      last_of made (c ∷ more.told) (Returned (Some showing.0) ∷ []) (e ∙ ap (λ (x : Made). record { told = c ∷ more.told; items = x.items; after = x.after }) is)

  undef_is_last : (k : Option Kind) (made : Made) → Follows (result_step k value.Undef) made → IsLast made
  undef_is_last None made h = last_of made [] (Wrong ∷ []) h
  undef_is_last (Some k) made h = shown_is_last (chosen_by k world h.0) h.0 h.1 made h.3 h.4

  pub result_is_last : (k : Option Kind) (v : Value) (made : Made) → Follows (result_step k v) made → IsLast made
  result_is_last k value.Poison made h = last_of made [] (Wrong ∷ []) h
  result_is_last k (value.Num n) made h = last_of made [] (Returned (Some (shown.Num n)) ∷ []) h
  result_is_last k value.Undef made h = undef_is_last k made h
  result_is_last k (value.Ptr block offset) made h =
      last_of made [] (Returned (Some (under_name world.names block offset (name_of world.names block)).0) ∷ []) h
  result_is_last k (value.Bare address) made h = last_of made [] (Returned (Some (shown.Bare address)) ∷ []) h

  -- a step of the source that does as the target's, or is undefined behaviour
  abbrev pub DoesAs : Option Kind → Value → Made → Type 0
  DoesAs k v made = ((other : Made) × Follows (result_step k v) other × (other.items ≡ made.items)) ⊎ Follows (result_step k v) wrong_made

  -- a value that is shown at once as this does as what shows this
  shows_at_once : (k : Option Kind) (v : Value) (s : Shown) (made : Made) → result_step k v ≡ Does (Turn ∷ Returned (Some s) ∷ []) Over
      → made.items ≡ Turn ∷ Returned (Some s) ∷ [] → DoesAs k v made
  shows_at_once k v s made is items =
      let other : Made = record { told = []; items = Turn ∷ Returned (Some s) ∷ []; after = Over } in
      inl (other, subst (λ tree. Follows tree other) (sym is) refl, sym items)

  -- undef is shown as what a choice gives
  undef_shows : (k : Kind) (c : Chosen) (o : Option Showing) (showing : Showing) (made : Made) → chosen_by k world c ≡ o → o ≡ Some showing
      → made.items ≡ Turn ∷ Returned (Some showing.0) ∷ [] → DoesAs (Some k) value.Undef made
  undef_shows k c o showing made is e items =
      let one : chosen_by k world c ≡ Some showing = is ∙ e in
      let more : Made = record { told = []; items = Turn ∷ Returned (Some showing.0) ∷ []; after = Over } in
      let other : Made = record { told = c ∷ []; items = Turn ∷ Returned (Some showing.0) ∷ []; after = Over } in
      inl (other, (c, more, ap is_some one, subst (λ p. Follows (shown_as p world result_of) more) (sym one) refl, refl), sym items)

  -- as the next name, which may be bound to nothing, as the run is over
  undef_as_next : (offset : ℤ) (made : Made) → made.items ≡ Turn ∷ Returned (Some (shown.Name (length world.names) offset)) ∷ [] → DoesAs (Some Ptr) value.Undef made
  undef_as_next offset made items =
      undef_shows Ptr (Told (choice.Fresh None offset)) (chosen Ptr world.memory world.names (choice.Fresh None offset)) (shown.Name (length world.names) offset, world.names ++ (None ∷ [])) made refl refl items

  -- as a name that there is
  undef_as_name : (x : ℕ) (offset : ℤ) (made : Made) → x < length world.names → made.items ≡ Turn ∷ Returned (Some (shown.Name x offset)) ∷ [] → DoesAs (Some Ptr) value.Undef made
  undef_as_name x offset made there items =
      let showing : Showing = (shown.Name x offset, world.names) in
      undef_shows Ptr (Told (choice.Pick (shown.Name x offset))) (cond (nat_lt x (length world.names)) (Some showing) None) showing made refl
      (ap (λ b. cond b (Some showing) None) (lt-ltb x (length world.names) there)) items

-- ---- two worlds with names of pairs

-- the result by a block's name, or by the next
abbrev shows_under : Names → ℕ → ℤ → Option ℕ → List Item
shows_under names b offset o = Turn ∷ Returned (Some (under_name names b offset o).0) ∷ []

-- beside other names
abbrev with_names : Names → Showing → Option Showing
with_names names showing = Some (showing.0, names)

shown_with : (b : Bool) (s : Shown) (ms ns : Names) (showing : Showing) → shown_if b s ms ≡ Some showing → shown_if b s ns ≡ with_names ns showing
shown_with true s ms ns showing is = let same : ◌≡◌ {A = Showing} (s, ms) showing = cc in ap (with_names ns) same
shown_with false s ms ns showing is = absurd (cc)

module _ (ps : Pairing) (one : IsOneToOne ps) (first second : World) (names : AllZip (AreNamesPaired ps) first.names second.names) where
  many : length first.names ≡ length second.names
  many = many_alike ps first.names second.names names

  -- a pointer is shown by one name
  pointer_alike : (b c : ℕ) (offset : ℤ) → ArePaired ps b c → (made : Made)
      → made.items ≡ Turn ∷ Returned (Some (under_name second.names c offset (name_of second.names c)).0) ∷ []
      → made.items ≡ Turn ∷ Returned (Some (under_name first.names b offset (name_of first.names b)).0) ∷ []
  pointer_alike b c offset pair made items =
      items ∙ ap (shows_under second.names c offset) (sym (name_alike ps one b c pair first.names second.names names)) ∙ sym (by_name (name_of first.names b))
    where
      by_name : (o : Option ℕ) → shows_under first.names b offset o ≡ shows_under second.names c offset o
      by_name None = ap (λ n. Turn ∷ Returned (Some (shown.Name n offset)) ∷ []) many
      by_name (Some x) = refl

  -- undef as an address in a block of the target
  undef_as_address : (c : ℕ) (offset : ℤ) (made : Made) (o : Option ℕ) → name_of second.names c ≡ o
      → made.items ≡ Turn ∷ Returned (Some (under_name second.names c offset o).0) ∷ [] → DoesAs first (Some Ptr) value.Undef made
  undef_as_address c offset made None is items = undef_as_next first offset made (items ∙ ap (λ n. Turn ∷ Returned (Some (shown.Name n offset)) ∷ []) (sym many))
  undef_as_address c offset made (Some x) is items =
      undef_as_name first x offset made (subst (λ n. x < n) (sym many) (name_is_there second.names c x is)) items

  -- what the target may choose for undef, so that it is shown as this, the source may
  abbrev MayChoose : Kind → Shown → Type 0
  MayChoose k s = (c : Chosen) × (after : Names) × (chosen_by k first c ≡ Some (s, after))

  picks_alike : (k : Kind) (s : Shown) (showing : Showing) → picked k second.names s ≡ Some showing → MayChoose k showing.0
  picks_alike (Int width) (shown.Num n) showing is =
      (Told (choice.Pick (shown.Num n)), first.names, shown_with (fits n width) (shown.Num n) second.names first.names showing is)
  picks_alike (Int width) (shown.Name x offset) showing is = absurd (cc)
  picks_alike (Int width) (shown.Bare address) showing is = absurd (cc)
  picks_alike Ptr (shown.Num n) showing is = absurd (cc)
  picks_alike Ptr (shown.Name x offset) showing is = (
    Told (choice.Pick (shown.Name x offset)),
    first.names,
    ap (λ n. shown_if (nat_lt x n) (shown.Name x offset) first.names) many
        ∙ shown_with (nat_lt x (length second.names)) (shown.Name x offset) second.names first.names showing is,
  )
  picks_alike Ptr (shown.Bare address) showing is =
      (Told (choice.Pick (shown.Bare address)), first.names, shown_with true (shown.Bare address) second.names first.names showing is)

  -- the next name, bound to nothing, as the run is over
  next_alike : (b : Bool) (bound : Option ℕ) (offset : ℤ) (showing : Showing) → next_if b second.names bound offset ≡ Some showing → MayChoose Ptr showing.0
  next_alike true bound offset showing is = (
    Told (choice.Fresh None offset),
    first.names ++ (None ∷ []),
    ap (λ n. shown_if true (shown.Name n offset) (first.names ++ (None ∷ []))) many
        ∙ (let same : under_next second.names bound offset ≡ showing = cc in ap (with_names (first.names ++ (None ∷ []))) same),
  )
  next_alike false bound offset showing is = absurd (cc)

  fresh_alike : (k : Kind) (bound : Option ℕ) (offset : ℤ) (showing : Showing) → fresh k second.memory second.names bound offset ≡ Some showing → MayChoose k showing.0
  fresh_alike (Int width) bound offset showing is = absurd (cc)
  fresh_alike Ptr None offset showing is = next_alike true None offset showing is
  fresh_alike Ptr (Some b) offset showing is = next_alike (is_unnamed second.memory second.names b) (Some b) offset showing is

  chosen_alike : (k : Kind) (c : Chosen) (showing : Showing) → chosen_by k second c ≡ Some showing → MayChoose k showing.0
  chosen_alike k (Told (choice.Pick s)) showing is = picks_alike k s showing is
  chosen_alike k (Told (choice.Fresh bound offset)) showing is = fresh_alike k bound offset showing is
  chosen_alike k (Told c) showing is = absurd (cc)
  chosen_alike k (FreshByte bound offset place) showing is = absurd (cc)

  -- undef as what the target chose for undef
  undef_alike : (k : Kind) (made : Made) → Follows (result_step second (Some k) value.Undef) made → DoesAs first (Some k) value.Undef made
  undef_alike k made h = go (chosen_by k second h.0) refl h.3
    where
      go : (o : Option Showing) → chosen_by k second h.0 ≡ o → Follows (shown_as o second result_of) h.1 → DoesAs first (Some k) value.Undef made
      go None is f = absurd f
      go (Some showing) is f =
          let may = chosen_alike k h.0 showing is in
          undef_shows first k may.0 (chosen_by k first may.0) (showing.0, may.1) made refl may.2 (ap (λ (x : Made). x.items) h.4 ∙ ap (λ (x : Made). x.items) f)

  pub result_does_as : (k : Option Kind) (a b : Value) (made : Made) → IsRelated ps a b → IsInKindOf k b → Follows (result_step second k b) made → DoesAs first k a made
  result_does_as k value.Poison b made related kind h = inr refl
  result_does_as k (value.Num m) b made related kind h =
      shows_at_once first k (value.Num m) (shown.Num m) made refl (ap (λ (x : Made). x.items) (subst (λ v. Follows (result_step second k v) made) related h))
  result_does_as k (value.Bare address) b made related kind h =
      shows_at_once first k (value.Bare address) (shown.Bare address) made refl (ap (λ (x : Made). x.items) (subst (λ v. Follows (result_step second k v) made) related h))
  result_does_as k (value.Ptr block offset) b made related kind h =
      shows_at_once first k (value.Ptr block offset) (under_name first.names block offset (name_of first.names block)).0 made refl
      (pointer_alike block related.0 offset related.1 made (ap (λ (x : Made). x.items) (subst (λ v. Follows (result_step second k v) made) related.2 h)))
  result_does_as None value.Undef b made related kind h = inr refl
  result_does_as (Some k) value.Undef value.Poison made related kind h = absurd related
  result_does_as (Some k) value.Undef value.Undef made related kind h = undef_alike k made h
  result_does_as (Some (Int width)) value.Undef (value.Ptr block offset) made related kind h = absurd kind
  result_does_as (Some (Int width)) value.Undef (value.Bare address) made related kind h = absurd kind
  result_does_as (Some (Int width)) value.Undef (value.Num n) made related kind h =
      let showing : Showing = (shown.Num n, first.names) in
      undef_shows first (Int width) (Told (choice.Pick (shown.Num n))) (cond (nat_lt n (2 ^ width)) (Some showing) None) showing made refl
      (ap (λ b. cond b (Some showing) None) (lt-ltb n (2 ^ width) kind)) (ap (λ (x : Made). x.items) h)
  result_does_as (Some Ptr) value.Undef (value.Num n) made related kind h = absurd kind
  result_does_as (Some Ptr) value.Undef (value.Ptr block offset) made related kind h =
      undef_as_address block offset made (name_of second.names block) refl (ap (λ (x : Made). x.items) h)
  result_does_as (Some Ptr) value.Undef (value.Bare address) made related kind h =
      let showing : Showing = (shown.Bare address, first.names) in
      undef_shows first Ptr (Told (choice.Pick (shown.Bare address))) (Some showing) showing made refl refl (ap (λ (x : Made). x.items) h)
