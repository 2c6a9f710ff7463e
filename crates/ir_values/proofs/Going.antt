-- Steps of the walk along indices.
use Rattle.std.proofs.Common.{◌≡◌, ℕ, zero, suc, ◌+◌, ◌*◌, ◌^◌, ◌<◌, ◌≤◌, Bool, true, false, ◌&&◌, ◌||◌, cond, List, [], ◌∷◌, length, drop, map, slice_get, Option, None, Some, refl, sym, ap, subst, ◌∙◌, arith, add-one}
use Rattle.std.specs.Prelude.{ℤ, pos, negsuc, ◌+ℤ◌, ◌*ℤ◌, nat_lt, unsigned_abs}
use Rattle.std.specs.Int.{cast_signed, w64}
use Rattle.std.specs.List.{AllByRecursion, list_all}
use Rattle.std.specs.Option.{is_some, option_and_then, option_map}
use Rattle.std.proofs.lemmas.Bool.{ltb-false}
use Rattle.std.proofs.lemmas.Int.{unsigned_abs-mul}
use Rattle.std.proofs.lemmas.Nat.{mul-lt}
use Rattle.std.proofs.Math.Nat.{mod-eq_of_lt}
use Rattle.ir_types.specs.declared.named.NamedTy.{NamedTy}
use Rattle.ir_types.specs.declared.ty.Ty.{Ty, Array, Int, out-Ty}
use Rattle.ir_types.specs.declared.ty.Ty.TheOpen.{Ty-F}
use Rattle.ir_types.specs.declared.ty.Ty.TheOpen as part
use Rattle.ir_types.specs.declared.ty.Ty.TheViews.{outs-Array}
use Rattle.ir_types.specs.NameLaws.{all_true, left_true, right_true}
use Rattle.ir_types.specs.Named.{field_offset, size_of}
use Rattle.ir_types.specs.Same.{same_ty}
use Rattle.ir_core.specs.Sizes.{entered_along, entered_behind}
use Rattle.ir_core.specs.Typing.{entered, entered_at_level, field_at}
use Rattle.ir_core.specs.declared.values.Value.{Value}
use Rattle.ir_core.specs.declared.values.Value.TheVariants.{Ptr, Bare, Poison}
use Rattle.ir_values.specs.Addresses.{GivenIndex, IsIndex, distance, distance_at_level, distances, distances_inside, is_past, leaves, led_address, moved_address, moved_by, or_zero, over, told_index, undef_inside, wrapped}
use Rattle.ir_values.specs.Numbers.{modulo, signed}
use Rattle.ir_values.specs.Private.{IsSmall, ended, ended_at, stepped}
use Rattle.ir_values.specs.Values.{as_number}
use Rattle.ir_values.proofs.Entering.{enters, enters_none}
use Rattle.ir_values.proofs.InKind.{modulo_below}
use Rattle.ir_values.proofs.Listed.{drop_past, drop_there}
use Rattle.ir_values.proofs.Wrapped.{moved_same, word_again}

right_false : (a b : Bool) → (a || b) ≡ false → b ≡ false
right_false true b h = cc
right_false false b h = h

-- a place inside a block is its own word
inside_is : (size : ℕ) (z : ℤ) → size < 2 ^ 64 → is_past size z ≡ false → z ≡ pos (modulo 64 z)
inside_is size (pos n) h e =
    let end : nat_lt size n ≡ false = right_false (nat_lt n 0) (nat_lt size n) e in
    let within : n ≤ size = ltb-false size n end in
    let small : n < 2 ^ 64 = omega arith in
    ap pos (sym (mod-eq_of_lt small))
inside_is size (negsuc n) h e = cc

past_leaves : (size : ℕ) (z : ℤ) (ds : List ℤ) → is_past size z ≡ true → leaves size z ds ≡ true
past_leaves size z [] e = e
past_leaves size z (d ∷ ds) e = ap (λ t. t || leaves size (z +ℤ d) ds) e

-- a step that leaves the block ends the walk, whatever follows
pub step_leaves : (inbounds : Bool) (size : ℕ) (at d : ℤ) (ds : List ℤ) → stepped inbounds size (at +ℤ d) ≡ None → ended_at inbounds size at (d ∷ ds) ≡ None
step_leaves false size at d ds e = cc
step_leaves true size at d ds e = by (is_past size (at +ℤ d)) refl e
  where
    or_right : (a b : Bool) → b ≡ true → (a || b) ≡ true
    or_right true b h = refl
    or_right false b h = h

    by : (t : Bool) → is_past size (at +ℤ d) ≡ t → cond t None (Some (modulo 64 (at +ℤ d))) ≡ None → ended_at true size at (d ∷ ds) ≡ None
    by true is e =
        ap (λ t. cond t None (Some (modulo 64 (moved_by (at +ℤ d) ds)))) (or_right (is_past size at) (leaves size (at +ℤ d) ds) (past_leaves size (at +ℤ d) ds is))
    by false is e = cc

-- else it goes on from the word that the step comes to
pub step_goes : (inbounds : Bool) (size : ℕ) (at d : ℤ) (ds : List ℤ) (next : ℕ) → size < 2 ^ 64 → (inbounds ≡ true → is_past size at ≡ false)
    → stepped inbounds size (at +ℤ d) ≡ Some next → ended_at inbounds size at (d ∷ ds) ≡ ended_at inbounds size (pos next) ds
step_goes false size at d ds next h inside e =
    let is : modulo 64 (at +ℤ d) ≡ next = cc in
    ap Some (moved_same (at +ℤ d) (pos next) ds (sym (word_again (at +ℤ d)) ∙ ap (λ n. modulo 64 (pos n)) is))
step_goes true size at d ds next h inside e = by (is_past size (at +ℤ d)) refl e
  where
    by : (t : Bool) → is_past size (at +ℤ d) ≡ t → cond t None (Some (modulo 64 (at +ℤ d))) ≡ Some next → ended_at true size at (d ∷ ds) ≡ ended_at true size (pos next) ds
    by true is e = cc
    by false is e =
        let word : modulo 64 (at +ℤ d) ≡ next = cc in
        let here : at +ℤ d ≡ pos next = inside_is size (at +ℤ d) h is ∙ ap pos word in
        ap (λ t. cond (t || leaves size (at +ℤ d) ds) None (Some (modulo 64 (moved_by (at +ℤ d) ds)))) (inside refl)
        ∙ ap (λ z. cond (leaves size z ds) None (Some (modulo 64 (moved_by z ds)))) here

-- and it is inside the block there
pub step_inside : (inbounds : Bool) (size : ℕ) (z : ℤ) (next : ℕ) → size < 2 ^ 64 → stepped inbounds size z ≡ Some next → inbounds ≡ true → is_past size (pos next) ≡ false
step_inside false size z next h e so = cc
step_inside true size z next h e so = by (is_past size z) refl e
  where
    by : (t : Bool) → is_past size z ≡ t → cond t None (Some (modulo 64 z)) ≡ Some next → is_past size (pos next) ≡ false
    by true is e = cc
    by false is e =
        let word : modulo 64 z ≡ next = cc in
        sym (ap (is_past size) (inside_is size z h is ∙ ap pos word)) ∙ is

-- where it comes to is a word
pub step_below : (inbounds : Bool) (size : ℕ) (z : ℤ) (next : ℕ) → stepped inbounds size z ≡ Some next → next < 2 ^ 64
step_below inbounds size z next e = by (inbounds && is_past size z) e
  where
    by : (t : Bool) → cond t None (Some (modulo 64 z)) ≡ Some next → next < 2 ^ 64
    by true e = cc
    by false e = let word : modulo 64 z ≡ next = cc in subst (λ n. n < 2 ^ 64) word (modulo_below 64 z)

-- ---- how far an index goes

pub over_is : (types : List NamedTy) (t : Ty) (i : GivenIndex) (n : ℕ) → as_number i.1 ≡ Some n → pos (size_of types t) *ℤ signed i.0 n ≡ over types t i
over_is types t i n is = sym (ap (λ o. pos (size_of types t) *ℤ signed i.0 (or_zero o)) is)

pub over_near : (size : ℕ) (z : ℤ) → size ≤ 2 ^ 31 → unsigned_abs z ≤ 2 ^ 64 → unsigned_abs (pos size *ℤ z) ≤ 2 ^ 96
over_near size z p q =
    let a : size < 2 ^ 31 + 1 = omega arith in
    let b : unsigned_abs z < 2 ^ 64 + 1 = omega arith in
    let product : size * unsigned_abs z < (2 ^ 31 + 1) * (2 ^ 64 + 1) = mul-lt size (unsigned_abs z) (2 ^ 31 + 1) (2 ^ 64 + 1) a b in
    let is : unsigned_abs (pos size *ℤ z) ≡ size * unsigned_abs z = unsigned_abs-mul (pos size) z in
    omega arith

module _ (types : List NamedTy) (i : GivenIndex) where
  -- in an array an index goes over so many of what it enters
  pub over_array : (n : ℕ) (element further : Ty) → entered types (Array n element) (told_index i) ≡ Some further → over types further i ≡ distance types (Array n element) i
  over_array n element further e =
      let of : entered types (Array n element) (told_index i) ≡ Some element = ap (λ (level : Ty-F Ty). entered_at_level types level (told_index i)) (outs-Array n element) in
      let same : element ≡ further = cc in
      ap (λ t. over types t i) (sym same) ∙ sym (ap (λ (level : Ty-F Ty). distance_at_level types (Array n element) level i) (outs-Array n element))

  pub to_field : (t : Ty) (level : Ty-F Ty) (n : ℕ) → out-Ty t ≡ level → ((count : ℕ) (element : Ty) → level ≡ part.Array count element → ⊥) → as_number i.1 ≡ Some n
      → pos (field_offset types t n) ≡ distance types t i
  to_field t level n is none number = sym (ap (λ l. distance_at_level types t l i) is ∙ at level none ∙ ap (λ o. pos (field_offset types t (or_zero o))) number)
    where
      at : (l : Ty-F Ty) → ((count : ℕ) (element : Ty) → l ≡ part.Array count element → ⊥) → distance_at_level types t l i ≡ pos (field_offset types t (or_zero (as_number i.1)))
      at (part.Array count element) none = absurd (none count element refl)
      at (part.Int w) none = refl
      at (part.Ptr u) none = refl
      at (part.Struct fields) none = refl
      at (part.Named x) none = refl
      at part.Void none = refl

  -- a field that is entered is there
  pub field_there : (fields : List Ty) (n : ℕ) (u : Ty) → field_at fields (told_index i) ≡ Some u → as_number i.1 ≡ Some n → n < length fields
  field_there fields n u e number = at (same_ty (Int i.0) (Int 32)) (as_number i.1) e number
    where
      inside : (xs : List Ty) (k : ℕ) → slice_get xs k ≡ Some u → k < length xs
      inside [] k h = cc
      inside (x ∷ xs) zero h = omega arith
      inside (x ∷ xs) (suc k) h = let rest = inside xs k h in omega arith

      at : (b : Bool) (o : Option ℕ) → cond b (option_and_then (slice_get fields) o) None ≡ Some u → o ≡ Some n → n < length fields
      at false o e number = cc
      at true None e number = cc
      at true (Some k) e number = let same : k ≡ n = cc in subst (λ m. m < length fields) same (inside fields k e)

-- ---- along the indices

module _ (types : List NamedTy) (t : Ty) (inbounds : Bool) (size at : ℕ) (i : GivenIndex) (is : List GivenIndex) where
  pub enters_nothing : entered types t (told_index i) ≡ None → ended inbounds size (pos at) (distances_inside types t (i ∷ is)) ≡ None
  enters_nothing e = ap (ended inbounds size (pos at)) (enters_none types t i is e)

  pub goes_nowhere : (u : Ty) → entered types t (told_index i) ≡ Some u → stepped inbounds size (pos at +ℤ distance types t i) ≡ None
      → ended inbounds size (pos at) (distances_inside types t (i ∷ is)) ≡ None
  goes_nowhere u e none = ap (ended inbounds size (pos at)) (enters types t i is u e) ∙ by (distances_inside types u is)
    where
      by : (o : Option (List ℤ)) → ended inbounds size (pos at) (option_map (λ ds. distance types t i ∷ ds) o) ≡ None
      by None = refl
      by (Some ds) = step_leaves inbounds size (pos at) (distance types t i) ds none

  pub goes : (u : Ty) (next : ℕ) → entered types t (told_index i) ≡ Some u → size < 2 ^ 64 → (inbounds ≡ true → is_past size (pos at) ≡ false)
      → stepped inbounds size (pos at +ℤ distance types t i) ≡ Some next
      → ended inbounds size (pos at) (distances_inside types t (i ∷ is)) ≡ ended inbounds size (pos next) (distances_inside types u is)
  goes u next e small inside to = ap (ended inbounds size (pos at)) (enters types t i is u e) ∙ by (distances_inside types u is)
    where
      by : (o : Option (List ℤ)) → ended inbounds size (pos at) (option_map (λ ds. distance types t i ∷ ds) o) ≡ ended inbounds size (pos next) o
      by None = refl
      by (Some ds) = step_goes inbounds size (pos at) (distance types t i) ds next small inside to

  pub starts_nowhere : stepped inbounds size (pos at +ℤ over types t i) ≡ None → ended inbounds size (pos at) (distances types t (i ∷ is)) ≡ None
  starts_nowhere none = by (distances_inside types t is)
    where
      by : (o : Option (List ℤ)) → ended inbounds size (pos at) (option_map (λ ds. over types t i ∷ ds) o) ≡ None
      by None = refl
      by (Some ds) = step_leaves inbounds size (pos at) (over types t i) ds none

  pub starts : (next : ℕ) → size < 2 ^ 64 → (inbounds ≡ true → is_past size (pos at) ≡ false) → stepped inbounds size (pos at +ℤ over types t i) ≡ Some next
      → ended inbounds size (pos at) (distances types t (i ∷ is)) ≡ ended inbounds size (pos next) (distances_inside types t is)
  starts next small inside to = by (distances_inside types t is)
    where
      by : (o : Option (List ℤ)) → ended inbounds size (pos at) (option_map (λ ds. over types t i ∷ ds) o) ≡ ended inbounds size (pos next) o
      by None = refl
      by (Some ds) = step_goes inbounds size (pos at) (over types t i) ds next small inside to

-- ---- a loop over the indices, from one place on

-- behind the last index
pub walk_done : (types : List NamedTy) (t : Ty) (inbounds : Bool) (size at k : ℕ) (is : List GivenIndex) (to : Option ℕ) → length is ≤ k → at < 2 ^ 64
    → (inbounds ≡ true → is_past size (pos at) ≡ false) → ended inbounds size (pos at) (distances_inside types t (drop k is)) ≡ to → Some at ≡ to
walk_done types t inbounds size at k is to past small inside leads =
    sym (here inbounds inside) ∙ sym (ap (λ xs. ended inbounds size (pos at) (distances_inside types t xs)) (drop_past is k past)) ∙ leads
  where
    here : (b : Bool) → (b ≡ true → is_past size (pos at) ≡ false) → ended b size (pos at) (distances_inside types t []) ≡ Some at
    here true inside = ap (λ p. cond p None (Some (modulo 64 (pos at)))) (inside refl) ∙ ap Some (mod-eq_of_lt small)
    here false inside = ap Some (mod-eq_of_lt small)

module _ (types : List NamedTy) (t u : Ty) (inbounds : Bool) (size at k : ℕ) (is : List GivenIndex) (i : GivenIndex) (to : Option ℕ) (there : Some i ≡ slice_get is k)
    (enters : entered types t (told_index i) ≡ Some u) where
  split : drop k is ≡ i ∷ drop (suc k) is
  split = drop_there is k i there

  later : drop (suc k) is ≡ drop (k + 1) is
  later = ap (λ n. drop n is) (sym (add-one k))

  pub walk_ends : ended inbounds size (pos at) (distances_inside types t (drop k is)) ≡ to → stepped inbounds size (pos at +ℤ distance types t i) ≡ None → None ≡ to
  walk_ends leads none =
      sym (ap (λ xs. ended inbounds size (pos at) (distances_inside types t xs)) split ∙ goes_nowhere types t inbounds size at i (drop (suc k) is) u enters none) ∙ leads

  pub walk_goes : (next : ℕ) → size < 2 ^ 64 → (inbounds ≡ true → is_past size (pos at) ≡ false) → ended inbounds size (pos at) (distances_inside types t (drop k is)) ≡ to
      → stepped inbounds size (pos at +ℤ distance types t i) ≡ Some next → ended inbounds size (pos next) (distances_inside types u (drop (k + 1) is)) ≡ to
  walk_goes next small inside leads gone =
      sym (ap (λ xs. ended inbounds size (pos at) (distances_inside types t xs)) split
      ∙ goes types t inbounds size at i (drop (suc k) is) u next enters small inside gone
      ∙ ap (λ xs. ended inbounds size (pos next) (distances_inside types u xs)) later)
      ∙ leads

  parts : AllByRecursion (IsSmall types) (entered_along types t (map told_index (drop k is))) → AllByRecursion (IsSmall types) (u ∷ entered_along types u (map told_index (drop (k + 1) is)))
  parts h =
      subst (λ xs. AllByRecursion (IsSmall types) (u ∷ entered_along types u (map told_index xs))) later
      (subst (λ (o : Option Ty). AllByRecursion (IsSmall types) (entered_behind (λ v. entered_along types v (map told_index (drop (suc k) is))) o)) enters
      (subst (λ xs. AllByRecursion (IsSmall types) (entered_along types t (map told_index xs))) split h))

  pub walk_small : AllByRecursion (IsSmall types) (entered_along types t (map told_index (drop k is))) → IsSmall types u
  walk_small h = (parts h).0

  pub walk_parts : AllByRecursion (IsSmall types) (entered_along types t (map told_index (drop k is))) → AllByRecursion (IsSmall types) (entered_along types u (map told_index (drop (k + 1) is)))
  walk_parts h = (parts h).1

  pub walk_indices : AllByRecursion IsIndex (drop k is) → AllByRecursion IsIndex (drop (k + 1) is)
  walk_indices h = subst (AllByRecursion IsIndex) later (subst (AllByRecursion IsIndex) split h).1

  pub walk_numbers : list_all (λ i. is_some (as_number i.1)) (drop k is) ≡ true → list_all (λ i. is_some (as_number i.1)) (drop (k + 1) is) ≡ true
  walk_numbers h =
      subst (λ xs. list_all (λ i. is_some (as_number i.1)) xs ≡ true) later
      (right_true (is_some (as_number i.1)) (list_all (λ i. is_some (as_number i.1)) (drop (suc k) is)) (subst (λ xs. list_all (λ i. is_some (as_number i.1)) xs ≡ true) split h))

-- the first index of some
pub first_goes : (types : List NamedTy) (of : Ty) (inbounds : Bool) (size at next : ℕ) (i : GivenIndex) (is all : List GivenIndex) (to : Option ℕ) → all ≡ i ∷ is → size < 2 ^ 64
    → (inbounds ≡ true → is_past size (pos at) ≡ false) → stepped inbounds size (pos at +ℤ over types of i) ≡ Some next
    → to ≡ ended inbounds size (pos next) (distances_inside types of is) → to ≡ ended inbounds size (pos at) (distances types of all)
first_goes types of inbounds size at next i is all to whole small inside gone leads =
    leads ∙ sym (starts types of inbounds size at i is next small inside gone) ∙ sym (ap (λ xs. ended inbounds size (pos at) (distances types of xs)) whole)

pub first_stops : (types : List NamedTy) (of : Ty) (inbounds : Bool) (size at : ℕ) (i : GivenIndex) (is all : List GivenIndex) → all ≡ i ∷ is
    → stepped inbounds size (pos at +ℤ over types of i) ≡ None → None ≡ ended inbounds size (pos at) (distances types of all)
first_stops types of inbounds size at i is all whole none =
    sym (starts_nowhere types of inbounds size at i is none) ∙ sym (ap (λ xs. ended inbounds size (pos at) (distances types of xs)) whole)

-- ---- from a base, where all indices are numbers

abbrev pub moved_to : (ℕ → Value) → Option ℕ → Value
moved_to f None = Poison
moved_to f (Some at) = f at

module _ (inbounds : Bool) (size : ℕ) (is : List GivenIndex) (numbers : list_all (λ i. is_some (as_number i.1)) is ≡ true) where
  by_numbers : (base : Value) (ds : List ℤ) → led_address inbounds base size is (Some ds) ≡ moved_address inbounds base size ds
  by_numbers base ds = ap (λ t. cond t (moved_address inbounds base size ds) (undef_inside inbounds)) numbers

  ended_word : (b : ℕ) (o z : ℤ) (ds : List ℤ) → o ≡ z → (t : Bool) → (inbounds && leaves size o ds) ≡ t
      → moved_to (λ at. Ptr b (cast_signed w64 at)) (cond t None (Some (modulo 64 (moved_by o ds)))) ≡ cond t Poison (Ptr b (wrapped (moved_by o ds)))
  ended_word b o z ds e true is = refl
  ended_word b o z ds e false is = refl

  -- an offset inside its block, or any without `inbounds`, moves as its word does
  pub from_block : (b : ℕ) (o : ℤ) (given : Option (List ℤ)) → size < 2 ^ 64 → (inbounds ≡ true → is_past size o ≡ false)
      → moved_to (λ at. Ptr b (cast_signed w64 at)) (ended inbounds size (pos (modulo 64 o)) given) ≡ led_address inbounds (Ptr b o) size is given
  from_block b o None small inside = refl
  from_block b o (Some ds) small inside = by inbounds refl ∙ sym (by_numbers (Ptr b o) ds)
    where
      by : (t : Bool) → inbounds ≡ t → moved_to (λ at. Ptr b (cast_signed w64 at)) (ended_at inbounds size (pos (modulo 64 o)) ds) ≡ moved_address inbounds (Ptr b o) size ds
      by true e =
          let here : o ≡ pos (modulo 64 o) = inside_is size o small (inside e) in
          ap (λ z. moved_to (λ at. Ptr b (cast_signed w64 at)) (ended_at inbounds size z ds)) (sym here) ∙ ended_word b o o ds refl (inbounds && leaves size o ds) refl
      by false e =
          ap (λ t. moved_to (λ at. Ptr b (cast_signed w64 at)) (ended_at t size (pos (modulo 64 o)) ds)) e
          ∙ ap (λ n. Ptr b (cast_signed w64 n)) (moved_same (pos (modulo 64 o)) o ds (word_again o))
          ∙ sym (ap (λ t. moved_address t (Ptr b o) size ds) e)

  pub from_outside : (b : ℕ) (o : ℤ) (given : Option (List ℤ)) → (inbounds && is_past size o) ≡ true → Poison ≡ led_address inbounds (Ptr b o) size is given
  from_outside b o None past = refl
  from_outside b o (Some ds) past =
      sym (by_numbers (Ptr b o) ds ∙ ap (λ t. cond t Poison (Ptr b (wrapped (moved_by o ds))))
      (all_true (left_true inbounds (is_past size o) past) (past_leaves size o ds (right_true inbounds (is_past size o) past))))

  pub from_bare : (a : ℕ) (given : Option (List ℤ)) → inbounds ≡ false → moved_to Bare (ended false size (pos a) given) ≡ led_address inbounds (Bare a) size is given
  from_bare a None none = refl
  from_bare a (Some ds) none = sym (by_numbers (Bare a) ds ∙ ap (λ t. cond t Poison (Bare (modulo 64 (moved_by (pos a) ds)))) none)
