-- What is kept beside the names, name by name and round by round.
use Rattle.std.proofs.Common.{◌≡◌, ◌∙◌, ◌<◌, ◌≤◌, ◌+◌, ◌-◌, ◌⊎◌, ℕ, zero, suc, Bool, true, false, cond, List, [], ◌∷◌, length, take, drop, get_or, map, ◌++◌, ◌||◌, Option, None, Some, refl, sym, ap, subst, inl, inr, arith}
use Rattle.std.proofs.lemmas.List.{drop_more, take_more}
use Rattle.std.specs.Option.{is_some, option_map, option_and_then}
use Rattle.ir_types.specs.declared.layout.Layout.{Layout}
use Rattle.ir_types.specs.declared.named.NamedTy.{NamedTy}
use Rattle.ir_types.specs.declared.names.Name.{Name}
use Rattle.ir_types.specs.declared.ty.Ty.{Ty, Struct}
use Rattle.ir_types.specs.Kept.{capped, capped_by, capped_fields, and_value, flattened, struct_kept, ArePartlyKept, AreKept, AlignsArePositive, IsOneMore, IsClosed, AreClosed, one_where_none, missing_of}
use Rattle.ir_types.specs.Layout.{layout_by, of_struct, all_of}
use Rattle.ir_types.specs.Named.{fields_of, knows_type, layout_of_name, found_in}
use Rattle.ir_types.specs.NameLaws.{same_name_true, same_name_refl}
use Rattle.ir_types.specs.Same.{same_name}
use Rattle.ir_types.proofs.Capping.{is_kept, kept_struct}
use Rattle.ir_types.proofs.Found.{split, struct_by, struct_below, all_found}
use Rattle.ir_types.proofs.Monotone.{AreBelow}
use Rattle.ir_types.proofs.Rounds.{are_found, names_are_structs}

-- ---- names are the same either way

one_way : (a b : Name) → same_name a b ≡ true → same_name b a ≡ true
one_way a b e = subst (λ c. same_name c a ≡ true) (same_name_true a b e) (same_name_refl a)

pub turned : (a b : Name) → same_name a b ≡ same_name b a
turned a b = elim (split (same_name a b)) [
  | inl same ↦ same ∙ sym (one_way a b same)
  | inr other ↦ elim (split (same_name b a)) [ inl same ↦ (let also : same_name a b ≡ true = one_way b a same in cc) | inr also ↦ other ∙ sym also ]
]

-- ---- the fields of each name

flat_and : (b : Bool) (value : Option (List Ty)) (rest : Option (Option (List Ty))) → flattened (cond b (Some value) rest) ≡ cond b value (flattened rest)
flat_and true value rest = refl
flat_and false value rest = refl

pub fields_put : (types : List NamedTy) (left at : ℕ) (named : NamedTy) (key : Name) (value : Option (List Ty)) (old new : Name → Option (Option (List Ty))) →
    left ≤ length types → at ≡ left - 1 → 0 < left → named ≡ get_or types at named → key ≡ named.name → value ≡ named.fields →
    ((x : Name) → flattened (old x) ≡ fields_of (drop left types) x) → ((x : Name) → new x ≡ and_value key value old x) →
    (x : Name) → flattened (new x) ≡ fields_of (drop at types) x
fields_put types left at named key value old new within is some there keys fields before put x =
    let next : at + 1 ≡ left = omega arith in
    let parts : drop at types ≡ named ∷ drop left types =
    drop_more types at named (omega arith) ∙ ap (λ t. t ∷ drop (at + 1) types) (sym there) ∙ ap (λ n. named ∷ drop n types) next in
    ap flattened (put x) ∙ flat_and (same_name x key) value (old x)
    ∙ ap (λ k. cond (same_name x k) value (flattened (old x))) keys
    ∙ ap (λ v. cond (same_name x named.name) v (flattened (old x))) fields
    ∙ ap (λ b. cond b named.fields (flattened (old x))) (turned x named.name)
    ∙ ap (cond (same_name named.name x) named.fields) (before x)
    ∙ sym (ap (λ ts. fields_of ts x) parts)

some_and : (b : Bool) (value : Option (List Ty)) (rest : Option (Option (List Ty))) → is_some (cond b (Some value) rest) ≡ (b || is_some rest)
some_and true value rest = refl
some_and false value rest = refl

pub name_put : (types : List NamedTy) (left at : ℕ) (named : NamedTy) (key : Name) (value : Option (List Ty)) (old new : Name → Option (Option (List Ty))) →
    left ≤ length types → at ≡ left - 1 → 0 < left → named ≡ get_or types at named → key ≡ named.name →
    ((x : Name) → is_some (old x) ≡ knows_type (drop left types) x) → ((x : Name) → new x ≡ and_value key value old x) →
    (x : Name) → is_some (new x) ≡ knows_type (drop at types) x
name_put types left at named key value old new within is some there keys before put x =
    let next : at + 1 ≡ left = omega arith in
    let parts : drop at types ≡ named ∷ drop left types =
    drop_more types at named (omega arith) ∙ ap (λ t. t ∷ drop (at + 1) types) (sym there) ∙ ap (λ n. named ∷ drop n types) next in
    ap is_some (put x) ∙ some_and (same_name x key) value (old x)
    ∙ ap (λ k. same_name x k || is_some (old x)) keys
    ∙ ap (λ b. b || is_some (old x)) (turned x named.name)
    ∙ ap (λ b. same_name named.name x || b) (before x)
    ∙ sym (ap (λ ts. knows_type ts x) parts)

-- ---- what is kept of a struct

in_turn : (o : Option (List Layout)) → option_map (λ ls. capped (of_struct ls)) o ≡ option_map capped (option_map of_struct o)
in_turn None = refl
in_turn (Some ls) = refl

fields_are : (f : Name → Option Layout) (ts : List Ty) → capped_fields f ts ≡ capped_by f (Struct ts)
fields_are f ts = in_turn (all_of (map (capped_by f) ts)) ∙ sym (kept_struct f ts)

-- ---- what is kept of some names

abbrev where_some : Option Layout → Option Layout → Option Layout
where_some None known = None
where_some (Some kept) known = known

module _ (types : List NamedTy) (f : Name → Option Layout) (partly : ArePartlyKept types f) where
  abbrev g : Name → Option Layout
  g = layout_of_name (found_in types)

  -- the layouts of the names that are kept
  abbrev h : Name → Option Layout
  h x = where_some (f x) (g x)

  kept_of_some : (x : Name) (known : Option Layout) → f x ≡ known → known ≡ option_map capped (where_some known (g x))
  kept_of_some x None e = refl
  kept_of_some x (Some l) e = sym (partly x l e)

  is_of_some : (x : Name) → f x ≡ option_map capped (h x)
  is_of_some x = kept_of_some x (f x) refl

  some_below : (x : Name) (known : Option Layout) (l : Layout) → where_some known (g x) ≡ Some l → g x ≡ Some l
  some_below x None l e = cc
  some_below x (Some k) l e = e

  below : AreBelow h g
  below x l e = some_below x (f x) l e

  chained : (fs : Option (List Ty)) → option_and_then (capped_fields f) fs ≡ option_map capped (option_and_then (λ fields. layout_by h (Struct fields)) fs)
  chained None = refl
  chained (Some fields) = fields_are f fields ∙ is_kept f h is_of_some (Struct fields)

  struct_is : (fields : Name → Option (List Ty)) → ((x : Name) → fields x ≡ fields_of types x) → (x : Name) → struct_kept fields f x ≡ option_map capped (struct_by types h x)
  struct_is fields are x = ap (option_and_then (capped_fields f)) (are x) ∙ chained (fields_of types x)

  one_kept : (x : Name) (l : Layout) (by_h : Option Layout) → struct_by types h x ≡ by_h → option_map capped by_h ≡ Some l → option_map capped (g x) ≡ Some l
  one_kept x l None e p = cc
  one_kept x l (Some m) e p = ap (option_map capped) (names_are_structs types x ∙ struct_below types h g below x m e) ∙ p

  at_name : (x y : Name) (l m : Layout) → option_map capped (g x) ≡ Some l → cond (same_name y x) (Some l) (f y) ≡ Some m → option_map capped (g y) ≡ Some m
  at_name x y l m is e = elim (split (same_name y x)) [
    | inl same ↦ (let own : y ≡ x = same_name_true y x same in
        let value : Some l ≡ Some m = sym (ap (λ b. cond b (Some l) (f y)) same) ∙ e in
        subst (λ z. option_map capped (g z) ≡ Some m) (sym own) (is ∙ value))
    | inr other ↦ partly y m (sym (ap (λ b. cond b (Some l) (f y)) other) ∙ e)
  ]

  -- one name more is still kept rightly
  pub more_kept : (fields : Name → Option (List Ty)) → ((x : Name) → fields x ≡ fields_of types x) → (new : Name → Option Layout) (x : Name) →
      IsOneMore fields f new x → ArePartlyKept types new
  more_kept fields are new x more y m e =
      let is : option_map capped (g x) ≡ Some more.layout =
      one_kept x more.layout (struct_by types h x) refl (sym (struct_is fields are x) ∙ more.is_struct) in
      at_name x y more.layout m is (sym (more.is_put y) ∙ e)

  -- ---- where no name more can be kept, all are

  none_of : (by_h : Option Layout) → option_map capped by_h ≡ None → by_h ≡ None
  none_of None e = refl
  none_of (Some l) e = cc

  closed_where : (fields : Name → Option (List Ty)) → ((x : Name) → fields x ≡ fields_of types x) → (x : Name) → IsClosed fields f x →
      (known : Option Layout) → f x ≡ known → h x ≡ None → struct_by types h x ≡ None
  closed_where fields are x closed None e none = none_of (struct_by types h x) (sym (struct_is fields are x) ∙ closed e)
  closed_where fields are x closed (Some l) e none =
      let not : g x ≡ None = sym (ap (λ k. where_some k (g x)) e) ∙ none in
      let some : option_map capped (g x) ≡ Some l = partly x l e in
      let also : option_map capped (g x) ≡ None = ap (option_map capped) not in
      cc

  none_where : (x : Name) → g x ≡ None → (known : Option Layout) → h x ≡ known → h x ≡ None
  none_where x none None e = e
  none_where x none (Some l) e = let some : g x ≡ Some l = below x l e in cc

  equal : (x : Name) → AreBelow g h → (known : Option Layout) → g x ≡ known → h x ≡ known
  equal x all (Some l) e = all x l e
  equal x all None e = none_where x e (h x) refl

  pub all_kept : (fields : Name → Option (List Ty)) → ((x : Name) → fields x ≡ fields_of types x) → ((x : Name) → IsClosed fields f x) → AreKept types f
  all_kept fields are closed x =
      let all : AreBelow g h = all_found types g h below (names_are_structs types)
      (λ y none. closed_where fields are y (closed y) (f y) refl none) (found_in types) (are_found types) in
      is_of_some x ∙ ap (option_map capped) (equal x all (g x) refl)

-- ---- rounds

no_fields : (fields : Name → Option (List Ty)) (f : Name → Option Layout) (x : Name) (ts : List NamedTy) → AreClosed fields f ts → (fields_of ts x ≡ None) ⊎ IsClosed fields f x
no_fields fields f x [] closed = inl refl
no_fields fields f x (t ∷ ts) closed = elim (split (same_name t.name x)) [
  | inl same ↦ inr (subst (IsClosed fields f) (same_name_true t.name x same) closed.0)
  | inr other ↦ elim (no_fields fields f x ts closed.1) [
    | inl none ↦ inl (ap (λ b. cond b t.fields (fields_of ts x)) other ∙ none)
    | inr is ↦ inr is
  ]
]

pub closed_everywhere : (types : List NamedTy) (fields : Name → Option (List Ty)) (f : Name → Option Layout) → ((x : Name) → fields x ≡ fields_of types x) →
    AreClosed fields f types → (x : Name) → IsClosed fields f x
closed_everywhere types fields f are closed x = elim (no_fields fields f x types closed) [
  | inl none ↦ (λ new. ap (option_and_then (capped_fields f)) (are x ∙ none))
  | inr is ↦ is
]

pub all_closed : (types : List NamedTy) (fields : Name → Option (List Ty)) (f : Name → Option Layout) → ((x : Name) → fields x ≡ fields_of types x) →
    ArePartlyKept types f → AreClosed fields f types → AreKept types f
all_closed types fields f are partly closed = all_kept types f partly fields are (closed_everywhere types fields f are closed)

module _ (fields : Name → Option (List Ty)) (old new : Name → Option Layout) (x : Name) (more : IsOneMore fields old new x) where
  now_kept : (y : Name) → same_name y x ≡ true → new y ≡ Some more.layout
  now_kept y same = more.is_put y ∙ ap (λ b. cond b (Some more.layout) (old y)) same

  one_at_most : (y : Name) → one_where_none (new y) ≤ one_where_none (old y)
  one_at_most y = elim (split (same_name y x)) [
    | inl same ↦ (let none : one_where_none (new y) ≡ 0 = ap one_where_none (now_kept y same) in omega arith)
    | inr other ↦ (let as_before : one_where_none (new y) ≡ one_where_none (old y) =
        ap one_where_none (more.is_put y ∙ ap (λ b. cond b (Some more.layout) (old y)) other) in omega arith)
  ]

  at_most : (ts : List NamedTy) → missing_of new ts ≤ missing_of old ts
  at_most [] = omega arith
  at_most (t ∷ ts) = omega (arith, one_at_most t.name, at_most ts)

  pub fewer : (ts : List NamedTy) (i : ℕ) (t : NamedTy) → i < length ts → t ≡ get_or ts i t → t.name ≡ x → missing_of new ts < missing_of old ts
  fewer [] i t inside is own = absurd (omega arith)
  fewer (u ∷ ts) zero t inside is own =
      let name : u.name ≡ x = sym (ap (λ (v : NamedTy). v.name) is) ∙ own in
      let same : same_name u.name x ≡ true = subst (λ z. same_name u.name z ≡ true) name (same_name_refl u.name) in
      let now : one_where_none (new u.name) ≡ 0 = ap one_where_none (now_kept u.name same) in
      let before : one_where_none (old u.name) ≡ 1 = ap one_where_none (subst (λ z. old z ≡ None) (sym name) more.is_new) in
      omega (arith, at_most ts)
  fewer (u ∷ ts) (suc i) t inside is own = omega (arith, one_at_most u.name, fewer ts i t (omega arith) is own)

-- how far a round is, of the names that were kept before it
pub record IsRound (types : List NamedTy) (fields : Name → Option (List Ty)) (before now : Name → Option Layout) (more : Bool) (i : ℕ) : Type 0 where
  pub positive : AlignsArePositive now
  pub partly : ArePartlyKept types now
  pub at_most : missing_of now types ≤ missing_of before types
  pub fewer : more ≡ true → missing_of now types < missing_of before types
  pub closed : more ≡ false → AreClosed fields now (take i types)

closed_behind : (fields : Name → Option (List Ty)) (f : Name → Option Layout) (ts : List NamedTy) (t : NamedTy) → AreClosed fields f ts → IsClosed fields f t.name →
    AreClosed fields f (ts ++ (t ∷ []))
closed_behind fields f [] t all one = (one, tt)
closed_behind fields f (u ∷ ts) t all one = (all.0, closed_behind fields f ts t all.1 one)

either_false : (more : Bool) → (more || false) ≡ more
either_false true = refl
either_false false = refl

either_true : (more : Bool) → (more || true) ≡ true
either_true true = refl
either_true false = refl

module _ (types : List NamedTy) (fields : Name → Option (List Ty)) (are : (x : Name) → fields x ≡ fields_of types x) (before now new : Name → Option Layout)
    (more : Bool) (i : ℕ) (t : NamedTy) (inside : i < length types) (is : t ≡ get_or types i t) (so_far : IsRound types fields before now more i) where
  found_one : AlignsArePositive new → IsOneMore fields now new t.name → IsRound types fields before new (more || true) (i + 1)
  found_one positive one = record {
    positive = positive;
    partly = more_kept types now so_far.partly fields are new t.name one;
    at_most = (let less = fewer fields now new t.name one types i t inside is refl in let most = so_far.at_most in omega arith);
    fewer = λ e. (let less = fewer fields now new t.name one types i t inside is refl in let most = so_far.at_most in omega arith);
    closed = λ e. (let true_of = either_true more in cc);
  }

  found_none : now ≡ new → IsClosed fields now t.name → IsRound types fields before new (more || false) (i + 1)
  found_none one closed = subst (λ f. IsRound types fields before f (more || false) (i + 1)) one (record {
    positive = so_far.positive;
    partly = so_far.partly;
    at_most = so_far.at_most;
    fewer = λ e. so_far.fewer (sym (either_false more) ∙ e);
    closed = λ e. subst (AreClosed fields now) (sym (take_more types i t inside ∙ ap (λ u. take i types ++ (u ∷ [])) (sym is)))
        (closed_behind fields now (take i types) t (so_far.closed (sym (either_false more) ∙ e)) closed);
  })

  pub round_step : (one : Bool) → AlignsArePositive new → (one ≡ true → IsOneMore fields now new t.name) → (one ≡ false → now ≡ new) →
      (one ≡ false → IsClosed fields now t.name) → IsRound types fields before new (more || one) (i + 1)
  round_step true positive found same closed = found_one positive (found refl)
  round_step false positive found same closed = found_none (same refl) (closed refl)

-- after a name, whether it was kept or not
pub partly_after : (types : List NamedTy) (fields : Name → Option (List Ty)) → ((x : Name) → fields x ≡ fields_of types x) → (now new : Name → Option Layout) (x : Name) →
    ArePartlyKept types now → (one : Bool) → (one ≡ true → IsOneMore fields now new x) → (one ≡ false → now ≡ new) → ArePartlyKept types new
partly_after types fields are now new x partly true found same = more_kept types now partly fields are new x (found refl)
partly_after types fields are now new x partly false found same = subst (ArePartlyKept types) (same refl) partly
