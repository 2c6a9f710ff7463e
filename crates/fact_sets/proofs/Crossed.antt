-- Registers that may differ behind an edge, and how they are kept in four parts.
use Rattle.std.proofs.Common.{◌≡◌, ◌∙◌, Bool, true, false, ◌||◌, cond, not, filter, map, List, [], ◌∷◌, ◌++◌, ◌==◌, length, append_assoc, refl, sym, ap, ap₂, arith}
use Rattle.std.proofs.lemmas.List.{append-nil, map-append}
use Rattle.std.proofs.lemmas.List.Elements.{filter-append}
use Rattle.std.proofs.lemmas.List.Folds.{list_any-append}
use Rattle.std.proofs.lemmas.Map.Views.{exact_unsigned_eq}
use Rattle.std.specs.List.{list_any}
use Rattle.ir_types.specs.declared.names.Name.{Name}
use Rattle.ir_types.specs.Same.{same_name}
use Rattle.ir_core.specs.declared.expressions.Reg.{Reg}
use Rattle.ir_core.specs.declared.expressions.Reg.TheVariants.{Now, Old, Ghost}
use Rattle.ir_core.specs.Same.{same_reg}
use Rattle.erhl_assert.specs.Edges.{is_old, old_of, old_too}
use Rattle.erhl_assert.specs.Sides.{has_reg}
use Rattle.erhl_assert.specs.Postcondition.{without_reg}
use Rattle.fact_sets.specs.ErhlSides.Differing.{is_left_over}
use Rattle.fact_sets.specs.Places.{is_ghost}

abbrev young : Reg → Bool
young r = not (is_old r)

module _ (r : Reg) (all : List Reg) where
  pub young_put : is_old r ≡ false → all ++ r ∷ [] ≡ all ++ filter (λ s. not (is_old s)) (r ∷ [])
  young_put h = ap (λ b. all ++ cond (not b) (r ∷ []) []) (sym h)

  pub old_not_put : is_old r ≡ true → all ≡ all ++ filter (λ s. not (is_old s)) (r ∷ [])
  old_not_put h = sym (append-nil all) ∙ ap (λ b. all ++ cond (not b) (r ∷ []) []) (sym h)

pub young_on : (r : Reg) (rs all after total : List Reg) → after ≡ all ++ filter (λ s. not (is_old s)) (r ∷ []) → all ++ filter (λ s. not (is_old s)) (r ∷ rs) ≡ total
    → after ++ filter (λ s. not (is_old s)) rs ≡ total
young_on r rs all after total h so_far =
    ap (λ xs. xs ++ filter young rs) h ∙ append_assoc all (filter young (r ∷ [])) (filter young rs) ∙ ap (λ xs. all ++ xs) (sym (filter-append young (r ∷ []) rs)) ∙ so_far

-- ---- registers as they were before an edge
pub has_no_now : (x : Name) (rs : List Reg) → has_reg (Now x) (map old_of rs) ≡ false
has_no_now x [] = refl
has_no_now x (Now y ∷ rs) = has_no_now x rs
has_no_now x (Old y ∷ rs) = has_no_now x rs
has_no_now x (Ghost y ∷ rs) = has_no_now x rs

or_along : (a b c : Bool) → ((a || b) || c) ≡ (a || (b || c))
or_along true b c = refl
or_along false b c = refl

or_between : (a b c : Bool) → (b || (a || c)) ≡ (a || (b || c))
or_between true true c = refl
or_between true false c = refl
or_between false true c = refl
or_between false false c = refl

pub has_as_old : (x : Name) (rs : List Reg) → (has_reg (Now x) rs || has_reg (Old x) rs) ≡ has_reg (Old x) (map old_of rs)
has_as_old x [] = refl
has_as_old x (Now y ∷ rs) = or_along (same_name x y) (has_reg (Now x) rs) (has_reg (Old x) rs) ∙ ap (λ b. same_name x y || b) (has_as_old x rs)
has_as_old x (Old y ∷ rs) = or_between (same_name x y) (has_reg (Now x) rs) (has_reg (Old x) rs) ∙ ap (λ b. same_name x y || b) (has_as_old x rs)
has_as_old x (Ghost y ∷ rs) = has_as_old x rs

pub is_as_old : (x : Name) (rs : List Reg) (r : Reg) (b : Bool) → r ≡ Old x → b ≡ has_reg (Now x) rs → b ≡ true → b ≡ has_reg r (map old_of rs)
is_as_old x rs r b e h passes =
    passes ∙ ap (λ c. c || has_reg (Old x) rs) (sym passes ∙ h) ∙ has_as_old x rs ∙ ap (λ s. has_reg s (map old_of rs)) (sym e)

pub is_old_yet : (x : Name) (rs : List Reg) (r : Reg) (a b : Bool) → r ≡ Old x → a ≡ has_reg (Now x) rs → a ≡ false → b ≡ has_reg r rs → b ≡ has_reg r (map old_of rs)
is_old_yet x rs r a b e h fails k =
    k ∙ ap (λ s. has_reg s rs) e ∙ ap (λ c. c || has_reg (Old x) rs) (sym fails ∙ h) ∙ has_as_old x rs ∙ ap (λ s. has_reg s (map old_of rs)) (sym e)

pub has_ghost : (x : Name) (rs : List Reg) → has_reg (Ghost x) rs ≡ has_reg (Ghost x) (map old_of rs)
has_ghost x [] = refl
has_ghost x (Now y ∷ rs) = has_ghost x rs
has_ghost x (Old y ∷ rs) = has_ghost x rs
has_ghost x (Ghost y ∷ rs) = ap (λ b. same_name x y || b) (has_ghost x rs)

pub now_stays : (x : Name) (rs : List Reg) → map old_of rs ≡ without_reg (Now x) (map old_of rs)
now_stays x [] = refl
now_stays x (Now y ∷ rs) = ap (λ (ss : List Reg). Old y ∷ ss) (now_stays x rs)
now_stays x (Old y ∷ rs) = ap (λ (ss : List Reg). Old y ∷ ss) (now_stays x rs)
now_stays x (Ghost y ∷ rs) = ap (λ (ss : List Reg). Ghost y ∷ ss) (now_stays x rs)

keep_or_not : (b : Bool) (r : Reg) (rs ss : List Reg) → map old_of rs ≡ ss → map old_of (cond b (r ∷ rs) rs) ≡ cond b (old_of r ∷ ss) ss
keep_or_not true r rs ss e = ap (λ (ts : List Reg). old_of r ∷ ts) e
keep_or_not false r rs ss e = e

pub old_leaves : (x : Name) (rs : List Reg) → map old_of (without_reg (Old x) (without_reg (Now x) rs)) ≡ without_reg (Old x) (map old_of rs)
old_leaves x [] = refl
old_leaves x (Now y ∷ rs) =
    elim (same_name x y) as (λ b. map old_of (without_reg (Old x) (cond (not b) (Now y ∷ without_reg (Now x) rs) (without_reg (Now x) rs))) ≡ cond (not b) (Old y ∷ without_reg (Old x) (map old_of rs)) (without_reg (Old x) (map old_of rs))) [
      | true ↦ old_leaves x rs
      | false ↦ ap (λ (ts : List Reg). Old y ∷ ts) (old_leaves x rs)
    ]
old_leaves x (Old y ∷ rs) = keep_or_not (not (same_name x y)) (Old y) (without_reg (Old x) (without_reg (Now x) rs)) (without_reg (Old x) (map old_of rs)) (old_leaves x rs)
old_leaves x (Ghost y ∷ rs) = ap (λ (ts : List Reg). Ghost y ∷ ts) (old_leaves x rs)

pub ghost_leaves : (x : Name) (rs : List Reg) → map old_of (without_reg (Ghost x) rs) ≡ without_reg (Ghost x) (map old_of rs)
ghost_leaves x [] = refl
ghost_leaves x (Now y ∷ rs) = ap (λ (ts : List Reg). Old y ∷ ts) (ghost_leaves x rs)
ghost_leaves x (Old y ∷ rs) = ap (λ (ts : List Reg). Old y ∷ ts) (ghost_leaves x rs)
ghost_leaves x (Ghost y ∷ rs) = keep_or_not (not (same_name x y)) (Ghost y) (without_reg (Ghost x) rs) (without_reg (Ghost x) (map old_of rs)) (ghost_leaves x rs)

or_false : (a b : Bool) → a ≡ false → b ≡ false → (a || b) ≡ false
or_false a b e f = ap₂ ◌||◌ e f

or_left : (a b : Bool) → (a || b) ≡ false → a ≡ false
or_left true b e = absurd (cc)
or_left false b e = refl

or_right : (a b : Bool) → (a || b) ≡ false → b ≡ false
or_right true b e = absurd (cc)
or_right false b e = e

module _ (wanted : List Reg) where
  pub none_before_over : (rs : List Reg) → list_any is_ghost rs ≡ false → list_any (is_left_over wanted) (map old_of rs) ≡ false
  none_before_over [] h = refl
  none_before_over (Now y ∷ rs) h = none_before_over rs h
  none_before_over (Old y ∷ rs) h = none_before_over rs h
  none_before_over (Ghost y ∷ rs) h = absurd (cc)

  pub none_over_before : (rs : List Reg) → list_any (is_left_over wanted) rs ≡ false → list_any (is_left_over wanted) (map old_of rs) ≡ false
  none_over_before [] h = refl
  none_over_before (Now y ∷ rs) h = none_over_before rs (or_right (is_left_over wanted (Now y)) (list_any (is_left_over wanted) rs) h)
  none_over_before (Old y ∷ rs) h = none_over_before rs h
  none_over_before (Ghost y ∷ rs) h =
      or_false (is_left_over wanted (Ghost y)) (list_any (is_left_over wanted) (map old_of rs))
      (or_left (is_left_over wanted (Ghost y)) (list_any (is_left_over wanted) rs) h)
      (none_over_before rs (or_right (is_left_over wanted (Ghost y)) (list_any (is_left_over wanted) rs) h))

-- ---- four parts
pub kept_alone : (a b c d : List Reg) → b ≡ [] → c ≡ [] → d ≡ [] → a ++ b ++ map old_of c ++ d ≡ a
kept_alone a b c d e f g =
    ap (λ xs. a ++ b ++ map old_of c ++ xs) g ∙ ap (λ xs. a ++ b ++ map old_of xs ++ []) f ∙ ap (λ xs. a ++ xs ++ [] ++ []) e ∙ append-nil (a ++ [] ++ []) ∙ append-nil (a ++ []) ∙ append-nil a

any_in_four : (p : Reg → Bool) (a b c d : List Reg) → list_any p (a ++ b ++ c ++ d) ≡ (((list_any p a || list_any p b) || list_any p c) || list_any p d)
any_in_four p a b c d =
    list_any-append p (a ++ b ++ c) d ∙ ap (λ x. x || list_any p d) (list_any-append p (a ++ b) c ∙ ap (λ x. x || list_any p c) (list_any-append p a b))

pub has_in_four : (r : Reg) (a b c d : List Reg) → has_reg r (a ++ b ++ c ++ d) ≡ (((has_reg r a || has_reg r b) || has_reg r c) || has_reg r d)
has_in_four r a b c d = any_in_four (same_reg r) a b c d

pub has_now_in_three : (x : Name) (a b c d : List Reg) → has_reg (Now x) (a ++ b ++ map old_of c ++ d) ≡ ((has_reg (Now x) a || has_reg (Now x) b) || has_reg (Now x) d)
has_now_in_three x a b c d =
    any_in_four (same_reg (Now x)) a b (map old_of c) d
    ∙ ap (λ y. ((has_reg (Now x) a || has_reg (Now x) b) || y) || has_reg (Now x) d) (has_no_now x c)
    ∙ ap (λ y. y || has_reg (Now x) d) (no_more (has_reg (Now x) a || has_reg (Now x) b))
  where
    no_more : (b : Bool) → (b || false) ≡ b
    no_more true = refl
    no_more false = refl

pub one_behind : (abc d : List Reg) (r : Reg) → abc ++ (d ++ r ∷ []) ≡ (abc ++ d) ++ r ∷ []
one_behind abc d r = sym (append_assoc abc d (r ∷ []))

pub without_in_four : (r : Reg) (a b c d : List Reg) → without_reg r (a ++ b ++ c ++ d) ≡ without_reg r a ++ without_reg r b ++ without_reg r c ++ without_reg r d
without_in_four r a b c d =
    let p : Reg → Bool = λ s. not (same_reg r s) in
    filter-append p (a ++ b ++ c) d ∙ ap (λ xs. xs ++ filter p d) (filter-append p (a ++ b) c ∙ ap (λ xs. xs ++ filter p c) (filter-append p a b))

pub none_over_in_four : (wanted a b c d : List Reg) → list_any (is_left_over wanted) a ≡ false → list_any (is_left_over wanted) b ≡ false → list_any (is_left_over wanted) c ≡ false → list_any (is_left_over wanted) d ≡ false
    → list_any (is_left_over wanted) (a ++ b ++ c ++ d) ≡ false
none_over_in_four wanted a b c d e f g h =
    let p = is_left_over wanted in
    any_in_four p a b c d ∙ or_false _ (list_any p d) (or_false _ (list_any p c) (or_false (list_any p a) (list_any p b) e f) g) h

-- ---- over an edge
all_young : (rs : List Reg) → list_any is_old rs ≡ false → filter young rs ≡ rs
all_young [] h = refl
all_young (r ∷ rs) h =
    ap (λ b. cond (not b) (r ∷ filter young rs) (filter young rs)) (or_left (is_old r) (list_any is_old rs) h)
    ∙ ap (λ (ss : List Reg). r ∷ ss) (all_young rs (or_right (is_old r) (list_any is_old rs) h))

pub kept_over : (set old a b c d : List Reg) → set ≡ a ++ filter (λ r. not (is_old r)) d ++ map old_of a ++ map old_of (filter (λ r. not (is_old r)) d)
    → old ≡ a ++ b ++ map old_of c ++ d → b ≡ [] → c ≡ [] → list_any is_old a ≡ false → set ≡ old_too old
kept_over set old a b c d made e f g h =
    let ds = filter young d in
    let plain : old ≡ a ++ d = e ∙ ap (λ xs. a ++ b ++ map old_of xs ++ d) g ∙ ap (λ xs. a ++ xs ++ [] ++ d) f ∙ ap (λ xs. xs ++ d) (append-nil (a ++ []) ∙ append-nil a) in
    let kept : filter young old ≡ a ++ ds = ap (filter young) plain ∙ filter-append young a d ∙ ap (λ xs. xs ++ ds) (all_young a h) in
    made
    ∙ append_assoc (a ++ ds) (map old_of a) (map old_of ds)
    ∙ ap (λ xs. (a ++ ds) ++ xs) (sym (map-append old_of a ds))
    ∙ ap (λ xs. xs ++ map old_of xs) (sym kept)

pub kept_alone_over : (set kept before rest a b c d old : List Reg)
    → set ≡ kept ++ filter (λ r. not (is_old r)) rest ++ map old_of before ++ map old_of (filter (λ r. not (is_old r)) rest)
    → kept ≡ a → before ≡ a → rest ≡ d → a ++ b ++ map old_of c ++ d ≡ old → b ≡ [] → c ≡ [] → list_any is_old a ≡ false → set ≡ old_too old
kept_alone_over set kept before rest a b c d old made e f g whole none nor h =
    let ys : List Reg → List Reg = λ rs. filter young rs in
    kept_over set old a b c d
    (made
    ∙ ap (λ xs. xs ++ ys rest ++ map old_of before ++ map old_of (ys rest)) e
    ∙ ap (λ xs. a ++ ys rest ++ map old_of xs ++ map old_of (ys rest)) f
    ∙ ap (λ xs. a ++ ys xs ++ map old_of a ++ map old_of (ys xs)) g)
    (sym whole) none nor h

pub is_none : (rs : List Reg) → (length rs == 0) ≡ true → rs ≡ []
is_none [] none = refl
is_none (r ∷ rs) none = let more : length (r ∷ rs) ≡ 0 = exact_unsigned_eq (length (r ∷ rs)) 0 none in absurd (omega arith)

pub all_over : (set old a c : List Reg) → set ≡ a ++ filter (λ r. not (is_old r)) old ++ map old_of c ++ map old_of (filter (λ r. not (is_old r)) old) → a ≡ [] → c ≡ [] → set ≡ old_too old
all_over set old a c made e f =
    let ks = filter young old in
    made ∙ ap (λ xs. xs ++ ks ++ map old_of c ++ map old_of ks) e ∙ ap (λ xs. ks ++ map old_of xs ++ map old_of ks) f ∙ ap (λ xs. xs ++ map old_of ks) (append-nil ks)
