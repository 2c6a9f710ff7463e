-- The names of a list's registers tell of each register whether it is in the list.
use Rattle.std.proofs.Common.{◌≡◌, ◌∙◌, Bool, true, false, ◌||◌, ◌&&◌, cond, not, filter, List, [], ◌∷◌, ◌++◌, refl, sym, ap, ap₂}
use Rattle.std.proofs.lemmas.List.Folds.{list_any-append}
use Rattle.std.specs.List.{list_any}
use Rattle.indexmap.specs.IndexSet.{insert_key}
use Rattle.ir_types.specs.declared.names.Name.{Name}
use Rattle.ir_core.specs.declared.expressions.Reg.{Reg}
use Rattle.ir_core.specs.declared.expressions.Reg.TheVariants.{Now, Old, Ghost}
use Rattle.ir_types.specs.Same.{same_name}
use Rattle.ir_core.specs.Same.{same_reg}
use Rattle.ir_types.specs.NameLaws.{same_name_true}
use Rattle.ir_core.proofs.SameLaws.{same_reg_true}
use Rattle.erhl_assert.specs.Sides.{has_reg}
use Rattle.erhl_assert.specs.Named.{name_of}
use Rattle.erhl_assert.specs.Postcondition.{without_reg}
use Rattle.fact_sets.specs.Names.{Kinds, no_names, of_kind, with_register, without_register, with_registers, AreListed}

or_false : (b : Bool) → (b || false) ≡ b
or_false true = refl
or_false false = refl

or_assoc : (a b c : Bool) → ((a || b) || c) ≡ (a || (b || c))
or_assoc true b c = refl
or_assoc false b c = refl

or_swap : (a b : Bool) → (a || b) ≡ (b || a)
or_swap true true = refl
or_swap true false = refl
or_swap false true = refl
or_swap false false = refl

absorbed : (a b : Bool) → (b ≡ true → a ≡ true) → (a || b) ≡ a
absorbed true b h = refl
absorbed false true h = sym (h refl)
absorbed false false h = refl

-- a name more
any_insert : (n k : Name) (names : List Name) → list_any (same_name n) (insert_key same_name names k) ≡ (list_any (same_name n) names || same_name n k)
any_insert n k names =
    (elim (list_any (same_name k) names) as (λ b. list_any (same_name k) names ≡ b → list_any (same_name n) (cond b names (names ++ k ∷ [])) ≡ (list_any (same_name n) names || same_name n k)) [
      | true ↦ λ e. sym (absorbed (list_any (same_name n) names) (same_name n k) (λ h. ap (λ (m : Name). list_any (same_name m) names) (same_name_true n k h) ∙ e))
      | false ↦ λ e. list_any-append (same_name n) names (k ∷ []) ∙ ap (λ b. list_any (same_name n) names || b) (or_false (same_name n k))
    ]) refl

-- a register more, whether it was there or not
named_more : (r s : Reg) (kinds : Kinds) → list_any (same_name (name_of r)) (of_kind r (with_register s kinds)) ≡ (list_any (same_name (name_of r)) (of_kind r kinds) || same_reg r s)
named_more (Now x) (Now y) kinds = any_insert x y kinds.current
named_more (Old x) (Old y) kinds = any_insert x y kinds.former
named_more (Ghost x) (Ghost y) kinds = any_insert x y kinds.ghosts
named_more (Now x) (Old y) kinds = sym (or_false (list_any (same_name x) kinds.current))
named_more (Now x) (Ghost y) kinds = sym (or_false (list_any (same_name x) kinds.current))
named_more (Old x) (Now y) kinds = sym (or_false (list_any (same_name x) kinds.former))
named_more (Old x) (Ghost y) kinds = sym (or_false (list_any (same_name x) kinds.former))
named_more (Ghost x) (Now y) kinds = sym (or_false (list_any (same_name x) kinds.ghosts))
named_more (Ghost x) (Old y) kinds = sym (or_false (list_any (same_name x) kinds.ghosts))

named_all : (r : Reg) (rs : List Reg) (kinds : Kinds) → list_any (same_name (name_of r)) (of_kind r (with_registers rs kinds)) ≡ (list_any (same_name (name_of r)) (of_kind r kinds) || has_reg r rs)
named_all r [] kinds = sym (or_false (list_any (same_name (name_of r)) (of_kind r kinds)))
named_all r (s ∷ rs) kinds =
    named_all r rs (with_register s kinds)
    ∙ ap (λ b. b || has_reg r rs) (named_more r s kinds)
    ∙ or_assoc (list_any (same_name (name_of r)) (of_kind r kinds)) (same_reg r s) (has_reg r rs)

none_named : (r : Reg) → list_any (same_name (name_of r)) (of_kind r no_names) ≡ false
none_named (Now x) = refl
none_named (Old x) = refl
none_named (Ghost x) = refl

pub all_listed : (kinds : Kinds) (rs : List Reg) → kinds ≡ with_registers rs no_names → AreListed kinds rs
unfolding AreListed
all_listed kinds rs e r =
    sym (ap (λ (k : Kinds). list_any (same_name (name_of r)) (of_kind r k)) e ∙ named_all r rs no_names ∙ ap (λ b. b || has_reg r rs) (none_named r))

pub listed : (kinds : Kinds) (rs : List Reg) (r : Reg) → AreListed kinds rs → list_any (same_name (name_of r)) (of_kind r kinds) ≡ has_reg r rs
unfolding AreListed
listed kinds rs r are = sym (are r)

pub now_listed : (kinds : Kinds) (rs : List Reg) (x : Name) → AreListed kinds rs → list_any (same_name x) kinds.current ≡ has_reg (Now x) rs
unfolding AreListed
now_listed kinds rs x are = sym (are (Now x))

pub one_listed : (kinds : Kinds) (rs : List Reg) (s : Reg) → AreListed kinds rs → AreListed (with_register s kinds) (rs ++ s ∷ [])
unfolding AreListed
one_listed kinds rs s are r =
    list_any-append (same_reg r) rs (s ∷ [])
    ∙ ap₂ ◌||◌ (are r) (or_false (same_reg r s))
    ∙ sym (named_more r s kinds)

-- a register less
never : (b : Bool) → (b ≡ true → true ≡ false) → b ≡ false
never true h = h refl
never false h = refl

and_false : (b : Bool) → (b && false) ≡ false
and_false true = refl
and_false false = refl

and_true : (b : Bool) → (b && true) ≡ b
and_true true = refl
and_true false = refl

any_out : {X : Type 0} (p : X → Bool) (xs : List X) → list_any p (filter (λ x. not (p x)) xs) ≡ false
any_out p [] = refl
any_out p (x ∷ xs) =
    (elim (p x) as (λ b. p x ≡ b → list_any p (cond (not b) (x ∷ filter (λ y. not (p y)) xs) (filter (λ y. not (p y)) xs)) ≡ false) [
      | true ↦ λ e. any_out p xs
      | false ↦ λ e. ap (λ b. b || list_any p (filter (λ y. not (p y)) xs)) e ∙ any_out p xs
    ]) refl

any_left : {X : Type 0} (p q : X → Bool) (xs : List X) → ((x : X) → p x ≡ true → q x ≡ false) → list_any p (filter (λ x. not (q x)) xs) ≡ list_any p xs
any_left p q [] apart = refl
any_left p q (x ∷ xs) apart =
    (elim (q x) as (λ b. (p x ≡ true → b ≡ false) → list_any p (cond (not b) (x ∷ filter (λ y. not (q y)) xs) (filter (λ y. not (q y)) xs)) ≡ (p x || list_any p xs)) [
      | true ↦ λ h. any_left p q xs apart ∙ sym (ap (λ b. b || list_any p xs) (never (p x) h))
      | false ↦ λ h. ap (λ b. p x || b) (any_left p q xs apart)
    ]) (apart x)

less : {X : Type 0} (same : X → X → Bool) → ((a b : X) → same a b ≡ true → a ≡ b) → (x y : X) (xs : List X)
    → list_any (same x) (filter (λ z. not (same y z)) xs) ≡ (list_any (same x) xs && not (same y x))
less {X = X} same law x y xs =
    (elim (same y x) as (λ b. same y x ≡ b → list_any (same x) (filter (λ z. not (same y z)) xs) ≡ (list_any (same x) xs && not b)) [
      | true ↦ λ e. ap (λ (w : X). list_any (same x) (filter (λ z. not (same w z)) xs)) (law y x e) ∙ any_out (same x) xs ∙ sym (and_false (list_any (same x) xs))
      | false ↦ λ e. any_left (same x) (same y) xs (λ z h. ap (same y) (sym (law x z h)) ∙ e) ∙ sym (and_true (list_any (same x) xs))
    ]) refl

named_less : (r s : Reg) (kinds : Kinds) → list_any (same_name (name_of r)) (of_kind r (without_register s kinds)) ≡ (list_any (same_name (name_of r)) (of_kind r kinds) && not (same_reg s r))
named_less (Now x) (Now y) kinds = less same_name same_name_true x y kinds.current
named_less (Old x) (Old y) kinds = less same_name same_name_true x y kinds.former
named_less (Ghost x) (Ghost y) kinds = less same_name same_name_true x y kinds.ghosts
named_less (Now x) (Old y) kinds = sym (and_true (list_any (same_name x) kinds.current))
named_less (Now x) (Ghost y) kinds = sym (and_true (list_any (same_name x) kinds.current))
named_less (Old x) (Now y) kinds = sym (and_true (list_any (same_name x) kinds.former))
named_less (Old x) (Ghost y) kinds = sym (and_true (list_any (same_name x) kinds.former))
named_less (Ghost x) (Now y) kinds = sym (and_true (list_any (same_name x) kinds.ghosts))
named_less (Ghost x) (Old y) kinds = sym (and_true (list_any (same_name x) kinds.ghosts))

pub rest_listed : (kinds : Kinds) (rs : List Reg) (s : Reg) → AreListed kinds rs → AreListed (without_register s kinds) (filter (λ r. not (same_reg s r)) rs)
unfolding AreListed
rest_listed kinds rs s are r =
    less same_reg same_reg_true r s rs
    ∙ ap (λ b. b && not (same_reg s r)) (are r)
    ∙ sym (named_less r s kinds)

filter_none : {X : Type 0} (p : X → Bool) (xs : List X) → list_any p xs ≡ false → filter (λ x. not (p x)) xs ≡ xs
filter_none p [] h = refl
filter_none p (x ∷ xs) h =
    (elim (p x) as (λ b. (b || list_any p xs) ≡ false → cond (not b) (x ∷ filter (λ y. not (p y)) xs) (filter (λ y. not (p y)) xs) ≡ x ∷ xs)
    [ true ↦ λ k. cc | false ↦ λ k. ap (λ ys. x ∷ ys) (filter_none p xs k) ]) h

-- one that isn't there is none to take out
pub not_there : (rs : List Reg) (s : Reg) → has_reg s rs ≡ false → without_reg s rs ≡ rs
not_there rs s h = filter_none (same_reg s) rs h
