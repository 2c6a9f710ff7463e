-- What is so of each fact that kills leave, and THE lemma of all kills.
use Rattle.std.proofs.Common.{◌≡◌, ℕ, Bool, true, false, ◌&&◌, ◌||◌, not, List, [], ◌∷◌, Option, None, Some, refl, sym, ap, subst, ◌∙◌, ⊎_elim}
use Rattle.std.specs.List.{AllByRecursion, flat_map, list_all}
use Rattle.std.proofs.lemmas.Bool.{cond_both, false≢true, false_from_ne_true, not-true, or_cases}
use Rattle.ir_types.specs.declared.names.Name.{Name}
use Rattle.ir_types.specs.declared.ty.Ty.{Ty}
use Rattle.ir_types.specs.NameLaws.{left_true, right_true, same_name_refl, same_name_true}
use Rattle.ir_types.specs.Same.{same_name}
use Rattle.ir_core.specs.declared.expressions.Expr.TheVariants.{Plain}
use Rattle.ir_core.specs.declared.expressions.Reg.{Reg}
use Rattle.ir_core.specs.declared.expressions.Reg.TheVariants.{Now, Old, Ghost}
use Rattle.ir_core.specs.declared.operands.Atom.{Atom}
use Rattle.ir_core.specs.declared.operands.Atom.TheVariants.{Constant, Register}
use Rattle.ir_core.specs.declared.operands.Const.{Const}
use Rattle.ir_core.specs.declared.operands.Operand.{Operand}
use Rattle.ir_core.specs.declared.values.Kind.{Kind}
use Rattle.ir_core.specs.declared.values.Value.{Value}
use Rattle.ir_core.specs.declared.values.Value.TheVariants as value
use Rattle.ir_core.specs.Same.{same_reg}
use Rattle.ir_core.specs.Types.{kind_of}
use Rattle.ir_values.specs.Values.{same_kind}
use Rattle.ir_machine.specs.Keeps.{IsAmong, IsHeldAmong}
use Rattle.ir_machine.specs.Registers.{Held, atom_value, constant_at, held_at, register_value}
use Rattle.ir_machine.proofs.Holding.{either_among}
use Rattle.ir_machine.proofs.Keeping.{all_on}
use Rattle.erhl_assert.specs.declared.fact_set.Kill.{Kill}
use Rattle.erhl_assert.specs.declared.fact_set.Kill.TheVariants as kill
use Rattle.erhl_assert.specs.declared.facts.Fact.{Fact}
use Rattle.erhl_assert.specs.declared.facts.Fact.TheVariants.{Unique, Private, NoAlias}
use Rattle.erhl_assert.specs.Facts.{Holds, fact_has, has_fact}
use Rattle.erhl_assert.specs.Holding.{HoldsAlone, IfBlock, IsNot, IsPrivate, block_given, block_held, block_of}
use Rattle.erhl_assert.specs.Kills.{all_killed, are_no_aliases, is_now_or_constant, is_other, is_private, is_unique, is_unique_of, killed, loads_of, spares, unique_of}
use Rattle.erhl_assert.specs.Sides.{SideState, read_reg, worth}
use Rattle.erhl_soundness.specs.TwoSides.{AreGlobalsNamed}
use Rattle.erhl_soundness.proofs.Facts.{IsNotIt, all_passing, all_split, has_fact_holds}
use Rattle.erhl_soundness.proofs.Holders.{constants_apart}

pub all_tested : {A : Type 0} (L : A → Type 0) (test : A → Bool) → ((x : A) → test x ≡ true → L x) → (xs : List A) → list_all test xs ≡ true → AllByRecursion L xs
all_tested L test tells [] h = tt
all_tested L test tells (x ∷ xs) h = (tells x (left_true (test x) (list_all test xs) h), all_tested L test tells xs (right_true (test x) (list_all test xs) h))

pub same_name_apart : (x y : Name) → same_name x y ≡ false → same_name y x ≡ false
same_name_apart x y h =
    false_from_ne_true (same_name y x)
    (λ e. let same = same_name_true y x e in false≢true (sym h ∙ ap (same_name x) same ∙ same_name_refl x))

-- ---- blocks of values

pub not_into : (b : ℕ) (v : Value) → IsAmong (IsNot b) v → block_of v ≡ Some b → ⊥
not_into b (value.Ptr c offset) h e = h (cc)
not_into b (value.Num n) h e = cc
not_into b (value.Bare address) h e = cc
not_into b value.Undef h e = cc
not_into b value.Poison h e = cc

pub is_into : (b : ℕ) (v : Value) → (block_of v ≡ Some b → ⊥) → IsAmong (IsNot b) v
is_into b (value.Ptr c offset) h = λ same. h (ap Some same)
is_into b (value.Num n) h = tt
is_into b (value.Bare address) h = tt
is_into b value.Undef h = tt
is_into b value.Poison h = tt

pub held_at_among : (among : ℕ → Type 0) (k : Kind) (held : Option Held) → IsHeldAmong among held → IsAmong among (held_at k held)
held_at_among among k None h = tt
held_at_among among k (Some held) h = either_among among (same_kind held.kind k) held.value value.Poison h tt

-- what a register reads as, it holds
pub holds_block : (k : Kind) (held : Option Held) (b : ℕ) → block_of (held_at k held) ≡ Some b → block_held held ≡ Some b
holds_block k None b e = absurd (cc)
holds_block k (Some held) b e =
    cond_both (same_kind held.kind k) held.value value.Poison (λ v. block_of v ≡ Some b → block_of held.value ≡ Some b) (λ t is. is) (λ t is. absurd (cc)) e

module _ (side : SideState) where
  -- what an operand of the logic is worth
  abbrev pub value_at : Ty → Atom Reg → Value
  value_at t a = atom_value side.scope (read_reg side) t a

  -- the two aren't both pointers into one block
  abbrev pub IsSpared : Operand Reg → Operand Reg → Type 0
  IsSpared q p = (b : ℕ) → block_of (value_at q.ty q.atom) ≡ Some b → block_of (value_at p.ty p.atom) ≡ Some b → ⊥

  -- a pointer is into a private block
  abbrev pub IsIntoPrivate : Operand Reg → Type 0
  IsIntoPrivate p = (b : ℕ) → block_of (value_at p.ty p.atom) ≡ Some b → IsPrivate side b

  abbrev pub IsLeft : Kill → Fact → Type 0
  IsLeft (kill.Naming r) f = fact_has (same_reg r) f ≡ false
  IsLeft (kill.Unique r) f = is_unique_of r f ≡ false
  IsLeft (kill.Stored address of) f = AllByRecursion (IsSpared address) (loads_of f)
  IsLeft kill.Called f = AllByRecursion IsIntoPrivate (loads_of f)

  abbrev pub AreLeft : List Kill → Fact → Type 0
  AreLeft ks f = AllByRecursion (λ k. IsLeft k f) ks

  -- ---- a register of now

  register_holds : (x : Name) (o : Option Kind) (b : ℕ) → block_of (register_value (read_reg side) o (Now x)) ≡ Some b → block_held (side.files.now x) ≡ Some b
  register_holds x None b e = absurd (cc)
  register_holds x (Some k) b e = holds_block k (side.files.now x) b e

  -- ---- another operand than one that is unique

  abbrev OtherThan : Name → Atom Reg → Type 0
  OtherThan x (Register (Now y)) = same_name y x ≡ false
  OtherThan x (Register (Old y)) = Unit {0}
  OtherThan x (Register (Ghost y)) = Unit {0}
  OtherThan x (Constant c) = Unit {0}

  other_store : (x : Name) (a : Atom Reg) → is_other a (Register (Now x)) ≡ true → OtherThan x a
  other_store x (Register (Now y)) h = not-true (same_name y x) h
  other_store x (Register (Old y)) h = tt
  other_store x (Register (Ghost y)) h = tt
  other_store x (Constant c) h = tt

  other_load : (x : Name) (a : Atom Reg) → is_other (Register (Now x)) a ≡ true → OtherThan x a
  other_load x (Register (Now y)) h = same_name_apart x y (not-true (same_name x y) h)
  other_load x (Register (Old y)) h = tt
  other_load x (Register (Ghost y)) h = tt
  other_load x (Constant c) h = tt

  module _ (named : AreGlobalsNamed side) where
    constant_apart : (x : Name) (b : ℕ) → HoldsAlone side x b → (t : Ty) (k : Option Kind) (c : Const) → IsAmong (IsNot b) (constant_at side.scope t k c)
    constant_apart x b only t None c = tt
    constant_apart x b only t (Some k) c = constants_apart side named x b only t c

    register_apart : (x : Name) (b : ℕ) → HoldsAlone side x b → (y : Name) → same_name y x ≡ false → (o : Option Kind) → IsAmong (IsNot b) (register_value (read_reg side) o (Now y))
    register_apart x b only y other None = tt
    register_apart x b only y other (Some k) = held_at_among (IsNot b) k (side.files.now y) (only.now y other)

    -- no other operand of now or constant is a pointer into it
    unique_apart : (x : Name) (b : ℕ) → HoldsAlone side x b → (t : Ty) (a : Atom Reg) → is_now_or_constant a ≡ true → OtherThan x a → block_of (value_at t a) ≡ Some b → ⊥
    unique_apart x b only t (Constant c) now other e = not_into b (value_at t (Constant c)) (constant_apart x b only t (kind_of t) c) e
    unique_apart x b only t (Register (Now y)) now other e = not_into b (value_at t (Register (Now y))) (register_apart x b only y other (kind_of t)) e
    unique_apart x b only t (Register (Old y)) now other e = false≢true now
    unique_apart x b only t (Register (Ghost y)) now other e = false≢true now

    module _ (fs : List Fact) (all : AllByRecursion (Holds side) fs) where
      alone : (x : Name) → has_fact (Unique (Now x)) fs ≡ true → (t : Ty) (b : ℕ) → block_of (value_at t (Register (Now x))) ≡ Some b → HoldsAlone side x b
      alone x h t b e =
          subst (λ o. IfBlock o (HoldsAlone side x)) (register_holds x (kind_of t) b e) (has_fact_holds side (Unique (Now x)) fs h all)

      by_load : (s t : Ty) (a c : Atom Reg) → is_unique fs c ≡ true → is_now_or_constant a ≡ true → is_other a c ≡ true
          → (b : ℕ) → block_of (value_at s a) ≡ Some b → block_of (value_at t c) ≡ Some b → ⊥
      by_load s t a (Constant c) unique now other b is_a is_c = false≢true unique
      by_load s t a (Register (Now x)) unique now other b is_a is_c = unique_apart x b (alone x unique t b is_c) s a now (other_store x a other) is_a
      by_load s t a (Register (Old x)) unique now other b is_a is_c = has_fact_holds side (Unique (Old x)) fs unique all
      by_load s t a (Register (Ghost x)) unique now other b is_a is_c = has_fact_holds side (Unique (Ghost x)) fs unique all

      by_store : (s t : Ty) (a c : Atom Reg) → is_unique fs a ≡ true → is_now_or_constant c ≡ true → is_other a c ≡ true
          → (b : ℕ) → block_of (value_at s a) ≡ Some b → block_of (value_at t c) ≡ Some b → ⊥
      by_store s t (Constant a) c unique now other b is_a is_c = false≢true unique
      by_store s t (Register (Now x)) c unique now other b is_a is_c = unique_apart x b (alone x unique s b is_a) t c now (other_load x c other) is_c
      by_store s t (Register (Old x)) c unique now other b is_a is_c = has_fact_holds side (Unique (Old x)) fs unique all
      by_store s t (Register (Ghost x)) c unique now other b is_a is_c = has_fact_holds side (Unique (Ghost x)) fs unique all

      by_no_alias : (p q : Operand Reg) → has_fact (NoAlias (Plain p) (Plain q)) fs ≡ true → (b : ℕ) → block_of (value_at q.ty q.atom) ≡ Some b → block_of (value_at p.ty p.atom) ≡ Some b → ⊥
      by_no_alias p q h b is_q is_p =
          let apart = has_fact_holds side (NoAlias (Plain p) (Plain q)) fs h all in
          subst (λ o. IfBlock o (λ c. block_given (worth side (Plain q)) ≡ Some c → ⊥)) is_p apart is_q

      -- WHAT A STORE SPARES
      pub spared : (q p : Operand Reg) → spares fs q p ≡ true → IsSpared q p
      spared q p h b is_q is_p =
          let aliases = are_no_aliases fs p q in
          let load = is_unique fs p.atom && is_now_or_constant q.atom in
          let store = is_unique fs q.atom && is_now_or_constant p.atom in
          let other = left_true (is_other q.atom p.atom) (aliases || load || store) h in
          ⊎_elim
          (λ first. ⊎_elim
          (λ e. ⊎_elim
          (λ t. by_no_alias p q t b is_q is_p)
          (λ t. by_no_alias q p t b is_p is_q)
          (or_cases (has_fact (NoAlias (Plain p) (Plain q)) fs) (has_fact (NoAlias (Plain q) (Plain p)) fs) e))
          (λ e. by_load q.ty p.ty q.atom p.atom (left_true (is_unique fs p.atom) (is_now_or_constant q.atom) e) (right_true (is_unique fs p.atom) (is_now_or_constant q.atom) e) other b is_q is_p)
          (or_cases aliases load first))
          (λ e. by_store q.ty p.ty q.atom p.atom (left_true (is_unique fs q.atom) (is_now_or_constant p.atom) e) (right_true (is_unique fs q.atom) (is_now_or_constant p.atom) e) other b is_q is_p)
          (or_cases (aliases || load) store (right_true (is_other q.atom p.atom) (aliases || load || store) h))

      pub into_private : (p : Operand Reg) → is_private fs p.atom ≡ true → IsIntoPrivate p
      into_private p h = at p.ty p.atom h
        where
          at : (t : Ty) (a : Atom Reg) → is_private fs a ≡ true → (b : ℕ) → block_of (value_at t a) ≡ Some b → IsPrivate side b
          at t (Constant c) h b e = absurd (false≢true h)
          at t (Register (Now x)) h b e =
              subst (λ o. IfBlock o (IsPrivate side)) (register_holds x (kind_of t) b e) (has_fact_holds side (Private (Now x)) fs h all)
          at t (Register (Old x)) h b e = absurd (has_fact_holds side (Private (Old x)) fs h all)
          at t (Register (Ghost x)) h b e = absurd (has_fact_holds side (Private (Ghost x)) fs h all)

    -- ---- what kills leave

    module _ (P : Fact → Type 0) (on : (f : Fact) → P f → Holds side f) where
      left_by : (k : Kill) (fs : List Fact) → AllByRecursion P fs → AllByRecursion (λ f. P f × IsLeft k f) (killed k fs)
      left_by (kill.Naming r) fs all = all_passing P (IsLeft (kill.Naming r)) (λ f. not (fact_has (same_reg r) f)) (λ f e. not-true (fact_has (same_reg r) f) e) fs all
      left_by (kill.Unique r) fs all = all_passing P (IsLeft (kill.Unique r)) (λ f. not (is_unique_of r f)) (λ f e. not-true (is_unique_of r f) e) fs all
      left_by (kill.Stored address of) fs all =
          all_passing P (IsLeft (kill.Stored address of)) (λ f. list_all (spares fs address) (loads_of f))
          (λ f e. all_tested (IsSpared address) (spares fs address) (λ p t. spared fs (all_on P (Holds side) on fs all) address p t) (loads_of f) e) fs all
      left_by kill.Called fs all =
          all_passing P (IsLeft kill.Called) (λ f. list_all (λ p. is_private fs p.atom) (loads_of f))
          (λ f e. all_tested IsIntoPrivate (λ p. is_private fs p.atom) (λ p t. into_private fs (all_on P (Holds side) on fs all) p t) (loads_of f) e) fs all

    pub all_left_by : (P : Fact → Type 0) → ((f : Fact) → P f → Holds side f) → (ks : List Kill) (fs : List Fact) → AllByRecursion P fs
        → AllByRecursion (λ f. P f × AreLeft ks f) (all_killed ks fs)
    all_left_by P on [] fs all = all_on P (λ f. P f × AreLeft [] f) (λ f h. (h, tt)) fs all
    all_left_by P on (k ∷ ks) fs all =
        all_on (λ f. (P f × IsLeft k f) × AreLeft ks f) (λ f. P f × AreLeft (k ∷ ks) f) (λ f h. (h.0.0, (h.0.1, h.1))) (all_killed ks (killed k fs))
        (all_left_by (λ f. P f × IsLeft k f) (λ f h. on f h.0) ks (killed k fs) (left_by P on k fs all))

    -- THE lemma of all kills: where each fact that they leave holds still, all of them do
    pub killed_hold : (after : SideState) (ks : List Kill) → ((f : Fact) → Holds side f → AreLeft ks f → Holds after f)
        → (fs : List Fact) → AllByRecursion (Holds side) fs → AllByRecursion (Holds after) (all_killed ks fs)
    killed_hold after ks on fs all =
        all_on (λ f. Holds side f × AreLeft ks f) (Holds after) (λ f h. on f h.0 h.1) (all_killed ks fs) (all_left_by (Holds side) (λ f h. h) ks fs all)

  -- what is left by kills of copied operands is unique of none of them
  module _ (x : Name) where
    pub not_unique : (a : Atom Name) → AreLeft (unique_of a) (Unique (Now x)) → IsNotIt x a
    not_unique (Constant c) h = refl
    not_unique (Register y) h = h.0

    pub none_unique : (atoms : List (Atom Name)) → AreLeft (flat_map unique_of atoms) (Unique (Now x)) → AllByRecursion (IsNotIt x) atoms
    none_unique [] h = tt
    none_unique (a ∷ atoms) h =
        let parts = all_split (λ k. IsLeft k (Unique (Now x))) (unique_of a) (flat_map unique_of atoms) h in
        (not_unique a parts.0, none_unique atoms parts.1)
