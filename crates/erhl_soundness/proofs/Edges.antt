-- An edge, on one side: old registers are those before it, and phis are set at once from them.
use Rattle.std.proofs.Common.{◌≡◌, true, false, not, List, [], ◌∷◌, ◌++◌, map, Option, None, Some, refl, sym, ap, subst, subst₂, ◌∙◌, ⊎_elim, ℕ}
use Rattle.std.specs.List.{AllByRecursion, Contains, cons_option, filter_map, list_any}
use Rattle.std.proofs.lemmas.Bool.{not-true, or_parts, or_from, false≢true, false_from_ne_true, cases_Bool, cond-true, cond-false}
use Rattle.std.proofs.lemmas.List.Elements.{Contains-append_left, Contains-push}
use Rattle.ir_types.specs.declared.names.Name.{Name}
use Rattle.ir_core.specs.declared.values.Kind.{Kind}
use Rattle.ir_core.specs.declared.expressions.Reg.{Reg}
use Rattle.ir_core.specs.declared.expressions.Reg.TheVariants.{Now, Old, Ghost}
use Rattle.ir_core.specs.declared.expressions.Expr.TheVariants.{Plain}
use Rattle.ir_core.specs.declared.functions.Entry.{Entry}
use Rattle.ir_core.specs.declared.functions.Phi.{Phi}
use Rattle.ir_core.specs.Expressions.{Expr0, map_atom, map_expr, expr_has}
use Rattle.ir_core.specs.Order.{AreNew}
use Rattle.ir_types.specs.Same.{same_name}
use Rattle.ir_core.specs.Types.{kind_of}
use Rattle.ir_types.specs.NameLaws.{same_name_true, same_name_refl}
use Rattle.ir_values.specs.declared.operations.Outcome.{Outcome}
use Rattle.ir_values.specs.declared.operations.Outcome.TheVariants.{Gives, Trap}
use Rattle.ir_values.specs.Constants.{Scope}
use Rattle.ir_values.specs.Operations.{IsOutcomeLessDefined}
use Rattle.ir_machine.specs.Registers.{Held, Registers, read, set, holding, held_at, atom_value}
use Rattle.ir_machine.specs.Machine.{with_phis, phi_value, entry_value, entry_from}
use Rattle.ir_machine.proofs.Keeping.{all_on}
use Rattle.erhl_assert.specs.declared.facts.Fact.{Fact}
use Rattle.erhl_assert.specs.declared.facts.Fact.TheVariants.{LessDef, Unique, Private, NoAlias, Ok}
use Rattle.erhl_assert.specs.Sides.{SideState, read_reg, worth}
use Rattle.erhl_assert.specs.Facts.{Holds, with_facts, fact_has, without}
use Rattle.erhl_assert.specs.Edges.{is_old, old_of, as_old, sets, is_of_phi, register_at, entry_kill, phi_fact, phi_facts, phi_kills, past_phis, facts_over, phi_setting}
use Rattle.erhl_assert.specs.Holding.{AreNoAliases, CanAccess, IsNot}
use Rattle.erhl_soundness.specs.Laws.{AreApart, crossed}
use Rattle.erhl_soundness.specs.TwoSides.{AreGlobalsNamed}
use Rattle.erhl_soundness.proofs.Readings.{outcome_same, outcome_mapped, renamed, atom_mapped, atom_of_none, type_mapped}
use Rattle.erhl_soundness.proofs.Facts.{IsNotIt, IsStillAlone, all_passing, all_split, holds_kept, stays_so, both_ways_hold, with_facts_hold, without_holds, without_names_none}
use Rattle.erhl_soundness.proofs.Kills.{AreLeft, IsLeft, all_left_by, not_unique}
use Rattle.erhl_soundness.proofs.Holders.{IsNotGiven, constants_apart, phis_among}
use Rattle.erhl_soundness.proofs.Standing.{register_worth}

-- the state whose old registers are those that it has now
abbrev renewed : SideState → SideState
renewed here = record here { files = record here.files { old = here.files.now } }

-- ---- facts and their copies
module _ (here : SideState) where
  abbrev there : SideState
  there = renewed here

  not_old : (k : Kind) (r : Reg) → is_old r ≡ false → read_reg there k r ≡ read_reg here k r
  not_old k (Now x) h = refl
  not_old k (Old x) h = absurd (false≢true (sym h))
  not_old k (Ghost x) h = refl

  made_old : (k : Kind) (r : Reg) → is_old r ≡ false → renamed here.scope old_of (read_reg there) k r ≡ read_reg here k r
  made_old k (Now x) h = refl
  made_old k (Old x) h = absurd (false≢true (sym h))
  made_old k (Ghost x) h = refl

  -- what was known of an expression is known of its copy
  copy_worth : (e : Expr0) → expr_has is_old e ≡ false → worth there (map_expr old_of e) ≡ worth here e
  copy_worth e h =
      outcome_mapped here.scope old_of (read_reg there) here.world.memory e
      ∙ outcome_same here.scope (read_reg here) (renamed here.scope old_of (read_reg there)) is_old made_old here.world.memory e h

  -- of a copy, if there is one
  abbrev CopyHolds : Option Fact → Type 0
  CopyHolds None = Unit {0}
  CopyHolds (Some f) = Holds there f

  can_access_there : (k : Option Kind) (o : Outcome) (align : ℕ) → CanAccess here k o align → CanAccess there k o align
  can_access_there None o align h = h
  can_access_there (Some k) Trap align h = h
  can_access_there (Some k) (Gives v) align h = h

  copy_holds : (f : Fact) → fact_has is_old f ≡ false → Holds here f → CopyHolds (as_old f)
  copy_holds (LessDef d e) h known =
      let parts = or_parts (expr_has is_old d) (expr_has is_old e) h in (
        ap kind_of (type_mapped old_of d) ∙ known.0 ∙ sym (ap kind_of (type_mapped old_of e)),
        subst₂ IsOutcomeLessDefined (sym (copy_worth d parts.0)) (sym (copy_worth e parts.1)) known.1,
      )
  copy_holds (NoAlias d e) h known =
      let parts = or_parts (expr_has is_old d) (expr_has is_old e) h in
      subst₂ AreNoAliases (sym (copy_worth d parts.0)) (sym (copy_worth e parts.1)) known
  copy_holds (Ok e t align) h known =
      subst (λ o. CanAccess there (kind_of t) o align) (sym (copy_worth e h)) (can_access_there (kind_of t) (worth here e) align known)
  copy_holds (Unique r) h known = tt
  copy_holds (Private r) h known = tt

  with_copy : (o : Option Fact) (fs : List Fact) → CopyHolds o → AllByRecursion (Holds there) fs → AllByRecursion (Holds there) (cons_option o fs)
  with_copy None fs h all = all
  with_copy (Some f) fs h all = (h, all)

  copies_hold : (more : List Fact) → AllByRecursion (λ f. fact_has is_old f ≡ false) more → AllByRecursion (Holds here) more
      → AllByRecursion (Holds there) (filter_map as_old more)
  copies_hold [] apart known = tt
  copies_hold (f ∷ more) apart known = with_copy (as_old f) (filter_map as_old more) (copy_holds f apart.0 known.0) (copies_hold more apart.1 known.1)

  copied_hold : (fs : List Fact) → AllByRecursion (Holds here) fs
      → AllByRecursion (Holds there) (with_facts (filter_map as_old (without is_old fs)) (without is_old fs))
  copied_hold fs all =
      with_facts_hold there (filter_map as_old (without is_old fs)) (without is_old fs)
      (copies_hold (without is_old fs) (without_names_none is_old fs) (without_holds is_old here here (stays_so here here.files) (λ k r h. refl) refl fs all))
      (without_holds is_old here there (stays_so here there.files) not_old refl fs all)

-- ---- phis that are apart

-- no later phi sets the register of an earlier one
abbrev pub NoneAgain : List Phi → Type 0
NoneAgain [] = Unit {0}
NoneAgain (p ∷ ps) = (list_any (sets p.name) ps ≡ false) × NoneAgain ps

none_sets : (taken : List Name) (ps : List Phi) → AreNew taken (map (λ (p : Phi). p.name) ps) → (x : Name) → Contains taken x → list_any (sets x) ps ≡ false
none_sets taken [] new x stands = refl
none_sets taken (p ∷ ps) new x stands =
    or_from (same_name p.name x) (list_any (sets x) ps)
    (false_from_ne_true (same_name p.name x) (λ e. new.0 (subst (Contains taken) (sym (same_name_true p.name x e)) stands)))
    (none_sets (taken ++ p.name ∷ []) ps new.1 x (Contains-append_left taken (p.name ∷ []) x stands))

none_again : (taken : List Name) (ps : List Phi) → AreNew taken (map (λ (p : Phi). p.name) ps) → NoneAgain ps
none_again taken [] new = tt
none_again taken (p ∷ ps) new =
    (none_sets (taken ++ p.name ∷ []) ps new.1 p.name (Contains-push taken p.name), none_again (taken ++ p.name ∷ []) ps new.1)

pub apart_once : (ps : List Phi) → AreApart ps → NoneAgain ps
apart_once ps apart = none_again [] ps apart

-- A register that no phi sets is as before; that of a phi, whose name stands once, holds what its entry says of the old registers.
module _ (scope : Scope) (from : Name) (old : Registers) where
  abbrev pub phi_holds : Phi → Option Held
  phi_holds p = holding (kind_of p.ty) (phi_value scope old from p)

  abbrev phi_sets : Phi → Registers → Registers
  phi_sets p registers = set registers p.name (kind_of p.ty) (phi_value scope old from p)

  set_at : (p : Phi) (registers : Registers) (x : Name) → same_name p.name x ≡ true → phi_sets p registers x ≡ phi_holds p
  set_at p registers x h = rw h refl

  set_other : (p : Phi) (registers : Registers) (x : Name) → same_name p.name x ≡ false → phi_sets p registers x ≡ registers x
  set_other p registers x h = rw h refl

  pub unset_by_phis : (x : Name) (ps : List Phi) (registers : Registers) → list_any (sets x) ps ≡ false → with_phis scope old from ps registers x ≡ registers x
  unset_by_phis x [] registers h = refl
  unset_by_phis x (p ∷ ps) registers h =
      let parts = or_parts (same_name p.name x) (list_any (sets x) ps) h in
      unset_by_phis x ps (phi_sets p registers) parts.1 ∙ set_other p registers x parts.0

  set_by_first : (x : Name) (p : Phi) (ps : List Phi) (registers : Registers) → same_name p.name x ≡ true → NoneAgain (p ∷ ps)
      → with_phis scope old from (p ∷ ps) registers x ≡ phi_holds p
  set_by_first x p ps registers named apart =
      let once : list_any (sets x) ps ≡ false = subst (λ y. list_any (sets y) ps ≡ false) (same_name_true p.name x named) apart.0 in
      unset_by_phis x ps (phi_sets p registers) once ∙ set_at p registers x named

  all_set : (ps : List Phi) (registers : Registers) → NoneAgain ps → AllByRecursion (λ (p : Phi). with_phis scope old from ps registers p.name ≡ phi_holds p) ps
  all_set [] registers apart = tt
  all_set (p ∷ ps) registers apart = (
    set_by_first p.name p ps registers (same_name_refl p.name) apart,
    all_set ps (phi_sets p registers) apart.1,
  )

  pub set_by_found : (x : Name) (p : Phi) (ps : List Phi) (registers : Registers) → NoneAgain ps → phi_setting x ps ≡ Some p
      → with_phis scope old from ps registers x ≡ phi_holds p
  set_by_found x p [] registers apart found = absurd (cc)
  set_by_found x p (q ∷ ps) registers apart found = ⊎_elim
      (λ e.
      let same : Some q ≡ Some p = sym (cond-true (same_name q.name x) (Some q) (phi_setting x ps) e) ∙ found in
      let is : q ≡ p = cc in
      set_by_first x q ps registers e apart ∙ ap phi_holds is)
      (λ e.
      set_by_found x p ps (phi_sets q registers) apart.1
      (sym (cond-false (same_name q.name x) (Some q) (phi_setting x ps) e) ∙ found))
      (cases_Bool (same_name q.name x))

all_joined : {A : Type 0} (P : A → Type 0) (xs ys : List A) → AllByRecursion P xs → AllByRecursion P ys → AllByRecursion P (xs ++ ys)
all_joined P [] ys p q = q
all_joined P (x ∷ xs) ys p q = (p.0, all_joined P xs ys p.1 q)

-- ---- facts of phis, on one side
module _ (from : Name) (before : SideState) where
  not_of_phi : (ps : List Phi) (k : Kind) (r : Reg) → is_of_phi ps r ≡ false → read_reg (crossed from ps before) k r ≡ read_reg (renewed before) k r
  not_of_phi ps k (Now x) h = ap (held_at k) (unset_by_phis before.scope from before.files.now x ps before.files.now h)
  not_of_phi ps k (Old x) h = refl
  not_of_phi ps k (Ghost x) h = refl

  phi_fact_holds : (ps : List Phi) (p : Phi) (o : Option Entry)
      → with_phis before.scope before.files.now from ps before.files.now p.name ≡ holding (kind_of p.ty) (entry_value before.scope before.files.now p.ty o)
      → AllByRecursion (Holds (crossed from ps before)) (phi_fact p o)
  phi_fact_holds ps p None is = tt
  phi_fact_holds ps p (Some e) is =
      let s = crossed from ps before in
      let v = atom_value before.scope (read before.files.now) p.ty e.value in
      both_ways_hold s (register_at p.ty (Now p.name)) (Plain (record { ty = p.ty; atom = map_atom Old e.value })) v refl
      (register_worth (read_reg s) (Now p.name) v s.scope s.world.memory p.ty (λ k. ap (held_at k) is) (atom_of_none before.scope (read before.files.now) p.ty e.value))
      (ap Gives (atom_mapped s.scope Old (read_reg s) p.ty e.value))

  phi_facts_hold : (ps qs : List Phi) → AllByRecursion (λ (p : Phi). with_phis before.scope before.files.now from ps before.files.now p.name ≡ phi_holds before.scope from before.files.now p) qs
      → AllByRecursion (Holds (crossed from ps before)) (phi_facts from qs)
  phi_facts_hold ps [] set = tt
  phi_facts_hold ps (p ∷ qs) set =
      all_joined (Holds (crossed from ps before)) (phi_fact p (entry_from from p.entries)) (phi_facts from qs)
      (phi_fact_holds ps p (entry_from from p.entries) set.0) (phi_facts_hold ps qs set.1)

  -- ---- what the phis leave

  module _ (named : AreGlobalsNamed before) (ps : List Phi) where
    abbrev behind : SideState
    behind = crossed from ps before

    -- phis whose operands are copied into others than this one
    entry_apart : (x : Name) (o : Option Entry) → AreLeft (renewed before) (entry_kill o) (Unique (Now x)) → (e : Entry) → o ≡ Some e → IsNotIt x e.value
    entry_apart x None left e is = absurd (cc)
    entry_apart x (Some d) left e is =
        let same : d ≡ e = cc in
        subst (λ (d : Entry). IsNotIt x d.value) same (not_unique (renewed before) x d.value left)

    none_given : (x : Name) (qs : List Phi) → AreLeft (renewed before) (phi_kills from qs) (Unique (Now x)) → AllByRecursion (IsNotGiven x from) qs
    none_given x [] left = tt
    none_given x (q ∷ qs) left =
        let parts = all_split (λ k. IsLeft (renewed before) k (Unique (Now x))) (entry_kill (entry_from from q.entries)) (phi_kills from qs) left in
        (entry_apart x (entry_from from q.entries) parts.0, none_given x qs parts.1)

    abbrev AloneOver : Fact → Type 0
    AloneOver = IsStillAlone (is_of_phi ps) (renewed before) behind (stays_so (renewed before) behind.files) (not_of_phi ps)

    alone_over : (f : Fact) → AreLeft (renewed before) (phi_kills from ps) f → AloneOver f
    alone_over (Unique (Now x)) left =
        λ b only.
        phis_among (IsNot b) x before.scope (constants_apart (renewed before) named x b only) before.files.now only.now from ps (none_given x ps left) before.files.now only.now
    alone_over (Unique (Old x)) left = tt
    alone_over (Unique (Ghost x)) left = tt
    alone_over (Private r) left = tt
    alone_over (LessDef a b) left = tt
    alone_over (NoAlias a b) left = tt
    alone_over (Ok e t align) left = tt

    held_over : (x : Name) → is_of_phi ps (Now x) ≡ false → behind.files.now x ≡ before.files.now x
    held_over x h = unset_by_phis before.scope from before.files.now x ps before.files.now h

    -- what names no register of a phi, and isn't unique of an operand
    abbrev IsPast : Fact → Type 0
    IsPast f = Holds (renewed before) f × (fact_has (is_of_phi ps) f ≡ false)

    past_holds : (f : Fact) → IsPast f × AreLeft (renewed before) (phi_kills from ps) f → Holds behind f
    past_holds f h =
        holds_kept (is_of_phi ps) (renewed before) behind (stays_so (renewed before) behind.files) (not_of_phi ps) held_over f h.0.1 (alone_over f h.1) h.0.0

    past_hold : (fs : List Fact) → AllByRecursion (Holds (renewed before)) fs → AllByRecursion (Holds behind) (past_phis from ps fs)
    past_hold fs all =
        all_on (λ f. IsPast f × AreLeft (renewed before) (phi_kills from ps) f) (Holds behind) past_holds (past_phis from ps fs)
        (all_left_by (renewed before) named IsPast (λ f h. h.0) (phi_kills from ps) (without (is_of_phi ps) fs)
        (all_passing (Holds (renewed before)) (λ f. fact_has (is_of_phi ps) f ≡ false) (λ f. not (fact_has (is_of_phi ps) f))
        (λ f e. not-true (fact_has (is_of_phi ps) f) e) fs all))

    pub facts_over_hold : (fs : List Fact) → NoneAgain ps → AllByRecursion (Holds before) fs → AllByRecursion (Holds behind) (facts_over from ps fs)
    facts_over_hold fs apart all =
        let kept = without is_old fs in
        let copied = with_facts (filter_map as_old kept) kept in
        with_facts_hold behind (phi_facts from ps) (past_phis from ps copied)
        (phi_facts_hold ps ps (all_set before.scope from before.files.now ps before.files.now apart))
        (past_hold copied (copied_hold before fs all))
