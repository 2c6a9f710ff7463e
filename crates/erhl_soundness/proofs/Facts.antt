-- Facts of one side: those that a change keeps, and those that are added.
use Rattle.std.proofs.Common.{◌≡◌, ℕ, Bool, true, false, not, List, [], ◌∷◌, ◌++◌, Option, None, Some, refl, sym, ap, ap₂, ◌∙◌, subst, subst₂, ⊎_elim}
use Rattle.std.specs.Prelude.{filter}
use Rattle.std.specs.List.{AllByRecursion, Contains}
use Rattle.std.proofs.lemmas.Bool.{cond_both, not-true, or_parts, or_cases, cases_Bool, not_from_true, not_from_false, cond-true, cond-false}
use Rattle.ir_types.specs.declared.names.Name.{Name}
use Rattle.ir_types.specs.Same.{same_name}
use Rattle.ir_core.specs.declared.values.Value.{Value}
use Rattle.ir_core.specs.declared.values.Kind.{Kind}
use Rattle.ir_core.specs.declared.operands.Atom.{Atom}
use Rattle.ir_core.specs.declared.expressions.Reg.{Reg}
use Rattle.ir_core.specs.declared.expressions.Reg.TheVariants.{Now, Old, Ghost}
use Rattle.ir_core.specs.Expressions.{Expr0, atom_has, expr_has}
use Rattle.ir_core.specs.Types.{kind_of}
use Rattle.ir_values.specs.Constants.{Scope}
use Rattle.ir_values.specs.declared.operations.Outcome.{Outcome}
use Rattle.ir_values.specs.declared.operations.Outcome.TheVariants.{Gives, Trap}
use Rattle.ir_values.specs.Operations.{IsOutcomeLessDefined}
use Rattle.ir_values.proofs.OperationLaws.{less_defined_refl}
use Rattle.block_memory.specs.Memory.{Cell, can_access}
use Rattle.ir_machine.specs.Keeps.{AreRegistersAmong, IsByteAmong, IsHeldAmong, IsNameAmong}
use Rattle.ir_machine.specs.Registers.{Registers, outcome}
use Rattle.ir_machine.specs.State.{World}
use Rattle.erhl_assert.specs.declared.facts.Fact.{Fact}
use Rattle.erhl_assert.specs.declared.facts.Fact.TheVariants.{LessDef, Unique, Private, NoAlias, Ok}
use Rattle.erhl_assert.specs.Sides.{RegisterFiles, SideState, read_reg, worth}
use Rattle.erhl_assert.specs.Holding.{AreNoAliases, CanAccess, HoldsAlone, IfBlock, IsNot, IsPrivate, block_held}
use Rattle.erhl_assert.specs.Facts.{Holds, kind_of_expr, same_fact, has_fact, with_fact, with_facts, fact_has, without, both_ways}
use Rattle.erhl_assert.specs.Steps.{first_missing}
use Rattle.erhl_assert.proofs.SameFact.{same_fact_true}
use Rattle.erhl_soundness.proofs.Readings.{outcome_same}

pub all_split : {A : Type 0} (P : A → Type 0) (xs ys : List A) → AllByRecursion P (xs ++ ys) → AllByRecursion P xs × AllByRecursion P ys
all_split P [] ys h = (tt, h)
all_split P (x ∷ xs) ys h = let more = all_split P xs ys h.1 in ((h.0, more.0), more.1)

-- a fact that stands in a list of facts that hold
pub has_fact_holds : (side : SideState) (f : Fact) (fs : List Fact) → has_fact f fs ≡ true → AllByRecursion (Holds side) fs → Holds side f
has_fact_holds side f [] h all = cc
has_fact_holds side f (g ∷ fs) h all =
    ⊎_elim (λ e. subst (Holds side) (sym (same_fact_true f g e)) all.0) (λ e. has_fact_holds side f fs e all.1) (or_cases (same_fact f g) (has_fact f fs) h)

-- where no premise is missing, all premises hold
pub premises_hold : (side : SideState) (fs premises : List Fact) → AllByRecursion (Holds side) fs → first_missing fs premises ≡ None → AllByRecursion (Holds side) premises
premises_hold side fs [] all h = tt
premises_hold side fs (p ∷ ps) all h = ⊎_elim
    (λ e.
    let rest : first_missing fs ps ≡ None =
    sym (cond-false (not (has_fact p fs)) (Some p) (first_missing fs ps) (not_from_true (has_fact p fs) e)) ∙ h in
    (has_fact_holds side p fs e all, premises_hold side fs ps all rest))
    (λ e.
    let missing : Some p ≡ None = sym (cond-true (not (has_fact p fs)) (Some p) (first_missing fs ps) (not_from_false (has_fact p fs) e)) ∙ h in
    absurd (cc))
    (cases_Bool (has_fact p fs))

push_holds : (side : SideState) (f : Fact) (fs : List Fact) → AllByRecursion (Holds side) fs → Holds side f → AllByRecursion (Holds side) (fs ++ f ∷ [])
push_holds side f [] all h = (h, tt)
push_holds side f (g ∷ fs) all h = (all.0, push_holds side f fs all.1 h)

pub with_fact_holds : (side : SideState) (f : Fact) (fs : List Fact) → AllByRecursion (Holds side) fs → Holds side f → AllByRecursion (Holds side) (with_fact f fs)
with_fact_holds side f fs all h =
    cond_both (has_fact f fs) fs (fs ++ f ∷ []) (AllByRecursion (Holds side)) (λ e. all) (λ e. push_holds side f fs all h)

-- THE lemma of all facts that are added
pub with_facts_hold : (side : SideState) (more fs : List Fact) → AllByRecursion (Holds side) more → AllByRecursion (Holds side) fs → AllByRecursion (Holds side) (with_facts more fs)
with_facts_hold side [] fs h all = all
with_facts_hold side (f ∷ more) fs h all = with_facts_hold side more (with_fact f fs) h.1 (with_fact_holds side f fs all h.0)

-- two expressions that are worth one value, both ways
pub both_ways_hold : (side : SideState) (a b : Expr0) (v : Value) → kind_of_expr a ≡ kind_of_expr b
    → worth side a ≡ Gives v → worth side b ≡ Gives v → AllByRecursion (Holds side) (both_ways a b)
both_ways_hold side a b v kinds p q = (
  (kinds, subst₂ IsOutcomeLessDefined (sym p) (sym q) (less_defined_refl v)),
  ((sym kinds, subst₂ IsOutcomeLessDefined (sym q) (sym p) (less_defined_refl v)), tt),
)

-- the side is in the same scope and world as before, above the same frames, with the same own blocks and pairs
pub record StaysThere (before after : SideState) : Type 0 where
  pub scope : after.scope ≡ before.scope
  pub own : after.own ≡ before.own
  pub others : after.others ≡ before.others
  pub world : after.world ≡ before.world
  pub paired : after.paired ≡ before.paired

-- whatever its registers are
pub stays_so : (side : SideState) (files : RegisterFiles) → StaysThere side (record side { files = files })
stays_so side files = record { scope = refl; own = refl; others = refl; world = refl; paired = refl }

pub if_block : (o : Option ℕ) (P Q : ℕ → Type 0) → ((b : ℕ) → o ≡ Some b → P b → Q b) → IfBlock o P → IfBlock o Q
if_block None P Q on h = tt
if_block (Some b) P Q on h = on b refl h

access_there : (before after : SideState) → after.world ≡ before.world → (k : Option Kind) (o : Outcome) (align : ℕ) → CanAccess before k o align → CanAccess after k o align
access_there before after world None o align h = h
access_there before after world (Some k) Trap align h = h
access_there before after world (Some k) (Gives v) align h = subst (λ (w : World). can_access w.memory k v align ≡ true) (sym world) h

-- where only registers that pass the test have changed, an expression that names none of them is worth the same
module _ (p : Reg → Bool) (before after : SideState) (stays : StaysThere before after)
    (same : (k : Kind) (r : Reg) → p r ≡ false → read_reg after k r ≡ read_reg before k r) where
  pub worth_kept : (e : Expr0) → expr_has p e ≡ false → worth after e ≡ worth before e
  worth_kept e h =
      ap₂ (λ (scope : Scope) (world : World). outcome scope (read_reg after) world.memory e) stays.scope stays.world
      ∙ outcome_same before.scope (read_reg before) (read_reg after) p same before.world.memory e h

  -- what the register alone held, no other register of now holds after it
  abbrev pub StaysAlone : Name → Type 0
  StaysAlone x = (b : ℕ) → HoldsAlone before x b → (y : Name) → same_name y x ≡ false → IsHeldAmong (IsNot b) (after.files.now y)

  abbrev pub IsStillAlone : Fact → Type 0
  IsStillAlone (Unique (Now x)) = StaysAlone x
  IsStillAlone (Unique (Old x)) = Unit {0}
  IsStillAlone (Unique (Ghost x)) = Unit {0}
  IsStillAlone (Private r) = Unit {0}
  IsStillAlone (LessDef a b) = Unit {0}
  IsStillAlone (NoAlias a b) = Unit {0}
  IsStillAlone (Ok e t align) = Unit {0}

  alone_after : (x : Name) → StaysAlone x → (b : ℕ) → HoldsAlone before x b → HoldsAlone after x b
  alone_after x alone b only = record {
    now = alone b only;
    others = subst (AllByRecursion (AreRegistersAmong (IsNot b))) (sym stays.others) only.others;
    bytes = subst (λ (w : World). AllByRecursion (λ (c : Cell). AllByRecursion (IsByteAmong (IsNot b)) c.bytes) w.memory) (sym stays.world) only.bytes;
    names = subst (λ (w : World). AllByRecursion (IsNameAmong (IsNot b)) w.names) (sym stays.world) only.names;
  }

  private_after : (b : ℕ) → IsPrivate before b → IsPrivate after b
  private_after b h = record { unpaired = ap (λ (paired : ℕ → Bool). paired b) stays.paired ∙ h.unpaired; own = subst (λ own. Contains own b) (sym stays.own) h.own }

  -- THE lemma of all facts that name no such register
  module _ (held : (x : Name) → p (Now x) ≡ false → after.files.now x ≡ before.files.now x) where
    pub holds_kept : (f : Fact) → fact_has p f ≡ false → IsStillAlone f → Holds before f → Holds after f
    holds_kept (LessDef a b) h alone known =
        let parts = or_parts (expr_has p a) (expr_has p b) h in
        (known.0, subst₂ IsOutcomeLessDefined (sym (worth_kept a parts.0)) (sym (worth_kept b parts.1)) known.1)
    holds_kept (NoAlias a b) h alone known =
        let parts = or_parts (expr_has p a) (expr_has p b) h in
        subst₂ AreNoAliases (sym (worth_kept a parts.0)) (sym (worth_kept b parts.1)) known
    holds_kept (Ok e t align) h alone known =
        subst (λ o. CanAccess after (kind_of t) o align) (sym (worth_kept e h)) (access_there before after stays.world (kind_of t) (worth before e) align known)
    holds_kept (Unique (Now x)) h alone known =
        subst (λ o. IfBlock (block_held o) (HoldsAlone after x)) (sym (held x h))
        (if_block (block_held (before.files.now x)) (HoldsAlone before x) (HoldsAlone after x) (λ b is only. alone_after x alone b only) known)
    holds_kept (Unique (Old x)) h alone known = known
    holds_kept (Unique (Ghost x)) h alone known = known
    holds_kept (Private (Now x)) h alone known =
        subst (λ o. IfBlock (block_held o) (IsPrivate after)) (sym (held x h))
        (if_block (block_held (before.files.now x)) (IsPrivate before) (IsPrivate after) (λ b is own. private_after b own) known)
    holds_kept (Private (Old x)) h alone known = known
    holds_kept (Private (Ghost x)) h alone known = known

  -- where the registers of now stay, all of them do
  module _ (now : after.files.now ≡ before.files.now) where
    still_alone : (f : Fact) → IsStillAlone f
    still_alone (Unique (Now x)) = λ b only y other. subst (λ (registers : Registers). IsHeldAmong (IsNot b) (registers y)) (sym now) (only.now y other)
    still_alone (Unique (Old x)) = tt
    still_alone (Unique (Ghost x)) = tt
    still_alone (Private r) = tt
    still_alone (LessDef a b) = tt
    still_alone (NoAlias a b) = tt
    still_alone (Ok e t align) = tt

    pub without_holds : (fs : List Fact) → AllByRecursion (Holds before) fs → AllByRecursion (Holds after) (without p fs)
    without_holds [] all = tt
    without_holds (f ∷ fs) all =
        let rest = without_holds fs all.1 in
        cond_both (not (fact_has p f)) (f ∷ without p fs) (without p fs) (AllByRecursion (Holds after))
        (λ e. (holds_kept (λ x h. ap (λ (registers : Registers). registers x) now) f (not-true (fact_has p f) e) (still_alone f) all.0, rest)) (λ e. rest)

-- what is left names no register that passes the test
pub without_names_none : (p : Reg → Bool) (fs : List Fact) → AllByRecursion (λ f. fact_has p f ≡ false) (without p fs)
without_names_none p [] = tt
without_names_none p (f ∷ fs) =
    cond_both (not (fact_has p f)) (f ∷ without p fs) (without p fs) (AllByRecursion (λ g. fact_has p g ≡ false))
    (λ e. (not-true (fact_has p f) e, without_names_none p fs)) (λ e. without_names_none p fs)

-- what passes a test has what the test tells, beside what it had
pub all_passing : {A : Type 0} (P L : A → Type 0) (test : A → Bool) → ((x : A) → test x ≡ true → L x) → (xs : List A) → AllByRecursion P xs
    → AllByRecursion (λ x. P x × L x) (filter test xs)
all_passing P L test tells [] all = tt
all_passing P L test tells (x ∷ xs) all =
    let rest = all_passing P L test tells xs all.1 in
    cond_both (test x) (x ∷ filter test xs) (filter test xs) (AllByRecursion (λ y. P y × L y)) (λ e. ((all.0, tells x e), rest)) (λ e. rest)

-- an operand is another register than that one, or a constant
abbrev pub IsNotIt : Name → Atom Name → Type 0
IsNotIt x a = atom_has (λ y. same_name y x) a ≡ false
