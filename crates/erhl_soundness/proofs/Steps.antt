-- The steps of a hint add only what holds, where the rules are sound.
use Rattle.std.proofs.Common.{◌≡◌, ℕ, Bool, true, false, ◌&&◌, not, cond, List, [], ◌∷◌, Option, None, Some, refl, sym, ap, ◌∙◌, subst, subst₂, ⊎_elim}
use Rattle.std.specs.Prelude.{find, map}
use Rattle.std.specs.Option.{option_or, option_map}
use Rattle.std.specs.List.{AllByRecursion, list_all, list_any}
use Rattle.std.proofs.lemmas.Bool.{cond_both, cases_Bool, not-true, false≢true}
use Rattle.ir_types.specs.declared.names.Name.{Name}
use Rattle.ir_types.specs.declared.named.NamedTy.{NamedTy}
use Rattle.ir_types.specs.declared.ty.Ty.{Ty, Ptr}
use Rattle.ir_types.specs.declared.ty.Ty.TheVariants as ty
use Rattle.ir_core.specs.declared.values.Value.{Value}
use Rattle.ir_core.specs.declared.values.Kind.{Kind}
use Rattle.ir_core.specs.declared.values.Kind.TheVariants as kind
use Rattle.ir_core.specs.declared.operands.Operand.{Operand}
use Rattle.ir_core.specs.declared.expressions.Element.{Element as ElementOf}
use Rattle.ir_core.specs.declared.expressions.Reg.{Reg}
use Rattle.ir_core.specs.declared.expressions.Reg.TheVariants.{Now, Old, Ghost}
use Rattle.ir_core.specs.declared.expressions.Expr.{Expr}
use Rattle.ir_core.specs.declared.expressions.Expr.TheVariants.{Plain, Binary, Icmp, Cast, Select, Element, Load}
use Rattle.ir_core.specs.Expressions.{Expr0, type_of, expr_has}
use Rattle.ir_core.specs.Functions.{typed_of}
use Rattle.ir_core.specs.Ranges as ranges
use Rattle.ir_types.specs.Same.{same_name, same_ty}
use Rattle.ir_core.specs.Same.{same_reg}
use Rattle.ir_core.specs.Sizes.{stepped}
use Rattle.ir_core.specs.Types.{kind_of, is_pointer, converts}
use Rattle.ir_core.specs.Typing.{element_type, index_of, is_due}
use Rattle.ir_types.specs.NameLaws.{left_true, right_true}
use Rattle.ir_core.proofs.SameLaws.{same_reg_true}
use Rattle.ir_values.specs.declared.operations.Outcome.{Outcome}
use Rattle.ir_values.specs.Related.{AreOutcomesRelated, IsRelated, Pairing}
use Rattle.ir_values.specs.declared.operations.Outcome.TheVariants.{Gives, Trap}
use Rattle.ir_values.specs.Addresses.{is_small}
use Rattle.ir_values.specs.Constants.{Scope}
use Rattle.ir_values.specs.Operations.{IsOutcomeLessDefined, GivesInKind}
use Rattle.ir_values.specs.Values.{same_kind}
use Rattle.ir_values.proofs.ConstantValues.{element_pointer, pointer_kind}
use Rattle.ir_values.proofs.KindLaws.{same_kind_true}
use Rattle.block_memory.specs.Memory.{Memory}
use Rattle.ir_machine.specs.Registers.{Registers, read, set, is_stated, register_value, selects, outcome}
use Rattle.ir_machine.specs.Keeps.{IsMade}
use Rattle.ir_machine.proofs.Holding.{set_among}
use Rattle.ir_machine.proofs.InKind.{outcome_in_kind}
use Rattle.ir_machine.proofs.Runs.{set_in_kind, read_set_at, read_set_other}
use Rattle.erhl_assert.specs.declared.facts.Fact.{Fact}
use Rattle.erhl_assert.specs.declared.facts.Fact.TheVariants.{LessDef}
use Rattle.erhl_assert.specs.declared.facts.Assertion.{Assertion}
use Rattle.erhl_assert.specs.declared.facts.Side.{Side}
use Rattle.erhl_assert.specs.declared.facts.Side.TheVariants.{Src, Tgt}
use Rattle.erhl_assert.specs.declared.hints.RuleStep.{RuleStep}
use Rattle.erhl_assert.specs.declared.hints.GhostStep.{GhostStep}
use Rattle.erhl_assert.specs.declared.hints.SameStep.{SameStep}
use Rattle.erhl_assert.specs.declared.hints.HintStep.{HintStep}
use Rattle.erhl_assert.specs.declared.hints.HintStep.TheVariants.{Rule, Ghost as GhostOf, Same as SameAs}
use Rattle.erhl_assert.specs.declared.verdict.Reason.{Reason}
use Rattle.erhl_assert.specs.declared.verdict.Reason.TheVariants.{RuleUnfit, MissingPremise, DiffLeft}
use Rattle.erhl_assert.specs.Sides.{SideState, IsFine, read_reg, worth, has_reg, AreRelated, no_ghost}
use Rattle.erhl_assert.specs.Facts.{Holds, IsSound, kind_of_expr, has_fact, with_facts, expr_names, without_naming}
use Rattle.erhl_assert.specs.Typed.{has_numbers, has_type, has_values, is_addressed, is_known, may_stand}
use Rattle.erhl_assert.specs.Allowed.{can_trap}
use Rattle.erhl_assert.specs.Postcondition.{without_reg}
use Rattle.erhl_assert.specs.Edges.{register_at}
use Rattle.erhl_assert.specs.Course as course
use Rattle.erhl_assert.specs.Course.{Ends, Refuses, Course, refuses, after_ends, and_then, tested, first_fault}
use Rattle.erhl_assert.specs.Growth.{facts_of, with_conclusion, adds_all}
use Rattle.erhl_assert.specs.Steps.{Meaning, Beside, rule_named, rule_takes, AreSound, first_missing, concluded, after_rule, registers_in, differing_fault, ghost_word, may_be, ghost_fault, choice, as_new, chosen, after_ghost, is_other, has_other_kind, premise_fault, same_fault, after_same, after_step, after_steps}
use Rattle.erhl_assert.proofs.Courses.{adds_all_ends, then_ends, with_all}
use Rattle.erhl_soundness.specs.TwoSides.{HoldsMade}
use Rattle.erhl_soundness.proofs.Alike.{outcome_alike, none_found}
use Rattle.erhl_soundness.proofs.Facts.{StaysThere, stays_so, has_fact_holds, premises_hold, with_fact_holds, with_facts_hold, both_ways_hold, worth_kept, without_holds}
use Rattle.erhl_soundness.proofs.Matched.{less_then_related, related_then_less}
use Rattle.erhl_soundness.proofs.Outside.{outside_without}
use Rattle.erhl_soundness.proofs.Changing.{held_related}
use Rattle.erhl_soundness.proofs.Trapping.{no_trap}
use Rattle.erhl_soundness.proofs.Definitions.{AreDefined, reads_poison}
use Rattle.erhl_soundness.proofs.Itself.{worth_made}
use Rattle.erhl_soundness.proofs.Standing.{Run, side, Stand, common_with, fine_with, made_with, knowing, with_ghost, reads_in_kind, register_worth, none_is_poison, set_ghost, ghost_other, ghost_at}

-- what a course comes to, if it isn't refused, stands, for some ghost registers
abbrev pub EndsStand : Beside → Pairing → Run → Run → Ends Assertion → Type 0
EndsStand w ps a b (Refuses r) = Unit {0}
EndsStand w ps a b (course.Gives known) = (g : Registers) × (h : Registers) × Stand w ps known (with_ghost a g) (with_ghost b h)

-- ---- tests that find no fault

pub no_first : {A : Type 0} (o p : Option A) → option_or o p ≡ None → (o ≡ None) × (p ≡ None)
no_first None p h = (refl, h)
no_first (Some x) p h = absurd (cc)

pub not_mapped : {A B : Type 0} (f : A → B) (o : Option A) → option_map f o ≡ None → o ≡ None
not_mapped f None h = refl
not_mapped f (Some x) h = absurd (cc)

pub passed : {A : Type 0} (b : Bool) (r : A) → cond b None (Some r) ≡ None → b ≡ true
passed true r h = refl
passed false r h = absurd (cc)

pub none_differs : (known : Assertion) (e : Expr0) → differing_fault known e ≡ None → expr_has (λ r. has_reg r known.diff) e ≡ false
none_differs known e h =
    none_found (λ r. has_reg r known.diff) e (not_mapped DiffLeft (find (λ r. has_reg r known.diff) (registers_in e)) h)

-- ---- what can't trap gives a value

value_of : (o : Outcome) → (o ≡ Trap → ⊥) → (v : Value) × (o ≡ Gives v)
value_of (Gives v) h = (v, refl)
value_of Trap h = absurd (h refl)

pub gives_value : {R : Type 0} (scope : Scope) (reading : Kind → R → Value) (memory : Memory) (e : Expr R) → can_trap e ≡ false
    → (v : Value) × (outcome scope reading memory e ≡ Gives v)
gives_value scope reading memory e h = value_of (outcome scope reading memory e) (no_trap scope reading memory e h)

-- ---- what has a type has a kind

type_has_kind : (t : Ty) → has_values t ≡ true → (k : Kind) × (kind_of t ≡ Some k)
type_has_kind (ty.Int width) h = (kind.Int width, ap (λ b. cond b (Some (kind.Int width)) None) h)
type_has_kind t h = (kind.Ptr, pointer_kind t h)

number_has_kind : (t : Ty) → has_numbers t ≡ true → (k : Kind) × (kind_of t ≡ Some k)
number_has_kind (ty.Int width) h = (kind.Int width, ap (λ b. cond b (Some (kind.Int width)) None) h)
number_has_kind t h = absurd (false≢true h)

standing_has_kind : (types : List NamedTy) (t : Ty) → may_stand types t ≡ true → (k : Kind) × (kind_of t ≡ Some k)
standing_has_kind types t h = type_has_kind t (left_true (has_values t) (is_known types t) h)

address_pointer : (types : List NamedTy) (e : ElementOf Reg) → is_addressed types e ≡ true → is_pointer e.to ≡ true
address_pointer types e h =
    let stated = is_stated types e in
    let known = is_known types e.of in
    let small = list_all (is_small types) (stepped types e.of (map index_of e.indices)) in
    let first : stated ≡ true =
    left_true stated known (left_true (stated && known) small (left_true (stated && known && small) (list_all (λ (i : Operand Reg). has_values i.ty) e.indices) h)) in
    element_pointer types e.of (map index_of e.indices) e.to
    (right_true (same_ty e.base.ty (Ptr e.of)) (is_due (element_type types e.of (map index_of e.indices)) e.to) first)

expr_has_kind : (scope : Scope) (e : Expr0) → has_type scope e ≡ true → (k : Kind) × (kind_of_expr e ≡ Some k)
expr_has_kind scope (Plain o) h = type_has_kind o.ty h
expr_has_kind scope (Binary b) h = number_has_kind b.ty (left_true (has_numbers b.ty) (ranges.may_have b.op b.flags) h)
expr_has_kind scope (Icmp c) h = (kind.Int 1, refl)
expr_has_kind scope (Cast c) h =
    let from = may_stand scope.types c.operand.ty in
    let to = may_stand scope.types c.to in
    standing_has_kind scope.types c.to (right_true from to (left_true (from && to) (converts c.op c.operand.ty c.to) h))
expr_has_kind scope (Select s) h =
    standing_has_kind scope.types s.left.ty (left_true (may_stand scope.types s.left.ty) (selects s.condition.ty s.left.ty s.right.ty) h)
expr_has_kind scope (Element e) h = (kind.Ptr, pointer_kind e.to (address_pointer scope.types e h))
expr_has_kind scope (Load l) h = standing_has_kind scope.types l.of (right_true (same_ty l.pointer.ty (Ptr l.of)) (may_stand scope.types l.of) h)

-- ---- less defined, related, and less defined again, is related

outcome_between : (ps : Pairing) (o p q r : Outcome) → IsOutcomeLessDefined o p → AreOutcomesRelated ps p q → IsOutcomeLessDefined q r → AreOutcomesRelated ps o r
outcome_between ps Trap p q r above related below = tt
outcome_between ps (Gives s) Trap q r above related below = absurd above
outcome_between ps (Gives s) (Gives t) Trap r above related below = absurd related
outcome_between ps (Gives s) (Gives t) (Gives u) Trap above related below = absurd below
outcome_between ps (Gives s) (Gives t) (Gives u) (Gives v) above related below = related_then_less ps s u v (less_then_related ps s t u above related) below

-- ---- ghost, on one side: facts that name it go, and it is known to be the expression
module _ (scope : Scope) (a : Run) (g : Name) (e : Expr0) (v : Value) (gives : worth (side scope a) e ≡ Gives v) (apart : expr_names (Ghost g) e ≡ false) where
  abbrev after_choice : Run
  after_choice = set_ghost a g (kind_of (type_of e)) v

  chosen_facts : (fs : List Fact) → AllByRecursion (Holds (side scope a)) fs
      → AllByRecursion (Holds (side scope after_choice)) (with_facts (choice (Ghost g) e) (without_naming (Ghost g) fs))
  chosen_facts fs all =
      let before = side scope a in
      let after = side scope after_choice in
      let o = kind_of (type_of e) in
      let same = ghost_other scope a g o v in
      let stays : StaysThere before after = stays_so before after_choice.files in
      with_facts_hold after (choice (Ghost g) e) (without_naming (Ghost g) fs)
      (both_ways_hold after e (register_at (type_of e) (Ghost g)) v refl
      (worth_kept (same_reg (Ghost g)) before after stays same e apart ∙ gives)
      (register_worth (read_reg after) (Ghost g) v scope a.world.memory (type_of e) (ghost_at scope a g o v)
      (none_is_poison scope (read_reg before) a.world.memory e v gives)))
      (without_holds (same_reg (Ghost g)) before after stays same refl fs all)

  choice_fine : IsFine (side scope a) → IsFine (side scope after_choice)
  choice_fine h =
      fine_with (side scope a) after_choice.files h h.now h.old
      (set_in_kind a.files.ghost g (kind_of (type_of e)) v h.ghost
      (subst (GivesInKind (kind_of (type_of e))) gives (outcome_in_kind scope (read_reg (side scope a)) (reads_in_kind (side scope a) h) a.world.memory h.bytes e)))

  choice_made : IsFine (side scope a) → HoldsMade (side scope a) → HoldsMade (side scope after_choice)
  choice_made fine h =
      made_with (side scope a) after_choice.files h h.now h.old
      (set_among (IsMade a.world.memory) a.files.ghost g (kind_of (type_of e)) v h.ghost (worth_made (side scope a) fine h (same_reg (Ghost g)) e apart v gives))

module _ (w : Beside) (sound : AreSound w.rules) (ps : Pairing) (a b : Run) where
  abbrev source : SideState
  source = side w.scope a

  abbrev target : SideState
  target = side w.scope b

  tested_stands : (o : Option Reason) (known : Assertion) (next : Assertion → Course Assertion) → (o ≡ None → EndsStand w ps a b (next known).ends)
      → EndsStand w ps a b (and_then (tested o known) next).ends
  tested_stands None known next h = h refl
  tested_stands (Some r) known next h = tt

  -- ---- rules

  conclusion_stands : (at : Side) (from : List Fact) (to : Fact) (known : Assertion) → Stand w ps known a b → IsSound w.scope (record { from = from; to = to })
      → first_missing (facts_of at known) from ≡ None → Stand w ps (with_conclusion at to known) a b
  conclusion_stands Src from to known stand rule h =
      let holds = stand.holds in
      knowing w ps known (with_conclusion Src to known) a b stand (record {
        source_facts = with_fact_holds source to known.src holds.source_facts
            (rule source refl stand.sides.source_fine (premises_hold source known.src from holds.source_facts h));
        target_facts = holds.target_facts;
        related = holds.related;
      })
  conclusion_stands Tgt from to known stand rule h =
      let holds = stand.holds in
      knowing w ps known (with_conclusion Tgt to known) a b stand (record {
        source_facts = holds.source_facts;
        target_facts = with_fact_holds target to known.tgt holds.target_facts
            (rule target refl stand.sides.target_fine (premises_hold target known.tgt from holds.target_facts h));
        related = holds.related;
      })

  concluded_stands : (step : RuleStep) (known : Assertion) → Stand w ps known a b → IsSound w.scope step.schema
      → (o : Option Fact) → first_missing (facts_of step.side known) step.schema.from ≡ o → EndsStand w ps a b (concluded o step known).ends
  concluded_stands step known stand rule (Some f) h = tt
  concluded_stands step known stand rule None h = (a.files.ghost, b.files.ghost, conclusion_stands step.side step.schema.from step.schema.to known stand rule h)

  rule_stands : (step : RuleStep) (known : Assertion) → Stand w ps known a b → (o : Option Meaning)
      → (rule_takes o w.scope step.schema ≡ true → IsSound w.scope step.schema) → EndsStand w ps a b (after_rule o w.scope step known).ends
  rule_stands step known stand None rule = tt
  rule_stands step known stand (Some r) rule =
      cond_both (r.takes w.scope step.schema) (concluded (first_missing (facts_of step.side known) step.schema.from) step known) (refuses (RuleUnfit step.rule))
      (λ (c : Course Assertion). EndsStand w ps a b c.ends)
      (λ e. concluded_stands step known stand (rule e) (first_missing (facts_of step.side known) step.schema.from) refl)
      (λ e. tt)

  -- registers that may not differ are related, so what is made of them is
  related_worth : (known : Assertion) (e : Expr0) → Stand w ps known a b → differing_fault known e ≡ None → AreOutcomesRelated ps (worth source e) (worth target e)
  related_worth known e stand free =
      outcome_alike ps w.scope stand.sides.common.globals a.world.memory b.world.memory stand.sides.common.memories (read_reg source) (read_reg target) (λ r. has_reg r known.diff)
      (λ k r out. stand.holds.related.outside r k out) e (none_differs known e free)

  -- ---- same

  module _ (e : Expr0) (k : Kind) (of_expr : kind_of_expr e ≡ Some k) where
    -- of facts at the expression's kind, and no definition at another
    same_now : (x : Name) (s t : Registers) → list_any (is_other x e) (typed_of w.source) ≡ false → AreDefined w.source s
        → IsRelated ps (read s k x) (read t k x) → (j : Kind) → IsRelated ps (read s j x) (read t j x)
    same_now x s t none defined related j = ⊎_elim
        (λ h. subst (λ i. IsRelated ps (read s i x) (read t i x)) (same_kind_true k j h) related)
        (λ h. subst (λ v. IsRelated ps v (read t j x)) (sym (reads_poison e k of_expr w.source x j (s x) none (defined x) h)) tt)
        (cases_Bool (same_kind k j))

    same_reads : (x : Reg) (known : Assertion) → Stand w ps known a b → has_other_kind w.source x e ≡ false
        → IsRelated ps (read_reg source k x) (read_reg target k x) → (j : Kind) → IsRelated ps (read_reg source j x) (read_reg target j x)
    same_reads (Now x) known stand none related j = same_now x a.files.now b.files.now none stand.now_defined related j
    same_reads (Old x) known stand none related j = same_now x a.files.old b.files.old none stand.old_defined related j
    same_reads (Ghost g) known stand none related j = stand.holds.related.ghosts g j refl

    between : (x : Reg) (known : Assertion) → Stand w ps known a b
        → has_fact (LessDef (register_at (type_of e) x) e) known.src ≡ true → has_fact (LessDef e (register_at (type_of e) x)) known.tgt ≡ true
        → differing_fault known e ≡ None → IsRelated ps (read_reg source k x) (read_reg target k x)
    between x known stand above below free =
        let r = register_at (type_of e) x in
        let first = (has_fact_holds source (LessDef r e) known.src above stand.holds.source_facts).1 in
        let last = (has_fact_holds target (LessDef e r) known.tgt below stand.holds.target_facts).1 in
        let whole = outcome_between ps (worth source r) (worth source e) (worth target e) (worth target r) first (related_worth known e stand free) last in
        subst (λ o. AreOutcomesRelated ps (Gives (register_value (read_reg source) o x)) (Gives (register_value (read_reg target) o x))) of_expr whole

  same_related : (x : Reg) (known : Assertion) → Stand w ps known a b → ((j : Kind) → IsRelated ps (read_reg source j x) (read_reg target j x))
      → Stand w ps (record known { diff = without_reg x known.diff }) a b
  same_related x known stand related =
      let holds = stand.holds in
      knowing w ps known (record known { diff = without_reg x known.diff }) a b stand (record {
        source_facts = holds.source_facts;
        target_facts = holds.target_facts;
        related = record {
          outside = λ r k out. ⊎_elim
              (λ e. subst (λ q. IsRelated ps (read_reg source k q) (read_reg target k q)) (same_reg_true x r e) (related k))
              (λ e. holds.related.outside r k (outside_without r x known.diff e out))
              (cases_Bool (same_reg x r));
          ghosts = holds.related.ghosts;
        };
      })

  same_stands : (step : SameStep) (known : Assertion) → Stand w ps known a b → EndsStand w ps a b (after_same w step known).ends
  same_stands step known stand = go (same_fault w known step.register step.by) refl
    where
      after : Assertion
      after = record known { diff = without_reg step.register known.diff }

      go : (o : Option Reason) → same_fault w known step.register step.by ≡ o → EndsStand w ps a b (tested o after).ends
      go (Some r) h = tt
      go None h =
          let e = step.by in
          let x = step.register in
          let r = register_at (type_of e) x in
          let in_source = premise_fault w.source x e known.src (LessDef r e) in
          let in_target = premise_fault w.target x e known.tgt (LessDef e r) in
          let differing = differing_fault known e in
          let typed = no_first (cond (has_type w.scope e) None (Some (RuleUnfit ghost_word))) (first_fault (in_source ∷ in_target ∷ differing ∷ [])) h in
          let first = no_first in_source (first_fault (in_target ∷ differing ∷ [])) typed.1 in
          let second = no_first in_target (first_fault (differing ∷ [])) first.1 in
          let free = no_first differing None second.1 in
          let k = expr_has_kind w.scope e (passed (has_type w.scope e) (RuleUnfit ghost_word) typed.0) in
          let above = passed (has_fact (LessDef r e) known.src && not (has_other_kind w.source x e)) (MissingPremise (LessDef r e)) first.0 in
          let below = passed (has_fact (LessDef e r) known.tgt && not (has_other_kind w.target x e)) (MissingPremise (LessDef e r)) second.0 in (
            a.files.ghost,
            b.files.ghost,
            same_related x known stand
                (same_reads e k.0 k.1 x known stand
                (not-true (has_other_kind w.source x e) (right_true (has_fact (LessDef r e) known.src) (not (has_other_kind w.source x e)) above))
                (between e k.0 k.1 x known stand (left_true (has_fact (LessDef r e) known.src) (not (has_other_kind w.source x e)) above)
                (left_true (has_fact (LessDef e r) known.tgt) (not (has_other_kind w.target x e)) below) free.0)),
          )

  -- ---- ghost

  choice_related : (g : Name) (o : Option Kind) (v u : Value) (known : Assertion) → AreRelated ps no_ghost known.diff source target → IsRelated ps v u
      → AreRelated ps no_ghost (without_reg (Ghost g) known.diff) (side w.scope (set_ghost a g o v)) (side w.scope (set_ghost b g o u))
  choice_related g o v u known related less = record { outside = outside; ghosts = ghosts }
    where
      ghosts : (x : Name) (k : Kind) → no_ghost x ≡ false → IsRelated ps (read (set a.files.ghost g o v) k x) (read (set b.files.ghost g o u) k x)
      ghosts x k shared = ⊎_elim
          (λ c. subst₂ (IsRelated ps) (sym (read_set_at a.files.ghost g x o k v c)) (sym (read_set_at b.files.ghost g x o k u c)) (held_related ps o k v u less))
          (λ c. subst₂ (IsRelated ps) (sym (read_set_other a.files.ghost g x o k v c)) (sym (read_set_other b.files.ghost g x o k u c)) (related.ghosts x k refl))
          (cases_Bool (same_name g x))

      outside : (r : Reg) (k : Kind) → has_reg r (without_reg (Ghost g) known.diff) ≡ false
          → IsRelated ps (read_reg (side w.scope (set_ghost a g o v)) k r) (read_reg (side w.scope (set_ghost b g o u)) k r)
      outside (Now x) k out = related.outside (Now x) k (outside_without (Now x) (Ghost g) known.diff refl out)
      outside (Old x) k out = related.outside (Old x) k (outside_without (Old x) (Ghost g) known.diff refl out)
      outside (Ghost x) k out = ghosts x k refl

  -- what a choice comes to
  chosen_ends : (g : Reg) (e : Expr0) (known : Assertion)
      → (chosen g e known).ends ≡ course.Gives (with_all Tgt (choice g e) (with_all Src (choice g e) (as_new g known)))
  chosen_ends g e known =
      then_ends (adds_all Src (choice g e) (as_new g known)) (with_all Src (choice g e) (as_new g known)) (adds_all Tgt (choice g e))
      (adds_all_ends Src (choice g e) (as_new g known))
      ∙ adds_all_ends Tgt (choice g e) (with_all Src (choice g e) (as_new g known))

  choice_stands : (g : Name) (e : Expr0) (known : Assertion) → Stand w ps known a b → can_trap e ≡ false → expr_names (Ghost g) e ≡ false → differing_fault known e ≡ None
      → EndsStand w ps a b (chosen (Ghost g) e known).ends
  choice_stands g e known stand calm apart free =
      let v = gives_value w.scope (read_reg source) a.world.memory e calm in
      let u = gives_value w.scope (read_reg target) b.world.memory e calm in
      let related : IsRelated ps v.0 u.0 = subst₂ (AreOutcomesRelated ps) v.1 u.1 (related_worth known e stand free) in
      let sides = stand.sides in
      let after = after_choice w.scope a g e v.0 v.1 apart in
      let after' = after_choice w.scope b g e u.0 u.1 apart in
      subst (EndsStand w ps a b) (sym (chosen_ends (Ghost g) e known)) (
        after.files.ghost,
        after'.files.ghost,
        record {
          sides = record {
            common = common_with ps source target after.files after'.files sides.common;
            source_fine = choice_fine w.scope a g e v.0 v.1 apart sides.source_fine;
            target_fine = choice_fine w.scope b g e u.0 u.1 apart sides.target_fine;
            source_made = choice_made w.scope a g e v.0 v.1 apart sides.source_fine sides.source_made;
            target_made = choice_made w.scope b g e u.0 u.1 apart sides.target_fine sides.target_made;
          };
          now_defined = stand.now_defined;
          old_defined = stand.old_defined;
          holds = record {
            source_facts = chosen_facts w.scope a g e v.0 v.1 apart known.src stand.holds.source_facts;
            target_facts = chosen_facts w.scope b g e u.0 u.1 apart known.tgt stand.holds.target_facts;
            related = choice_related g (kind_of (type_of e)) v.0 u.0 known stand.holds.related related;
          };
        },
      )

  may_be_stands : (r : Reg) (e : Expr0) (known : Assertion) → Stand w ps known a b → may_be w.scope r e ≡ true → differing_fault known e ≡ None
      → EndsStand w ps a b (chosen r e known).ends
  may_be_stands (Now x) e known stand may free = absurd (false≢true may)
  may_be_stands (Old x) e known stand may free = absurd (false≢true may)
  may_be_stands (Ghost g) e known stand may free =
      let two = has_type w.scope e && not (can_trap e) in
      let apart = not-true (expr_names (Ghost g) e) (right_true two (not (expr_names (Ghost g) e)) may) in
      let calm = not-true (can_trap e) (right_true (has_type w.scope e) (not (can_trap e)) (left_true two (not (expr_names (Ghost g) e)) may)) in
      choice_stands g e known stand calm apart free

  ghost_stands : (step : GhostStep) (known : Assertion) → Stand w ps known a b → EndsStand w ps a b (after_ghost w.scope step known).ends
  ghost_stands step known stand =
      tested_stands (ghost_fault w.scope known step.register step.value) known (chosen step.register step.value) (λ h.
      let g = step.register in
      let e = step.value in
      let may = no_first (cond (may_be w.scope g e) None (Some (RuleUnfit ghost_word))) (first_fault (differing_fault known e ∷ [])) h in
      may_be_stands g e known stand (passed (may_be w.scope g e) (RuleUnfit ghost_word) may.0) (no_first (differing_fault known e) None may.1).0)

  step_stands : (s : HintStep) (known : Assertion) → Stand w ps known a b → EndsStand w ps a b (after_step w s known).ends
  step_stands (Rule step) known stand = rule_stands step known stand (rule_named w.rules step.rule) (sound step.rule w.scope step.schema)
  step_stands (GhostOf step) known stand = ghost_stands step known stand
  step_stands (SameAs step) known stand = same_stands step known stand

module _ (w : Beside) (sound : AreSound w.rules) (ps : Pairing) where
  joined : (a b : Run) (sizes : List ℕ) (ends : Ends Assertion) (next : Assertion → Course Assertion) → EndsStand w ps a b ends
      → ((c d : Run) (known : Assertion) → Stand w ps known c d → EndsStand w ps c d (next known).ends) → EndsStand w ps a b (after_ends sizes ends next).ends
  joined a b sizes (Refuses r) next h on = tt
  joined a b sizes (course.Gives known) next h on = again (next known).ends (on (with_ghost a h.0) (with_ghost b h.1) known h.2)
    where
      again : (ends : Ends Assertion) → EndsStand w ps (with_ghost a h.0) (with_ghost b h.1) ends → EndsStand w ps a b ends
      again (Refuses r) k = tt
      again (course.Gives known) k = k

  steps_stand : (steps : List HintStep) (a b : Run) (known : Assertion) → Stand w ps known a b → EndsStand w ps a b (after_steps w steps known).ends
  steps_stand [] a b known stand = (a.files.ghost, b.files.ghost, stand)
  steps_stand (s ∷ ss) a b known stand =
      joined a b (after_step w s known).sizes (after_step w s known).ends (after_steps w ss) (step_stands w sound ps a b s known stand)
      (λ c d known' stand'. steps_stand ss c d known' stand')

  -- where the steps of a hint come to something, it stands
  pub steps_lead : (steps : List HintStep) (a b : Run) (known after : Assertion) → Stand w ps known a b → (after_steps w steps known).ends ≡ course.Gives after
      → (g : Registers) × (h : Registers) × Stand w ps after (with_ghost a g) (with_ghost b h)
  steps_lead steps a b known after stand ends = subst (EndsStand w ps a b) ends (steps_stand steps a b known stand)
