-- Inference rules by their meanings, and the steps of a hint: by a rule, of a ghost register, and of a register that is the same.
use Rattle.std.specs.Prelude.{◌≡◌, ℕ, Bool, true, false, ◌&&◌, not, cond, codes, List, [], ◌∷◌, map, nat_eq, filter, find, Option, None, Some}
use Rattle.std.specs.List.{list_any, filter_map, flat_map}
use Rattle.std.specs.Option.{option_eq, option_map}
use Rattle.ir_types.specs.declared.names.Name.{Name}
use Rattle.ir_core.specs.declared.operands.Atom.{Atom}
use Rattle.ir_core.specs.declared.operands.Atom.TheVariants.{Constant, Register}
use Rattle.ir_core.specs.declared.operands.Operand.{Operand}
use Rattle.ir_types.specs.declared.ty.Ty.{Ty}
use Rattle.ir_core.specs.declared.expressions.Reg.{Reg}
use Rattle.ir_core.specs.declared.expressions.Reg.TheVariants.{Now, Old, Ghost}
use Rattle.ir_core.specs.declared.functions.Function.{Function}
use Rattle.ir_core.specs.Expressions.{Expr0, type_of, operands_in}
use Rattle.ir_core.specs.Functions.{typed_of}
use Rattle.ir_types.specs.Same.{same_list, same_name}
use Rattle.ir_core.specs.Types.{kind_of}
use Rattle.ir_values.specs.Constants.{Scope}
use Rattle.ir_values.specs.Values.{same_kind}
use Rattle.erhl_assert.specs.declared.facts.Fact.{Fact}
use Rattle.erhl_assert.specs.declared.facts.Assertion.{Assertion}
use Rattle.erhl_assert.specs.declared.facts.Schema.{Schema}
use Rattle.erhl_assert.specs.declared.facts.Side.TheVariants.{Src, Tgt}
use Rattle.erhl_assert.specs.declared.hints.RuleStep.{RuleStep}
use Rattle.erhl_assert.specs.declared.hints.HintStep.{HintStep}
use Rattle.erhl_assert.specs.declared.hints.HintStep.TheVariants.{Rule, Ghost as GhostOf, Same as SameAs}
use Rattle.erhl_assert.specs.declared.hints.GhostStep.{GhostStep}
use Rattle.erhl_assert.specs.declared.hints.SameStep.{SameStep}
use Rattle.erhl_assert.specs.declared.hints.HintEdge.{HintEdge}
use Rattle.erhl_assert.specs.declared.hints.Hint.{Hint}
use Rattle.erhl_assert.specs.declared.hints.PlacedStep.{PlacedStep}
use Rattle.erhl_assert.specs.declared.facts.Fact.TheVariants.{LessDef}
use Rattle.erhl_assert.specs.declared.verdict.Reason.{Reason}
use Rattle.erhl_assert.specs.declared.verdict.Reason.TheVariants.{UnknownRule, RuleUnfit, MissingPremise, DiffLeft}
use Rattle.erhl_assert.specs.Sides.{has_reg}
use Rattle.erhl_assert.specs.Facts.{IsSound, kind_of_expr, has_fact, expr_names, without_naming, both_ways}
use Rattle.erhl_assert.specs.Typed.{has_type}
use Rattle.erhl_assert.specs.Allowed.{can_trap}
use Rattle.erhl_assert.specs.Postcondition.{without_reg}
use Rattle.erhl_assert.specs.Edges.{register_at}
use Rattle.erhl_assert.specs.Course.{Course, gives, refuses, and_then, tested, first_fault}
use Rattle.erhl_assert.specs.Growth.{facts_of, adds, adds_all}

-- a rule: its name, and which schemas it takes beside a module's types and globals
pub record Meaning : Type 0 where
  pub name : List ℕ
  pub takes : Scope → Schema → Bool

abbrev pub Rules : Type 0
Rules = List Meaning

-- the rule of that name: of two the first
abbrev pub rule_named : Rules → List ℕ → Option Meaning
rule_named rules name = find (λ r. same_list nat_eq r.name name) rules

abbrev pub rule_takes : Option Meaning → Scope → Schema → Bool
rule_takes None scope schema = false
rule_takes (Some r) scope schema = r.takes scope schema

-- what a check is asked of: rules, types and globals, two functions, and their hint
pub record Beside : Type 0 where
  pub rules : Rules
  pub scope : Scope
  pub source : Function
  pub target : Function
  pub hint : Hint

abbrev pub beside : Rules → Scope → Function → Function → Hint → Beside
beside rules scope f g hint = record { rules = rules; scope = scope; source = f; target = g; hint = hint }

-- whatever the rules take is sound
abbrev pub AreSound : Rules → Type 0
AreSound rules = (name : List ℕ) (scope : Scope) (schema : Schema)
    → rule_takes (rule_named rules name) scope schema ≡ true → IsSound scope schema

-- the first premise that isn't there
abbrev pub first_missing : List Fact → List Fact → Option Fact
first_missing fs premises = find (λ p. not (has_fact p fs)) premises

abbrev pub concluded : Option Fact → RuleStep → Assertion → Course Assertion
concluded (Some f) step known = refuses (MissingPremise f)
concluded None step known = adds step.side step.schema.to known

-- The rule is in the book, it takes the step, and each premise is there, tested in this order; then the conclusion is added.
abbrev pub after_rule : Option Meaning → Scope → RuleStep → Assertion → Course Assertion
after_rule None scope step known = refuses (UnknownRule step.rule)
after_rule (Some r) scope step known =
    cond (r.takes scope step.schema) (concluded (first_missing (facts_of step.side known) step.schema.from) step known) (refuses (RuleUnfit step.rule))

-- ---- ghost registers, and registers that are the same

abbrev pub register_in : Atom Reg → Option Reg
register_in (Constant c) = None
register_in (Register r) = Some r

-- its registers, in the order of the text
abbrev pub registers_in : Expr0 → List Reg
registers_in e = filter_map (λ (o : Operand Reg). register_in o.atom) (operands_in e)

-- none of its registers may differ; else the first one that may is told
abbrev pub differing_fault : Assertion → Expr0 → Option Reason
differing_fault known e = option_map DiffLeft (find (λ r. has_reg r known.diff) (registers_in e))

-- the name that both kinds of step have in `rule unfit`
abbrev pub ghost_word : List ℕ
ghost_word = codes "ghost"

-- A ghost register may be worth an expression that has a type, can't trap and doesn't name it.
abbrev pub may_be : Scope → Reg → Expr0 → Bool
may_be scope (Ghost g) e = has_type scope e && not (can_trap e) && not (expr_names (Ghost g) e)
may_be scope (Now x) e = false
may_be scope (Old x) e = false

abbrev pub ghost_fault : Scope → Assertion → Reg → Expr0 → Option Reason
ghost_fault scope known g e = first_fault (cond (may_be scope g e) None (Some (RuleUnfit ghost_word)) ∷ differing_fault known e ∷ [])

-- that the ghost register and the expression are worth the same
abbrev pub choice : Reg → Expr0 → List Fact
choice g e = both_ways e (register_at (type_of e) g)

-- nothing is known of the register, and it doesn't differ
abbrev pub as_new : Reg → Assertion → Assertion
as_new g known = record { src = without_naming g known.src; tgt = without_naming g known.tgt; diff = without_reg g known.diff }

-- What was known of the register goes, also where it was chosen before, and on both sides it is worth the expression.
abbrev pub chosen : Reg → Expr0 → Assertion → Course Assertion
chosen g e known = and_then (adds_all Src (choice g e) (as_new g known)) (adds_all Tgt (choice g e))

-- `ghost %g is e`
abbrev pub after_ghost : Scope → GhostStep → Assertion → Course Assertion
after_ghost scope step known = and_then (tested (ghost_fault scope known step.register step.value) known) (chosen step.register step.value)

-- the function defines a register of that name at another kind than the expression's
abbrev pub is_other : Name → Expr0 → Name × Ty → Bool
is_other x e definition = same_name definition.0 x && not (option_eq same_kind (kind_of definition.1) (kind_of_expr e))

abbrev pub has_other_kind : Function → Reg → Expr0 → Bool
has_other_kind f (Now x) e = list_any (is_other x e) (typed_of f)
has_other_kind f (Old x) e = list_any (is_other x e) (typed_of f)
has_other_kind f (Ghost g) e = false

-- The fact is there; it counts as missing where the function defines the register at another kind.
abbrev pub premise_fault : Function → Reg → Expr0 → List Fact → Fact → Option Reason
premise_fault f x e fs wanted = cond (has_fact wanted fs && not (has_other_kind f x e)) None (Some (MissingPremise wanted))

abbrev pub same_fault : Beside → Assertion → Reg → Expr0 → Option Reason
same_fault w known x e = first_fault (
    cond (has_type w.scope e) None (Some (RuleUnfit ghost_word))
    ∷ premise_fault w.source x e known.src (LessDef (register_at (type_of e) x) e)
    ∷ premise_fault w.target x e known.tgt (LessDef e (register_at (type_of e) x))
    ∷ differing_fault known e
    ∷ []
    )

-- `same %x by e`: the source's register is known to be less defined than e, and e than the target's, and e is worth the same on both
-- sides. The register is stated at e's type.
abbrev pub after_same : Beside → SameStep → Assertion → Course Assertion
after_same w step known = tested (same_fault w known step.register step.by) (record known { diff = without_reg step.register known.diff })

-- ---- steps

abbrev pub after_step : Beside → HintStep → Assertion → Course Assertion
after_step w (Rule step) known = after_rule (rule_named w.rules step.rule) w.scope step known
after_step w (GhostOf step) known = after_ghost w.scope step known
after_step w (SameAs step) known = after_same w step known

-- the steps in their order
abbrev pub after_steps : Beside → List HintStep → Assertion → Course Assertion
after_steps w [] known = gives known
after_steps w (s ∷ ss) known = and_then (after_step w s known) (after_steps w ss)

-- the steps that stand before the aligned line of that number
abbrev pub steps_at : ℕ → List PlacedStep → List HintStep
steps_at k steps = map (λ (s : PlacedStep). s.step) (filter (λ s. nat_eq s.at k) steps)

-- the steps on the edge to the block of that name
abbrev pub steps_on : Name → List HintEdge → List HintStep
steps_on to edges = flat_map (λ (e : HintEdge). e.steps) (filter (λ e. same_name e.to to) edges)
