-- When facts and assertions hold, and when a schema of an inference rule is sound.
use Rattle.std.specs.Prelude.{◌≡◌, Bool, false, ◌&&◌, ◌||◌, cond, nat_eq, not, filter, List, [], ◌∷◌, ◌++◌, Option}
use Rattle.std.specs.List.{list_any, AllByRecursion}
use Rattle.ir_core.specs.declared.values.Kind.{Kind}
use Rattle.ir_types.specs.declared.names.Name.{Name}
use Rattle.ir_core.specs.declared.expressions.Reg.{Reg}
use Rattle.ir_core.specs.Same.{same_reg, same_expr}
use Rattle.ir_types.specs.Same.{same_ty}
use Rattle.ir_core.specs.Expressions.{Expr0, type_of, expr_has}
use Rattle.ir_values.specs.Constants.{Scope}
use Rattle.ir_values.specs.Operations.{IsOutcomeLessDefined}
use Rattle.ir_values.specs.Related.{Pairing}
use Rattle.ir_core.specs.Types.{kind_of}
use Rattle.erhl_assert.specs.declared.facts.Fact.{Fact}
use Rattle.erhl_assert.specs.declared.facts.Fact.TheVariants.{LessDef, Unique, Private, NoAlias, Ok}
use Rattle.erhl_assert.specs.declared.facts.Assertion.{Assertion}
use Rattle.erhl_assert.specs.declared.facts.Schema.{Schema}
use Rattle.erhl_assert.specs.declared.facts.Side.{Side}
use Rattle.erhl_assert.specs.declared.facts.Side.TheVariants.{Src, Tgt}
use Rattle.erhl_assert.specs.Sides.{SideState, IsFine, worth, AreRelated}
use Rattle.erhl_assert.specs.Holding.{HoldsUnique, HoldsPrivate, AreNoAliases, CanAccess}

abbrev pub kind_of_expr : Expr0 → Option Kind
kind_of_expr e = kind_of (type_of e)

-- A lessdef fact says that the first expression is less defined than the second; between two kinds it holds nowhere. Two that both have no
-- kind are both worth poison, and it holds between them.
abbrev pub Holds : SideState → Fact → Type 0
Holds side (LessDef a b) = (kind_of_expr a ≡ kind_of_expr b) × IsOutcomeLessDefined (worth side a) (worth side b)
Holds side (Unique r) = HoldsUnique side r
Holds side (Private r) = HoldsPrivate side r
Holds side (NoAlias a b) = AreNoAliases (worth side a) (worth side b)
Holds side (Ok e t align) = CanAccess side (kind_of t) (worth side e) align

-- an assertion holds of two states, by pairs of their blocks, beside the ghost registers that are one side's alone
pub record AssertionHolds (ps : Pairing) (lone : Name → Bool) (known : Assertion) (source target : SideState) : Type 0 where
  pub source_facts : AllByRecursion (Holds source) known.src
  pub target_facts : AllByRecursion (Holds target) known.tgt
  pub related : AreRelated ps lone known.diff source target

-- In every state of a side of a module with these types and globals that is as it should be: where the premises hold, so does the conclusion.
abbrev pub IsSound : Scope → Schema → Type 0
IsSound scope schema = (side : SideState) → side.scope ≡ scope → IsFine side → AllByRecursion (Holds side) schema.from → Holds side schema.to

-- true exactly of equal facts, which is the contract of `same_fact_is_equality`
abbrev pub same_fact : Fact → Fact → Bool
same_fact (LessDef a b) (LessDef c d) = same_expr same_reg a c && same_expr same_reg b d
same_fact (Unique r) (Unique s) = same_reg r s
same_fact (Private r) (Private s) = same_reg r s
same_fact (NoAlias a b) (NoAlias c d) = same_expr same_reg a c && same_expr same_reg b d
same_fact (Ok a t m) (Ok b s n) = same_expr same_reg a b && (same_ty t s && nat_eq m n)
same_fact f g = false

-- the fact stands in the list
abbrev pub has_fact : Fact → List Fact → Bool
has_fact f fs = list_any (same_fact f) fs

-- the list with the fact at its end, where it isn't there yet
abbrev pub with_fact : Fact → List Fact → List Fact
with_fact f fs = cond (has_fact f fs) fs (fs ++ f ∷ [])

-- the list with each of these in turn at its end, where it isn't there yet
abbrev pub with_facts : List Fact → List Fact → List Fact
with_facts [] fs = fs
with_facts (g ∷ gs) fs = with_facts gs (with_fact g fs)

-- the same assertion, with each fact of a side once, where it first stands
abbrev pub each_once : Assertion → Assertion
each_once known = record known { src = with_facts known.src []; tgt = with_facts known.tgt [] }

-- the expression names the register
abbrev pub expr_names : Reg → Expr0 → Bool
expr_names r e = expr_has (same_reg r) e

-- the fact names a register that passes the test
abbrev pub fact_has : (Reg → Bool) → Fact → Bool
fact_has test (LessDef a b) = expr_has test a || expr_has test b
fact_has test (Unique r) = test r
fact_has test (Private r) = test r
fact_has test (NoAlias a b) = expr_has test a || expr_has test b
fact_has test (Ok e t align) = expr_has test e

-- the facts that name no register that passes the test: all kills are this one
abbrev pub without : (Reg → Bool) → List Fact → List Fact
without test fs = filter (λ f. not (fact_has test f)) fs

abbrev pub fact_names : Reg → Fact → Bool
fact_names r f = fact_has (same_reg r) f

-- the facts that don't name the register
abbrev pub without_naming : Reg → List Fact → List Fact
without_naming r fs = without (same_reg r) fs

-- the two are less defined than each other
abbrev pub both_ways : Expr0 → Expr0 → List Fact
both_ways a b = LessDef a b ∷ LessDef b a ∷ []

-- the same assertion, with the facts of one side changed
abbrev pub on_side : Side → (List Fact → List Fact) → Assertion → Assertion
on_side Src change known = record known { src = change known.src }
on_side Tgt change known = record known { tgt = change known.tgt }
