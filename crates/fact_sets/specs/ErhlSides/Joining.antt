-- Words of private functions. Facts between two operands, which alone lead from one operand to another.
use Rattle.std.specs.Prelude.{◌≡◌, Bool, true, false, ◌&&◌, List, []}
use Rattle.std.specs.List.{list_any}
use Rattle.ir_core.specs.declared.expressions.Expr.TheVariants.{Plain}
use Rattle.ir_core.specs.Expressions.{Expr0}
use Rattle.erhl_assert.specs.declared.facts.Fact.{Fact}
use Rattle.erhl_assert.specs.declared.facts.Fact.TheVariants.{LessDef, Unique}
use Rattle.erhl_assert.specs.Facts.{with_facts}
use Rattle.fact_sets.specs.declared.near_facts.NearFacts.{NearFacts}
use Rattle.fact_sets.specs.Near.{AreNear}

abbrev pub is_operand : Expr0 → Bool
is_operand (Plain o) = true
is_operand e = false

abbrev pub joins : Fact → Bool
joins (LessDef x y) = is_operand x && is_operand y
joins f = false

-- the fact is that some register is unique
abbrev pub says_unique : Fact → Bool
says_unique (Unique r) = true
says_unique f = false

-- where none may join two operands, none does; and where they are whole, each stands once
unfoldable pub AreTold : Bool → Bool → List Fact → Type 0
AreTold may_join is_whole fs = (may_join ≡ false → list_any joins fs ≡ false) × (is_whole ≡ true → with_facts fs [] ≡ fs)

-- where they are whole, each between two operands is kept where it is found
unfoldable pub AreNearIf : Bool → NearFacts → List Fact → Type 0
AreNearIf is_whole near fs = is_whole ≡ true → AreNear near fs

-- where none may be that a register is unique, none is
unfoldable pub MayBeUnique : Bool → List Fact → Type 0
MayBeUnique may_be_unique fs = may_be_unique ≡ false → list_any says_unique fs ≡ false
