-- Facts between two operands, by the names under which the operands are found.
use Rattle.std.specs.Prelude.{◌≡◌, ◌%◌, ◌^◌, Bool, true, false, ◌||◌, cond, List, [], ◌∷◌, Option, None, Some}
use Rattle.indexmap.specs.IndexMap.{get_by}
use Rattle.ir_types.specs.declared.names.Name.{Name}
use Rattle.ir_types.specs.declared.names.Name.TheVariants as name
use Rattle.ir_core.specs.declared.operands.Const.{Const}
use Rattle.ir_core.specs.declared.operands.Const.TheVariants as constant
use Rattle.ir_core.specs.declared.operands.Atom.{Atom}
use Rattle.ir_core.specs.declared.operands.Atom.TheVariants as atom
use Rattle.ir_core.specs.declared.expressions.Reg.{Reg}
use Rattle.ir_core.specs.declared.expressions.Expr.TheVariants as expr
use Rattle.ir_types.specs.Same.{same_name}
use Rattle.erhl_assert.specs.declared.facts.Fact.{Fact}
use Rattle.erhl_assert.specs.declared.facts.Fact.TheVariants.{LessDef}
use Rattle.erhl_assert.specs.Facts.{has_fact}
use Rattle.erhl_assert.specs.Named.{name_of}
use Rattle.fact_sets.specs.declared.near_facts.NearFacts.{NearFacts}

-- a constant is found under the name of the register of its number, so beside that register
abbrev pub constant_name : Const → Name
constant_name (constant.Number n) = name.Number (n % 2 ^ 32)
constant_name c = name.Number 0

abbrev pub found_under : Atom Reg → Name
found_under (atom.Constant c) = constant_name c
found_under (atom.Register r) = name_of r

-- the fact is between two operands, of which one is found under the name
abbrev pub is_near : Name → Fact → Bool
is_near x (LessDef (expr.Plain a) (expr.Plain b)) = same_name (found_under a.atom) x || same_name (found_under b.atom) x
is_near x f = false

abbrev pub list_or_none : Option (List Fact) → List Fact
list_or_none None = []
list_or_none (Some fs) = fs

-- the facts that are kept under the name
abbrev pub near_in : NearFacts → Name → List Fact
near_in near x = list_or_none (get_by (same_name x) near.by_name)

-- the fact, where the names are one
abbrev pub if_under : Name → Name → Fact → List Fact
if_under x y f = cond (same_name x y) (f ∷ []) []

-- among these is each of the facts that is near the name
abbrev pub HasAllNear : Name → List Fact → List Fact → Type 0
HasAllNear x near fs = (f : Fact) → has_fact f fs ≡ true → is_near x f ≡ true → has_fact f near ≡ true

-- each of the facts between two operands is kept under the names of both; others may be kept too
unfoldable pub AreNear : NearFacts → List Fact → Type 0
AreNear near fs = (x : Name) → HasAllNear x (near_in near x) fs
