-- Facts that are found by a register or a number.
use Rattle.std.specs.Prelude.{◌≡◌, true, false, [], ◌∷◌}
use Rattle.ir_types.specs.declared.names.Name.TheVariants.{Number}
use Rattle.ir_types.specs.declared.ty.Ty.TheVariants.{Int}
use Rattle.ir_core.specs.declared.operands.Atom.{Atom}
use Rattle.ir_core.specs.declared.operands.Atom.TheVariants as atom
use Rattle.ir_core.specs.declared.operands.Const.TheVariants as constant
use Rattle.ir_core.specs.declared.expressions.Expr.TheVariants.{Plain}
use Rattle.ir_core.specs.declared.expressions.Reg.{Reg}
use Rattle.ir_core.specs.declared.expressions.Reg.TheVariants.{Now}
use Rattle.ir_core.specs.Expressions.{Expr0}
use Rattle.erhl_assert.specs.declared.facts.Fact.{Fact}
use Rattle.erhl_assert.specs.declared.facts.Fact.TheVariants.{LessDef}
use Rattle.erhl_assert.specs.Facts.{has_fact}
use Rattle.fact_sets.specs.declared.near_facts.NearFacts.{NearFacts}
use Rattle.fact_sets.specs.Near.{AreNear, is_near, near_in}

abbrev pub plain : Atom Reg → Expr0
plain a = Plain (record { ty = Int 8; atom = a })

-- what is less defined than the register 3 is the number 7
abbrev pub three_is_seven : Fact
three_is_seven = LessDef (plain (atom.Register (Now (Number 3)))) (plain (atom.Constant (constant.Number 7)))

-- It is found under both, and not under another register; where it is all that is known, it is kept under both.
pub record NearFactsOfExamples : Type 0 where
  pub left : is_near (Number 3) three_is_seven ≡ true
  pub right : is_near (Number 7) three_is_seven ≡ true
  pub other : is_near (Number 4) three_is_seven ≡ false
  pub kept_left : (near : NearFacts) → AreNear near (three_is_seven ∷ []) → has_fact three_is_seven (near_in near (Number 3)) ≡ true
  pub kept_right : (near : NearFacts) → AreNear near (three_is_seven ∷ []) → has_fact three_is_seven (near_in near (Number 7)) ≡ true
