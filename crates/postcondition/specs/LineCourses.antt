-- Words of private functions. What a line does to a side, and to the registers that may differ.
use Rattle.std.specs.Prelude.{ℕ, Bool, false, ◌&&◌, cond, nat_eq, not, List, [], ◌∷◌, Option, None, Some}
use Rattle.ir_types.specs.declared.names.Name.{Name}
use Rattle.ir_types.specs.declared.named.NamedTy.{NamedTy}
use Rattle.ir_types.specs.Same.{same_name}
use Rattle.ir_core.specs.declared.functions.Instr.{Instr}
use Rattle.ir_core.specs.declared.functions.Instr.TheVariants as line
use Rattle.ir_core.specs.declared.values.Kind.{Kind}
use Rattle.ir_core.specs.declared.expressions.Expr.{Expr}
use Rattle.ir_core.specs.declared.expressions.Load.{Load as LoadOf}
use Rattle.ir_core.specs.declared.expressions.Reg.{Reg}
use Rattle.ir_core.specs.declared.expressions.Reg.TheVariants.{Now}
use Rattle.ir_core.specs.Types.{kind_of}
use Rattle.ir_core.specs.declared.expressions.Expr.TheVariants as expr
use Rattle.ir_machine.specs.Registers.{align_or}
use Rattle.erhl_assert.specs.declared.facts.Fact.{Fact}
use Rattle.erhl_assert.specs.declared.facts.Fact.TheVariants.{Ok}
use Rattle.erhl_assert.specs.declared.facts.Assertion.{Assertion}
use Rattle.erhl_assert.specs.Matched.{now_operand}
use Rattle.erhl_assert.specs.Postcondition.{lines_agree, with_reg, without_reg}

-- that another access doesn't trap, at a type that has values
abbrev pub access_at : Option Kind → List NamedTy → LoadOf Name → List Fact
access_at None types a = []
access_at (Some k) types a = Ok (expr.Plain (now_operand a.pointer)) a.of (align_or types a.of a.align) ∷ []

-- what is known of the access, if the right side is one
abbrev pub access_in : List NamedTy → Expr Name → List Fact
access_in types (expr.Load a) = access_at (kind_of a.of) types a
access_in types e = []

-- a slot of at least one value, at an alignment above 0
abbrev pub is_slot : Option Kind → ℕ → ℕ → Bool
is_slot None count align = false
is_slot (Some k) count align = not (nat_eq count 0) && not (nat_eq align 0)

-- ---- registers that may differ

-- both set one register, to values that are known to be related
abbrev pub are_agreed : Assertion → Option Instr → Option Instr → Bool
are_agreed known (Some (line.Calm s)) (Some (line.Calm t)) = lines_agree known s t
are_agreed known (Some (line.Alloca s)) (Some (line.Alloca t)) = same_name s.name t.name
are_agreed known s t = false

abbrev pub with_both : Bool → Name → Name → List Reg → List Reg
with_both agreed s t diff = cond agreed (without_reg (Now s) diff) (with_reg (Now t) (with_reg (Now s) diff))

abbrev pub diff_by : Bool → Option Instr → Option Instr → List Reg → List Reg
diff_by agreed (Some (line.Calm s)) (Some (line.Calm t)) diff = with_both agreed s.name t.name diff
diff_by agreed (Some (line.Alloca s)) (Some (line.Alloca t)) diff = with_both agreed s.name t.name diff
diff_by agreed (Some (line.Calm s)) None diff = with_reg (Now s.name) diff
diff_by agreed None (Some (line.Calm t)) diff = with_reg (Now t.name) diff
diff_by agreed (Some (line.Alloca s)) None diff = with_reg (Now s.name) diff
diff_by agreed None (Some (line.Alloca t)) diff = with_reg (Now t.name) diff
diff_by agreed s t diff = diff
