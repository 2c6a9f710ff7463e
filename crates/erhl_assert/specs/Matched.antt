-- When the source's operand a and the target's operand b are known to be related.
use Rattle.std.specs.Prelude.{Bool, true, false, ◌&&◌, ◌||◌, not, List, [], ◌∷◌, Option, None, Some}
use Rattle.std.specs.List.{list_any}
use Rattle.ir_types.specs.declared.names.Name.{Name}
use Rattle.ir_core.specs.declared.values.Kind.{Kind}
use Rattle.ir_types.specs.declared.ty.Ty.{Ty}
use Rattle.ir_core.specs.declared.operands.Atom.{Atom}
use Rattle.ir_core.specs.declared.operands.Atom.TheVariants as atom
use Rattle.ir_core.specs.declared.operands.Operand.{Operand}
use Rattle.ir_core.specs.declared.expressions.Reg.{Reg}
use Rattle.ir_core.specs.declared.expressions.Reg.TheVariants.{Now}
use Rattle.ir_core.specs.declared.expressions.Expr.TheVariants.{Plain}
use Rattle.ir_types.specs.Same.{same_ty}
use Rattle.ir_core.specs.Same.{same_const, same_reg, same_expr}
use Rattle.ir_core.specs.Expressions.{Expr0, map_operand}
use Rattle.ir_values.specs.Values.{same_kind}
use Rattle.ir_core.specs.Types.{kind_of}
use Rattle.erhl_assert.specs.declared.facts.Fact.{Fact}
use Rattle.erhl_assert.specs.declared.facts.Fact.TheVariants.{LessDef}
use Rattle.erhl_assert.specs.declared.facts.Assertion.{Assertion}
use Rattle.erhl_assert.specs.Sides.{has_reg}

-- an operand of a function, as the logic names it
abbrev pub now_operand : Operand Name → Operand Reg
now_operand o = map_operand Now o

abbrev pub of_plain : (Operand Reg → Bool) → Expr0 → Bool
of_plain p (Plain o) = p o
of_plain p e = false

-- p of the operand c of a fact that says a is less defined than c
abbrev pub from_fact : (Operand Reg → Bool) → Operand Reg → Fact → Bool
from_fact p a (LessDef x y) = same_expr same_reg x (Plain a) && of_plain p y
from_fact p a f = false

-- p of the operand c of a fact that says c is less defined than b
abbrev pub into_fact : (Operand Reg → Bool) → Operand Reg → Fact → Bool
into_fact p b (LessDef x y) = same_expr same_reg y (Plain b) && of_plain p x
into_fact p b f = false

-- p of a itself, or of some c that a is known to be less defined than
abbrev pub some_from : (Operand Reg → Bool) → Operand Reg → List Fact → Bool
some_from p a fs = p a || list_any (from_fact p a) fs

-- p of b itself, or of some c that is known to be less defined than b
abbrev pub some_into : (Operand Reg → Bool) → Operand Reg → List Fact → Bool
some_into p b fs = p b || list_any (into_fact p b) fs

-- a type's kind is k; a type without values has none
abbrev pub is_kind : Option Kind → Kind → Bool
is_kind None k = false
is_kind (Some j) k = same_kind j k

-- one constant of one stated type, or one register that doesn't differ
abbrev pub meet_at : List Reg → Operand Reg → Operand Reg → Atom Reg → Atom Reg → Bool
meet_at diff c d (atom.Constant m) (atom.Constant n) = same_ty c.ty d.ty && same_const m n
meet_at diff c d (atom.Register x) (atom.Register y) = same_reg x y && not (has_reg x diff)
meet_at diff c d (atom.Constant m) (atom.Register y) = false
meet_at diff c d (atom.Register x) (atom.Constant n) = false

-- the two are one c of that kind
abbrev pub meet : List Reg → Kind → Operand Reg → Operand Reg → Bool
meet diff k c d = is_kind (kind_of c.ty) k && is_kind (kind_of d.ty) k && meet_at diff c d c.atom d.atom

-- There is a c of that kind, a constant or a register that doesn't differ, such that a is c or is known on the source to be
-- less defined than c, and b is c or c is known on the target to be less defined than b. Without a kind there is none.
abbrev pub matched_at : Assertion → Option Kind → Operand Reg → Operand Reg → Bool
matched_at known None a b = false
matched_at known (Some k) a b = some_from (λ c. some_into (λ d. meet known.diff k c d) b known.tgt) a known.src

-- a and b have one type, which has values, and are matched at its kind
abbrev pub matched_reg : Assertion → Operand Reg → Operand Reg → Bool
matched_reg known a b = same_ty a.ty b.ty && matched_at known (kind_of a.ty) a b

abbrev pub matched : Assertion → Operand Name → Operand Name → Bool
matched known a b = matched_reg known (now_operand a) (now_operand b)

-- the same, of two atoms at their types
abbrev pub atoms_matched : Assertion → Ty → Atom Name → Ty → Atom Name → Bool
atoms_matched known s a t b = matched known (record { ty = s; atom = a }) (record { ty = t; atom = b })

-- Operands are matched, each of the source's with the one of the target's that stands in its place.
abbrev pub are_matched : Assertion → List (Operand Name) → List (Operand Name) → Bool
are_matched known [] [] = true
are_matched known (a ∷ xs) (b ∷ ys) = matched known a b && are_matched known xs ys
are_matched known [] (b ∷ ys) = false
are_matched known (a ∷ xs) [] = false
