-- Expressions, over whatever registers they name: a line's right side names registers of the function, and an expression of
-- the logic a register as it is now, as it was, or of the proof alone.
use Rattle.std.specs.Prelude.{Bool, false, ◌||◌, List, [], ◌∷◌, map}
use Rattle.std.specs.List.{list_any}
use Rattle.ir_types.specs.declared.ty.Ty.{Ty}
use Rattle.ir_types.specs.declared.ty.Ty.TheVariants.{Int}
use Rattle.ir_core.specs.declared.operands.Atom.{Atom}
use Rattle.ir_core.specs.declared.operands.Atom.TheVariants.{Constant, Register}
use Rattle.ir_core.specs.declared.operands.Operand.{Operand}
use Rattle.ir_core.specs.declared.expressions.Reg.{Reg}
use Rattle.ir_core.specs.declared.expressions.Binary.{Binary}
use Rattle.ir_core.specs.declared.expressions.Icmp.{Icmp}
use Rattle.ir_core.specs.declared.expressions.Cast.{Cast}
use Rattle.ir_core.specs.declared.expressions.Select.{Select}
use Rattle.ir_core.specs.declared.expressions.Element.{Element}
use Rattle.ir_core.specs.declared.expressions.Load.{Load}
use Rattle.ir_core.specs.declared.expressions.Expr.{Expr}
use Rattle.ir_core.specs.declared.expressions.Expr.TheVariants as expr

-- an expression of the logic
abbrev pub Expr0 : Type 0
Expr0 = Expr Reg

-- The type of what it gives, as the text states it: `icmp eq i32 %x, 0` gives an i1, `zext i1 %c to i8` an i8. An element's is kept
-- beside it, since it follows from the types that the module names.
abbrev pub type_of : {R : Type 0} → Expr R → Ty
type_of (expr.Plain o) = o.ty
type_of (expr.Binary b) = b.ty
type_of (expr.Icmp c) = Int 1
type_of (expr.Cast c) = c.to
type_of (expr.Select s) = s.left.ty
type_of (expr.Element e) = e.to
type_of (expr.Load l) = l.of

-- its operands, each with the type that is stated for it, in the order of the text
abbrev pub operands_in : {R : Type 0} → Expr R → List (Operand R)
operands_in (expr.Plain o) = o ∷ []
operands_in (expr.Binary b) = record { ty = b.ty; atom = b.left } ∷ record { ty = b.ty; atom = b.right } ∷ []
operands_in (expr.Icmp c) = record { ty = c.ty; atom = c.left } ∷ record { ty = c.ty; atom = c.right } ∷ []
operands_in (expr.Cast c) = c.operand ∷ []
operands_in (expr.Select s) = s.condition ∷ s.left ∷ s.right ∷ []
operands_in (expr.Element e) = e.base ∷ e.indices
operands_in (expr.Load l) = l.pointer ∷ []

-- the same over other registers
abbrev pub map_atom : {R S : Type 0} → (R → S) → Atom R → Atom S
map_atom f (Constant c) = Constant c
map_atom f (Register r) = Register (f r)

abbrev pub map_operand : {R S : Type 0} → (R → S) → Operand R → Operand S
map_operand f o = record { ty = o.ty; atom = map_atom f o.atom }

abbrev pub map_binary : {R S : Type 0} → (R → S) → Binary R → Binary S
map_binary f b = record { op = b.op; flags = b.flags; ty = b.ty; left = map_atom f b.left; right = map_atom f b.right }

abbrev pub map_icmp : {R S : Type 0} → (R → S) → Icmp R → Icmp S
map_icmp f c = record { pred = c.pred; ty = c.ty; left = map_atom f c.left; right = map_atom f c.right }

abbrev pub map_cast : {R S : Type 0} → (R → S) → Cast R → Cast S
map_cast f c = record { op = c.op; operand = map_operand f c.operand; to = c.to }

abbrev pub map_select : {R S : Type 0} → (R → S) → Select R → Select S
map_select f s = record { condition = map_operand f s.condition; left = map_operand f s.left; right = map_operand f s.right }

abbrev pub map_element : {R S : Type 0} → (R → S) → Element R → Element S
map_element f e = record { inbounds = e.inbounds; of = e.of; base = map_operand f e.base; indices = map (map_operand f) e.indices; to = e.to }

abbrev pub map_load : {R S : Type 0} → (R → S) → Load R → Load S
map_load f l = record { of = l.of; pointer = map_operand f l.pointer; align = l.align }

abbrev pub map_expr : {R S : Type 0} → (R → S) → Expr R → Expr S
map_expr f (expr.Plain o) = expr.Plain (map_operand f o)
map_expr f (expr.Binary b) = expr.Binary (map_binary f b)
map_expr f (expr.Icmp c) = expr.Icmp (map_icmp f c)
map_expr f (expr.Cast c) = expr.Cast (map_cast f c)
map_expr f (expr.Select s) = expr.Select (map_select f s)
map_expr f (expr.Element e) = expr.Element (map_element f e)
map_expr f (expr.Load l) = expr.Load (map_load f l)

-- whether it names a register that passes the test
abbrev pub atom_has : {R : Type 0} → (R → Bool) → Atom R → Bool
atom_has test (Constant c) = false
atom_has test (Register r) = test r

abbrev pub expr_has : {R : Type 0} → (R → Bool) → Expr R → Bool
expr_has test (expr.Plain o) = atom_has test o.atom
expr_has test (expr.Binary b) = atom_has test b.left || atom_has test b.right
expr_has test (expr.Icmp c) = atom_has test c.left || atom_has test c.right
expr_has test (expr.Cast c) = atom_has test c.operand.atom
expr_has test (expr.Select s) = atom_has test s.condition.atom || atom_has test s.left.atom || atom_has test s.right.atom
expr_has test (expr.Element e) = atom_has test e.base.atom || list_any (λ o. atom_has test o.atom) e.indices
expr_has test (expr.Load l) = atom_has test l.pointer.atom
