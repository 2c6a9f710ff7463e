-- Expressions over other registers.
use Rattle.std.proofs.Common.{◌≡◌, List, [], ◌∷◌, refl, ap, map}
use Rattle.ir_core.specs.declared.expressions.Expr.{Expr}
use Rattle.ir_core.specs.declared.expressions.Expr.TheVariants as expr
use Rattle.ir_core.specs.declared.expressions.Reg.{Reg}
use Rattle.ir_types.specs.declared.names.Name.{Name}
use Rattle.ir_core.specs.declared.operands.Atom.{Atom}
use Rattle.ir_core.specs.declared.operands.Atom.TheVariants.{Constant, Register}
use Rattle.ir_core.specs.declared.operands.Operand.{Operand}
use Rattle.ir_core.specs.Expressions.{map_atom, map_expr, map_operand, operands_in, type_of}
use Rattle.ir_core.specs.Laws.{ExpressionsAreMapped, ExpressionsAreRead}

pub expressions_are_read : ExpressionsAreRead
expressions_are_read = record {
  compared = refl;
  extended = refl;
  selected = refl;
  of_comparison = refl;
  of_conversion = refl;
  of_selection = refl;
  in_comparison = (refl, refl, refl);
  in_conversion = (refl, refl);
  in_selection = (refl, refl, refl);
}

over_others : (g : Name → Reg) (e : Expr Name) → (type_of (map_expr g e) ≡ type_of e) × (operands_in (map_expr g e) ≡ map (map_operand g) (operands_in e))
over_others g (expr.Plain o) = (refl, refl)
over_others g (expr.Binary b) = (refl, refl)
over_others g (expr.Icmp c) = (refl, refl)
over_others g (expr.Cast c) = (refl, refl)
over_others g (expr.Select s) = (refl, refl)
over_others g (expr.Element e) = (refl, refl)
over_others g (expr.Load l) = (refl, refl)

same_atom : (a : Atom Name) → map_atom (λ r. r) a ≡ a
same_atom (Constant c) = refl
same_atom (Register r) = refl

same_operand : (o : Operand Name) → map_operand (λ r. r) o ≡ o
same_operand o = ap (λ (a : Atom Name). record { ty = o.ty; atom = a }) (same_atom o.atom)

same_operands : (os : List (Operand Name)) → map (map_operand (λ r. r)) os ≡ os
same_operands [] = refl
same_operands (o ∷ os) = cc (same_operand o, same_operands os)

over_own : (e : Expr Name) → map_expr (λ r. r) e ≡ e
over_own (expr.Plain o) = ap expr.Plain (same_operand o)
over_own (expr.Binary b) =
    let both : (map_atom (λ r. r) b.left, map_atom (λ r. r) b.right) ≡ (b.left, b.right) = cc (same_atom b.left, same_atom b.right) in
    ap (λ (p : Atom Name × Atom Name). expr.Binary (record { op = b.op; flags = b.flags; ty = b.ty; left = p.0; right = p.1 })) both
over_own (expr.Icmp c) =
    let both : (map_atom (λ r. r) c.left, map_atom (λ r. r) c.right) ≡ (c.left, c.right) = cc (same_atom c.left, same_atom c.right) in
    ap (λ (p : Atom Name × Atom Name). expr.Icmp (record { pred = c.pred; ty = c.ty; left = p.0; right = p.1 })) both
over_own (expr.Cast c) = ap (λ (o : Operand Name). expr.Cast (record { op = c.op; operand = o; to = c.to })) (same_operand c.operand)
over_own (expr.Select s) =
    let all : (map_operand (λ r. r) s.condition, map_operand (λ r. r) s.left, map_operand (λ r. r) s.right) ≡ (s.condition, s.left, s.right) =
    cc (same_operand s.condition, same_operand s.left, same_operand s.right) in
    ap (λ (p : Operand Name × Operand Name × Operand Name). expr.Select (record { condition = p.0; left = p.1; right = p.2 })) all
over_own (expr.Element e) =
    let both : (map_operand (λ r. r) e.base, map (map_operand (λ r. r)) e.indices) ≡ (e.base, e.indices) = cc (same_operand e.base, same_operands e.indices) in
    ap (λ (p : Operand Name × List (Operand Name)). expr.Element (record { inbounds = e.inbounds; of = e.of; base = p.0; indices = p.1; to = e.to })) both
over_own (expr.Load l) = ap (λ (o : Operand Name). expr.Load (record { of = l.of; pointer = o; align = l.align })) (same_operand l.pointer)

pub expressions_are_mapped : ExpressionsAreMapped
expressions_are_mapped = (over_others, over_own)
