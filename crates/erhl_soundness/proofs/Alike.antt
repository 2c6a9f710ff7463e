-- Where registers read related values, expressions have related outcomes beside related memories. And which registers an expression has.
use Rattle.std.proofs.Common.{◌≡◌, ◌<◌, ◌||◌, ℕ, length, Bool, true, false, cond, List, [], ◌∷◌, map, Option, None, Some, refl}
use Rattle.std.specs.Prelude.{find}
use Rattle.std.specs.List.{AllZip, cons_option, filter_map, list_any}
use Rattle.std.proofs.lemmas.Bool.{or_parts, or_from}
use Rattle.ir_core.specs.declared.values.Value.{Value}
use Rattle.ir_core.specs.declared.values.Kind.{Kind}
use Rattle.ir_core.specs.declared.operands.Atom.{Atom}
use Rattle.ir_core.specs.declared.operands.Atom.TheVariants.{Constant, Register}
use Rattle.ir_core.specs.declared.expressions.Reg.{Reg}
use Rattle.ir_core.specs.declared.expressions.Expr.{Expr}
use Rattle.ir_core.specs.declared.operands.Operand.{Operand}
use Rattle.ir_core.specs.declared.expressions.Expr.TheVariants.{Plain, Binary, Icmp, Cast, Select, Element, Load}
use Rattle.ir_types.specs.declared.ty.Ty.{Ty}
use Rattle.ir_core.specs.Types.{kind_of}
use Rattle.ir_core.specs.Expressions.{Expr0, atom_has, expr_has}
use Rattle.ir_values.specs.Constants.{Scope}
use Rattle.ir_values.specs.PointerLaws.{AreIndicesRelated}
use Rattle.ir_values.specs.Related.{AreOutcomesRelated, ArePaired, IsRelated, Pairing}
use Rattle.block_memory.specs.Memory.{Memory}
use Rattle.block_memory.specs.Related.{AreMemoriesRelated}
use Rattle.ir_machine.specs.Registers.{register_value, atom_value, operand_value, index_value, is_stated, element_from, align_or, outcome}
use Rattle.erhl_assert.specs.Steps.{register_in, registers_in}
use Rattle.erhl_soundness.proofs.Constants.{constant_related}
use Rattle.erhl_soundness.proofs.Operators.{binary_related, icmp_related, cast_related, select_related, element_related, load_related, chosen_related, flags_among_themselves}

module _ {R : Type 0} (ps : Pairing) (scope : Scope) (globals : (k : ℕ) → k < length scope.globals → ArePaired ps k k) (m n : Memory) (memories : AreMemoriesRelated ps m n)
    (source target : Kind → R → Value) (test : R → Bool) (related : (k : Kind) (r : R) → test r ≡ false → IsRelated ps (source k r) (target k r)) where
  register_alike : (k : Option Kind) (r : R) → test r ≡ false → IsRelated ps (register_value source k r) (register_value target k r)
  register_alike None r h = tt
  register_alike (Some k) r h = related k r h

  atom_alike : (t : Ty) (a : Atom R) → atom_has test a ≡ false → IsRelated ps (atom_value scope source t a) (atom_value scope target t a)
  atom_alike t (Constant c) h = constant_related ps scope globals t (kind_of t) c
  atom_alike t (Register r) h = register_alike (kind_of t) r h

  indices_alike : (os : List (Operand R)) → list_any (λ (o : Operand R). atom_has test o.atom) os ≡ false
      → AllZip (AreIndicesRelated ps) (map (index_value scope source) os) (map (index_value scope target) os)
  indices_alike [] h = tt
  indices_alike (o ∷ os) h =
      let parts = or_parts (atom_has test o.atom) (list_any (λ (q : Operand R). atom_has test q.atom) os) h in
      ((refl, atom_alike o.ty o.atom parts.0), indices_alike os parts.1)

  pub outcome_alike : (e : Expr R) → expr_has test e ≡ false → AreOutcomesRelated ps (outcome scope source m e) (outcome scope target n e)
  outcome_alike (Plain o) h = atom_alike o.ty o.atom h
  outcome_alike (Binary b) h =
      let parts = or_parts (atom_has test b.left) (atom_has test b.right) h in
      binary_related ps b.op b.flags b.flags (kind_of b.ty) (atom_value scope source b.ty b.left) (atom_value scope source b.ty b.right)
      (atom_value scope target b.ty b.left) (atom_value scope target b.ty b.right)
      (flags_among_themselves b.flags) (atom_alike b.ty b.left parts.0) (atom_alike b.ty b.right parts.1)
  outcome_alike (Icmp c) h =
      let parts = or_parts (atom_has test c.left) (atom_has test c.right) h in
      icmp_related ps m n memories c.pred (kind_of c.ty) (atom_value scope source c.ty c.left) (atom_value scope source c.ty c.right)
      (atom_value scope target c.ty c.left) (atom_value scope target c.ty c.right)
      (atom_alike c.ty c.left parts.0) (atom_alike c.ty c.right parts.1)
  outcome_alike (Cast c) h =
      cast_related ps c.op c.operand.ty c.to (operand_value scope source c.operand) (operand_value scope target c.operand) (atom_alike c.operand.ty c.operand.atom h)
  outcome_alike (Select s) h =
      let parts = or_parts (atom_has test s.condition.atom || atom_has test s.left.atom) (atom_has test s.right.atom) h in
      let first = or_parts (atom_has test s.condition.atom) (atom_has test s.left.atom) parts.0 in
      select_related ps s.condition.ty s.left.ty s.right.ty
      (operand_value scope source s.condition) (operand_value scope source s.left) (operand_value scope source s.right)
      (operand_value scope target s.condition) (operand_value scope target s.left) (operand_value scope target s.right)
      (atom_alike s.condition.ty s.condition.atom first.0) (atom_alike s.left.ty s.left.atom first.1) (atom_alike s.right.ty s.right.atom parts.1)
  outcome_alike (Element e) h =
      let parts = or_parts (atom_has test e.base.atom) (list_any (λ (o : Operand R). atom_has test o.atom) e.indices) h in
      let a = operand_value scope source e.base in
      let b = operand_value scope target e.base in
      chosen_related ps (is_stated scope.types e) (element_from scope source m e a) (element_from scope target n e b)
      (element_related ps m n memories e.inbounds e.inbounds (λ fewer. fewer) scope.types e.of a b (map (index_value scope source) e.indices) (map (index_value scope target) e.indices)
      (atom_alike e.base.ty e.base.atom parts.0) (indices_alike e.indices parts.1))
  outcome_alike (Load l) h =
      load_related ps m n memories (kind_of l.of) (operand_value scope source l.pointer) (operand_value scope target l.pointer) (align_or scope.types l.of l.align)
      (atom_alike l.pointer.ty l.pointer.atom h)

-- where no register is found that passes a test, the expression has none
module _ (p : Reg → Bool) where
  passed_over : (b : Bool) (r : Reg) (o : Option Reg) → cond b (Some r) o ≡ None → (b ≡ false) × (o ≡ None)
  passed_over true r o h = absurd (cc)
  passed_over false r o h = (refl, h)

  atom_then : (a : Atom Reg) (more : List Reg) → find p (cons_option (register_in a) more) ≡ None → (atom_has p a ≡ false) × (find p more ≡ None)
  atom_then (Constant c) more h = (refl, h)
  atom_then (Register r) more h = passed_over (p r) r (find p more) h

  two_atoms : (a b : Atom Reg) (more : List Reg) → find p (cons_option (register_in a) (cons_option (register_in b) more)) ≡ None
      → ((atom_has p a || atom_has p b) ≡ false) × (find p more ≡ None)
  two_atoms a b more h =
      let first = atom_then a (cons_option (register_in b) more) h in
      let second = atom_then b more first.1 in
      (or_from (atom_has p a) (atom_has p b) first.0 second.0, second.1)

  operands_then : (os : List (Operand Reg)) → find p (filter_map (λ (o : Operand Reg). register_in o.atom) os) ≡ None
      → list_any (λ (o : Operand Reg). atom_has p o.atom) os ≡ false
  operands_then [] h = refl
  operands_then (o ∷ os) h =
      let first = atom_then o.atom (filter_map (λ (q : Operand Reg). register_in q.atom) os) h in
      or_from (atom_has p o.atom) (list_any (λ (q : Operand Reg). atom_has p q.atom) os) first.0 (operands_then os first.1)

  pub none_found : (e : Expr0) → find p (registers_in e) ≡ None → expr_has p e ≡ false
  none_found (Plain o) h = (atom_then o.atom [] h).0
  none_found (Binary b) h = (two_atoms b.left b.right [] h).0
  none_found (Icmp c) h = (two_atoms c.left c.right [] h).0
  none_found (Cast c) h = (atom_then c.operand.atom [] h).0
  none_found (Select s) h =
      let first = two_atoms s.condition.atom s.left.atom (cons_option (register_in s.right.atom) []) h in
      or_from (atom_has p s.condition.atom || atom_has p s.left.atom) (atom_has p s.right.atom) first.0 (atom_then s.right.atom [] first.1).0
  none_found (Element e) h =
      let first = atom_then e.base.atom (filter_map (λ (q : Operand Reg). register_in q.atom) e.indices) h in
      or_from (atom_has p e.base.atom) (list_any (λ (q : Operand Reg). atom_has p q.atom) e.indices) first.0 (operands_then e.indices first.1)
  none_found (Load l) h = (atom_then l.pointer.atom [] h).0
