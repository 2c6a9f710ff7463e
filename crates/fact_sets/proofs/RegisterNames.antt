-- What is indexed stays so where a fact is added, or names alone.
use Rattle.std.proofs.Common.{◌≡◌, ◌∙◌, true, false, ◌||◌, cond, List, [], ◌∷◌, ◌++◌, sym, ap}
use Rattle.std.specs.List.{list_any}
use Rattle.indexmap.specs.IndexSet.{insert_key}
use Rattle.ir_types.specs.declared.names.Name.{Name}
use Rattle.ir_core.specs.declared.operands.Atom.{Atom}
use Rattle.ir_core.specs.declared.operands.Atom.TheVariants as atom
use Rattle.ir_core.specs.declared.operands.Operand.{Operand}
use Rattle.ir_core.specs.declared.expressions.Reg.{Reg}
use Rattle.ir_core.specs.declared.expressions.Expr.TheVariants.{Plain, Binary, Icmp, Cast, Select, Element, Load}
use Rattle.ir_types.specs.Same.{same_name}
use Rattle.ir_core.specs.Same.{same_reg}
use Rattle.ir_core.specs.Expressions.{Expr0, atom_has}
use Rattle.erhl_assert.specs.declared.facts.Fact.{Fact}
use Rattle.erhl_assert.specs.declared.facts.Fact.TheVariants.{LessDef, Unique, Private, NoAlias, Ok}
use Rattle.erhl_assert.specs.Facts.{expr_names, fact_names, with_fact, has_fact}
use Rattle.erhl_assert.specs.Named.{name_of}
use Rattle.fact_sets.proofs.Indexing.{Has, or_cases, any_append, insert_keeps, register_has}
use Rattle.fact_sets.specs.Names.{with_atom, with_expr, with_named, with_operands, IsKept, IsIndexed}

atom_keeps : (n : Name) (a : Atom Reg) (names : List Name) → Has n names → Has n (with_atom a names)
atom_keeps n (atom.Constant c) names h = h
atom_keeps n (atom.Register r) names h = insert_keeps n (name_of r) names h

atom_has_it : (r : Reg) (a : Atom Reg) (names : List Name) → atom_has (same_reg r) a ≡ true → Has (name_of r) (with_atom a names)
atom_has_it r (atom.Constant c) names h = cc
atom_has_it r (atom.Register s) names h = register_has r s names h

operands_keep : (n : Name) (os : List (Operand Reg)) (names : List Name) → Has n names → Has n (with_operands os names)
operands_keep n [] names h = h
operands_keep n (o ∷ os) names h = operands_keep n os _ (atom_keeps n o.atom names h)

operands_have_it : (r : Reg) (os : List (Operand Reg)) (names : List Name) → list_any (λ (o : Operand Reg). atom_has (same_reg r) o.atom) os ≡ true
    → Has (name_of r) (with_operands os names)
operands_have_it r [] names h = cc
operands_have_it r (o ∷ os) names h =
    or_cases (atom_has (same_reg r) o.atom) (list_any (λ (p : Operand Reg). atom_has (same_reg r) p.atom) os) h
    (λ k. operands_keep _ os _ (atom_has_it r o.atom names k)) (λ k. operands_have_it r os _ k)

expr_keeps : (n : Name) (e : Expr0) (names : List Name) → Has n names → Has n (with_expr e names)
expr_keeps n (Plain o) names h = atom_keeps n o.atom names h
expr_keeps n (Binary e) names h = atom_keeps n e.right _ (atom_keeps n e.left names h)
expr_keeps n (Icmp e) names h = atom_keeps n e.right _ (atom_keeps n e.left names h)
expr_keeps n (Cast e) names h = atom_keeps n e.operand.atom names h
expr_keeps n (Select e) names h = atom_keeps n e.right.atom _ (atom_keeps n e.left.atom _ (atom_keeps n e.condition.atom names h))
expr_keeps n (Element e) names h = operands_keep n e.indices _ (atom_keeps n e.base.atom names h)
expr_keeps n (Load e) names h = atom_keeps n e.pointer.atom names h

expr_has_it : (r : Reg) (e : Expr0) (names : List Name) → expr_names r e ≡ true → Has (name_of r) (with_expr e names)
expr_has_it r (Plain o) names h = atom_has_it r o.atom names h
expr_has_it r (Binary e) names h =
    or_cases (atom_has (same_reg r) e.left) (atom_has (same_reg r) e.right) h (λ k. atom_keeps _ e.right _ (atom_has_it r e.left names k)) (λ k. atom_has_it r e.right _ k)
expr_has_it r (Icmp e) names h =
    or_cases (atom_has (same_reg r) e.left) (atom_has (same_reg r) e.right) h (λ k. atom_keeps _ e.right _ (atom_has_it r e.left names k)) (λ k. atom_has_it r e.right _ k)
expr_has_it r (Cast e) names h = atom_has_it r e.operand.atom names h
expr_has_it r (Select e) names h =
    or_cases (atom_has (same_reg r) e.condition.atom || atom_has (same_reg r) e.left.atom) (atom_has (same_reg r) e.right.atom) h
    (λ first. or_cases (atom_has (same_reg r) e.condition.atom) (atom_has (same_reg r) e.left.atom) first
    (λ k. atom_keeps _ e.right.atom _ (atom_keeps _ e.left.atom _ (atom_has_it r e.condition.atom names k)))
    (λ k. atom_keeps _ e.right.atom _ (atom_has_it r e.left.atom _ k)))
    (λ k. atom_has_it r e.right.atom _ k)
expr_has_it r (Element e) names h =
    or_cases (atom_has (same_reg r) e.base.atom) (list_any (λ (o : Operand Reg). atom_has (same_reg r) o.atom) e.indices) h
    (λ k. operands_keep _ e.indices _ (atom_has_it r e.base.atom names k)) (λ k. operands_have_it r e.indices _ k)
expr_has_it r (Load e) names h = atom_has_it r e.pointer.atom names h

fact_keeps : (n : Name) (f : Fact) (names : List Name) → Has n names → Has n (with_named f names)
unfolding with_named
fact_keeps n (LessDef a b) names h = expr_keeps n b _ (expr_keeps n a names h)
fact_keeps n (NoAlias a b) names h = expr_keeps n b _ (expr_keeps n a names h)
fact_keeps n (Unique r) names h = insert_keeps n (name_of r) names h
fact_keeps n (Private r) names h = insert_keeps n (name_of r) names h
fact_keeps n (Ok e t align) names h = expr_keeps n e names h

fact_has_it : (r : Reg) (f : Fact) (names : List Name) → fact_names r f ≡ true → Has (name_of r) (with_named f names)
unfolding with_named
fact_has_it r (LessDef a b) names h =
    or_cases (expr_names r a) (expr_names r b) h (λ k. expr_keeps _ b _ (expr_has_it r a names k)) (λ k. expr_has_it r b _ k)
fact_has_it r (NoAlias a b) names h =
    or_cases (expr_names r a) (expr_names r b) h (λ k. expr_keeps _ b _ (expr_has_it r a names k)) (λ k. expr_has_it r b _ k)
fact_has_it r (Unique s) names h = register_has r s names h
fact_has_it r (Private s) names h = register_has r s names h
fact_has_it r (Ok e t align) names h = expr_has_it r e names h

-- names that stay
pub kept_same : (few many : List Name) → many ≡ few → IsKept few many
unfolding IsKept
kept_same few many e n h = ap (list_any (same_name n)) e ∙ h

pub kept_insert : (few many : List Name) (k : Name) → many ≡ insert_key same_name few k → IsKept few many
unfolding IsKept
kept_insert few many k e n h = ap (list_any (same_name n)) e ∙ insert_keeps n k few h

pub kept_then : (few some many : List Name) → IsKept few some → IsKept some many → IsKept few many
unfolding IsKept
kept_then few some many h k n e = k n (h n e)

-- what they index
pub nothing_indexed : (names : List Name) (fs : List Fact) → fs ≡ [] → IsIndexed fact_names names fs
unfolding IsIndexed
nothing_indexed names fs e r h = let none : false ≡ true = sym (ap (list_any (fact_names r)) e) ∙ h in cc

pub indexed_kept : (few many : List Name) (fs gs : List Fact) → IsIndexed fact_names few fs → IsKept few many → gs ≡ fs → IsIndexed fact_names many gs
unfolding IsIndexed IsKept
indexed_kept few many fs gs indexed kept e r h = kept (name_of r) (indexed r (sym (ap (list_any (fact_names r)) e) ∙ h))

pub fact_indexed : (names : List Name) (fs : List Fact) (f : Fact) → IsIndexed fact_names names fs → IsIndexed fact_names (with_named f names) (with_fact f fs)
unfolding IsIndexed
fact_indexed names fs f indexed r =
    elim (has_fact f fs) as (λ b. list_any (fact_names r) (cond b fs (fs ++ f ∷ [])) ≡ true → Has (name_of r) (with_named f names)) [
      | true ↦ λ h. fact_keeps _ f names (indexed r h)
      | false ↦ λ h. or_cases (list_any (fact_names r) fs) (fact_names r f) (any_append (fact_names r) fs f h) (λ k. fact_keeps _ f names (indexed r k)) (λ k. fact_has_it r f names k)
    ]
