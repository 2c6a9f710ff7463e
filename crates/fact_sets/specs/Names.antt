-- Words of private functions. The names of registers, whatever the registers are of, by which what speaks of a register is found.
use Rattle.std.specs.Prelude.{◌≡◌, Bool, true, not, filter, List, [], ◌∷◌}
use Rattle.std.specs.List.{list_any}
use Rattle.indexmap.specs.IndexSet.{insert_key}
use Rattle.ir_types.specs.declared.names.Name.{Name}
use Rattle.ir_core.specs.declared.operands.Atom.{Atom}
use Rattle.ir_core.specs.declared.operands.Atom.TheVariants as atom
use Rattle.ir_core.specs.declared.operands.Operand.{Operand}
use Rattle.ir_core.specs.declared.expressions.Reg.{Reg}
use Rattle.ir_core.specs.declared.expressions.Reg.TheVariants.{Now, Old, Ghost}
use Rattle.ir_core.specs.declared.expressions.Expr.TheVariants.{Plain, Binary, Icmp, Cast, Select, Element, Load}
use Rattle.ir_types.specs.Same.{same_name}
use Rattle.ir_core.specs.Expressions.{Expr0}
use Rattle.erhl_assert.specs.declared.facts.Fact.{Fact}
use Rattle.erhl_assert.specs.declared.facts.Fact.TheVariants.{LessDef, Unique, Private, NoAlias, Ok}
use Rattle.erhl_assert.specs.Sides.{has_reg}
use Rattle.erhl_assert.specs.Named.{name_of}

-- the names, and those of the registers that are named
abbrev pub with_atom : Atom Reg → List Name → List Name
with_atom (atom.Constant c) names = names
with_atom (atom.Register r) names = insert_key same_name names (name_of r)

abbrev pub with_operands : List (Operand Reg) → List Name → List Name
with_operands [] names = names
with_operands (o ∷ os) names = with_operands os (with_atom o.atom names)

abbrev pub with_expr : Expr0 → List Name → List Name
with_expr (Plain o) names = with_atom o.atom names
with_expr (Binary e) names = with_atom e.right (with_atom e.left names)
with_expr (Icmp e) names = with_atom e.right (with_atom e.left names)
with_expr (Cast e) names = with_atom e.operand.atom names
with_expr (Select e) names = with_atom e.right.atom (with_atom e.left.atom (with_atom e.condition.atom names))
with_expr (Element e) names = with_operands e.indices (with_atom e.base.atom names)
with_expr (Load e) names = with_atom e.pointer.atom names

unfoldable pub with_named : Fact → List Name → List Name
with_named (LessDef a b) names = with_expr b (with_expr a names)
with_named (NoAlias a b) names = with_expr b (with_expr a names)
with_named (Unique r) names = insert_key same_name names (name_of r)
with_named (Private r) names = insert_key same_name names (name_of r)
with_named (Ok e t align) names = with_expr e names

-- each name of the first list is in the second
unfoldable pub IsKept : List Name → List Name → Type 0
IsKept few many = (n : Name) → list_any (same_name n) few ≡ true → list_any (same_name n) many ≡ true

-- names of registers, by what the registers are of
pub record Kinds : Type 0 where
  pub current : List Name
  pub former : List Name
  pub ghosts : List Name

abbrev pub no_names : Kinds
no_names = record { current = []; former = []; ghosts = [] }

abbrev pub of_kind : Reg → Kinds → List Name
of_kind (Now x) kinds = kinds.current
of_kind (Old x) kinds = kinds.former
of_kind (Ghost x) kinds = kinds.ghosts

-- the names of the register's kind changed
abbrev pub changed : (List Name → List Name) → Reg → Kinds → Kinds
changed change (Now x) kinds = record kinds { current = change kinds.current }
changed change (Old x) kinds = record kinds { former = change kinds.former }
changed change (Ghost x) kinds = record kinds { ghosts = change kinds.ghosts }

abbrev pub with_register : Reg → Kinds → Kinds
with_register r kinds = changed (λ names. insert_key same_name names (name_of r)) r kinds

abbrev pub without_register : Reg → Kinds → Kinds
without_register r kinds = changed (filter (λ n. not (same_name (name_of r) n))) r kinds

abbrev pub with_registers : List Reg → Kinds → Kinds
with_registers [] kinds = kinds
with_registers (r ∷ rs) kinds = with_registers rs (with_register r kinds)

-- Exactly the registers of the list have their name among those of their kind.
unfoldable pub AreListed : Kinds → List Reg → Type 0
AreListed kinds rs = (r : Reg) → has_reg r rs ≡ list_any (same_name (name_of r)) (of_kind r kinds)

-- The name of each register that something of the list speaks of is there, and maybe others.
unfoldable pub IsIndexed : {X : Type 0} → (Reg → X → Bool) → List Name → List X → Type 0
IsIndexed speaks_of names xs = (r : Reg) → list_any (speaks_of r) xs ≡ true → list_any (same_name (name_of r)) names ≡ true
