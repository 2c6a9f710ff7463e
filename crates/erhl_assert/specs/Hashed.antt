-- What a hash of a fact is made from: its numbers and the names of its registers, but for the indices of an element.
use Rattle.std.specs.Prelude.{◌++◌, []}
use Rattle.std.specs.Hash.{HashWrites, u64}
use Rattle.ir_core.specs.declared.operands.Const.TheVariants as constant
use Rattle.ir_core.specs.declared.operands.Atom.{Atom}
use Rattle.ir_core.specs.declared.operands.Atom.TheVariants as atom
use Rattle.ir_core.specs.declared.expressions.Reg.{Reg}
use Rattle.ir_core.specs.declared.expressions.Expr.TheVariants.{Plain, Binary, Icmp, Cast, Select, Element, Load}
use Rattle.ir_core.specs.Expressions.{Expr0}
use Rattle.ir_types.specs.Hashed.{hashed_name}
use Rattle.erhl_assert.specs.declared.facts.Fact.{Fact}
use Rattle.erhl_assert.specs.declared.facts.Fact.TheVariants.{LessDef, Unique, Private, NoAlias, Ok}
use Rattle.erhl_assert.specs.Named.{name_of}

abbrev pub hashed_atom : Atom Reg → HashWrites
hashed_atom (atom.Constant (constant.Number n)) = u64 n
hashed_atom (atom.Constant c) = []
hashed_atom (atom.Register r) = hashed_name (name_of r)

abbrev pub hashed_expr : Expr0 → HashWrites
hashed_expr (Plain o) = hashed_atom o.atom
hashed_expr (Binary e) = hashed_atom e.left ++ hashed_atom e.right
hashed_expr (Icmp e) = hashed_atom e.left ++ hashed_atom e.right
hashed_expr (Cast e) = hashed_atom e.operand.atom
hashed_expr (Select e) = hashed_atom e.condition.atom ++ (hashed_atom e.left.atom ++ hashed_atom e.right.atom)
hashed_expr (Element e) = hashed_atom e.base.atom
hashed_expr (Load e) = hashed_atom e.pointer.atom

abbrev pub hashed_fact : Fact → HashWrites
hashed_fact (LessDef a b) = hashed_expr a ++ hashed_expr b
hashed_fact (Unique r) = hashed_name (name_of r)
hashed_fact (Private r) = hashed_name (name_of r)
hashed_fact (NoAlias a b) = hashed_expr a ++ hashed_expr b
hashed_fact (Ok e t align) = hashed_expr e ++ u64 align
