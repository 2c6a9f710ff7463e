-- Which expressions have a type over integers, whatever the module, and which of their constants fit the types that are stated for them: forms
-- match no other expressions.
use Rattle.std.specs.Prelude.{Bool, true, false, ◌&&◌}
use Rattle.std.specs.List.{list_all}
use Rattle.ir_types.specs.declared.ty.Ty.{Ty}
use Rattle.ir_types.specs.declared.ty.Ty.TheVariants.{Int}
use Rattle.ir_core.specs.declared.operands.Atom.{Atom}
use Rattle.ir_core.specs.declared.operands.Atom.TheVariants as atom
use Rattle.ir_core.specs.declared.expressions.Reg.{Reg}
use Rattle.ir_core.specs.declared.expressions.Expr.TheVariants.{Plain, Binary, Icmp, Cast, Select, Element, Load}
use Rattle.ir_core.specs.Expressions.{Expr0}
use Rattle.ir_core.specs.Ranges.{may_have}
use Rattle.ir_core.specs.Types.{converts, is_width}
use Rattle.ir_machine.specs.Registers.{selects}
pub use Rattle.ir_core.specs.Types.{constant_fits}
use Rattle.ir_core.specs.Expressions.{type_of}
use Rattle.ir_types.specs.Same.{same_ty}

-- the type is one of numbers: i1 to i64 are
abbrev pub has_values : Ty → Bool
has_values (Int width) = is_width width
has_values t = false

-- The expression has a type. `add i8 %x, 300` has one, though no i8 is 300; `add exact i8 %x, 1`, `zext i16 %x to i8` and `select i8 %c, ..`
-- have none. Nor has an expression over pointers, an address or a load.
abbrev pub has_type : Expr0 → Bool
has_type (Plain o) = has_values o.ty
has_type (Binary b) = has_values b.ty && may_have b.op b.flags
has_type (Icmp c) = has_values c.ty
has_type (Cast c) = has_values c.operand.ty && has_values c.to && converts c.op c.operand.ty c.to
has_type (Select s) = has_values s.left.ty && selects s.condition.ty s.left.ty s.right.ty
has_type (Element e) = false
has_type (Load l) = false

-- a number lies among those of its stated type: 255 among those of i8, 300 not
abbrev pub atom_fits : Ty → Atom Reg → Bool
atom_fits t (atom.Constant c) = constant_fits t c
atom_fits t (atom.Register r) = true

-- its constants fit their stated types; one that doesn't is worth poison
abbrev pub fits_constants : Expr0 → Bool
fits_constants (Plain o) = atom_fits o.ty o.atom
fits_constants (Binary b) = atom_fits b.ty b.left && atom_fits b.ty b.right
fits_constants (Icmp c) = atom_fits c.ty c.left && atom_fits c.ty c.right
fits_constants (Cast c) = atom_fits c.operand.ty c.operand.atom
fits_constants (Select s) =
    atom_fits s.condition.ty s.condition.atom && atom_fits s.left.ty s.left.atom && atom_fits s.right.ty s.right.atom
fits_constants (Element e) = atom_fits e.base.ty e.base.atom && list_all (λ o. atom_fits o.ty o.atom) e.indices
fits_constants (Load l) = atom_fits l.pointer.ty l.pointer.atom

abbrev pub is_typed : Expr0 → Bool
is_typed e = has_type e && fits_constants e

-- both expressions are so, and have one type
abbrev pub have_one_type : Expr0 → Expr0 → Bool
have_one_type a b = is_typed a && is_typed b && same_ty (type_of a) (type_of b)
