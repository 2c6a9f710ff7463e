-- Which expressions have a type beside the types and globals of a module: those that some well-formed line could have (LangRef 3.7, Type
-- System). And which of their constants are of the types that are stated for them.
use Rattle.std.specs.Prelude.{ℕ, Bool, true, false, ◌&&◌, List, map}
use Rattle.std.specs.List.{list_all}
use Rattle.std.specs.Option.{option_map}
use Rattle.ir_types.specs.declared.named.NamedTy.{NamedTy}
use Rattle.ir_types.specs.declared.ty.Ty.{Ty, Ptr}
use Rattle.ir_types.specs.declared.ty.Ty.TheVariants.{Int}
use Rattle.ir_types.specs.Named.{knows_type}
use Rattle.ir_types.specs.Same.{same_ty}
use Rattle.ir_core.specs.declared.operands.Atom.{Atom}
use Rattle.ir_core.specs.declared.operands.Atom.TheVariants as atom
use Rattle.ir_core.specs.declared.operands.Const.{Const}
use Rattle.ir_core.specs.declared.operands.Const.TheVariants as constant
use Rattle.ir_core.specs.declared.operands.Operand.{Operand}
use Rattle.ir_core.specs.declared.expressions.Element.{Element as ElementOf}
use Rattle.ir_core.specs.declared.expressions.Load.{Load as LoadOf}
use Rattle.ir_core.specs.declared.expressions.Reg.{Reg}
use Rattle.ir_core.specs.declared.expressions.Expr.TheVariants.{Plain, Binary, Icmp, Cast, Select, Element, Load}
use Rattle.ir_core.specs.Expressions.{Expr0}
use Rattle.ir_core.specs.Ranges.{may_have}
use Rattle.ir_core.specs.Sizes.{stepped}
use Rattle.ir_core.specs.TypeNames.{names_in_type}
use Rattle.ir_core.specs.Types.{converts, fits, is_pointer, is_width}
use Rattle.ir_core.specs.Typing.{contents_of, index_of, is_due}
use Rattle.ir_values.specs.Addresses.{is_small}
use Rattle.ir_values.specs.Constants.{Scope, is_of_type}
use Rattle.ir_machine.specs.Registers.{is_stated, selects}

-- the type is one of numbers: i1 to i64 are
abbrev pub has_numbers : Ty → Bool
has_numbers (Int width) = is_width width
has_numbers t = false

-- the type is one of values: i1 to i64, and pointers
abbrev pub has_values : Ty → Bool
has_values (Int width) = is_width width
has_values t = is_pointer t

-- the module names each type whose name stands in the type, also behind pointers
abbrev pub is_known : List NamedTy → Ty → Bool
is_known types (Int width) = true
is_known types t = list_all (knows_type types) (names_in_type t)

-- a type of values that the module has
abbrev pub may_stand : List NamedTy → Ty → Bool
may_stand types t = has_values t && is_known types t

-- A line could have the address: its indices lead to what it is said to point to, they are of types of values, and the types that they enter are
-- the module's and small.
abbrev pub is_addressed : List NamedTy → ElementOf Reg → Bool
is_addressed types e =
    is_stated types e && is_known types e.of && list_all (is_small types) (stepped types e.of (map index_of e.indices))
    && list_all (λ (i : Operand Reg). has_values i.ty) e.indices

abbrev pub is_loaded : List NamedTy → LoadOf Reg → Bool
is_loaded types l = same_ty l.pointer.ty (Ptr l.of) && may_stand types l.of

-- The expression has a type. `add i8 %x, 300` has one, though no i8 is 300; `add exact i8 %x, 1`, `zext i16 %x to i8`, `select i8 %c, ..` and
-- `load i8, i16* %p` have none. A register alone may be stated at a pointer type that the module lacks.
abbrev pub has_type : Scope → Expr0 → Bool
has_type scope (Plain o) = has_values o.ty
has_type scope (Binary b) = has_numbers b.ty && may_have b.op b.flags
has_type scope (Icmp c) = may_stand scope.types c.ty
has_type scope (Cast c) = may_stand scope.types c.operand.ty && may_stand scope.types c.to && converts c.op c.operand.ty c.to
has_type scope (Select s) = may_stand scope.types s.left.ty && selects s.condition.ty s.left.ty s.right.ty
has_type scope (Element e) = is_addressed scope.types e
has_type scope (Load l) = is_loaded scope.types l

-- ---- constants

-- 255 is one of i8, and 300 isn't
abbrev pub number_fits : Ty → ℕ → Bool
number_fits (Int width) n = fits n width
number_fits t n = false

abbrev pub null_fits : Ty → Bool
null_fits (Int width) = false
null_fits t = is_pointer t

-- The constant is one of the type beside the module: undef is one of each type of values, null of each pointer type, and `@g` a pointer to what
-- it holds.
abbrev pub constant_fits : Scope → Ty → Const → Bool
constant_fits scope t (constant.Number n) = number_fits t n
constant_fits scope t constant.Undef = has_values t
constant_fits scope t constant.Null = null_fits t
constant_fits scope t (constant.Global x) = is_due (option_map Ptr (contents_of scope.globals x)) t
constant_fits scope t c = is_of_type scope t c

abbrev pub atom_fits : Scope → Ty → Atom Reg → Bool
atom_fits scope t (atom.Constant c) = constant_fits scope t c
atom_fits scope t (atom.Register r) = true

abbrev pub operand_fits : Scope → Operand Reg → Bool
operand_fits scope o = atom_fits scope o.ty o.atom

-- its constants are of their stated types; one that isn't is worth poison
abbrev pub fits_constants : Scope → Expr0 → Bool
fits_constants scope (Plain o) = operand_fits scope o
fits_constants scope (Binary b) = atom_fits scope b.ty b.left && atom_fits scope b.ty b.right
fits_constants scope (Icmp c) = atom_fits scope c.ty c.left && atom_fits scope c.ty c.right
fits_constants scope (Cast c) = operand_fits scope c.operand
fits_constants scope (Select s) = operand_fits scope s.condition && operand_fits scope s.left && operand_fits scope s.right
fits_constants scope (Element e) = operand_fits scope e.base && list_all (operand_fits scope) e.indices
fits_constants scope (Load l) = operand_fits scope l.pointer
