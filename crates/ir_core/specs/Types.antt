-- Which types there are, which have values, and between which there are conversions (LangRef 3.7, Type System, Conversion Operations).
use Rattle.std.specs.Prelude.{ℕ, ◌&&◌, ◌%◌, ◌^◌, Bool, false, true, cond, nat_eq, nat_le, nat_lt, Option, None, Some}
use Rattle.ir_core.specs.declared.operands.CastOp.{CastOp}
use Rattle.ir_core.specs.declared.operands.CastOp.TheVariants as conversion
use Rattle.ir_core.specs.declared.operands.Const.{Const}
use Rattle.ir_core.specs.declared.operands.Const.TheVariants as constant
use Rattle.ir_types.specs.declared.ty.Ty.{Ty, out-Ty}
use Rattle.ir_types.specs.declared.ty.Ty.TheOpen.{Ty-F}
use Rattle.ir_types.specs.declared.ty.Ty.TheOpen as level
use Rattle.ir_types.specs.declared.ty.Ty.TheVariants as ty
use Rattle.ir_core.specs.declared.values.Kind.{Kind}
use Rattle.ir_core.specs.declared.values.Kind.TheVariants as kind

-- an integer has 1 to 64 bits
abbrev pub is_width : ℕ → Bool
is_width width = nat_le 1 width && nat_le width 64

-- the number is one of that many bits
abbrev pub fits : ℕ → ℕ → Bool
fits number width = nat_lt number (2 ^ width)

-- A number at a type: an integer is kept modulo 2 to its width, so that 511 at i8 is 255.
abbrev pub number_at : Ty → ℕ → ℕ
number_at (ty.Int width) n = n % 2 ^ width
number_at t n = n

-- the constant is one of the type's values, or undef; other types than integers have none yet
abbrev pub constant_fits : Ty → Const → Bool
constant_fits (ty.Int width) (constant.Number n) = fits n width
constant_fits (ty.Int width) constant.Undef = true
constant_fits t c = false

-- ---- classes of types

abbrev pub is_integer : Ty → Bool
is_integer (ty.Int width) = true
is_integer t = false

abbrev pub is_pointer_at_level : Ty-F Ty → Bool
is_pointer_at_level (level.Ptr t) = true
is_pointer_at_level other = false

abbrev pub is_pointer : Ty → Bool
is_pointer t = is_pointer_at_level (out-Ty t)

-- a type of values: an integer or a pointer
abbrev pub is_first_class : Ty → Bool
is_first_class (ty.Int width) = true
is_first_class t = is_pointer t

-- integers of 1 to 64 bits and pointers have a kind; other types have no values
abbrev pub kind_of : Ty → Option Kind
kind_of (ty.Int width) = cond (is_width width) (Some (kind.Int width)) None
kind_of t = cond (is_pointer t) (Some kind.Ptr) None

-- ---- conversions

-- an integer type of fewer bits than another
abbrev pub is_narrower : Ty → Ty → Bool
is_narrower (ty.Int few) (ty.Int many) = nat_lt few many
is_narrower from to = false

-- the same integer type, or a pointer to whatever it points to
abbrev pub is_recast : Ty → Ty → Bool
is_recast (ty.Int width) (ty.Int same) = nat_eq width same
is_recast from to = is_pointer from && is_pointer to

-- A conversion leads from one type to another: `zext` and `sext` to a wider one, `trunc` to a narrower one, `bitcast` from an integer to the
-- same and from a pointer to any.
abbrev pub converts : CastOp → Ty → Ty → Bool
converts conversion.ZExt from to = is_narrower from to
converts conversion.SExt from to = is_narrower from to
converts conversion.Trunc from to = is_narrower to from
converts conversion.BitCast from to = is_recast from to
