-- What a conversion gives (LangRef 3.7, Conversion Operations).
use Rattle.std.specs.Prelude.{ℕ, ℤ, pos}
use Rattle.ir_core.specs.declared.operands.CastOp.{CastOp}
use Rattle.ir_core.specs.declared.operands.CastOp.TheVariants.{ZExt, SExt, Trunc, BitCast}
use Rattle.ir_core.specs.declared.values.Kind.{Kind}
use Rattle.ir_core.specs.declared.values.Kind.TheVariants as kind
use Rattle.ir_core.specs.declared.values.Value.{Value}
use Rattle.ir_core.specs.declared.values.Value.TheVariants.{Num, Ptr, Bare, Undef, Poison}
use Rattle.ir_values.specs.declared.operations.Outcome.{Outcome}
use Rattle.ir_values.specs.declared.operations.Outcome.TheVariants.{Gives}
use Rattle.ir_values.specs.Numbers.{modulo, signed}

-- the integer that is converted: `sext` reads the number in two's complement, the others read it unsigned
abbrev pub read_by : CastOp → ℕ → ℕ → ℤ
read_by ZExt width n = pos n
read_by SExt width n = signed width n
read_by Trunc width n = pos n
read_by BitCast width n = pos n

-- Undef and poison stay what they are. A number becomes the same integer modulo 2 to the new width: `zext i1 1 to i8` is 1, `sext i1 1 to
-- i8` is 255, and `trunc i16 258 to i8` is 2. An address counts as undef.
abbrev pub cast_value : CastOp → ℕ → ℕ → Value → Value
cast_value op from to Poison = Poison
cast_value op from to Undef = Undef
cast_value op from to (Ptr block offset) = Undef
cast_value op from to (Bare address) = Undef
cast_value op from to (Num n) = Num (modulo to (read_by op from n))

-- an address stays what it is, and so do undef and poison; a number counts as undef
abbrev pub recast_value : Value → Value
recast_value (Num n) = Undef
recast_value (Ptr block offset) = Ptr block offset
recast_value (Bare address) = Bare address
recast_value Undef = Undef
recast_value Poison = Poison

-- between numbers, or between addresses; no conversion leads from the ones to the others
abbrev pub cast_outcome : CastOp → Kind → Kind → Value → Outcome
cast_outcome op (kind.Int from) (kind.Int to) a = Gives (cast_value op from to a)
cast_outcome op (kind.Int from) kind.Ptr a = Gives Poison
cast_outcome op kind.Ptr (kind.Int to) a = Gives Poison
cast_outcome op kind.Ptr kind.Ptr a = Gives (recast_value a)
