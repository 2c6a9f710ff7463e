-- The laws of the order of values.
use Rattle.std.specs.Prelude.{◌≡◌, Bool, not, ◌&&◌, ◌||◌}
use Rattle.ir_core.specs.declared.values.Value.{Value}
use Rattle.ir_core.specs.declared.operands.Flags.{Flags}
use Rattle.ir_values.specs.Values.{IsLessDefined}

-- each value is less defined than itself
abbrev pub LessDefinedIsReflexive : Type 0
LessDefinedIsReflexive = (a : Value) → IsLessDefined a a

-- a value that is less defined than a second is less defined than whatever the second is less defined than
abbrev pub LessDefinedIsTransitive : Type 0
LessDefinedIsTransitive = (a b c : Value) → IsLessDefined a b → IsLessDefined b c → IsLessDefined a c

-- values that are less defined than each other are one value
abbrev pub LessDefinedIsAntisymmetric : Type 0
LessDefinedIsAntisymmetric = (a b : Value) → IsLessDefined a b → IsLessDefined b a → a ≡ b

-- each flag of the first is one of the second's
abbrev pub flags_among : Flags → Flags → Bool
flags_among few many = (not few.nuw || many.nuw) && (not few.nsw || many.nsw) && (not few.exact || many.exact)
