-- What follows for a value of which a number is read.
use Rattle.std.proofs.Common.{◌≡◌, ℕ, ◌<◌, ◌^◌, false, Some}
use Rattle.ir_core.specs.declared.values.Value.{Value}
use Rattle.ir_core.specs.declared.values.Value.TheVariants.{Num, Ptr, Bare, Undef, Poison}
use Rattle.ir_core.specs.declared.values.Kind.TheVariants as kind
use Rattle.ir_core.specs.declared.operands.BinOp.{BinOp}
use Rattle.ir_values.specs.Operations.{traps}
use Rattle.ir_values.specs.Values.{IsInKind, as_number}

number_is : (v : Value) (n : ℕ) → as_number v ≡ Some n → v ≡ Num n
number_is (Num m) n h = cc
number_is (Ptr b o) n h = cc
number_is (Bare m) n h = cc
number_is Undef n h = cc
number_is Poison n h = cc

pub number_below : (width : ℕ) (v : Value) (n : ℕ) → IsInKind (kind.Int width) v → as_number v ≡ Some n → n < 2 ^ width
number_below width v n lies h = rw (number_is v n h) at lies

pub numbers_trap : (op : BinOp) (width : ℕ) (a b : Value) (m n : ℕ) → as_number a ≡ Some m → as_number b ≡ Some n → traps op width a b ≡ false
    → traps op width (Num m) (Num n) ≡ false
numbers_trap op width a b m n p q h = rw (number_is a m p, number_is b n q) at h
