-- What holds only what is made does so where more is.
use Rattle.std.proofs.Common.{◌≡◌, ◌≤◌, ℕ, pos, negsuc, List, length, Option, None, Some, refl, arith}
use Rattle.std.specs.List.{AllByRecursion}
use Rattle.ir_types.specs.declared.ty.Ty.{Ty}
use Rattle.ir_core.specs.declared.operands.Const.{Const}
use Rattle.ir_core.specs.declared.values.Byte.{Byte}
use Rattle.ir_core.specs.declared.values.Value.{Value}
use Rattle.ir_core.specs.declared.values.Value.TheVariants as value
use Rattle.ir_values.specs.Constants.{constant_value}
use Rattle.block_memory.specs.Memory.{Memory, overwritten, with_bytes}
use Rattle.ir_machine.specs.Keeps.{AreRegistersAmong, IsAmong, IsLive, IsMade, IsNameAmong}
use Rattle.ir_machine.specs.Registers.{Registers}
use Rattle.ir_machine.proofs.HeldConstants.{constant_good}
use Rattle.ir_machine.proofs.Holding.{registers_more}
use Rattle.ir_machine.proofs.Keeping.{OfBytes, all_on, got_all, updated_long, written_bytes, written_lives}
use Rattle.erhl_assert.specs.Sides.{SideState}
use Rattle.erhl_soundness.specs.TwoSides.{AreGlobalsNamed}

-- constants point into blocks that there are, since names do
pub constants_made : (side : SideState) → AreGlobalsNamed side → AllByRecursion (IsNameAmong (IsMade side.world.memory)) side.world.names
    → (t : Ty) (c : Const) → IsAmong (IsMade side.world.memory) (constant_value side.scope t c)
constants_made side named names t c =
    (constant_good (IsMade side.world.memory) side.scope (λ k below. got_all (IsNameAmong (IsMade side.world.memory)) side.world.names k (Some k) names (named k below)) t c).1

module _ (m n : Memory) (long : length m ≤ length n) where
  made_more : (b : ℕ) → IsMade m b → IsMade n b
  made_more b made = omega (arith, made, long)

  name_more : (o : Option ℕ) → IsNameAmong (IsMade m) o → IsNameAmong (IsMade n) o
  name_more None h = tt
  name_more (Some b) h = made_more b h

  pub names_up : (names : List (Option ℕ)) → AllByRecursion (IsNameAmong (IsMade m)) names → AllByRecursion (IsNameAmong (IsMade n)) names
  names_up names h = all_on (IsNameAmong (IsMade m)) (IsNameAmong (IsMade n)) name_more names h

  pub registers_up : (registers : Registers) → AreRegistersAmong (IsMade m) registers → AreRegistersAmong (IsMade n) registers
  registers_up registers h = registers_more (IsMade m) (IsMade n) made_more registers h

  pub all_up : (files : List Registers) → AllByRecursion (AreRegistersAmong (IsMade m)) files → AllByRecursion (AreRegistersAmong (IsMade n)) files
  all_up files h = all_on (AreRegistersAmong (IsMade m)) (AreRegistersAmong (IsMade n)) registers_up files h

-- ---- other bytes

pub over_bytes : (Q : Byte → Type 0) (m : Memory) (a : Value) (new : List Byte) → OfBytes Q m → AllByRecursion Q new → OfBytes Q (overwritten m a new)
over_bytes Q m (value.Ptr b (pos o)) new h k = written_bytes Q m b o new h k
over_bytes Q m (value.Ptr b (negsuc o)) new h k = h
over_bytes Q m (value.Num n) new h k = h
over_bytes Q m (value.Bare n) new h k = h
over_bytes Q m value.Undef new h k = h
over_bytes Q m value.Poison new h k = h

pub over_lives : (m : Memory) (a : Value) (new : List Byte) (k align size : ℕ) → IsLive m k align size → IsLive (overwritten m a new) k align size
over_lives m (value.Ptr b (pos o)) new k align size h = written_lives m b o new k align size h
over_lives m (value.Ptr b (negsuc o)) new k align size h = h
over_lives m (value.Num n) new k align size h = h
over_lives m (value.Bare n) new k align size h = h
over_lives m value.Undef new k align size h = h
over_lives m value.Poison new k align size h = h

pub over_long : (m : Memory) (a : Value) (new : List Byte) → length (overwritten m a new) ≡ length m
over_long m (value.Ptr b (pos o)) new = updated_long (with_bytes o new) m b
over_long m (value.Ptr b (negsuc o)) new = refl
over_long m (value.Num n) new = refl
over_long m (value.Bare n) new = refl
over_long m value.Undef new = refl
over_long m value.Poison new = refl
