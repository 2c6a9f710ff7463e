-- Memory: blocks of bytes.
use Rattle.std.specs.Prelude.{◌+◌, ◌%◌, ℕ, zero, suc, pos, negsuc, Bool, false, ◌&&◌, cond, nat_eq, nat_lt, nat_le, true, List, [], ◌∷◌, length, take, drop, Option, None, Some}
use Rattle.ir_core.specs.declared.values.Value.{Value}
use Rattle.ir_core.specs.declared.values.Value.TheVariants.{Num, Ptr, Bare, Undef, Poison}
use Rattle.ir_values.specs.declared.operations.Outcome.{Outcome}
use Rattle.ir_values.specs.declared.operations.Outcome.TheVariants.{Gives, Trap}
use Rattle.ir_core.specs.declared.values.Byte.{Byte}
use Rattle.ir_core.specs.declared.values.Byte.TheVariants as byte
use Rattle.ir_core.specs.declared.values.Kind.{Kind}
use Rattle.block_memory.specs.Bytes.{byte_count, bytes_of, value_of}

-- A block: its alignment, whether it is live, and its bytes. Its number is its place in memory; its size is the number of its
-- bytes, which stay when it ends.
pub record Cell : Type 0 where
  pub align : ℕ
  pub live : Bool
  pub bytes : List Byte

abbrev pub Memory : Type 0
Memory = List Cell

-- so many bytes: first these, and undef behind them
abbrev pub filled : ℕ → List Byte → List Byte
filled zero bytes = []
filled (suc size) [] = byte.Undef ∷ filled size []
filled (suc size) (b ∷ bytes) = b ∷ filled size bytes

abbrev pub or_undef : Option Byte → Byte
or_undef None = byte.Undef
or_undef (Some b) = b

abbrev pub new_cell : ℕ → ℕ → List Byte → Cell
new_cell size align bytes = record { align = align; live = true; bytes = filled size bytes }

-- a block that has ended
abbrev pub ended : Cell → Cell
ended c = record c { live = false }

abbrev pub cell_at : Memory → ℕ → Option Cell
cell_at [] b = None
cell_at (c ∷ cs) zero = Some c
cell_at (c ∷ cs) (suc b) = cell_at cs b

-- a block, changed
abbrev pub updated : (Cell → Cell) → Memory → ℕ → Memory
updated f [] b = []
updated f (c ∷ cs) zero = f c ∷ cs
updated f (c ∷ cs) (suc b) = c ∷ updated f cs b

-- so many bytes at an offset of a live block, at an alignment, which is above 0
abbrev pub fits_in : Cell → ℕ → ℕ → ℕ → Bool
fits_in c count o align = nat_lt 0 align && (c.live && (nat_eq (c.align % align) 0 && (nat_eq (o % align) 0 && nat_le (o + count) (length c.bytes))))

abbrev pub fits_maybe : Option Cell → ℕ → ℕ → ℕ → Bool
fits_maybe None count o align = false
fits_maybe (Some c) count o align = fits_in c count o align

-- an access of the kind at the alignment through the value doesn't trap
abbrev pub can_access : Memory → Kind → Value → ℕ → Bool
can_access memory k (Ptr b (pos o)) align = fits_maybe (cell_at memory b) (byte_count k) o align
can_access memory k (Ptr b (negsuc o)) align = false
can_access memory k (Num n) align = false
can_access memory k (Bare a) align = false
can_access memory k Undef align = false
can_access memory k Poison align = false

abbrev pub bytes_at : Option Cell → ℕ → ℕ → List Byte
bytes_at None o count = []
bytes_at (Some c) o count = take count (drop o c.bytes)

abbrev pub read_at : Memory → Kind → Value → Value
read_at memory k (Ptr b (pos o)) = value_of k (bytes_at (cell_at memory b) o (byte_count k))
read_at memory k (Ptr b (negsuc o)) = Poison
read_at memory k (Num n) = Poison
read_at memory k (Bare a) = Poison
read_at memory k Undef = Poison
read_at memory k Poison = Poison

abbrev pub loaded : Memory → Kind → Value → ℕ → Outcome
loaded memory k a align = cond (can_access memory k a align) (Gives (read_at memory k a)) Trap

-- bytes, of which some are overwritten from a place on
abbrev pub put : List Byte → ℕ → List Byte → List Byte
put [] o new = []
put (x ∷ xs) zero [] = x ∷ xs
put (x ∷ xs) zero (y ∷ new) = y ∷ put xs zero new
put (x ∷ xs) (suc o) new = x ∷ put xs o new

abbrev pub with_bytes : ℕ → List Byte → Cell → Cell
with_bytes o new c = record c { bytes = put c.bytes o new }

abbrev pub overwritten : Memory → Value → List Byte → Memory
overwritten memory (Ptr b (pos o)) new = updated (with_bytes o new) memory b
overwritten memory (Ptr b (negsuc o)) new = memory
overwritten memory (Num n) new = memory
overwritten memory (Bare a) new = memory
overwritten memory Undef new = memory
overwritten memory Poison new = memory

-- at a type without values a load gives poison
abbrev pub loaded_of : Memory → Option Kind → Value → ℕ → Outcome
loaded_of memory None a align = Gives Poison
loaded_of memory (Some k) a align = loaded memory k a align

-- a store gives the memory after it, or traps
abbrev pub stored : Memory → Kind → Value → Value → ℕ → Option Memory
stored memory k v a align = cond (can_access memory k a align) (Some (overwritten memory a (bytes_of (byte_count k) v))) None

-- at a type without values a store traps
abbrev pub stored_of : Memory → Option Kind → Value → Value → ℕ → Option Memory
stored_of memory None v a align = None
stored_of memory (Some k) v a align = stored memory k v a align
