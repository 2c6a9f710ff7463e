-- When a target's blocks refine a source's, by pairs of blocks.
use Rattle.std.specs.Prelude.{◌≡◌, ℕ, Some}
use Rattle.std.specs.List.{AllZip}
use Rattle.ir_values.specs.Related.{ArePaired, IsByteRelated, IsOneToOne, Pairing}
use Rattle.block_memory.specs.Memory.{Cell, Memory, cell_at}

pub record AreCellsRelated (ps : Pairing) (v w : Cell) : Type 0 where
  pub align : v.align ≡ w.align
  pub live : v.live ≡ w.live
  pub bytes : AllZip (IsByteRelated ps) v.bytes w.bytes

-- each pair is of two blocks that there are, and they are related
pub record AreMemoriesRelated (ps : Pairing) (m n : Memory) : Type 0 where
  pub one_to_one : IsOneToOne ps
  pub cells : (b c : ℕ) → ArePaired ps b c
      → (x : Cell) × (y : Cell) × (cell_at m b ≡ Some x) × (cell_at n c ≡ Some y) × AreCellsRelated ps x y
