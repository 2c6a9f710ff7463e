-- The laws of bytes, and of loads and stores.
use Rattle.std.specs.Prelude.{◌≡◌, ◌⊎◌, ◌+◌, ◌%◌, ◌≤◌, ◌<◌, ◌^◌, ℕ, ℤ, pos, negsuc, true, false, List, length, take, replicate, nat_eq, Some}
use Rattle.std.specs.List.{AllByRecursion, AllZip, list_any}
use Rattle.ir_core.specs.declared.values.Value.{Value}
use Rattle.ir_core.specs.declared.values.Value.TheVariants.{Num, Ptr, Bare, Undef, Poison}
use Rattle.ir_core.specs.declared.values.Byte.{Byte}
use Rattle.ir_core.specs.declared.values.Byte.TheVariants as byte
use Rattle.ir_core.specs.declared.values.Kind.{Kind}
use Rattle.ir_core.specs.declared.values.Kind.TheVariants as kind
use Rattle.ir_values.specs.declared.operations.Outcome.TheVariants.{Gives}
use Rattle.ir_values.specs.Related.{AreOutcomesRelated, IsByteLessDefined, IsRelated, Pairing}
use Rattle.ir_values.specs.Values.{IsInKind, IsLessDefined}
use Rattle.block_memory.specs.Bytes.{IsByte, IsWide, byte_count, bytes_from, bytes_of, is_poison_byte, is_undef_byte, number_of, value_of}
use Rattle.block_memory.specs.Memory.{Cell, Memory, loaded, stored, with_bytes}
use Rattle.block_memory.specs.Related.{AreCellsRelated, AreMemoriesRelated}

-- ---- values through bytes

-- the bytes of a value of the kind spell it
abbrev pub BytesSpellTheirValue : Type 0
BytesSpellTheirValue = (k : Kind) (v : Value) → IsWide k → IsInKind k v → value_of k (bytes_of (byte_count k) v) ≡ v

-- what bytes must be for the value that they spell
pub record ValuesComeOfTheirBytes : Type 0 where
  pub pointer : (xs : List Byte) (b : ℕ) (o : ℤ) → value_of kind.Ptr xs ≡ Ptr b o → xs ≡ bytes_from (Ptr b o) 0 (length xs)
  pub number : (width : ℕ) (xs : List Byte) (n : ℕ) → value_of (kind.Int width) xs ≡ Num n → (number_of xs ≡ Some n) × (n < 2 ^ width)
  pub poison : (k : Kind) (xs : List Byte) → list_any is_poison_byte xs ≡ true → value_of k xs ≡ Poison
  pub undef : (k : Kind) (xs : List Byte) → list_any is_poison_byte xs ≡ false → list_any is_undef_byte xs ≡ true → value_of k xs ≡ Undef

-- more defined bytes spell a more defined value
abbrev pub ValuesOfBytesAreMonotone : Type 0
ValuesOfBytesAreMonotone = (k : Kind) (xs ys : List Byte) → AllZip IsByteLessDefined xs ys → IsLessDefined (value_of k xs) (value_of k ys)

-- the bytes of a new block spell undef
abbrev pub NewBytesAreUndef : Type 0
NewBytesAreUndef = (k : Kind) (size : ℕ) → IsWide k → byte_count k ≤ size → value_of k (take (byte_count k) (replicate size byte.Undef)) ≡ Undef

-- ---- related memories

-- what the second divides the first divides
abbrev pub Divides : ℕ → ℕ → Type 0
Divides few many = (n : ℕ) → nat_eq (n % many) 0 ≡ true → nat_eq (n % few) 0 ≡ true

-- a load of the source traps, or neither does and the values are related
abbrev pub LoadsKeepRelated : Type 0
LoadsKeepRelated = (ps : Pairing) (m n : Memory) → AreMemoriesRelated ps m n → (k : Kind) (many few : ℕ) → 0 < few → Divides few many → (a b : Value) → IsRelated ps a b
    → AreOutcomesRelated ps (loaded m k a many) (loaded n k b few)

-- a block in which related values are written at one place
abbrev pub StoresKeepRelated : Type 0
StoresKeepRelated = (ps : Pairing) (x y : Cell) (o count : ℕ) (v w : Value) → AreCellsRelated ps x y → IsRelated ps v w
    → AreCellsRelated ps (with_bytes o (bytes_of count v) x) (with_bytes o (bytes_of count w) y)

-- ---- loads after stores

abbrev pub StoredIsLoaded : Type 0
StoredIsLoaded = (m after : Memory) (k : Kind) (v a : Value) (align : ℕ) → IsWide k → IsInKind k v → stored m k v a align ≡ Some after
    → loaded after k a align ≡ Gives v

-- So many bytes at one value, and so many at another: not of one block, or the ones end where the others have not begun.
abbrev pub AreApart : Value → ℕ → Value → ℕ → Type 0
AreApart (Ptr b (pos o)) count (Ptr d (pos p)) others = b ≡ d → (o + count ≤ p) ⊎ (p + others ≤ o)
AreApart (Ptr b (pos o)) count (Ptr d (negsuc p)) others = Unit {0}
AreApart (Ptr b (pos o)) count (Num n) others = Unit {0}
AreApart (Ptr b (pos o)) count (Bare n) others = Unit {0}
AreApart (Ptr b (pos o)) count Undef others = Unit {0}
AreApart (Ptr b (pos o)) count Poison others = Unit {0}
AreApart (Ptr b (negsuc o)) count p others = Unit {0}
AreApart (Num n) count p others = Unit {0}
AreApart (Bare n) count p others = Unit {0}
AreApart Undef count p others = Unit {0}
AreApart Poison count p others = Unit {0}

-- a store leaves each load of other bytes as it was, also whether it traps
abbrev pub StoresLeaveOthers : Type 0
StoresLeaveOthers = (m after : Memory) (k : Kind) (v a : Value) (align : ℕ) → stored m k v a align ≡ Some after → (j : Kind) (p : Value) (other : ℕ)
    → AreApart a (byte_count k) p (byte_count j) → loaded after j p other ≡ loaded m j p other

-- ---- kinds

-- each byte of each block is in range
abbrev pub IsOfBytes : Memory → Type 0
IsOfBytes m = AllByRecursion (λ (c : Cell). AllByRecursion IsByte c.bytes) m

abbrev pub LoadsGiveTheirKind : Type 0
LoadsGiveTheirKind = (m : Memory) (k : Kind) (a : Value) (align : ℕ) (v : Value) → IsOfBytes m → loaded m k a align ≡ Gives v → IsInKind k v

abbrev pub StoresKeepBytes : Type 0
StoresKeepBytes = (m after : Memory) (k : Kind) (v a : Value) (align : ℕ) → IsInKind k v → IsOfBytes m → stored m k v a align ≡ Some after → IsOfBytes after
