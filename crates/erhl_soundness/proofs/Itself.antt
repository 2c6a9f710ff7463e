-- Where nothing holds what isn't made, a memory, its names and what is read there are related to themselves, by the pairs of each block with itself.
use Rattle.std.proofs.Common.{◌≡◌, ◌<◌, ◌&&◌, ℕ, zero, suc, Bool, true, false, List, [], ◌∷◌, length, nat_eq, nat_lt, Option, None, Some, refl, subst, arith, eq-eqb, lt-ltb, ltb-true}
use Rattle.std.specs.List.{AllByRecursion, AllZip}
use Rattle.ir_types.specs.NameLaws.{all_true, left_true, right_true, same_nat_true}
use Rattle.ir_core.specs.declared.expressions.Reg.{Reg}
use Rattle.ir_core.specs.declared.expressions.Reg.TheVariants.{Now, Old, Ghost}
use Rattle.ir_core.specs.declared.values.Byte.{Byte}
use Rattle.ir_core.specs.declared.values.Byte.TheVariants as byte
use Rattle.ir_core.specs.declared.values.Kind.{Kind}
use Rattle.ir_core.specs.declared.values.Value.{Value}
use Rattle.ir_core.specs.declared.values.Value.TheVariants as value
use Rattle.ir_core.specs.Expressions.{Expr0, expr_has}
use Rattle.ir_values.specs.declared.operations.Outcome.TheVariants.{Gives}
use Rattle.ir_values.specs.Related.{AreOutcomesRelated, ArePaired, IsByteRelated, IsRelated, Pairing}
use Rattle.ir_values.proofs.RelatedValues.{one_memory}
use Rattle.block_memory.specs.Memory.{Cell, Memory, cell_at}
use Rattle.block_memory.specs.Names.{Names}
use Rattle.block_memory.specs.Related.{AreMemoriesRelated}
use Rattle.ir_machine.specs.Keeps.{IsAmong, IsByteAmong, IsMade, IsNameAmong}
use Rattle.ir_machine.proofs.Holding.{read_register}
use Rattle.ir_machine.proofs.Keeping.{got_all}
use Rattle.erhl_assert.specs.Sides.{IsFine, SideState, read_reg, worth}
use Rattle.erhl_soundness.specs.TwoSides.{AreCommon, AreNamesPaired, HoldsMade}
use Rattle.erhl_soundness.proofs.Alike.{outcome_alike}

-- each block that there is, with itself
abbrev pub itself : Memory → Pairing
itself m = λ b c. nat_eq b c && nat_lt b (length m)

module _ (m : Memory) where
  abbrev Made : ℕ → Type 0
  Made = IsMade m

  pair_itself : (b : ℕ) → Made b → ArePaired (itself m) b b
  pair_itself b made = all_true (eq-eqb b b refl) (lt-ltb b (length m) made)

  pair_same : (b c : ℕ) → ArePaired (itself m) b c → b ≡ c
  pair_same b c pair = same_nat_true b c (left_true (nat_eq b c) (nat_lt b (length m)) pair)

  pair_made : (b c : ℕ) → ArePaired (itself m) b c → Made b
  pair_made b c pair = ltb-true b (length m) (right_true (nat_eq b c) (nat_lt b (length m)) pair)

  -- ---- values and bytes

  pub value_itself : (v : Value) → IsAmong Made v → IsRelated (itself m) v v
  value_itself (value.Num n) h = refl
  value_itself (value.Ptr b offset) h = (b, pair_itself b h, refl)
  value_itself (value.Bare address) h = refl
  value_itself value.Undef h = tt
  value_itself value.Poison h = tt

  value_made : (v : Value) → IsRelated (itself m) v v → IsAmong Made v
  value_made (value.Num n) h = tt
  value_made (value.Ptr b offset) h = pair_made b h.0 h.1
  value_made (value.Bare address) h = tt
  value_made value.Undef h = tt
  value_made value.Poison h = tt

  byte_itself : (x : Byte) → IsByteAmong Made x → IsByteRelated (itself m) x x
  byte_itself (byte.Num n) h = refl
  byte_itself (byte.Frag b offset place) h = (b, pair_itself b h, refl)
  byte_itself byte.Undef h = tt
  byte_itself byte.Poison h = tt

  bytes_itself : (xs : List Byte) → AllByRecursion (IsByteAmong Made) xs → AllZip (IsByteRelated (itself m)) xs xs
  bytes_itself [] h = tt
  bytes_itself (x ∷ xs) h = (byte_itself x h.0, bytes_itself xs h.1)

  -- ---- memory and names

  abbrev AreBytesMade : Memory → Type 0
  AreBytesMade = AllByRecursion (λ (c : Cell). AllByRecursion (IsByteAmong Made) c.bytes)

  cell_made : (n : Memory) (b : ℕ) → b < length n → AreBytesMade n → (x : Cell) × (cell_at n b ≡ Some x) × AllByRecursion (IsByteAmong Made) x.bytes
  cell_made [] b below h = absurd (omega (arith, below))
  cell_made (c ∷ cs) zero below h = (c, refl, h.0)
  cell_made (c ∷ cs) (suc b) below h = cell_made cs b (omega (arith, below)) h.1

  memory_itself : AreBytesMade m → AreMemoriesRelated (itself m) m m
  memory_itself bytes = record {
    one_to_one = λ b c d e p q. one_memory b c d e (left_true (nat_eq b c) (nat_lt b (length m)) p) (left_true (nat_eq d e) (nat_lt d (length m)) q);
    cells = λ b c pair.
        (let cell = cell_made m b (pair_made b c pair) bytes in (
          cell.0,
          cell.0,
          cell.1,
          subst (λ d. cell_at m d ≡ Some cell.0) (pair_same b c pair) cell.1,
          record { align = refl; live = refl; bytes = bytes_itself cell.0.bytes cell.2 },
        ));
  }

  name_itself : (o : Option ℕ) → IsNameAmong Made o → AreNamesPaired (itself m) o o
  name_itself None h = tt
  name_itself (Some b) h = pair_itself b h

  names_itself : (names : Names) → AllByRecursion (IsNameAmong Made) names → AllZip (AreNamesPaired (itself m)) names names
  names_itself [] h = tt
  names_itself (o ∷ names) h = (name_itself o h.0, names_itself names h.1)

-- ---- a side

module _ (side : SideState) (fine : IsFine side) (held : HoldsMade side) where
  abbrev ps : Pairing
  ps = itself side.world.memory

  globals_itself : (k : ℕ) → k < length side.scope.globals → ArePaired ps k k
  globals_itself k below = pair_itself side.world.memory k (got_all (IsNameAmong (IsMade side.world.memory)) side.world.names k (Some k) held.names (fine.named k below))

  pub common_itself : ((b : ℕ) → side.paired b ≡ true) → AreCommon ps side side
  common_itself paired = record {
    scope = refl;
    memories = memory_itself side.world.memory held.bytes;
    names = names_itself side.world.memory side.world.names held.names;
    globals = globals_itself;
    source_paired = λ b c pair. paired b;
    target_paired = λ b c pair. paired c;
  }

  reading_made : (k : Kind) (r : Reg) → IsAmong (IsMade side.world.memory) (read_reg side k r)
  reading_made k (Now x) = read_register (IsMade side.world.memory) side.files.now held.now k x
  reading_made k (Old x) = read_register (IsMade side.world.memory) side.files.old held.old k x
  reading_made k (Ghost x) = read_register (IsMade side.world.memory) side.files.ghost held.ghost k x

  pub reading_itself : (k : Kind) (r : Reg) → IsRelated ps (read_reg side k r) (read_reg side k r)
  reading_itself k r = value_itself side.world.memory (read_reg side k r) (reading_made k r)

  -- what an expression is worth holds what is made alone
  pub worth_made : (test : Reg → Bool) (e : Expr0) → expr_has test e ≡ false → (v : Value) → worth side e ≡ Gives v → IsAmong (IsMade side.world.memory) v
  worth_made test e apart v gives =
      value_made side.world.memory v (subst (λ o. AreOutcomesRelated ps o o) gives
      (outcome_alike ps side.scope globals_itself side.world.memory side.world.memory (memory_itself side.world.memory held.bytes) (read_reg side) (read_reg side) test
      (λ k r out. reading_itself k r) e apart))
