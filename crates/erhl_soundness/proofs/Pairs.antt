-- Pairs of blocks, where there are more, where one of two new blocks comes, and where bytes change.
use Rattle.std.proofs.Common.{◌*◌, Result, Ok, Err, nat_le, ◌≡◌, ◌≢◌, ◌⊎◌, inl, inr, ◌∙◌, ℕ, zero, suc, pos, negsuc, Bool, ◌&&◌, ◌||◌, not, cond, nat_eq, true, false, List, [], ◌∷◌, ◌++◌, length, Option, None, Some, refl, sym, ap, subst, subst₂, ⊎_elim, eqb-true, eq-eqb, arith}
use Rattle.std.specs.List.{AllZip}
use Rattle.std.proofs.lemmas.Bool.{and_from, and_parts, cases_eq, false_from_ne_true, false≢true, or_cases, or_left, or_right}
use Rattle.ir_types.specs.declared.layout.Layout.{Layout}
use Rattle.ir_types.specs.declared.named.NamedTy.{NamedTy}
use Rattle.ir_types.specs.declared.names.Name.{Name}
use Rattle.ir_types.specs.declared.sizes.SizeFault.{SizeFault}
use Rattle.ir_types.specs.declared.sizes.SizeFault.TheVariants.{TooLarge}
use Rattle.ir_types.specs.Named.{block_in, layout_of, size_in, size_of}
use Rattle.ir_core.specs.declared.expressions.Reg.{Reg}
use Rattle.ir_core.specs.declared.functions.Alloca.{Alloca}
use Rattle.ir_core.specs.declared.values.Byte.{Byte}
use Rattle.ir_core.specs.declared.values.Byte.TheVariants as byte
use Rattle.ir_core.specs.declared.values.Kind.{Kind}
use Rattle.ir_core.specs.declared.values.Value.{Value}
use Rattle.ir_core.specs.declared.values.Value.TheVariants as value
use Rattle.ir_values.specs.Constants.{Scope}
use Rattle.ir_values.specs.Related.{ArePaired, IsByteRelated, IsRelated, Pairing}
use Rattle.block_memory.specs.Bytes.{byte_count, bytes_of}
use Rattle.block_memory.specs.Memory.{Cell, Memory, can_access, cell_at, filled, new_cell, overwritten, updated, with_bytes}
use Rattle.block_memory.specs.Related.{AreCellsRelated, AreMemoriesRelated}
use Rattle.block_memory.proofs.Accesses.{stored_alike}
use Rattle.ir_machine.specs.Keeps.{IsMade}
use Rattle.ir_machine.specs.Machine.{count_made}
use Rattle.ir_machine.specs.Registers.{align_or, read}
use Rattle.erhl_assert.specs.Allowed.{is_one_size, same_slot, size_made}
use Rattle.erhl_assert.specs.Holding.{block_of}
use Rattle.erhl_assert.specs.Sides.{AreRelated, SideState, read_reg}
use Rattle.erhl_soundness.specs.MemoryLaws.{side_made}
use Rattle.erhl_soundness.specs.TwoSides.{AreCommon, AreNamesPaired, ArePairsMore, AreSides}
use Rattle.erhl_soundness.proofs.Leading.{paired_after}
use Rattle.erhl_soundness.proofs.Untouched.{cell_behind, cell_made, cell_stays}

-- those pairs, and this one
abbrev pub with_pair : Pairing → ℕ → ℕ → Pairing
with_pair ps b c = λ d e. ps d e || (nat_eq d b && nat_eq e c)

-- ---- sizes

abbrev bytes_made : List NamedTy → Alloca → ℕ
bytes_made types a = size_of types a.of * count_made a.count

-- what makes a block of so many bytes
block_bytes : (o : Option Layout) (count n : ℕ) → block_in o count ≡ Ok n → n ≡ size_in o * count
block_bytes None count n h = absurd (cc)
block_bytes (Some layout) count n h = at (nat_le (layout.size * count) 2147483648) h
  where
    at : (b : Bool) → cond b (Ok (layout.size * count)) (Err TooLarge) ≡ Ok n → n ≡ layout.size * count
    at true e = let same : layout.size * count ≡ n = cc in sym same
    at false e = absurd (cc)

one_size : (a b : Result ℕ SizeFault) → is_one_size a b ≡ true → (n : ℕ) × (a ≡ Ok n) × (b ≡ Ok n)
one_size (Ok m) (Ok n) h = (m, refl, ap Ok (sym (eqb-true m n h)))
one_size (Ok m) (Err e) h = absurd (false≢true h)
one_size (Err e) b h = absurd (false≢true h)

same_bytes : (types : List NamedTy) (a b : Alloca) → is_one_size (size_made types a) (size_made types b) ≡ true → bytes_made types a ≡ bytes_made types b
same_bytes types a b h =
    let both = one_size (size_made types a) (size_made types b) h in
    sym (block_bytes (layout_of types a.of) (count_made a.count) both.0 both.1) ∙ block_bytes (layout_of types b.of) (count_made b.count) both.0 both.2

-- ---- more pairs

pub value_more : (ps qs : Pairing) → ((b c : ℕ) → ArePaired ps b c → ArePaired qs b c) → (v w : Value) → IsRelated ps v w → IsRelated qs v w
value_more ps qs more value.Poison w h = tt
value_more ps qs more value.Undef w h = h
value_more ps qs more (value.Num n) w h = h
value_more ps qs more (value.Ptr b o) w h = (h.0, more b h.0 h.1, h.2)
value_more ps qs more (value.Bare n) w h = h

pub registers_more : (ps qs : Pairing) → ((b c : ℕ) → ArePaired ps b c → ArePaired qs b c) → (lone : Name → Bool) (diff : List Reg) (source target : SideState)
    → AreRelated ps lone diff source target → AreRelated qs lone diff source target
registers_more ps qs more lone diff source target h = record {
  outside = λ r k out. value_more ps qs more (read_reg source k r) (read_reg target k r) (h.outside r k out);
  ghosts = λ g k both. value_more ps qs more (read source.files.ghost k g) (read target.files.ghost k g) (h.ghosts g k both);
}

module _ (ps qs : Pairing) (more : (b c : ℕ) → ArePaired ps b c → ArePaired qs b c) where
  byte_more : (x y : Byte) → IsByteRelated ps x y → IsByteRelated qs x y
  byte_more byte.Poison y h = tt
  byte_more byte.Undef y h = h
  byte_more (byte.Num n) y h = h
  byte_more (byte.Frag b o place) y h = (h.0, more b h.0 h.1, h.2)

  name_more : (x y : Option ℕ) → AreNamesPaired ps x y → AreNamesPaired qs x y
  name_more None None h = h
  name_more None (Some c) h = h
  name_more (Some b) None h = h
  name_more (Some b) (Some c) h = more b c h

  zip_more : {A : Type 0} (P Q : A → A → Type 0) → ((x y : A) → P x y → Q x y) → (xs ys : List A) → AllZip P xs ys → AllZip Q xs ys
  zip_more P Q on [] [] h = tt
  zip_more P Q on [] (y ∷ ys) h = h
  zip_more P Q on (x ∷ xs) [] h = h
  zip_more P Q on (x ∷ xs) (y ∷ ys) h = (on x y h.0, zip_more P Q on xs ys h.1)

  names_more : (xs ys : List (Option ℕ)) → AllZip (AreNamesPaired ps) xs ys → AllZip (AreNamesPaired qs) xs ys
  names_more xs ys h = zip_more (AreNamesPaired ps) (AreNamesPaired qs) name_more xs ys h

  cells_more : (x y : Cell) → AreCellsRelated ps x y → AreCellsRelated qs x y
  cells_more x y h = record { align = h.align; live = h.live; bytes = zip_more (IsByteRelated ps) (IsByteRelated qs) byte_more x.bytes y.bytes h.bytes }

-- new blocks of one size and alignment
undef_bytes : (ps : Pairing) (n : ℕ) → AllZip (IsByteRelated ps) (filled n []) (filled n [])
undef_bytes ps zero = tt
undef_bytes ps (suc n) = (tt, undef_bytes ps n)

new_cells : (ps : Pairing) (m n : ℕ) → m ≡ n → (a b : ℕ) → a ≡ b → AreCellsRelated ps (new_cell m a []) (new_cell n b [])
new_cells ps m n sizes a b aligns = record {
  align = aligns;
  live = refl;
  bytes = subst (λ k. AllZip (IsByteRelated ps) (filled m []) (filled k [])) sizes (undef_bytes ps m);
}

-- ---- two memories

-- the blocks of a pair are there, and related
abbrev AreAlikeAt : Pairing → Memory → Memory → ℕ → ℕ → Type 0
AreAlikeAt ps m n b c = (x : Cell) × (y : Cell) × (cell_at m b ≡ Some x) × (cell_at n c ≡ Some y) × AreCellsRelated ps x y

-- a block that there is isn't the next
next_other : (m : Memory) (b : ℕ) → IsMade m b → nat_eq b (length m) ≡ false
next_other m b made = false_from_ne_true (nat_eq b (length m)) (λ e. (let same : b ≡ length m = eqb-true b (length m) e in omega (arith, made, same)))

next_apart : (m : Memory) (b : ℕ) → IsMade m b → nat_eq (length m) b ≡ false
next_apart m b made = false_from_ne_true (nat_eq (length m) b) (λ e. (let same : length m ≡ b = eqb-true (length m) b e in omega (arith, made, same)))

cell_more : (m : Memory) (c : Cell) (b : ℕ) (x : Cell) → cell_at m b ≡ Some x → cell_at (m ++ c ∷ []) b ≡ Some x
cell_more m c b x is = cell_stays m (c ∷ []) b (cell_made m b x is) ∙ is

updated_here : (f : Cell → Cell) (m : Memory) (b : ℕ) (x : Cell) → cell_at m b ≡ Some x → cell_at (updated f m b) b ≡ Some (f x)
updated_here f [] b x is = absurd (cc)
updated_here f (c ∷ m) zero x is = let same : c ≡ x = cc in ap (λ y. Some (f y)) same
updated_here f (c ∷ m) (suc b) x is = updated_here f m b x is

updated_other : (f : Cell → Cell) (m : Memory) (b d : ℕ) → b ≢ d → cell_at (updated f m b) d ≡ cell_at m d
updated_other f [] b d apart = refl
updated_other f (c ∷ m) zero zero apart = absurd (apart refl)
updated_other f (c ∷ m) zero (suc d) apart = refl
updated_other f (c ∷ m) (suc b) zero apart = refl
updated_other f (c ∷ m) (suc b) (suc d) apart = updated_other f m b d (λ e. apart (ap suc e))

module _ (ps : Pairing) (m n : Memory) (related : AreMemoriesRelated ps m n) where
  pub pair_made : (b c : ℕ) → ArePaired ps b c → IsMade m b × IsMade n c
  pair_made b c pair = let k = related.cells b c pair in (cell_made m b k.0 k.2, cell_made n c k.1 k.3)

  -- ---- a new pair

  abbrev grown : Pairing
  grown = with_pair ps (length m) (length n)

  pub pairs_kept : (b c : ℕ) → ArePaired ps b c → ArePaired grown b c
  pairs_kept b c pair = or_left (ps b c) (nat_eq b (length m) && nat_eq c (length n)) pair

  pub pair_new : ArePaired grown (length m) (length n)
  pair_new =
      or_right (ps (length m) (length n)) (nat_eq (length m) (length m) && nat_eq (length n) (length n))
      (and_from (nat_eq (length m) (length m)) (nat_eq (length n) (length n)) (eq-eqb (length m) (length m) refl) (eq-eqb (length n) (length n) refl))

  old_or_new : (b c : ℕ) → ArePaired grown b c → ArePaired ps b c ⊎ ((length m ≡ b) × (length n ≡ c))
  old_or_new b c pair = ⊎_elim
      (λ old. inl old)
      (λ new.
      let parts = and_parts (nat_eq b (length m)) (nat_eq c (length n)) new in
      inr (sym (eqb-true b (length m) parts.0), sym (eqb-true c (length n) parts.1)))
      (or_cases (ps b c) (nat_eq b (length m) && nat_eq c (length n)) pair)

  still_one_to_one : (b c d e : ℕ) → ArePaired grown b c → ArePaired grown d e → nat_eq b d ≡ nat_eq c e
  still_one_to_one b c d e p q = ⊎_elim
      (λ (old : ArePaired ps b c). ⊎_elim
      (λ (other : ArePaired ps d e). related.one_to_one b c d e old other)
      (λ (new : (length m ≡ d) × (length n ≡ e)).
      let made = pair_made b c old in
      subst₂ (λ x y. nat_eq b x ≡ nat_eq c y) new.0 new.1 (next_other m b made.0 ∙ sym (next_other n c made.1)))
      (old_or_new d e q))
      (λ (new : (length m ≡ b) × (length n ≡ c)). ⊎_elim
      (λ (other : ArePaired ps d e).
      let made = pair_made d e other in
      subst₂ (λ x y. nat_eq x d ≡ nat_eq y e) new.0 new.1 (next_apart m d made.0 ∙ sym (next_apart n e made.1)))
      (λ (too : (length m ≡ d) × (length n ≡ e)). eq-eqb b d (sym new.0 ∙ too.0) ∙ sym (eq-eqb c e (sym new.1 ∙ too.1)))
      (old_or_new d e q))
      (old_or_new b c p)

  pub both_grown : (x y : Cell) → AreCellsRelated grown x y → AreMemoriesRelated grown (m ++ x ∷ []) (n ++ y ∷ [])
  both_grown x y alike = record {
    one_to_one = still_one_to_one;
    cells = λ b c pair. ⊎_elim
        (λ (old : ArePaired ps b c).
        let k = related.cells b c old in
        (k.0, k.1, cell_more m x b k.0 k.2, cell_more n y c k.1 k.3, cells_more ps grown pairs_kept k.0 k.1 k.4))
        (λ (new : (length m ≡ b) × (length n ≡ c)).
        subst₂ (AreAlikeAt grown (m ++ x ∷ []) (n ++ y ∷ [])) new.0 new.1 (x, y, cell_behind m x, cell_behind n y, alike))
        (old_or_new b c pair);
  }

  -- ---- a new block of one side

  pub source_grown : (x : Cell) → AreMemoriesRelated ps (m ++ x ∷ []) n
  source_grown x = record {
    one_to_one = related.one_to_one;
    cells = λ b c pair. (let k = related.cells b c pair in (k.0, k.1, cell_more m x b k.0 k.2, k.3, k.4));
  }

  pub target_grown : (y : Cell) → AreMemoriesRelated ps m (n ++ y ∷ [])
  target_grown y = record {
    one_to_one = related.one_to_one;
    cells = λ b c pair. (let k = related.cells b c pair in (k.0, k.1, k.2, cell_more n y c k.1 k.3, k.4));
  }

  -- ---- bytes that change

  -- both blocks of a pair
  both_updated : (f g : Cell → Cell) (d e : ℕ) → ArePaired ps d e → ((x y : Cell) → AreCellsRelated ps x y → AreCellsRelated ps (f x) (g y))
      → AreMemoriesRelated ps (updated f m d) (updated g n e)
  both_updated f g d e pair on = record {
    one_to_one = related.one_to_one;
    cells = λ b c other. (let k = related.cells b c other in ⊎_elim
        (λ (same : d ≡ b).
        let too : e ≡ c = eqb-true e c (sym (related.one_to_one d e b c pair other) ∙ eq-eqb d b same) in (
          f k.0,
          g k.1,
          subst (λ z. cell_at (updated f m z) b ≡ Some (f k.0)) (sym same) (updated_here f m b k.0 k.2),
          subst (λ z. cell_at (updated g n z) c ≡ Some (g k.1)) (sym too) (updated_here g n c k.1 k.3),
          on k.0 k.1 k.4,
        ))
        (λ (apart : d ≢ b).
        let too : e ≢ c = λ same. apart (eqb-true d b (related.one_to_one d e b c pair other ∙ eq-eqb e c same)) in
        (k.0, k.1, updated_other f m d b apart ∙ k.2, updated_other g n e c too ∙ k.3, k.4))
        (cases_eq d b));
  }

  -- a block that is in no pair
  source_updated : (f : Cell → Cell) (d : ℕ) → ((c : ℕ) → ArePaired ps d c → ⊥) → AreMemoriesRelated ps (updated f m d) n
  source_updated f d free = record {
    one_to_one = related.one_to_one;
    cells = λ b c pair. (let k = related.cells b c pair in
        (k.0, k.1, updated_other f m d b (λ same. free c (subst (λ z. ArePaired ps z c) (sym same) pair)) ∙ k.2, k.3, k.4));
  }

  target_updated : (g : Cell → Cell) (e : ℕ) → ((b : ℕ) → ArePaired ps b e → ⊥) → AreMemoriesRelated ps m (updated g n e)
  target_updated g e free = record {
    one_to_one = related.one_to_one;
    cells = λ b c pair. (let k = related.cells b c pair in
        (k.0, k.1, k.2, updated_other g n e c (λ same. free b (subst (λ z. ArePaired ps b z) (sym same) pair)) ∙ k.3, k.4));
  }

  -- related values through related addresses, of which the source's may be accessed
  pub both_written : (k : Kind) (a b v w : Value) (align : ℕ) → can_access m k a align ≡ true → IsRelated ps a b → IsRelated ps v w
      → AreMemoriesRelated ps (overwritten m a (bytes_of (byte_count k) v)) (overwritten n b (bytes_of (byte_count k) w))
  both_written k (value.Ptr d (pos o)) b v w align can at given =
      let before = bytes_of (byte_count k) v in
      let after = bytes_of (byte_count k) w in
      subst (λ z. AreMemoriesRelated ps (overwritten m (value.Ptr d (pos o)) before) (overwritten n z after)) (sym at.2)
      (both_updated (with_bytes o before) (with_bytes o after) d at.0 at.1 (λ x y h. stored_alike ps x y o (byte_count k) v w h given))
  both_written k (value.Ptr d (negsuc o)) b v w align can at given = absurd (false≢true can)
  both_written k (value.Num i) b v w align can at given = absurd (false≢true can)
  both_written k (value.Bare i) b v w align can at given = absurd (false≢true can)
  both_written k value.Undef b v w align can at given = absurd (false≢true can)
  both_written k value.Poison b v w align can at given = absurd (false≢true can)

  -- through an address into a block that is in no pair
  pub source_written : (a : Value) (new : List Byte) → ((d : ℕ) → block_of a ≡ Some d → (c : ℕ) → ArePaired ps d c → ⊥) → AreMemoriesRelated ps (overwritten m a new) n
  source_written (value.Ptr d (pos o)) new free = source_updated (with_bytes o new) d (free d refl)
  source_written (value.Ptr d (negsuc o)) new free = related
  source_written (value.Num i) new free = related
  source_written (value.Bare i) new free = related
  source_written value.Undef new free = related
  source_written value.Poison new free = related

  pub target_written : (a : Value) (new : List Byte) → ((e : ℕ) → block_of a ≡ Some e → (b : ℕ) → ArePaired ps b e → ⊥) → AreMemoriesRelated ps m (overwritten n a new)
  target_written (value.Ptr e (pos o)) new free = target_updated (with_bytes o new) e (free e refl)
  target_written (value.Ptr e (negsuc o)) new free = related
  target_written (value.Num i) new free = related
  target_written (value.Bare i) new free = related
  target_written value.Undef new free = related
  target_written value.Poison new free = related

-- ---- sides that say which of their blocks are in pairs

module _ (one_sided : Bool) (side : SideState) where
  pub paired_stays : (b : ℕ) → IsMade side.world.memory b → paired_after one_sided side b ≡ side.paired b
  paired_stays b made = ap (λ t. cond t (not one_sided) (side.paired b)) (next_other side.world.memory b made)

  paired_next : paired_after one_sided side (length side.world.memory) ≡ not one_sided
  paired_next =
      let next = length side.world.memory in
      ap (λ t. cond t (not one_sided) (side.paired next)) (eq-eqb next next refl)

  pub next_free : one_sided ≡ true → paired_after one_sided side (length side.world.memory) ≡ false
  next_free alone = paired_next ∙ ap not alone

module _ (ps : Pairing) (source target : SideState) (sides : AreSides ps source target) where
  abbrev source_memory : Memory
  source_memory = source.world.memory

  abbrev target_memory : Memory
  target_memory = target.world.memory

  abbrev both : Pairing
  both = with_pair ps (length source_memory) (length target_memory)

  abbrev memories : AreMemoriesRelated ps source_memory target_memory
  memories = sides.common.memories

  source_stays : (one_sided : Bool) (b c : ℕ) → ArePaired ps b c → paired_after one_sided source b ≡ true
  source_stays one_sided b c pair = paired_stays one_sided source b (pair_made ps source_memory target_memory memories b c pair).0 ∙ sides.common.source_paired b c pair

  target_stays : (one_sided : Bool) (b c : ℕ) → ArePaired ps b c → paired_after one_sided target c ≡ true
  target_stays one_sided b c pair = paired_stays one_sided target c (pair_made ps source_memory target_memory memories b c pair).1 ∙ sides.common.target_paired b c pair

  -- the new blocks of two allocas
  pub slots_common : (a b : Alloca) → same_slot source.scope.types a b ≡ true
      → AreCommon (with_pair ps (length source.world.memory) (length target.world.memory))
      (side_made a (paired_after false source) source) (side_made b (paired_after false target) target)
  slots_common a b same =
      let types = source.scope.types in
      let parts = and_parts (is_one_size (size_made types a) (size_made types b)) (nat_eq (align_or types a.of a.align) (align_or types b.of b.align)) same in
      let sizes = same_bytes types a b parts.0 ∙ ap (λ (scope : Scope). bytes_made scope.types b) sides.common.scope in
      let aligns = eqb-true (align_or types a.of a.align) (align_or types b.of b.align) parts.1 ∙ ap (λ (scope : Scope). align_or scope.types b.of b.align) sides.common.scope in
      let there = target.scope.types in
      let alike = new_cells both (bytes_made types a) (bytes_made there b) sizes (align_or types a.of a.align) (align_or there b.of b.align) aligns in
      record {
        scope = sides.common.scope;
        memories = both_grown ps source_memory target_memory memories (new_cell (bytes_made types a) (align_or types a.of a.align) []) (new_cell (bytes_made there b) (align_or there b.of b.align) []) alike;
        names = names_more ps both (pairs_kept ps source_memory target_memory memories) source.world.names target.world.names sides.common.names;
        globals = λ k below. pairs_kept ps source_memory target_memory memories k k (sides.common.globals k below);
        source_paired = λ d e pair. ⊎_elim
            (λ (old : ArePaired ps d e). source_stays false d e old)
            (λ (new : (length source_memory ≡ d) × (length target_memory ≡ e)). subst (λ x. paired_after false source x ≡ true) new.0 (paired_next false source))
            (old_or_new ps source_memory target_memory memories d e pair);
        target_paired = λ d e pair. ⊎_elim
            (λ (old : ArePaired ps d e). target_stays false d e old)
            (λ (new : (length source_memory ≡ d) × (length target_memory ≡ e)). subst (λ x. paired_after false target x ≡ true) new.1 (paired_next false target))
            (old_or_new ps source_memory target_memory memories d e pair);
      }

  pub slot_is_new : ArePairsMore ps (with_pair ps (length source.world.memory) (length target.world.memory)) source.world.memory target.world.memory
  slot_is_new = record {
    kept = pairs_kept ps source_memory target_memory memories;
    new = λ b c pair. ⊎_elim
        (λ (old : ArePaired ps b c). inl old)
        (λ (new : (length source_memory ≡ b) × (length target_memory ≡ c)). inr (omega (arith, new.0), omega (arith, new.1)))
        (old_or_new ps source_memory target_memory memories b c pair);
  }

  pub source_slot_common : (a : Alloca) → AreCommon ps (side_made a (paired_after true source) source) target
  source_slot_common a = record {
    scope = sides.common.scope;
    memories = source_grown ps source_memory target_memory memories (new_cell (bytes_made source.scope.types a) (align_or source.scope.types a.of a.align) []);
    names = sides.common.names;
    globals = sides.common.globals;
    source_paired = λ b c pair. source_stays true b c pair;
    target_paired = sides.common.target_paired;
  }

  pub target_slot_common : (b : Alloca) → AreCommon ps source (side_made b (paired_after true target) target)
  target_slot_common b = record {
    scope = sides.common.scope;
    memories = target_grown ps source_memory target_memory memories (new_cell (bytes_made target.scope.types b) (align_or target.scope.types b.of b.align) []);
    names = sides.common.names;
    globals = sides.common.globals;
    source_paired = sides.common.source_paired;
    target_paired = λ c d pair. target_stays true c d pair;
  }
