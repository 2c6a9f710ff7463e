-- What an expression is worth in a memory that has changed where it doesn't look.
use Rattle.std.proofs.Common.{◌≡◌, ◌∙◌, ◌+◌, ◌<◌, ℕ, zero, suc, pos, negsuc, Bool, true, false, cond, List, [], ◌∷◌, ◌++◌, length, map, Option, None, Some, refl, sym, ap, ap₂, subst, arith}
use Rattle.std.specs.Prelude.{nat_eq, nat_le, nat_lt, ◌&&◌, ◌%◌}
use Rattle.std.specs.List.{AllByRecursion}
use Rattle.ir_types.specs.declared.ty.Ty.{Ty}
use Rattle.ir_core.specs.declared.expressions.Expr.TheVariants.{Plain, Binary, Icmp, Cast, Select, Element, Load}
use Rattle.ir_core.specs.declared.expressions.Reg.{Reg}
use Rattle.ir_core.specs.declared.operands.Atom.{Atom}
use Rattle.ir_core.specs.declared.operands.Operand.{Operand}
use Rattle.ir_core.specs.declared.operands.Pred.{Pred}
use Rattle.ir_core.specs.declared.values.Byte.{Byte}
use Rattle.ir_core.specs.declared.values.Kind.{Kind}
use Rattle.ir_core.specs.declared.values.Value.{Value}
use Rattle.ir_core.specs.declared.values.Value.TheVariants.{Num, Ptr, Bare, Undef, Poison}
use Rattle.ir_core.specs.Expressions.{Expr0}
use Rattle.ir_core.specs.Types.{kind_of}
use Rattle.ir_values.specs.Addresses.{gep_outcome}
use Rattle.ir_values.specs.Comparisons.{icmp_outcome}
use Rattle.ir_values.specs.Constants.{Scope}
use Rattle.ir_values.specs.declared.operations.Outcome.TheVariants.{Gives, Trap}
use Rattle.block_memory.specs.Bytes.{byte_count, bytes_of, value_of}
use Rattle.block_memory.specs.Laws as law
use Rattle.block_memory.specs.Memory.{Cell, Memory, bytes_at, can_access, cell_at, fits_maybe, loaded, loaded_of, overwritten, stored, updated, with_bytes}
use Rattle.block_memory.proofs.Accesses.{loaded_still, put_length}
use Rattle.ir_machine.specs.Keeps.{IsAmong, IsMade}
use Rattle.ir_machine.specs.Registers.{align_or, atom_value, icmp_at, index_value, is_stated, operand_value, outcome, size_at, size_in}
use Rattle.erhl_assert.specs.Holding.{block_of}
use Rattle.erhl_assert.specs.Kills.{loads_in}

-- ---- expressions

module _ (scope : Scope) (reading : Kind → Reg → Value) (m n : Memory) where
  abbrev pub SameSize : Value → Type 0
  SameSize v = size_at n v ≡ size_at m v

  abbrev pub SameLoads : Value → Type 0
  SameLoads v = (k : Kind) (align : ℕ) → loaded n k v align ≡ loaded m k v align

  -- where the blocks of operands keep their sizes, and loads give the same, all do
  module _ (sizes : (t : Ty) (a : Atom Reg) → SameSize (atom_value scope reading t a)) where
    compared : (pred : Pred) (k : Option Kind) (t : Ty) (a b : Atom Reg)
        → icmp_at n pred k (atom_value scope reading t a) (atom_value scope reading t b) ≡ icmp_at m pred k (atom_value scope reading t a) (atom_value scope reading t b)
    compared pred None t a b = refl
    compared pred (Some k) t a b = ap₂ (icmp_outcome pred k (atom_value scope reading t a) (atom_value scope reading t b)) (sizes t a) (sizes t b)

    loads_same : (k : Option Kind) (v : Value) (align : ℕ) → SameLoads v → loaded_of n k v align ≡ loaded_of m k v align
    loads_same None v align h = refl
    loads_same (Some k) v align h = h k align

    pub untouched : (e : Expr0) → AllByRecursion (λ (p : Operand Reg). SameLoads (operand_value scope reading p)) (loads_in e) → outcome scope reading n e ≡ outcome scope reading m e
    untouched (Plain o) h = refl
    untouched (Binary b) h = refl
    untouched (Icmp c) h = compared c.pred (kind_of c.ty) c.ty c.left c.right
    untouched (Cast c) h = refl
    untouched (Select s) h = refl
    untouched (Element e) h =
        ap (λ size. cond (is_stated scope.types e) (gep_outcome e.inbounds scope.types e.of (operand_value scope reading e.base) size (map (index_value scope reading) e.indices)) (Gives Poison))
        (sizes e.base.ty e.base.atom)
    untouched (Load l) h = loads_same (kind_of l.of) (operand_value scope reading l.pointer) (align_or scope.types l.of l.align) h.0

-- ---- more blocks

pub cell_stays : (m n : Memory) (b : ℕ) → b < length m → cell_at (m ++ n) b ≡ cell_at m b
cell_stays [] n b made = absurd (omega (arith, made))
cell_stays (c ∷ m) n zero made = refl
cell_stays (c ∷ m) n (suc b) made = cell_stays m n b (omega (arith, made))

pub cell_behind : (m : Memory) (c : Cell) → cell_at (m ++ c ∷ []) (length m) ≡ Some c
cell_behind [] c = refl
cell_behind (d ∷ m) c = cell_behind m c

pub cell_made : (m : Memory) (b : ℕ) (c : Cell) → cell_at m b ≡ Some c → b < length m
cell_made [] b c is = absurd (cc)
cell_made (d ∷ m) zero c is = omega arith
cell_made (d ∷ m) (suc b) c is = let more = cell_made m b c is in omega (arith, more)

module _ (m n : Memory) where
  pub sizes_stay : (v : Value) → IsAmong (IsMade m) v → size_at (m ++ n) v ≡ size_at m v
  sizes_stay (Ptr b o) made = ap size_in (cell_stays m n b made)
  sizes_stay (Num x) made = refl
  sizes_stay (Bare x) made = refl
  sizes_stay Undef made = refl
  sizes_stay Poison made = refl

  pub loads_stay : (v : Value) → IsAmong (IsMade m) v → (k : Kind) (align : ℕ) → loaded (m ++ n) k v align ≡ loaded m k v align
  loads_stay (Ptr b (pos o)) made k align =
      ap (λ (c : Option Cell). cond (fits_maybe c (byte_count k) o align) (Gives (value_of k (bytes_at c o (byte_count k)))) Trap) (cell_stays m n b made)
  loads_stay (Ptr b (negsuc o)) made k align = refl
  loads_stay (Num x) made k align = refl
  loads_stay (Bare x) made k align = refl
  loads_stay Undef made k align = refl
  loads_stay Poison made k align = refl

  pub can_stay : (v : Value) (k : Kind) (align : ℕ) → can_access m k v align ≡ true → can_access (m ++ n) k v align ≡ true
  can_stay (Ptr b (pos o)) k align can = at (cell_at m b) refl can
    where
      at : (c : Option Cell) → cell_at m b ≡ c → fits_maybe c (byte_count k) o align ≡ true → can_access (m ++ n) k (Ptr b (pos o)) align ≡ true
      at None is fits = absurd (cc)
      at (Some c) is fits = ap (λ d. fits_maybe d (byte_count k) o align) (cell_stays m n b (cell_made m b c is) ∙ is) ∙ fits
  can_stay (Ptr b (negsuc o)) k align can = can
  can_stay (Num x) k align can = can
  can_stay (Bare x) k align can = can
  can_stay Undef k align can = can
  can_stay Poison k align can = can

-- ---- other bytes

-- a block's alignment, whether it is live, and its size
abbrev shape : Option Cell → Option (ℕ × Bool × ℕ)
shape None = None
shape (Some c) = Some (c.align, c.live, length c.bytes)

abbrev shape_size : Option (ℕ × Bool × ℕ) → ℕ
shape_size None = 0
shape_size (Some s) = s.2

abbrev shape_fits : Option (ℕ × Bool × ℕ) → ℕ → ℕ → ℕ → Bool
shape_fits None count o align = false
shape_fits (Some s) count o align = nat_lt 0 align && (s.1 && (nat_eq (s.0 % align) 0 && (nat_eq (o % align) 0 && nat_le (o + count) s.2)))

by_size : (c : Option Cell) → size_in c ≡ shape_size (shape c)
by_size None = refl
by_size (Some c) = refl

by_fit : (c : Option Cell) (count o align : ℕ) → fits_maybe c count o align ≡ shape_fits (shape c) count o align
by_fit None count o align = refl
by_fit (Some c) count o align = refl

written_shape : (m : Memory) (b o : ℕ) (new : List Byte) (d : ℕ) → shape (cell_at (updated (with_bytes o new) m b) d) ≡ shape (cell_at m d)
written_shape [] b o new d = refl
written_shape (c ∷ cs) zero o new zero = ap (λ size. Some (c.align, c.live, size)) (put_length c.bytes o new)
written_shape (c ∷ cs) zero o new (suc d) = refl
written_shape (c ∷ cs) (suc b) o new zero = refl
written_shape (c ∷ cs) (suc b) o new (suc d) = written_shape cs b o new d

over_shape : (m : Memory) (a : Value) (new : List Byte) (d : ℕ) → shape (cell_at (overwritten m a new) d) ≡ shape (cell_at m d)
over_shape m (Ptr b (pos o)) new d = written_shape m b o new d
over_shape m (Ptr b (negsuc o)) new d = refl
over_shape m (Num x) new d = refl
over_shape m (Bare x) new d = refl
over_shape m Undef new d = refl
over_shape m Poison new d = refl

-- what a store that doesn't trap is
pub stored_parts : (m n : Memory) (k : Kind) (v a : Value) (align : ℕ) → stored m k v a align ≡ Some n → (can_access m k a align ≡ true) × (n ≡ overwritten m a (bytes_of (byte_count k) v))
stored_parts m n k v a align h = at (can_access m k a align) refl h
  where
    at : (t : Bool) → can_access m k a align ≡ t → cond t (Some (overwritten m a (bytes_of (byte_count k) v))) None ≡ Some n
        → (can_access m k a align ≡ true) × (n ≡ overwritten m a (bytes_of (byte_count k) v))
    at true is e = let same : overwritten m a (bytes_of (byte_count k) v) ≡ n = cc in (is, sym same)
    at false is e = absurd (cc)

apart_from : (a p : Value) (count others : ℕ) → ((b : ℕ) → block_of a ≡ Some b → block_of p ≡ Some b → ⊥) → law.AreApart a count p others
apart_from (Ptr b (pos o)) (Ptr d (pos q)) count others apart = λ same. absurd (apart b refl (ap Some (sym same)))
apart_from (Ptr b (pos o)) (Ptr d (negsuc q)) count others apart = tt
apart_from (Ptr b (pos o)) (Num x) count others apart = tt
apart_from (Ptr b (pos o)) (Bare x) count others apart = tt
apart_from (Ptr b (pos o)) Undef count others apart = tt
apart_from (Ptr b (pos o)) Poison count others apart = tt
apart_from (Ptr b (negsuc o)) p count others apart = tt
apart_from (Num x) p count others apart = tt
apart_from (Bare x) p count others apart = tt
apart_from Undef p count others apart = tt
apart_from Poison p count others apart = tt

module _ (m n : Memory) (k : Kind) (v a : Value) (align : ℕ) (is : stored m k v a align ≡ Some n) where
  shapes : (d : ℕ) → shape (cell_at n d) ≡ shape (cell_at m d)
  shapes d = subst (λ (memory : Memory). shape (cell_at memory d) ≡ shape (cell_at m d)) (sym (stored_parts m n k v a align is).1) (over_shape m a (bytes_of (byte_count k) v) d)

  pub stored_sizes : (p : Value) → size_at n p ≡ size_at m p
  stored_sizes (Ptr b o) = by_size (cell_at n b) ∙ ap shape_size (shapes b) ∙ sym (by_size (cell_at m b))
  stored_sizes (Num x) = refl
  stored_sizes (Bare x) = refl
  stored_sizes Undef = refl
  stored_sizes Poison = refl

  pub stored_can : (p : Value) (j : Kind) (other : ℕ) → can_access n j p other ≡ can_access m j p other
  stored_can (Ptr b (pos o)) j other =
      by_fit (cell_at n b) (byte_count j) o other ∙ ap (λ s. shape_fits s (byte_count j) o other) (shapes b) ∙ sym (by_fit (cell_at m b) (byte_count j) o other)
  stored_can (Ptr b (negsuc o)) j other = refl
  stored_can (Num x) j other = refl
  stored_can (Bare x) j other = refl
  stored_can Undef j other = refl
  stored_can Poison j other = refl

  pub stored_loads : (p : Value) → ((b : ℕ) → block_of a ≡ Some b → block_of p ≡ Some b → ⊥) → (j : Kind) (other : ℕ) → loaded n j p other ≡ loaded m j p other
  stored_loads p apart j other = loaded_still m n k v a align is j p other (apart_from a p (byte_count k) (byte_count j) apart)
