-- Operators on related values, beside related memories, have related outcomes.
use Rattle.std.proofs.Common.{◌≡◌, ◌∙◌, ◌<◌, ℕ, zero, suc, pos, negsuc, true, cond, not, ◌||◌, Bool, false, List, Option, None, Some, refl, sym, ap, subst, arith}
use Rattle.std.specs.List.{AllZip}
use Rattle.std.proofs.lemmas.Slice.Zip.{AllZip-long}
use Rattle.ir_types.specs.declared.named.NamedTy.{NamedTy}
use Rattle.ir_types.specs.NameLaws.{all_true}
use Rattle.ir_core.specs.declared.values.Value.{Value}
use Rattle.ir_core.specs.declared.values.Value.TheVariants.{Num, Ptr, Bare, Undef, Poison}
use Rattle.ir_core.specs.declared.values.Kind.{Kind}
use Rattle.ir_core.specs.declared.values.Kind.TheVariants as kind
use Rattle.ir_core.specs.declared.operands.BinOp.{BinOp}
use Rattle.ir_core.specs.declared.operands.CastOp.{CastOp}
use Rattle.ir_core.specs.declared.operands.Pred.{Pred}
use Rattle.ir_types.specs.declared.ty.Ty.{Ty}
use Rattle.ir_core.specs.Types.{converts, kind_of}
use Rattle.ir_core.specs.declared.operands.Flags.{Flags}
use Rattle.ir_values.specs.declared.operations.Outcome.{Outcome}
use Rattle.ir_values.specs.declared.operations.Outcome.TheVariants.{Gives, Trap}
use Rattle.ir_values.specs.Laws.{flags_among}
use Rattle.ir_values.specs.Operations.{traps, binary_value}
use Rattle.ir_values.specs.Addresses.{GivenIndex, gep_outcome}
use Rattle.ir_values.specs.PointerLaws.{AreIndicesRelated, IsOneSize}
use Rattle.ir_values.specs.Related.{AreOutcomesRelated, IsByteRelated, IsRelated, Pairing}
use Rattle.ir_values.specs.Selections.{select_outcome}
use Rattle.ir_values.proofs.Compared as compared
use Rattle.ir_values.proofs.Monotone as operations
use Rattle.ir_values.proofs.Moved.{gep_related}
use Rattle.block_memory.specs.Memory.{Cell, Memory, can_access, cell_at, fits_maybe, loaded, loaded_of, read_at}
use Rattle.block_memory.specs.Bytes.{byte_count}
use Rattle.block_memory.specs.Related.{AreMemoriesRelated}
use Rattle.block_memory.proofs.Accesses.{loads_keep_related}
use Rattle.ir_machine.specs.Registers.{binary_at, size_at, size_in, icmp_at, cast_at, selects}

module _ (ps : Pairing) where
  pub binary_related : (op : BinOp) (many few : Flags) (k : Option Kind) (a b c d : Value) → flags_among few many ≡ true → IsRelated ps a c → IsRelated ps b d
      → AreOutcomesRelated ps (binary_at op many k a b) (binary_at op few k c d)
  binary_related op many few None a b c d h p q = tt
  binary_related op many few (Some (kind.Int width)) a b c d h p q = operations.binary_related ps op many few width h a b c d p q
  binary_related op many few (Some kind.Ptr) a b c d h p q = tt

  -- one choice between outcomes that are related
  pub chosen_related : (b : Bool) (o p : Outcome) → AreOutcomesRelated ps o p → AreOutcomesRelated ps (cond b o (Gives Poison)) (cond b p (Gives Poison))
  chosen_related true o p h = h
  chosen_related false o p h = tt

  cast_at_related : (op : CastOp) (j k : Option Kind) (a b : Value) → IsRelated ps a b → AreOutcomesRelated ps (cast_at op j k a) (cast_at op j k b)
  cast_at_related op None k a b p = tt
  cast_at_related op (Some j) None a b p = tt
  cast_at_related op (Some j) (Some k) a b p = operations.cast_related ps op j k a b p

  pub cast_related : (op : CastOp) (from to : Ty) (a b : Value) → IsRelated ps a b
      → AreOutcomesRelated ps (cond (converts op from to) (cast_at op (kind_of from) (kind_of to) a) (Gives Poison))
      (cond (converts op from to) (cast_at op (kind_of from) (kind_of to) b) (Gives Poison))
  cast_related op from to a b p =
      chosen_related (converts op from to) (cast_at op (kind_of from) (kind_of to) a) (cast_at op (kind_of from) (kind_of to) b)
      (cast_at_related op (kind_of from) (kind_of to) a b p)

  pub select_related : (condition left right : Ty) (a b c d e f : Value) → IsRelated ps a d → IsRelated ps b e → IsRelated ps c f
      → AreOutcomesRelated ps (cond (selects condition left right) (select_outcome a b c) (Gives Poison))
      (cond (selects condition left right) (select_outcome d e f) (Gives Poison))
  select_related condition left right a b c d e f p q o =
      chosen_related (selects condition left right) (select_outcome a b c) (select_outcome d e f) (operations.select_related ps a d p b c e f q o)

  -- what refines to a trap is one
  pub only_trap : (o : Outcome) → AreOutcomesRelated ps o Trap → o ≡ Trap
  only_trap Trap h = refl
  only_trap (Gives v) h = absurd h

-- no access is allowed at the alignment 0
no_access : (m : Memory) (k : Kind) (a : Value) → can_access m k a 0 ≡ false
no_access m k (Ptr b (pos o)) = at (cell_at m b)
  where
    at : (c : Option Cell) → fits_maybe c (byte_count k) o 0 ≡ false
    at None = refl
    at (Some c) = refl
no_access m k (Ptr b (negsuc o)) = refl
no_access m k (Num n) = refl
no_access m k (Bare n) = refl
no_access m k Undef = refl
no_access m k Poison = refl

module _ (ps : Pairing) (m n : Memory) (memories : AreMemoriesRelated ps m n) where
  -- related addresses are in blocks of one size
  one_size : (a c : Value) → IsRelated ps a c → IsOneSize a (size_at m a) (size_at n c)
  one_size (Ptr b o) c p =
      let cells = memories.cells b p.0 p.1 in
      ap (size_at n) p.2 ∙ ap size_in cells.3 ∙ AllZip-long (IsByteRelated ps) cells.0.bytes cells.1.bytes cells.4.bytes ∙ sym (ap size_in cells.2)
  one_size (Num i) c p = tt
  one_size (Bare i) c p = tt
  one_size Undef c p = tt
  one_size Poison c p = tt

  pub icmp_related : (pred : Pred) (k : Option Kind) (a b c d : Value) → IsRelated ps a c → IsRelated ps b d
      → AreOutcomesRelated ps (icmp_at m pred k a b) (icmp_at n pred k c d)
  icmp_related pred None a b c d p q = tt
  icmp_related pred (Some k) a b c d p q =
      compared.icmp_related ps memories.one_to_one pred k a b c d (size_at m a) (size_at m b) (size_at n c) (size_at n d) p q (one_size a c p) (one_size b d q)

  load_at_related : (k : Kind) (a c : Value) (align : ℕ) → IsRelated ps a c → AreOutcomesRelated ps (loaded m k a align) (loaded n k c align)
  load_at_related k a c zero p = subst (λ t. AreOutcomesRelated ps (cond t (Gives (read_at m k a)) Trap) (loaded n k c 0)) (sym (no_access m k a)) tt
  load_at_related k a c (suc align) p =
      let positive : 0 < suc align = omega arith in loads_keep_related ps m n memories k (suc align) (suc align) positive (λ i h. h) a c p

  pub load_related : (k : Option Kind) (a c : Value) (align : ℕ) → IsRelated ps a c → AreOutcomesRelated ps (loaded_of m k a align) (loaded_of n k c align)
  load_related None a c align p = tt
  load_related (Some k) a c align p = load_at_related k a c align p

  -- the address of a part, from related bases by related indices, the second perhaps without `inbounds`
  pub element_related : (many few : Bool) → (few ≡ true → many ≡ true) → (types : List NamedTy) (of : Ty) (a b : Value) (is js : List GivenIndex)
      → IsRelated ps a b → AllZip (AreIndicesRelated ps) is js
      → AreOutcomesRelated ps (gep_outcome many types of a (size_at m a) is) (gep_outcome few types of b (size_at n b) js)
  element_related many few fewer types of a b is js p q = gep_related ps many few fewer types of a b (size_at m a) (size_at n b) is js p (one_size a b p) q

-- whether an operator traps doesn't rest on its flags
traps_at : (b : Bool) (v w : Value) → cond b Trap (Gives v) ≡ Trap → cond b Trap (Gives w) ≡ Trap
traps_at true v w h = refl
traps_at false v w h = absurd (cc)

pub traps_whatever_flags : (op : BinOp) (f g : Flags) (k : Option Kind) (a b : Value) → binary_at op f k a b ≡ Trap → binary_at op g k a b ≡ Trap
traps_whatever_flags op f g None a b h = absurd (cc)
traps_whatever_flags op f g (Some (kind.Int width)) a b h = traps_at (traps op width a b) (binary_value op f width a b) (binary_value op g width a b) h
traps_whatever_flags op f g (Some kind.Ptr) a b h = absurd (cc)

-- flags are among themselves
pub flags_among_themselves : (flags : Flags) → flags_among flags flags ≡ true
flags_among_themselves flags =
    all_true (all_true (kept flags.nuw) (kept flags.nsw)) (kept flags.exact)
  where
    kept : (b : Bool) → (not b || b) ≡ true
    kept true = refl
    kept false = refl
