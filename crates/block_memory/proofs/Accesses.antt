-- Accesses of related memories; a load after a store, of what was stored and of other bytes; loaded values in their kinds.
use Rattle.std.proofs.Common.{◌≡◌, ◌≢◌, ◌⊎◌, ℕ, zero, suc, pos, negsuc, ◌+◌, ◌%◌, ◌≤◌, Bool, true, false, ◌&&◌, cond, nat_eq, nat_lt, nat_le, ◌<◌, List, [], ◌∷◌, length, take, drop, Option, None, Some, refl, sym, ap, subst, ◌∙◌, ⊎_elim, arith}
use Rattle.std.specs.List.{AllZip, AllByRecursion}
use Rattle.std.proofs.lemmas.Bool.{and_parts, and_from, false≢true, leb-true, lt-ltb}
use Rattle.std.proofs.lemmas.Slice.Zip.{AllZip-long}
use Rattle.ir_core.specs.declared.values.Value.{Value}
use Rattle.ir_core.specs.declared.values.Value.TheVariants.{Num, Ptr, Bare, Undef, Poison}
use Rattle.ir_values.specs.declared.operations.Outcome.TheVariants.{Gives, Trap}
use Rattle.ir_core.specs.declared.values.Byte.{Byte}
use Rattle.ir_core.specs.declared.values.Kind.{Kind}
use Rattle.block_memory.specs.Bytes.{byte_count, bytes_of, value_of, IsByte, IsRanged, IsWide}
use Rattle.block_memory.specs.Memory.{Cell, Memory, cell_at, updated, fits_in, fits_maybe, can_access, bytes_at, read_at, loaded, put, with_bytes, overwritten, stored}
use Rattle.ir_values.specs.Related.{AreOutcomesRelated, IsByteRelated, IsRelated, Pairing}
use Rattle.ir_values.specs.Values.{IsInKind}
use Rattle.block_memory.specs.Laws.{AreApart, Divides, IsOfBytes, LoadsKeepRelated, StoresKeepBytes}
use Rattle.block_memory.specs.Related.{AreCellsRelated, AreMemoriesRelated}
use Rattle.block_memory.proofs.BytesAgain.{value_again, value_alike, bytes_alike, bytes_length}
use Rattle.block_memory.proofs.ReadValues.{in_kind, bytes_are_bytes, kind_ranged}

-- LISTS
pub put_length : (xs : List Byte) (o : ℕ) (new : List Byte) → length (put xs o new) ≡ length xs
put_length [] o new = refl
put_length (x ∷ xs) zero [] = refl
put_length (x ∷ xs) zero (y ∷ new) = ap suc (put_length xs zero new)
put_length (x ∷ xs) (suc o) new = ap suc (put_length xs o new)

take_alike : {A B : Type 0} (R : A → B → Type 0) (n : ℕ) (xs : List A) (ys : List B) → AllZip R xs ys → AllZip R (take n xs) (take n ys)
take_alike R zero xs ys h = tt
take_alike R (suc n) [] [] h = tt
take_alike R (suc n) [] (y ∷ ys) h = absurd h
take_alike R (suc n) (x ∷ xs) [] h = absurd h
take_alike R (suc n) (x ∷ xs) (y ∷ ys) h = (h.0, take_alike R n xs ys h.1)

drop_alike : {A B : Type 0} (R : A → B → Type 0) (n : ℕ) (xs : List A) (ys : List B) → AllZip R xs ys → AllZip R (drop n xs) (drop n ys)
drop_alike R zero xs ys h = h
drop_alike R (suc n) [] [] h = tt
drop_alike R (suc n) [] (y ∷ ys) h = absurd h
drop_alike R (suc n) (x ∷ xs) [] h = absurd h
drop_alike R (suc n) (x ∷ xs) (y ∷ ys) h = drop_alike R n xs ys h.1

put_alike : (ps : Pairing) (xs ys : List Byte) (o : ℕ) (new new' : List Byte) → AllZip (IsByteRelated ps) xs ys → AllZip (IsByteRelated ps) new new'
    → AllZip (IsByteRelated ps) (put xs o new) (put ys o new')
put_alike ps [] [] o new new' h k = tt
put_alike ps [] (y ∷ ys) o new new' h k = absurd h
put_alike ps (x ∷ xs) [] o new new' h k = absurd h
put_alike ps (x ∷ xs) (y ∷ ys) zero [] [] h k = h
put_alike ps (x ∷ xs) (y ∷ ys) zero [] (z ∷ new') h k = absurd k
put_alike ps (x ∷ xs) (y ∷ ys) zero (z ∷ new) [] h k = absurd k
put_alike ps (x ∷ xs) (y ∷ ys) zero (z ∷ new) (z' ∷ new') h k = (k.0, put_alike ps xs ys zero new new' h.1 k.1)
put_alike ps (x ∷ xs) (y ∷ ys) (suc o) new new' h k = (h.0, put_alike ps xs ys o new new' h.1 k)

-- what was put is there
put_there : (xs : List Byte) (o : ℕ) (new : List Byte) → o + length new ≤ length xs → take (length new) (drop o (put xs o new)) ≡ new
put_there [] zero [] h = refl
put_there [] (suc o) [] h = refl
put_there [] o (y ∷ new) h = absurd (omega arith)
put_there (x ∷ xs) zero [] h = refl
put_there (x ∷ xs) zero (y ∷ new) h = ap (λ zs. y ∷ zs) (put_there xs zero new (omega arith))
put_there (x ∷ xs) (suc o) new h = put_there xs o new (omega arith)

-- bytes before, and bytes behind, stay
put_before : (xs : List Byte) (o : ℕ) (new : List Byte) (p n : ℕ) → p + n ≤ o → take n (drop p (put xs o new)) ≡ take n (drop p xs)
put_before [] o new p n h = refl
put_before (x ∷ xs) zero new p zero h = refl
put_before (x ∷ xs) zero new p (suc n) h = absurd (omega arith)
put_before (x ∷ xs) (suc o) new zero zero h = refl
put_before (x ∷ xs) (suc o) new zero (suc n) h = ap (λ zs. x ∷ zs) (put_before xs o new zero n (omega arith))
put_before (x ∷ xs) (suc o) new (suc p) n h = put_before xs o new p n (omega arith)

put_behind : (xs : List Byte) (o : ℕ) (new : List Byte) (p : ℕ) → o + length new ≤ p → drop p (put xs o new) ≡ drop p xs
put_behind [] o new p h = refl
put_behind (x ∷ xs) zero [] p h = refl
put_behind (x ∷ xs) zero (y ∷ new) zero h = absurd (omega arith)
put_behind (x ∷ xs) zero (y ∷ new) (suc p) h = put_behind xs zero new p (omega arith)
put_behind (x ∷ xs) (suc o) new zero h = absurd (omega arith)
put_behind (x ∷ xs) (suc o) new (suc p) h = put_behind xs o new p (omega arith)

updated_here : (f : Cell → Cell) (m : Memory) (b : ℕ) (x : Cell) → cell_at m b ≡ Some x → cell_at (updated f m b) b ≡ Some (f x)
updated_here f [] b x h = cc
updated_here f (c ∷ cs) zero x h = let e : c ≡ x = cc in ap (λ y. Some (f y)) e
updated_here f (c ∷ cs) (suc b) x h = updated_here f cs b x h

updated_other : (f : Cell → Cell) (m : Memory) (b d : ℕ) → b ≢ d → cell_at (updated f m b) d ≡ cell_at m d
updated_other f [] b d h = refl
updated_other f (c ∷ cs) zero zero h = absurd (h refl)
updated_other f (c ∷ cs) zero (suc d) h = refl
updated_other f (c ∷ cs) (suc b) zero h = refl
updated_other f (c ∷ cs) (suc b) (suc d) h = updated_other f cs b d (λ e. h (ap suc e))

-- (a) RELATED MEMORIES
module _ (ps : Pairing) (m n : Memory) (h : AreMemoriesRelated ps m n) (k : Kind) (align align' : ℕ) (positive : 0 < align') (divides : Divides align' align) where
  pub access_alike : (a b : Value) → IsRelated ps a b → can_access m k a align ≡ true → can_access n k b align' ≡ true
  access_alike (Ptr d (pos o)) b related fits =
      subst (λ z. can_access n k z align' ≡ true) (sym related.2) (
      let x = h.cells d related.0 related.1 in
      let fits' : fits_in x.0 (byte_count k) o align ≡ true = subst (λ c. fits_maybe c (byte_count k) o align ≡ true) x.2 fits in
      let zero = and_parts (nat_lt 0 align) (x.0.live && (nat_eq (x.0.align % align) 0 && (nat_eq (o % align) 0 && nat_le (o + byte_count k) (length x.0.bytes)))) fits' in
      let one = and_parts x.0.live (nat_eq (x.0.align % align) 0 && (nat_eq (o % align) 0 && nat_le (o + byte_count k) (length x.0.bytes))) zero.1 in
      let two = and_parts (nat_eq (x.0.align % align) 0) (nat_eq (o % align) 0 && nat_le (o + byte_count k) (length x.0.bytes)) one.1 in
      let three = and_parts (nat_eq (o % align) 0) (nat_le (o + byte_count k) (length x.0.bytes)) two.1 in
      ap (λ c. fits_maybe c (byte_count k) o align') x.3
      ∙ and_from (nat_lt 0 align') (x.1.live && (nat_eq (x.1.align % align') 0 && (nat_eq (o % align') 0 && nat_le (o + byte_count k) (length x.1.bytes)))) (lt-ltb 0 align' positive)
      (and_from x.1.live (nat_eq (x.1.align % align') 0 && (nat_eq (o % align') 0 && nat_le (o + byte_count k) (length x.1.bytes))) (sym x.4.live ∙ one.0)
      (and_from (nat_eq (x.1.align % align') 0) (nat_eq (o % align') 0 && nat_le (o + byte_count k) (length x.1.bytes))
      (ap (λ n. nat_eq (n % align') 0) (sym x.4.align) ∙ divides x.0.align two.0)
      (and_from (nat_eq (o % align') 0) (nat_le (o + byte_count k) (length x.1.bytes)) (divides o three.0)
      (ap (λ n. nat_le (o + byte_count k) n) (AllZip-long (IsByteRelated ps) x.0.bytes x.1.bytes x.4.bytes) ∙ three.1)))))
  access_alike (Ptr d (negsuc o)) b related fits = absurd (false≢true fits)
  access_alike (Num n) b related fits = absurd (false≢true fits)
  access_alike (Bare n) b related fits = absurd (false≢true fits)
  access_alike Undef b related fits = absurd (false≢true fits)
  access_alike Poison b related fits = absurd (false≢true fits)

  read_alike : (a b : Value) → IsRelated ps a b → IsRelated ps (read_at m k a) (read_at n k b)
  read_alike (Ptr d (pos o)) b related =
      subst (λ z. IsRelated ps (read_at m k (Ptr d (pos o))) (read_at n k z)) (sym related.2) (
      let x = h.cells d related.0 related.1 in
      value_alike ps h.one_to_one k (bytes_at (cell_at m d) o (byte_count k)) (bytes_at (cell_at n related.0) o (byte_count k)) (
      subst (λ c. AllZip (IsByteRelated ps) (bytes_at c o (byte_count k)) (bytes_at (cell_at n related.0) o (byte_count k))) (sym x.2) (
      subst (λ c. AllZip (IsByteRelated ps) (bytes_at (Some x.0) o (byte_count k)) (bytes_at c o (byte_count k))) (sym x.3) (
      take_alike (IsByteRelated ps) (byte_count k) (drop o x.0.bytes) (drop o x.1.bytes) (drop_alike (IsByteRelated ps) o x.0.bytes x.1.bytes x.4.bytes)))))
  read_alike (Ptr d (negsuc o)) b related = tt
  read_alike (Num n) b related = tt
  read_alike (Bare n) b related = tt
  read_alike Undef b related = tt
  read_alike Poison b related = tt

  -- the source's load traps, or neither does and the values are related
  pub loaded_alike : (a b : Value) → IsRelated ps a b → AreOutcomesRelated ps (loaded m k a align) (loaded n k b align')
  loaded_alike a b related = at (can_access m k a align) refl
    where
      at : (t : Bool) → can_access m k a align ≡ t → AreOutcomesRelated ps (cond t (Gives (read_at m k a)) Trap) (loaded n k b align')
      at true is = subst (λ t. AreOutcomesRelated ps (Gives (read_at m k a)) (cond t (Gives (read_at n k b)) Trap)) (sym (access_alike a b related is)) (read_alike a b related)
      at false is = tt

-- what an access that fits says of its block
pub record Accesses (m : Memory) (count b o align : ℕ) : Type 0 where
  pub cell : Cell
  pub there : cell_at m b ≡ Some cell
  pub inside : o + count ≤ length cell.bytes

pub fits_there : (m : Memory) (count b o align : ℕ) → fits_maybe (cell_at m b) count o align ≡ true → Accesses m count b o align
fits_there m count b o align h = at (cell_at m b) refl h
  where
    at : (c : Option Cell) → cell_at m b ≡ c → fits_maybe c count o align ≡ true → Accesses m count b o align
    at None is e = cc
    at (Some c) is e = record {
      cell = c;
      there = is;
      inside = leb-true (o + count) (length c.bytes) (
          and_parts (nat_eq (o % align) 0) (nat_le (o + count) (length c.bytes)) (
          and_parts (nat_eq (c.align % align) 0) (nat_eq (o % align) 0 && nat_le (o + count) (length c.bytes)) (
          and_parts c.live (nat_eq (c.align % align) 0 && (nat_eq (o % align) 0 && nat_le (o + count) (length c.bytes))) (
          and_parts (nat_lt 0 align) (c.live && (nat_eq (c.align % align) 0 && (nat_eq (o % align) 0 && nat_le (o + count) (length c.bytes)))) e).1).1).1).1;
    }

-- a write leaves which accesses fit
still_fits : (m : Memory) (a : Value) (new : List Byte) (k : Kind) (p : Value) (align : ℕ) → can_access (overwritten m a new) k p align ≡ can_access m k p align
still_fits m (Ptr b (pos o)) new k (Ptr d (pos q)) align = at m b d
  where
    at : (m : Memory) (b d : ℕ) → fits_maybe (cell_at (updated (with_bytes o new) m b) d) (byte_count k) q align ≡ fits_maybe (cell_at m d) (byte_count k) q align
    at [] b d = refl
    at (c ∷ cs) zero zero = ap (λ n. nat_lt 0 align && (c.live && (nat_eq (c.align % align) 0 && (nat_eq (q % align) 0 && nat_le (q + byte_count k) n)))) (put_length c.bytes o new)
    at (c ∷ cs) zero (suc d) = refl
    at (c ∷ cs) (suc b) zero = refl
    at (c ∷ cs) (suc b) (suc d) = at cs b d
still_fits m (Ptr b (pos o)) new k (Ptr d (negsuc q)) align = refl
still_fits m (Ptr b (pos o)) new k (Num n) align = refl
still_fits m (Ptr b (pos o)) new k (Bare n) align = refl
still_fits m (Ptr b (pos o)) new k Undef align = refl
still_fits m (Ptr b (pos o)) new k Poison align = refl
still_fits m (Ptr b (negsuc o)) new k p align = refl
still_fits m (Num n) new k p align = refl
still_fits m (Bare n) new k p align = refl
still_fits m Undef new k p align = refl
still_fits m Poison new k p align = refl

-- (b) A LOAD OF WHAT WAS STORED
pub loaded_again : (m : Memory) (k : Kind) (v a : Value) (align : ℕ) → IsWide k → IsInKind k v → can_access m k a align ≡ true
    → loaded (overwritten m a (bytes_of (byte_count k) v)) k a align ≡ Gives v
loaded_again m k v (Ptr b (pos o)) align wide is fits =
    let new : List Byte = bytes_of (byte_count k) v in
    let long : length (bytes_of (byte_count k) v) ≡ byte_count k = bytes_length v 0 (byte_count k) in
    let x = fits_there m (byte_count k) b o align fits in
    let room : o + length (bytes_of (byte_count k) v) ≤ length x.cell.bytes = (let i = x.inside in omega arith) in
    ap (λ t. cond t (Gives (read_at (overwritten m (Ptr b (pos o)) new) k (Ptr b (pos o)))) Trap) (still_fits m (Ptr b (pos o)) new k (Ptr b (pos o)) align ∙ fits)
    ∙ ap Gives (
    ap (λ c. value_of k (bytes_at c o (byte_count k))) (updated_here (with_bytes o new) m b x.cell x.there)
    ∙ ap (value_of k) (
    ap (λ n. take n (drop o (put x.cell.bytes o new))) (sym long)
    ∙ put_there x.cell.bytes o new room)
    ∙ value_again k v wide is)
loaded_again m k v (Ptr b (negsuc o)) align wide is fits = absurd (false≢true fits)
loaded_again m k v (Num n) align wide is fits = absurd (false≢true fits)
loaded_again m k v (Bare n) align wide is fits = absurd (false≢true fits)
loaded_again m k v Undef align wide is fits = absurd (false≢true fits)
loaded_again m k v Poison align wide is fits = absurd (false≢true fits)

stored_can : (m m' : Memory) (k : Kind) (v a : Value) (align : ℕ) → stored m k v a align ≡ Some m'
    → (can_access m k a align ≡ true) × (overwritten m a (bytes_of (byte_count k) v) ≡ m')
stored_can m m' k v a align h = at (can_access m k a align) refl h
  where
    at : (t : Bool) → can_access m k a align ≡ t → cond t (Some (overwritten m a (bytes_of (byte_count k) v))) None ≡ Some m'
        → (can_access m k a align ≡ true) × (overwritten m a (bytes_of (byte_count k) v) ≡ m')
    at true is e = (is, cc)
    at false is e = cc

pub stored_loaded : (m m' : Memory) (k : Kind) (v a : Value) (align : ℕ) → IsWide k → IsInKind k v → stored m k v a align ≡ Some m' → loaded m' k a align ≡ Gives v
stored_loaded m m' k v a align wide is h =
    let parts = stored_can m m' k v a align h in
    subst (λ z. loaded z k a align ≡ Gives v) parts.1 (loaded_again m k v a align wide is parts.0)

-- (f) A STORE OUTSIDE OF AN ACCESS
still_read : (m : Memory) (a : Value) (new : List Byte) (k : Kind) (p : Value) → AreApart a (length new) p (byte_count k) → read_at (overwritten m a new) k p ≡ read_at m k p
still_read m (Ptr b (pos o)) new k (Ptr d (pos q)) apart = ap (value_of k) (at m b d apart)
  where
    at : (m : Memory) (b d : ℕ) → (b ≡ d → (o + length new ≤ q) ⊎ (q + byte_count k ≤ o))
        → bytes_at (cell_at (updated (with_bytes o new) m b) d) q (byte_count k) ≡ bytes_at (cell_at m d) q (byte_count k)
    at [] b d h = refl
    at (c ∷ cs) zero zero h = ⊎_elim
        (λ behind. ap (take (byte_count k)) (put_behind c.bytes o new q behind))
        (λ before. put_before c.bytes o new q (byte_count k) before)
        (h refl)
    at (c ∷ cs) zero (suc d) h = refl
    at (c ∷ cs) (suc b) zero h = refl
    at (c ∷ cs) (suc b) (suc d) h = at cs b d (λ e. h (ap suc e))
still_read m (Ptr b (pos o)) new k (Ptr d (negsuc q)) apart = refl
still_read m (Ptr b (pos o)) new k (Num n) apart = refl
still_read m (Ptr b (pos o)) new k (Bare n) apart = refl
still_read m (Ptr b (pos o)) new k Undef apart = refl
still_read m (Ptr b (pos o)) new k Poison apart = refl
still_read m (Ptr b (negsuc o)) new k p apart = refl
still_read m (Num n) new k p apart = refl
still_read m (Bare n) new k p apart = refl
still_read m Undef new k p apart = refl
still_read m Poison new k p apart = refl

pub loaded_still : (m m' : Memory) (k : Kind) (v a : Value) (align : ℕ) → stored m k v a align ≡ Some m' → (j : Kind) (p : Value) (align' : ℕ)
    → AreApart a (byte_count k) p (byte_count j) → loaded m' j p align' ≡ loaded m j p align'
loaded_still m m' k v a align h j p align' apart =
    let parts = stored_can m m' k v a align h in
    let new : List Byte = bytes_of (byte_count k) v in
    subst (λ z. loaded z j p align' ≡ loaded m j p align') parts.1 (
    ap (λ t. cond t (Gives (read_at (overwritten m a new) j p)) Trap) (still_fits m a new j p align')
    ∙ ap (λ x. cond (can_access m j p align') (Gives x) Trap) (still_read m a new j p (subst (λ n. AreApart a n p (byte_count j)) (sym (bytes_length v 0 (byte_count k))) apart)))

-- (c) STORES OF RELATED VALUES
pub stored_alike : (ps : Pairing) (x y : Cell) (o count : ℕ) (v w : Value) → AreCellsRelated ps x y → IsRelated ps v w
    → AreCellsRelated ps (with_bytes o (bytes_of count v) x) (with_bytes o (bytes_of count w) y)
stored_alike ps x y o count v w h k = record { align = h.align; live = h.live; bytes = put_alike ps x.bytes y.bytes o (bytes_of count v) (bytes_of count w) h.bytes (bytes_alike ps v w k 0 count) }

-- (e) LOADED VALUES IN THEIR KINDS
take_bytes : (n : ℕ) (xs : List Byte) → AllByRecursion IsByte xs → AllByRecursion IsByte (take n xs)
take_bytes zero xs h = tt
take_bytes (suc n) [] h = tt
take_bytes (suc n) (x ∷ xs) h = (h.0, take_bytes n xs h.1)

drop_bytes : (n : ℕ) (xs : List Byte) → AllByRecursion IsByte xs → AllByRecursion IsByte (drop n xs)
drop_bytes zero xs h = h
drop_bytes (suc n) [] h = tt
drop_bytes (suc n) (x ∷ xs) h = drop_bytes n xs h.1

put_are_bytes : (xs : List Byte) (o : ℕ) (new : List Byte) → AllByRecursion IsByte xs → AllByRecursion IsByte new → AllByRecursion IsByte (put xs o new)
put_are_bytes [] o new h k = tt
put_are_bytes (x ∷ xs) zero [] h k = h
put_are_bytes (x ∷ xs) zero (y ∷ new) h k = (k.0, put_are_bytes xs zero new h.1 k.1)
put_are_bytes (x ∷ xs) (suc o) new h k = (h.0, put_are_bytes xs o new h.1 k)

pub written_are_bytes : (m : Memory) (b o count : ℕ) (v : Value) → IsRanged v → IsOfBytes m → IsOfBytes (updated (with_bytes o (bytes_of count v)) m b)
written_are_bytes [] b o count v r h = tt
written_are_bytes (c ∷ cs) zero o count v r h = (put_are_bytes c.bytes o (bytes_of count v) h.0 (bytes_are_bytes v 0 count r), h.1)
written_are_bytes (c ∷ cs) (suc b) o count v r h = (h.0, written_are_bytes cs b o count v r h.1)

cell_of_bytes : (m : Memory) (b : ℕ) (x : Cell) → IsOfBytes m → cell_at m b ≡ Some x → AllByRecursion IsByte x.bytes
cell_of_bytes [] b x h e = cc
cell_of_bytes (c ∷ cs) zero x h e = let z : c ≡ x = cc in subst (λ (y : Cell). AllByRecursion IsByte y.bytes) z h.0
cell_of_bytes (c ∷ cs) (suc b) x h e = cell_of_bytes cs b x h.1 e

pub take_length : (n o : ℕ) (xs : List Byte) → o + n ≤ length xs → length (take n (drop o xs)) ≡ n
take_length zero o xs h = refl
take_length (suc n) zero [] h = absurd (omega arith)
take_length (suc n) (suc o) [] h = absurd (omega arith)
take_length (suc n) zero (x ∷ xs) h = ap suc (take_length n zero xs (omega arith))
take_length (suc n) (suc o) (x ∷ xs) h = take_length (suc n) o xs (omega arith)

pub loaded_in_kind : (m : Memory) (k : Kind) (a : Value) (align : ℕ) (v : Value) → IsOfBytes m → loaded m k a align ≡ Gives v → IsInKind k v
loaded_in_kind m k a align v h e = at (can_access m k a align) refl e
  where
    read : (a : Value) → can_access m k a align ≡ true → IsInKind k (read_at m k a)
    read (Ptr b (pos o)) fits =
        let x = fits_there m (byte_count k) b o align fits in
        subst (λ c. IsInKind k (value_of k (bytes_at c o (byte_count k)))) (sym x.there) (
        in_kind k (take (byte_count k) (drop o x.cell.bytes))
        (take_bytes (byte_count k) (drop o x.cell.bytes) (drop_bytes o x.cell.bytes (cell_of_bytes m b x.cell h x.there)))
        (take_length (byte_count k) o x.cell.bytes x.inside))
    read (Ptr b (negsuc o)) fits = absurd (false≢true fits)
    read (Num n) fits = absurd (false≢true fits)
    read (Bare n) fits = absurd (false≢true fits)
    read Undef fits = absurd (false≢true fits)
    read Poison fits = absurd (false≢true fits)

    at : (t : Bool) → can_access m k a align ≡ t → cond t (Gives (read_at m k a)) Trap ≡ Gives v → IsInKind k v
    at true is e = let z : read_at m k a ≡ v = cc in subst (IsInKind k) z (read a is)
    at false is e = cc

-- THE LAWS
pub loads_keep_related : LoadsKeepRelated
loads_keep_related ps m n h k many few positive divides a b related = loaded_alike ps m n h k many few positive divides a b related

pub stores_keep_bytes : StoresKeepBytes
stores_keep_bytes m after k v a align is all h =
    let parts = stored_can m after k v a align h in
    subst IsOfBytes parts.1 (written a)
  where
    written : (a : Value) → IsOfBytes (overwritten m a (bytes_of (byte_count k) v))
    written (Ptr b (pos o)) = written_are_bytes m b o (byte_count k) v (kind_ranged k v is) all
    written (Ptr b (negsuc o)) = all
    written (Num n) = all
    written (Bare n) = all
    written Undef = all
    written Poison = all
