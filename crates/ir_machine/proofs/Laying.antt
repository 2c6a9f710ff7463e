-- Bytes of values, laid over one another.
use Rattle.std.proofs.Common.{◌≡◌, ◌∙◌, ◌<◌, ◌≤◌, ◌+◌, ◌-◌, ℕ, zero, suc, true, false, ◌&&◌, cond, nat_le, nat_lt, List, [], ◌∷◌, ◌++◌, length, map, get_or, set, drop, refl, sym, ap, ap₂, inl, inr, arith}
use Rattle.std.specs.List.{range_with_len, zip}
use Rattle.std.proofs.lemmas.List.{append_assoc}
use Rattle.std.proofs.lemmas.List.FromFn.{map-range_with_len_more}
use Rattle.std.proofs.lemmas.Bool.{cases_lt}
use Rattle.std.proofs.lemmas.Bool.Decides.{nat_tests}
use Rattle.ir_core.specs.declared.values.Byte.{Byte}
use Rattle.ir_core.specs.declared.values.Byte.TheVariants.{Undef}
use Rattle.ir_core.specs.declared.values.Value.{Value}
use Rattle.block_memory.specs.Bytes.{byte_at, byte_count}
use Rattle.ir_machine.specs.declared.scalars.Scalar.{Scalar}
use Rattle.ir_machine.specs.Scalars.{byte_among}
use Rattle.ir_machine.specs.Walks.{byte_over, overlaid}

pub undef_more : (n : ℕ) → map (λ (place : ℕ). Undef) (range_with_len 0 (n + 1)) ≡ map (λ (place : ℕ). Undef) (range_with_len 0 n) ++ Undef ∷ []
undef_more n = map-range_with_len_more (λ (place : ℕ). Undef) 0 n n (omega arith)

pub same_next : (v : Value) (xs : List Scalar) (i : ℕ) → i < length xs → map (λ (s : Scalar). v) (drop i xs) ≡ v ∷ map (λ (s : Scalar). v) (drop (i + 1) xs)
same_next v [] i within = absurd (omega arith)
same_next v (x ∷ xs) zero within = refl
same_next v (x ∷ xs) (suc i) within = same_next v xs i (omega arith) ∙ ap (λ n. v ∷ map (λ (s : Scalar). v) (drop n (x ∷ xs))) more
  where
    more : suc (i + 1) ≡ suc i + 1
    more = omega arith

pub value_next : (v : Value) (xs : List Scalar) (i : ℕ) (old new whole : List Value) → i < length xs → new ≡ old ++ v ∷ []
    → old ++ map (λ (s : Scalar). v) (drop i xs) ≡ whole → new ++ map (λ (s : Scalar). v) (drop (i + 1) xs) ≡ whole
value_next v xs i old new whole within made before =
    ap (λ l. l ++ map (λ (s : Scalar). v) (drop (i + 1) xs)) made ∙ append_assoc old (v ∷ []) (map (λ (s : Scalar). v) (drop (i + 1) xs))
    ∙ ap (λ l. old ++ l) (sym (same_next v xs i within)) ∙ before

-- ---- a scalar's bytes, so many of them

module _ (at : ℕ) (v : Value) where
  abbrev pub first_byte : ℕ → ℕ → Byte → Byte
  first_byte count place b = cond (nat_le at place && nat_lt place (at + count)) (byte_at v (place - at)) b

  abbrev pub first_over : ℕ → ℕ → List Byte → List Byte
  first_over count place [] = []
  first_over count place (b ∷ bytes) = first_byte count place b ∷ first_over count (place + 1) bytes

  before : (count place : ℕ) (b : Byte) → place < at → first_byte count place b ≡ b
  before count place b less = let no : nat_le at place ≡ false = grind (arith, nat_tests) in rw no refl

  behind : (count place : ℕ) (b : Byte) → at ≤ place → at + count ≤ place → first_byte count place b ≡ b
  behind count place b low past =
      let no : nat_lt place (at + count) ≡ false = grind (arith, nat_tests) in
      let yes : nat_le at place ≡ true = grind (arith, nat_tests) in
      rw (yes, no) refl

  inside : (count place : ℕ) (b : Byte) → at ≤ place → place < at + count → first_byte count place b ≡ byte_at v (place - at)
  inside count place b low high =
      let yes : nat_le at place ≡ true = grind (arith, nat_tests) in
      let also : nat_lt place (at + count) ≡ true = grind (arith, nat_tests) in
      rw (yes, also) refl

  none_at : (place : ℕ) (b : Byte) → first_byte 0 place b ≡ b
  none_at place b = elim (cases_lt place at) [ inl less ↦ before 0 place b less | inr reached ↦ behind 0 place b reached (omega arith) ]

  pub none_over : (place : ℕ) (bytes : List Byte) → first_over 0 place bytes ≡ bytes
  none_over place [] = refl
  none_over place (b ∷ bytes) = ap₂ (λ x l. x ∷ l) (none_at place b) (none_over (place + 1) bytes)

  -- the next byte changes none behind it
  same_behind : (count place : ℕ) (bytes : List Byte) → at + count < place → first_over count place bytes ≡ first_over (count + 1) place bytes
  same_behind count place [] past = refl
  same_behind count place (b ∷ bytes) past =
      ap₂ (λ x l. x ∷ l) (behind count place b (omega arith) (omega arith) ∙ sym (behind (count + 1) place b (omega arith) (omega arith)))
      (same_behind count (place + 1) bytes (omega arith))

  same_at : (count place : ℕ) (b : Byte) → place < at + count → first_byte count place b ≡ first_byte (count + 1) place b
  same_at count place b high = elim (cases_lt place at) [
    | inl less ↦ before count place b less ∙ sym (before (count + 1) place b less)
    | inr reached ↦ inside count place b reached high ∙ sym (inside (count + 1) place b reached (omega arith))
  ]

  -- the next byte is put behind those before it
  one_over : (count place k : ℕ) (bytes : List Byte) → place + k ≡ at + count → k < length bytes
      → set (first_over count place bytes) k (byte_at v count) ≡ first_over (count + 1) place bytes
  one_over count place k [] is within = absurd (omega arith)
  one_over count place zero (b ∷ bytes) is within =
      let own : place - at ≡ count = omega arith in
      ap₂ (λ x l. x ∷ l) (ap (byte_at v) (sym own) ∙ sym (inside (count + 1) place b (omega arith) (omega arith)))
      (same_behind count (place + 1) bytes (omega arith))
  one_over count place (suc k) (b ∷ bytes) is within =
      ap₂ (λ x l. x ∷ l) (same_at count place b (omega arith)) (one_over count (place + 1) k bytes (omega arith) (omega arith))

  -- there is no room for the next byte
  none_more : (count place k : ℕ) (bytes : List Byte) → place + k ≡ at + count → length bytes ≤ k → first_over count place bytes ≡ first_over (count + 1) place bytes
  none_more count place k [] is past = refl
  none_more count place zero (b ∷ bytes) is past = absurd (omega arith)
  none_more count place (suc k) (b ∷ bytes) is past =
      ap₂ (λ x l. x ∷ l) (same_at count place b (omega arith)) (none_more count (place + 1) k bytes (omega arith) (omega arith))

  pub over_next : (count : ℕ) (bytes : List Byte) → at + count < length bytes
      → set (first_over count 0 bytes) (at + count) (byte_at v count) ≡ first_over (count + 1) 0 bytes
  over_next count bytes within = one_over count 0 (at + count) bytes (omega arith) within

  pub over_past : (count : ℕ) (bytes : List Byte) → length bytes ≤ at + count → first_over count 0 bytes ≡ first_over (count + 1) 0 bytes
  over_past count bytes past = none_more count 0 (at + count) bytes (omega arith) past

pub over_all : (s : Scalar) (v : Value) (place : ℕ) (bytes : List Byte) → first_over s.at v (byte_count s.kind) place bytes ≡ overlaid (s, v) place bytes
over_all s v place [] = refl
over_all s v place (b ∷ bytes) = ap (λ l. byte_over (s, v) place b ∷ l) (over_all s v (place + 1) bytes)

-- ---- scalars, the last first

pub overlaid_among : (held : Scalar × Value) (more : List (Scalar × Value)) (from size : ℕ)
    → overlaid held from (map (byte_among more) (range_with_len from size)) ≡ map (byte_among (held ∷ more)) (range_with_len from size)
overlaid_among held more from zero = refl
overlaid_among held more from (suc size) = ap (λ l. byte_among (held ∷ more) from ∷ l) (overlaid_among held more (from + 1) size)

zip_at : (ss : List Scalar) (vs : List Value) (i : ℕ) (s : Scalar) (v : Value) → i < length ss → i < length vs → s ≡ get_or ss i s → v ≡ get_or vs i v
    → drop i (zip ss vs) ≡ (s, v) ∷ drop (i + 1) (zip ss vs)
zip_at [] vs i s v ws wv is iv = absurd (omega arith)
zip_at (x ∷ ss) [] i s v ws wv is iv = absurd (omega arith)
zip_at (x ∷ ss) (y ∷ vs) zero s v ws wv is iv = ap (λ h. h ∷ zip ss vs) (ap₂ (λ a b. (a, b)) (sym is) (sym iv))
zip_at (x ∷ ss) (y ∷ vs) (suc i) s v ws wv is iv =
    let more : suc (i + 1) ≡ suc i + 1 = omega arith in
    zip_at ss vs i s v (omega arith) (omega arith) is iv ∙ ap (λ n. (s, v) ∷ drop n (zip (x ∷ ss) (y ∷ vs))) more

nothing_left : {A : Type 0} (i : ℕ) → drop {A = A} i [] ≡ []
nothing_left zero = refl
nothing_left (suc i) = refl

zip_past : (ss : List Scalar) (vs : List Value) (i : ℕ) → length vs ≤ i → drop i (zip ss vs) ≡ []
zip_past [] vs i past = nothing_left i
zip_past (x ∷ ss) [] i past = nothing_left i
zip_past (x ∷ ss) (y ∷ vs) zero past = absurd (omega arith)
zip_past (x ∷ ss) (y ∷ vs) (suc i) past = zip_past ss vs i (omega arith)

pub zip_end : (ss : List Scalar) (vs : List Value) → drop (length ss) (zip ss vs) ≡ []
zip_end [] vs = refl
zip_end (x ∷ ss) [] = nothing_left (length (x ∷ ss))
zip_end (x ∷ ss) (y ∷ vs) = zip_end ss vs

module _ (ss : List Scalar) (vs : List Value) (size i : ℕ) (before after : List Byte) where
  pub laid_next : (s : Scalar) (v : Value) → i < length ss → i < length vs → s ≡ get_or ss i s → v ≡ get_or vs i v
      → before ≡ map (byte_among (drop (i + 1) (zip ss vs))) (range_with_len 0 size) → after ≡ overlaid (s, v) 0 before
      → after ≡ map (byte_among (drop i (zip ss vs))) (range_with_len 0 size)
  laid_next s v ws wv is iv h laid =
      laid ∙ ap (overlaid (s, v) 0) h ∙ overlaid_among (s, v) (drop (i + 1) (zip ss vs)) 0 size
      ∙ ap (λ l. map (byte_among l) (range_with_len 0 size)) (sym (zip_at ss vs i s v ws wv is iv))

  pub laid_past : length vs ≤ i → before ≡ map (byte_among (drop (i + 1) (zip ss vs))) (range_with_len 0 size)
      → before ≡ map (byte_among (drop i (zip ss vs))) (range_with_len 0 size)
  laid_past past h =
      h ∙ ap (λ l. map (byte_among l) (range_with_len 0 size)) (zip_past ss vs (i + 1) (omega arith) ∙ sym (zip_past ss vs i past))

pub none_laid : (ss : List Scalar) (vs : List Value) (size : ℕ)
    → map (λ (place : ℕ). Undef) (range_with_len 0 size) ≡ map (byte_among (drop (length ss) (zip ss vs))) (range_with_len 0 size)
none_laid ss vs size = ap (λ l. map (byte_among l) (range_with_len 0 size)) (sym (zip_end ss vs))

pub overlaid_long : (held : Scalar × Value) (place : ℕ) (bytes : List Byte) → length (overlaid held place bytes) ≡ length bytes
overlaid_long held place [] = refl
overlaid_long held place (b ∷ bytes) = ap (λ n. suc n) (overlaid_long held (place + 1) bytes)
