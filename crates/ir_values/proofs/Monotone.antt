-- More defined operands and fewer flags give a more defined outcome: over pairs of blocks, and so in one memory.
use Rattle.std.proofs.Common.{◌≡◌, ℕ, ◌-◌, ◌^◌, Bool, true, false, not, ◌&&◌, ◌||◌, cond, refl}
use Rattle.std.specs.Prelude.{nat_eq}
use Rattle.ir_types.specs.NameLaws.{left_true, right_true}
use Rattle.ir_core.specs.declared.values.Value.{Value}
use Rattle.ir_core.specs.declared.values.Value.TheVariants.{Num, Ptr, Bare, Undef, Poison}
use Rattle.ir_core.specs.declared.values.Kind.TheVariants as kind
use Rattle.ir_core.specs.declared.operands.BinOp.{BinOp}
use Rattle.ir_core.specs.declared.operands.Flags.{Flags}
use Rattle.ir_values.specs.Laws.{flags_among}
use Rattle.ir_values.specs.Operations.{binary_outcome, binary_value, may_be, number_value, traps, undef_under}
use Rattle.ir_values.specs.PointerLaws.{ConversionsKeepRelated, OperationsKeepRelated, SelectionsKeepRelated}
use Rattle.ir_values.specs.Related.{IsRelated, Pairing}
use Rattle.ir_values.specs.Results.{breaks_flag, is_division, is_past_width, is_signed_division, leaves_rest, result, wraps_signed, wraps_unsigned}
use Rattle.ir_values.specs.Selections.{select_outcome}
use Rattle.ir_values.specs.Conversions.{cast_outcome}
use Rattle.ir_values.specs.Values.{IsNotPoison, is_poison}
use Rattle.ir_values.specs.ValueLaws.{ConversionsAreMonotone, OperationsAreMonotone, SelectionsAreMonotone}
use Rattle.ir_values.proofs.RelatedValues.{below_both, cond_poison, cond_same, cond_trap, either_kept, less_related, on_numbers_related, or_kept, outcome_less}

-- ---- tests that stay true

and_kept : (a b c d : Bool) → (a ≡ true → c ≡ true) → (b ≡ true → d ≡ true) → (a && b) ≡ true → (c && d) ≡ true
and_kept a b c d p q h = rw (p (left_true a b h), q (right_true a b h)) refl

-- ---- flags

flag_kept : (few many : Bool) → (not few || many) ≡ true → few ≡ true → many ≡ true
flag_kept true many h k = h
flag_kept false many h k = cc

record Among (few many : Flags) : Type 0 where
  nuw : few.nuw ≡ true → many.nuw ≡ true
  nsw : few.nsw ≡ true → many.nsw ≡ true
  exact : few.exact ≡ true → many.exact ≡ true

among : (few many : Flags) → flags_among few many ≡ true → Among few many
among few many h =
    let u = not few.nuw || many.nuw in
    let s = not few.nsw || many.nsw in
    let e = not few.exact || many.exact in
    record {
      nuw = flag_kept few.nuw many.nuw (left_true u s (left_true (u && s) e h));
      nsw = flag_kept few.nsw many.nsw (right_true u s (left_true (u && s) e h));
      exact = flag_kept few.exact many.exact (right_true (u && s) e h);
    }

-- three tests of three flags, each under a fact
flags_kept : (few many : Flags) (u s e v t f : Bool) → Among few many → (u ≡ true → v ≡ true) → (s ≡ true → t ≡ true) → (e ≡ true → f ≡ true)
    → ((few.nuw && u) || (few.nsw && s) || (few.exact && e)) ≡ true → ((many.nuw && v) || (many.nsw && t) || (many.exact && f)) ≡ true
flags_kept few many u s e v t f h p q r =
    or_kept ((few.nuw && u) || (few.nsw && s)) (few.exact && e) ((many.nuw && v) || (many.nsw && t)) (many.exact && f)
    (or_kept (few.nuw && u) (few.nsw && s) (many.nuw && v) (many.nsw && t) (and_kept few.nuw u many.nuw v h.nuw p) (and_kept few.nsw s many.nsw t h.nsw q))
    (and_kept few.exact e many.exact f h.exact r)

breaks_kept : (op : BinOp) (few many : Flags) (width m n : ℕ) → Among few many → breaks_flag op few width m n ≡ true → breaks_flag op many width m n ≡ true
breaks_kept op few many width m n h =
    let u = wraps_unsigned op width m n in
    let s = wraps_signed op width m n in
    let e = leaves_rest op width m n in
    flags_kept few many u s e u s e h (λ k. k) (λ k. k) (λ k. k)

and_first : (a b c : Bool) → (a ≡ true → c ≡ true) → (a && b) ≡ true → c ≡ true
and_first a b c p h = p (left_true a b h)

breaks_has_flag : (op : BinOp) (few many : Flags) (width m n : ℕ) → Among few many → breaks_flag op few width m n ≡ true → (many.nuw || many.nsw || many.exact) ≡ true
breaks_has_flag op few many width m n h =
    let u = wraps_unsigned op width m n in
    let s = wraps_signed op width m n in
    let e = leaves_rest op width m n in
    or_kept ((few.nuw && u) || (few.nsw && s)) (few.exact && e) (many.nuw || many.nsw) many.exact
    (or_kept (few.nuw && u) (few.nsw && s) many.nuw many.nsw (and_first few.nuw u many.nuw h.nuw) (and_first few.nsw s many.nsw h.nsw))
    (and_first few.exact e many.exact h.exact)

undef_kept : (ps : Pairing) (few many : Flags) → Among few many → IsRelated ps (undef_under many) (undef_under few)
undef_kept ps few many h = cond_poison ps (many.nuw || many.nsw || many.exact) (few.nuw || few.nsw || few.exact) Undef Undef
    (or_kept (few.nuw || few.nsw) few.exact (many.nuw || many.nsw) many.exact (or_kept few.nuw few.nsw many.nuw many.nsw h.nuw h.nsw) h.exact) tt

-- ---- binary operations

module _ (ps : Pairing) where
  may_be_kept : (n : ℕ) (a c : Value) → IsRelated ps a c → may_be n c ≡ true → may_be n a ≡ true
  may_be_kept n Poison c p h = refl
  may_be_kept n Undef c p h = refl
  may_be_kept n (Ptr b o) c p h = refl
  may_be_kept n (Bare m) c p h = refl
  may_be_kept n (Num m) c p h = rw p at h

  traps_kept : (op : BinOp) (width : ℕ) (a b c d : Value) → IsRelated ps a c → IsRelated ps b d → traps op width c d ≡ true → traps op width a b ≡ true
  traps_kept op width a b c d p q =
      let minus = 2 ^ width - 1 in
      let least = 2 ^ (width - 1) in
      or_kept (is_division op && may_be 0 d) (is_signed_division op && may_be minus d && may_be least c)
      (is_division op && may_be 0 b) (is_signed_division op && may_be minus b && may_be least a)
      (and_kept (is_division op) (may_be 0 d) (is_division op) (may_be 0 b) (λ k. k) (may_be_kept 0 b d q))
      (and_kept (is_signed_division op && may_be minus d) (may_be least c) (is_signed_division op && may_be minus b) (may_be least a)
      (and_kept (is_signed_division op) (may_be minus d) (is_signed_division op) (may_be minus b) (λ k. k) (may_be_kept minus b d q))
      (may_be_kept least a c p))

  undef_below_numbers : (op : BinOp) (few many : Flags) (width : ℕ) → Among few many → (m n : ℕ) → IsRelated ps (undef_under many) (number_value op few width m n)
  undef_below_numbers op few many width h m n =
      below_both ps (is_past_width op width n) (undef_under many) (undef_under few) (cond (breaks_flag op few width m n) Poison (Num (result op width m n)))
      (undef_kept ps few many h)
      (cond_poison ps (many.nuw || many.nsw || many.exact) (breaks_flag op few width m n) Undef (Num (result op width m n)) (breaks_has_flag op few many width m n h) tt)

  numbers_alike : (op : BinOp) (few many : Flags) (width : ℕ) → Among few many → (m n : ℕ) → IsRelated ps (number_value op many width m n) (number_value op few width m n)
  numbers_alike op few many width h m n =
      cond_same ps (is_past_width op width n) (undef_under many) (cond (breaks_flag op many width m n) Poison (Num (result op width m n)))
      (undef_under few) (cond (breaks_flag op few width m n) Poison (Num (result op width m n))) (undef_kept ps few many h)
      (cond_poison ps (breaks_flag op many width m n) (breaks_flag op few width m n) (Num (result op width m n)) (Num (result op width m n)) (breaks_kept op few many width m n h) refl)

  value_related : (op : BinOp) (many few : Flags) (width : ℕ) (a b c d : Value) → Among few many → IsRelated ps a c → IsRelated ps b d
      → IsRelated ps (binary_value op many width a b) (binary_value op few width c d)
  value_related op many few width a b c d h p q =
      on_numbers_related ps (undef_under many) (undef_under few) (number_value op many width) (number_value op few width)
      (undef_kept ps few many h) (undef_below_numbers op few many width h) (numbers_alike op few many width h) a b c d p q

pub binary_related : OperationsKeepRelated
binary_related ps op many few width h a b c d p q =
    cond_trap ps (traps op width a b) (traps op width c d) (binary_value op many width a b) (binary_value op few width c d)
    (traps_kept ps op width a b c d p q) (value_related ps op many few width a b c d (among few many h) p q)

pub binary_monotone : OperationsAreMonotone
binary_monotone op many few width h a b c d p q =
    outcome_less (binary_outcome op many width a b) (binary_outcome op few width c d) (binary_related nat_eq op many few width h a b c d (less_related a c p) (less_related b d q))

-- ---- conversions

pub cast_related : ConversionsKeepRelated
cast_related ps op (kind.Int from) (kind.Int to) Poison b p = tt
cast_related ps op (kind.Int from) (kind.Int to) Undef Poison p = absurd p
cast_related ps op (kind.Int from) (kind.Int to) Undef Undef p = tt
cast_related ps op (kind.Int from) (kind.Int to) Undef (Num n) p = tt
cast_related ps op (kind.Int from) (kind.Int to) Undef (Ptr c o) p = tt
cast_related ps op (kind.Int from) (kind.Int to) Undef (Bare n) p = tt
cast_related ps op (kind.Int from) (kind.Int to) (Num m) b p = rw p refl
cast_related ps op (kind.Int from) (kind.Int to) (Ptr c o) b p = rw p.2 tt
cast_related ps op (kind.Int from) (kind.Int to) (Bare m) b p = rw p tt
cast_related ps op (kind.Int from) kind.Ptr a b p = tt
cast_related ps op kind.Ptr (kind.Int to) a b p = tt
cast_related ps op kind.Ptr kind.Ptr Poison b p = tt
cast_related ps op kind.Ptr kind.Ptr Undef Poison p = absurd p
cast_related ps op kind.Ptr kind.Ptr Undef Undef p = tt
cast_related ps op kind.Ptr kind.Ptr Undef (Num n) p = tt
cast_related ps op kind.Ptr kind.Ptr Undef (Ptr c o) p = tt
cast_related ps op kind.Ptr kind.Ptr Undef (Bare n) p = tt
cast_related ps op kind.Ptr kind.Ptr (Num m) b p = rw p tt
cast_related ps op kind.Ptr kind.Ptr (Ptr c o) b p = rw p.2 (p.0, p.1, refl)
cast_related ps op kind.Ptr kind.Ptr (Bare m) b p = rw p refl

pub cast_monotone : ConversionsAreMonotone
cast_monotone op from to a b p = outcome_less (cast_outcome op from to a) (cast_outcome op from to b) (cast_related nat_eq op from to a b (less_related a b p))

-- ---- selections

module _ (ps : Pairing) (a b c d : Value) (p : IsRelated ps a c) (q : IsRelated ps b d) where
  undef_arms : IsRelated ps (cond (is_poison a || is_poison b) Poison Undef) (cond (is_poison c || is_poison d) Poison Undef)
  undef_arms = cond_poison ps (is_poison a || is_poison b) (is_poison c || is_poison d) Undef Undef (either_kept ps a b c d p q) tt

-- what an undef condition gives is less defined than either arm
undef_below_arm : (ps : Pairing) (a b c d : Value) (first : Bool) → IsRelated ps a c → IsRelated ps b d → IsRelated ps (cond (is_poison a || is_poison b) Poison Undef) (cond first c d)
undef_below_arm ps a b c d first p q = at (is_poison a || is_poison b) refl first
  where
    no_poison : (v w : Value) → IsRelated ps v w → is_poison v ≡ false → IsNotPoison w
    no_poison Poison w r h = cc
    no_poison Undef w r h = r
    no_poison (Num n) w r h = rw r tt
    no_poison (Ptr e o) w r h = rw r.2 tt
    no_poison (Bare n) w r h = rw r tt

    left_false : (x y : Bool) → (x || y) ≡ false → x ≡ false
    left_false true y h = h
    left_false false y h = refl

    right_false : (x y : Bool) → (x || y) ≡ false → y ≡ false
    right_false true y h = cc
    right_false false y h = h

    at : (t : Bool) → (is_poison a || is_poison b) ≡ t → (first : Bool) → IsRelated ps (cond t Poison Undef) (cond first c d)
    at true e first = tt
    at false e true = no_poison a c p (left_false (is_poison a) (is_poison b) e)
    at false e false = no_poison b d q (right_false (is_poison a) (is_poison b) e)

pub select_related : SelectionsKeepRelated
select_related ps Poison e h a b c d p q = tt
select_related ps Undef Poison h a b c d p q = absurd h
select_related ps Undef Undef h a b c d p q = undef_arms ps a b c d p q
select_related ps Undef (Ptr x o) h a b c d p q = undef_arms ps a b c d p q
select_related ps Undef (Bare n) h a b c d p q = undef_arms ps a b c d p q
select_related ps Undef (Num n) h a b c d p q = undef_below_arm ps a b c d (nat_eq n 1) p q
select_related ps (Num m) e h a b c d p q = rw h (cond_same ps (nat_eq m 1) a b c d p q)
select_related ps (Ptr x o) e h a b c d p q = rw h.2 (undef_arms ps a b c d p q)
select_related ps (Bare m) e h a b c d p q = rw h (undef_arms ps a b c d p q)

pub select_monotone : SelectionsAreMonotone
select_monotone c d h a b e f p q =
    outcome_less (select_outcome c a b) (select_outcome d e f) (select_related nat_eq c d (less_related c d h) a b e f (less_related a e p) (less_related b f q))
