-- Related values compare alike, and a comparison gives a bit.
use Rattle.std.proofs.Common.{◌≡◌, inl, inr, ℕ, Bool, true, ◌&&◌, ◌||◌, cond, nat_eq, refl, sym, ap}
use Rattle.std.specs.Prelude.{ℤ, Option, None, Some}
use Rattle.ir_core.specs.declared.values.Value.{Value}
use Rattle.ir_core.specs.declared.values.Value.TheVariants.{Num, Ptr, Bare, Undef, Poison}
use Rattle.ir_core.specs.declared.values.Kind.TheVariants as kind
use Rattle.ir_core.specs.declared.operands.Pred.{Pred}
use Rattle.ir_values.specs.Comparisons.{bit, bit_if_known, compared, compared_bare, compared_in_block, differing, holds, icmp_outcome, is_inside, word}
use Rattle.ir_values.specs.PointerLaws.{ComparisonsKeepRelated, IsOneSize}
use Rattle.ir_values.specs.Related.{IsOneToOne, IsRelated, Pairing}
use Rattle.ir_values.specs.Values.{is_poison}
use Rattle.ir_values.specs.ValueLaws.{ComparisonsAreMonotone}
use Rattle.ir_values.proofs.RelatedValues.{IsKept, cond_poison, either_kept, less_related, on_numbers_related, one_memory, outcome_less}

module _ (ps : Pairing) (one : IsOneToOne ps) (pred : Pred) where
  in_block_kept : (b x : ℕ) (o : ℤ) (m s n t : ℕ) (v w : Value) → ps b x ≡ true → s ≡ m → IsRelated ps v w → IsOneSize v n t
      → IsKept (compared_in_block pred b o m v n) (compared_in_block pred x o s w t)
  in_block_kept b x o m s n t (Ptr c p) w pair size related other = rw (size, other, related.2) (inr (ap
      (λ same. cond same (Some (holds pred 64 (word o) (word p))) (cond (is_inside o m && is_inside p n) (differing pred) None)) (sym (one b x c related.0 pair related.1))))
  in_block_kept b x o m s n t (Bare a) w pair size related other = rw (size, related) (inr refl)
  in_block_kept b x o m s n t (Num k) w pair size related other = inl refl
  in_block_kept b x o m s n t Undef w pair size related other = inl refl
  in_block_kept b x o m s n t Poison w pair size related other = inl refl

  bare_kept : (a n t : ℕ) (v w : Value) → IsRelated ps v w → IsOneSize v n t → IsKept (compared_bare pred a v n) (compared_bare pred a w t)
  bare_kept a n t (Ptr c p) w related other = rw (other, related.2) (inr refl)
  bare_kept a n t (Bare c) w related other = rw related (inr refl)
  bare_kept a n t (Num k) w related other = inl refl
  bare_kept a n t Undef w related other = inl refl
  bare_kept a n t Poison w related other = inl refl

  compared_kept : (a b c d : Value) (m n s t : ℕ) → IsRelated ps a c → IsRelated ps b d → IsOneSize a m s → IsOneSize b n t
      → IsKept (compared pred a m b n) (compared pred c s d t)
  compared_kept (Ptr x o) b c d m n s t p q size other = rw p.2 (in_block_kept x p.0 o m s n t b d p.1 size q other)
  compared_kept (Bare a) b c d m n s t p q size other = rw p (bare_kept a n t b d q other)
  compared_kept (Num k) b c d m n s t p q size other = inl refl
  compared_kept Undef b c d m n s t p q size other = inl refl
  compared_kept Poison b c d m n s t p q size other = inl refl

  known_related : (x y : Option Bool) → IsKept x y → IsRelated ps (bit_if_known x) (bit_if_known y)
  known_related None None k = tt
  known_related None (Some y) k = tt
  known_related (Some x) y (inl e) = cc
  known_related (Some x) y (inr e) = rw e refl

pub icmp_related : ComparisonsKeepRelated
icmp_related ps one pred (kind.Int width) a b c d m n s t p q size other =
    on_numbers_related ps Undef Undef (λ x y. bit (holds pred width x y)) (λ x y. bit (holds pred width x y)) tt (λ x y. tt) (λ x y. refl) a b c d p q
icmp_related ps one pred kind.Ptr a b c d m n s t p q size other =
    cond_poison ps (is_poison a || is_poison b) (is_poison c || is_poison d) (bit_if_known (compared pred a m b n)) (bit_if_known (compared pred c s d t))
    (either_kept ps a b c d p q)
    (known_related ps one pred (compared pred a m b n) (compared pred c s d t) (compared_kept ps one pred a b c d m n s t p q size other))

one_size : (v : Value) (m : ℕ) → IsOneSize v m m
one_size (Ptr b o) m = refl
one_size (Num n) m = tt
one_size (Bare n) m = tt
one_size Undef m = tt
one_size Poison m = tt

pub icmp_monotone : ComparisonsAreMonotone
icmp_monotone pred k m n a b c d p q =
    outcome_less (icmp_outcome pred k a b m n) (icmp_outcome pred k c d m n)
    (icmp_related nat_eq one_memory pred k a b c d m n m n (less_related a c p) (less_related b d q) (one_size a m) (one_size b n))
