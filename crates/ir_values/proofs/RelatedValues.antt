-- What related values have in common, and that to be related by equal blocks is to be less defined.
use Rattle.std.proofs.Common.{◌≡◌, ◌⊎◌, inl, inr, ℕ, Bool, true, false, ◌||◌, cond, nat_eq, Option, None, Some, refl, sym, ap, ◌∙◌, eqb-true, eq-eqb}
use Rattle.ir_core.specs.declared.values.Value.{Value}
use Rattle.ir_core.specs.declared.values.Value.TheVariants.{Num, Ptr, Bare, Undef, Poison}
use Rattle.ir_core.specs.declared.values.Byte.{Byte}
use Rattle.ir_core.specs.declared.values.Byte.TheVariants as byte
use Rattle.ir_values.specs.declared.operations.Outcome.{Outcome}
use Rattle.ir_values.specs.declared.operations.Outcome.TheVariants.{Gives, Trap}
use Rattle.ir_values.specs.Operations.{IsOutcomeLessDefined}
use Rattle.ir_values.specs.PointerLaws.{LessDefinedIsRelated}
use Rattle.ir_values.specs.Related.{AreOutcomesRelated, IsByteLessDefined, IsByteRelated, IsOneToOne, IsRelated, Pairing}
use Rattle.ir_values.specs.Values.{IsLessDefined, as_number, both_numbers, is_poison, on_numbers}

-- ---- one memory

pub one_memory : IsOneToOne nat_eq
one_memory b c d e p q = ap (λ x. nat_eq x d) (eqb-true b c p) ∙ ap (nat_eq c) (eqb-true d e q)

pub less_related : (a b : Value) → IsLessDefined a b → IsRelated nat_eq a b
less_related Poison b h = h
less_related Undef b h = h
less_related (Num n) b h = h
less_related (Bare n) b h = h
less_related (Ptr x o) b h = (x, eq-eqb x x refl, h)

pub related_less : (a b : Value) → IsRelated nat_eq a b → IsLessDefined a b
related_less Poison b h = h
related_less Undef b h = h
related_less (Num n) b h = h
related_less (Bare n) b h = h
related_less (Ptr x o) b h = h.2 ∙ ap (λ c. Ptr c o) (sym (eqb-true x h.0 h.1))

pub outcome_less : (a b : Outcome) → AreOutcomesRelated nat_eq a b → IsOutcomeLessDefined a b
outcome_less Trap b h = h
outcome_less (Gives v) (Gives w) h = related_less v w h
outcome_less (Gives v) Trap h = h

byte_related : (a b : Byte) → IsByteLessDefined a b → IsByteRelated nat_eq a b
byte_related byte.Poison b h = h
byte_related byte.Undef b h = h
byte_related (byte.Num n) b h = h
byte_related (byte.Frag x o p) b h = (x, eq-eqb x x refl, h)

byte_less : (a b : Byte) → IsByteRelated nat_eq a b → IsByteLessDefined a b
byte_less byte.Poison b h = h
byte_less byte.Undef b h = h
byte_less (byte.Num n) b h = h
byte_less (byte.Frag x o p) b h = h.2 ∙ ap (λ c. byte.Frag c o p) (sym (eqb-true x h.0 h.1))

pub less_is_related : LessDefinedIsRelated
less_is_related = record {
  one_to_one = one_memory;
  related = less_related;
  less = related_less;
  related_byte = byte_related;
  less_byte = byte_less;
}

-- ---- what is read of related values

-- nothing is read, or the same
abbrev pub IsKept : {A : Type 0} → Option A → Option A → Type 0
IsKept x y = (x ≡ None) ⊎ (y ≡ x)

module _ (ps : Pairing) where
  pub poison_kept : (a c : Value) → IsRelated ps a c → is_poison c ≡ true → is_poison a ≡ true
  poison_kept Poison c p h = refl
  poison_kept Undef Poison p h = absurd p
  poison_kept Undef Undef p h = h
  poison_kept Undef (Num n) p h = h
  poison_kept Undef (Ptr b o) p h = h
  poison_kept Undef (Bare n) p h = h
  poison_kept (Num m) c p h = rw p at h
  poison_kept (Ptr b o) c p h = rw p.2 at h
  poison_kept (Bare m) c p h = rw p at h

  pub number_kept : (a c : Value) → IsRelated ps a c → IsKept (as_number a) (as_number c)
  number_kept Poison c p = inl refl
  number_kept Undef c p = inl refl
  number_kept (Ptr b o) c p = inl refl
  number_kept (Bare n) c p = inl refl
  number_kept (Num n) c p = inr (ap as_number p)

  -- ---- tests

  -- of two values that a test may turn into poison, the one that is turned more often is less defined
  pub cond_poison : (x y : Bool) (v w : Value) → (y ≡ true → x ≡ true) → IsRelated ps v w → IsRelated ps (cond x Poison v) (cond y Poison w)
  cond_poison true y v w h p = tt
  cond_poison false true v w h p = cc (h refl)
  cond_poison false false v w h p = p

  pub cond_trap : (x y : Bool) (v w : Value) → (y ≡ true → x ≡ true) → IsRelated ps v w → AreOutcomesRelated ps (cond x Trap (Gives v)) (cond y Trap (Gives w))
  cond_trap true y v w h p = tt
  cond_trap false true v w h p = cc (h refl)
  cond_trap false false v w h p = p

  pub cond_same : (x : Bool) (a b c d : Value) → IsRelated ps a c → IsRelated ps b d → IsRelated ps (cond x a b) (cond x c d)
  cond_same true a b c d p q = p
  cond_same false a b c d p q = q

  -- under a test, less defined than either
  pub below_both : (x : Bool) (a c d : Value) → IsRelated ps a c → IsRelated ps a d → IsRelated ps a (cond x c d)
  below_both true a c d p q = p
  below_both false a c d p q = q

pub or_kept : (a b c d : Bool) → (a ≡ true → c ≡ true) → (b ≡ true → d ≡ true) → (a || b) ≡ true → (c || d) ≡ true
or_kept true b true d p q h = refl
or_kept true b false d p q h = cc (p refl)
or_kept false b true d p q h = refl
or_kept false b false d p q h = q h

module _ (ps : Pairing) where
  pub either_kept : (a b c d : Value) → IsRelated ps a c → IsRelated ps b d → (is_poison c || is_poison d) ≡ true → (is_poison a || is_poison b) ≡ true
  either_kept a b c d p q = or_kept (is_poison c) (is_poison d) (is_poison a) (is_poison b) (poison_kept ps a c p) (poison_kept ps b d q)

  -- of operators of numbers: what other values give is less defined than what either of the second gives
  module _ (undef other : Value) (f g : ℕ → ℕ → Value) (less : IsRelated ps undef other) (below : (m n : ℕ) → IsRelated ps undef (g m n)) (alike : (m n : ℕ) → IsRelated ps (f m n) (g m n)) where
    undef_below : (x y : Option ℕ) → IsRelated ps undef (both_numbers other g x y)
    undef_below None y = less
    undef_below (Some m) None = less
    undef_below (Some m) (Some n) = below m n

    both_related : (x y z w : Option ℕ) → IsKept x z → IsKept y w → IsRelated ps (both_numbers undef f x y) (both_numbers other g z w)
    both_related None y z w p q = undef_below z w
    both_related (Some m) None z w p q = undef_below z w
    both_related (Some m) (Some n) z w (inl e) q = cc
    both_related (Some m) (Some n) z w (inr d) (inl e) = cc
    both_related (Some m) (Some n) z w (inr d) (inr e) = rw (d, e) (alike m n)

    pub on_numbers_related : (a b c d : Value) → IsRelated ps a c → IsRelated ps b d → IsRelated ps (on_numbers undef f a b) (on_numbers other g c d)
    on_numbers_related a b c d p q =
        cond_poison ps (is_poison a || is_poison b) (is_poison c || is_poison d) (both_numbers undef f (as_number a) (as_number b)) (both_numbers other g (as_number c) (as_number d))
        (either_kept a b c d p q)
        (both_related (as_number a) (as_number b) (as_number c) (as_number d) (number_kept ps a c p) (number_kept ps b d q))
