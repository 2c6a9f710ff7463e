-- Proofs of the laws of specs/Laws.
use Rattle.std.proofs.Common.{◌≡◌, ℕ, refl, sym}
use Rattle.ir_core.specs.declared.values.Value.{Value}
use Rattle.ir_core.specs.declared.values.Value.TheVariants.{Num, Ptr, Bare, Undef, Poison}
use Rattle.ir_values.specs.Values.{IsLessDefined, IsNotPoison}
use Rattle.ir_values.specs.declared.operations.Outcome.{Outcome}
use Rattle.ir_values.specs.declared.operations.Outcome.TheVariants.{Gives, Trap}
use Rattle.ir_values.specs.Operations.{IsOutcomeLessDefined}
use Rattle.ir_values.specs.Laws.{LessDefinedIsReflexive, LessDefinedIsTransitive, LessDefinedIsAntisymmetric}

pub less_defined_refl : LessDefinedIsReflexive
less_defined_refl Poison = tt
less_defined_refl Undef = tt
less_defined_refl (Num n) = refl
less_defined_refl (Ptr b o) = refl
less_defined_refl (Bare n) = refl

-- what is more defined than a value that isn't poison isn't either
not_poison_kept : (b c : Value) → IsNotPoison b → IsLessDefined b c → IsNotPoison c
not_poison_kept Poison c p q = absurd p
not_poison_kept Undef c p q = q
not_poison_kept (Num n) c p q = rw q tt
not_poison_kept (Ptr b o) c p q = rw q tt
not_poison_kept (Bare n) c p q = rw q tt

pub less_defined_trans : LessDefinedIsTransitive
less_defined_trans Poison b c p q = tt
less_defined_trans Undef b c p q = not_poison_kept b c p q
less_defined_trans (Num m) b c p q = rw p at q
less_defined_trans (Ptr m o) b c p q = rw p at q
less_defined_trans (Bare m) b c p q = rw p at q

pub less_defined_antisym : LessDefinedIsAntisymmetric
less_defined_antisym Poison Poison p q = refl
less_defined_antisym Poison Undef p q = absurd q
less_defined_antisym Poison (Num n) p q = cc
less_defined_antisym Poison (Ptr b o) p q = cc
less_defined_antisym Poison (Bare n) p q = cc
less_defined_antisym Undef Poison p q = absurd p
less_defined_antisym Undef Undef p q = refl
less_defined_antisym Undef (Num n) p q = cc
less_defined_antisym Undef (Ptr b o) p q = cc
less_defined_antisym Undef (Bare n) p q = cc
less_defined_antisym (Num m) b p q = sym p
less_defined_antisym (Ptr m o) b p q = sym p
less_defined_antisym (Bare m) b p q = sym p

-- the same of outcomes
pub outcome_less_defined_trans : (a b c : Outcome) → IsOutcomeLessDefined a b → IsOutcomeLessDefined b c → IsOutcomeLessDefined a c
outcome_less_defined_trans Trap b c p q = tt
outcome_less_defined_trans (Gives a) (Gives b) (Gives c) p q = less_defined_trans a b c p q
outcome_less_defined_trans (Gives a) (Gives b) Trap p q = absurd q
outcome_less_defined_trans (Gives a) Trap c p q = absurd p

-- a number is less defined than itself alone
pub less_defined_than_number : (n : ℕ) (b : Value) → IsLessDefined (Num n) b → b ≡ Num n
less_defined_than_number n b h = h
