use Rattle.std.proofs.Common.{refl, arith, ⊎_elim, inl, inr}
use Rattle.crell_io.proofs.laws.examples_of_counts.Goals as goal

pub returns : goal.returns
returns c = record {
  risen = inl (omega arith);
  not_risen = λ l. ⊎_elim (λ h. omega arith) (λ h. omega arith) l;
  fallen = λ l. ⊎_elim (λ h. omega arith) (λ h. omega arith) l;
  last = inr (omega arith);
  not_last = λ l. ⊎_elim (λ h. omega arith) (λ h. omega arith) l;
  above = inl (omega arith);
  not_above = λ l. ⊎_elim (λ h. omega arith) (λ h. omega arith) l;
  last_above = inr (omega arith);
  raised = refl;
  not_raised = refl;
  third_fails = refl;
  second_passes = refl;
}
