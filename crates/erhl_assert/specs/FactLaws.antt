-- The test of facts is true exactly of equal facts, so it is one by which sets may tell them apart.
use Rattle.std.proofs.Common.{◌≡◌, Bool, ◌&&◌, nat_eq, true, ap, ap₂, subst}
use Rattle.std.specs.Cmp.{IsEquivalence, both_ways}
use Rattle.ir_core.specs.Same.{same_reg, same_expr}
use Rattle.ir_types.specs.Same.{same_ty}
use Rattle.ir_types.specs.NameLaws.{left_true, right_true, all_true, same_nat_true, same_nat_refl}
use Rattle.ir_types.proofs.SameLaws.{same_ty_true, same_ty_refl}
use Rattle.ir_core.proofs.SameLaws.{same_reg_true, same_reg_refl, same_reg_expr_true, same_reg_expr_refl}
use Rattle.erhl_assert.specs.declared.facts.Fact.{Fact}
use Rattle.erhl_assert.specs.declared.facts.Fact.TheVariants.{LessDef, Unique, Private, NoAlias, Ok}
use Rattle.erhl_assert.specs.Facts.{same_fact}

pub same_fact_true : (a b : Fact) → same_fact a b ≡ true → a ≡ b
same_fact_true (LessDef a b) (LessDef c d) h =
    ap₂ LessDef (same_reg_expr_true a c (left_true (same_expr same_reg a c) (same_expr same_reg b d) h)) (same_reg_expr_true b d (right_true (same_expr same_reg a c) (same_expr same_reg b d) h))
same_fact_true (Unique r) (Unique s) h = ap Unique (same_reg_true r s h)
same_fact_true (Private r) (Private s) h = ap Private (same_reg_true r s h)
same_fact_true (NoAlias a b) (NoAlias c d) h =
    ap₂ NoAlias (same_reg_expr_true a c (left_true (same_expr same_reg a c) (same_expr same_reg b d) h)) (same_reg_expr_true b d (right_true (same_expr same_reg a c) (same_expr same_reg b d) h))
same_fact_true (Ok a t m) (Ok b s n) h =
    let numbers : Bool = same_ty t s && nat_eq m n in
    let rest : numbers ≡ true = right_true (same_expr same_reg a b) numbers h in
    let addresses : a ≡ b = same_reg_expr_true a b (left_true (same_expr same_reg a b) numbers h) in
    let types : t ≡ s = same_ty_true t s (left_true (same_ty t s) (nat_eq m n) rest) in
    let aligns : m ≡ n = same_nat_true m n (right_true (same_ty t s) (nat_eq m n) rest) in
    (λ i. Ok (addresses i) (types i) (aligns i))
same_fact_true (LessDef a b) (Unique s) h = absurd (cc)
same_fact_true (LessDef a b) (Private s) h = absurd (cc)
same_fact_true (LessDef a b) (NoAlias c d) h = absurd (cc)
same_fact_true (LessDef a b) (Ok c t n) h = absurd (cc)
same_fact_true (Unique r) (LessDef c d) h = absurd (cc)
same_fact_true (Unique r) (Private s) h = absurd (cc)
same_fact_true (Unique r) (NoAlias c d) h = absurd (cc)
same_fact_true (Unique r) (Ok c t n) h = absurd (cc)
same_fact_true (Private r) (LessDef c d) h = absurd (cc)
same_fact_true (Private r) (Unique s) h = absurd (cc)
same_fact_true (Private r) (NoAlias c d) h = absurd (cc)
same_fact_true (Private r) (Ok c t n) h = absurd (cc)
same_fact_true (NoAlias a b) (LessDef c d) h = absurd (cc)
same_fact_true (NoAlias a b) (Unique s) h = absurd (cc)
same_fact_true (NoAlias a b) (Private s) h = absurd (cc)
same_fact_true (NoAlias a b) (Ok c t n) h = absurd (cc)
same_fact_true (Ok a t m) (LessDef c d) h = absurd (cc)
same_fact_true (Ok a t m) (Unique s) h = absurd (cc)
same_fact_true (Ok a t m) (Private s) h = absurd (cc)
same_fact_true (Ok a t m) (NoAlias c d) h = absurd (cc)

pub same_fact_refl : (a : Fact) → same_fact a a ≡ true
same_fact_refl (LessDef a b) = all_true (same_reg_expr_refl a) (same_reg_expr_refl b)
same_fact_refl (Unique r) = same_reg_refl r
same_fact_refl (Private r) = same_reg_refl r
same_fact_refl (NoAlias a b) = all_true (same_reg_expr_refl a) (same_reg_expr_refl b)
same_fact_refl (Ok a t m) = all_true (same_reg_expr_refl a) (all_true (same_ty_refl t) (same_nat_refl m))

fact_turned : (a b : Fact) → same_fact a b ≡ true → same_fact b a ≡ true
fact_turned a b h = subst (λ c. same_fact c a ≡ true) (same_fact_true a b h) (same_fact_refl a)

pub fact_equivalence : IsEquivalence same_fact
fact_equivalence = record {
  refl = same_fact_refl;
  symm = λ a b. both_ways (same_fact a b) (same_fact b a) (λ h. fact_turned a b h) (λ h. fact_turned b a h);
  congr = λ a b c h. ap (λ d. same_fact d c) (same_fact_true a b h);
}
