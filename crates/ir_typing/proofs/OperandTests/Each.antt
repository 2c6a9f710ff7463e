-- Two tests that are both to be passed.
use Rattle.std.proofs.Common.{◌≡◌, ◌∙◌, ◌&&◌, Bool, true, false, refl, sym}

pub with_true : (b : Bool) → (b && true) ≡ b
with_true true = refl
with_true false = refl

-- where the first is passed, the second one decides
pub then_both : (whole a b first second : Bool) → whole ≡ (a && b) → first ≡ a → first ≡ true → second ≡ b → second ≡ whole
then_both whole true b first second both is passed rest = rest ∙ sym both
then_both whole false b first second both is passed rest = absurd (cc)

-- where it isn't, it decides
pub else_both : (whole a b first : Bool) → whole ≡ (a && b) → first ≡ a → first ≡ false → first ≡ whole
else_both whole true b first both is failed = absurd (cc)
else_both whole false b first both is failed = is ∙ sym both
