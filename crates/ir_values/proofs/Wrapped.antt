-- Integers modulo 2 to the 64: as words, and as offsets.
use Rattle.std.proofs.Common.{◌≡◌, ℕ, ◌^◌, ◌<◌, List, [], ◌∷◌, refl, sym, ap, subst, ◌∙◌}
use Rattle.std.specs.Prelude.{ℤ, pos, ◌+ℤ◌}
use Rattle.std.specs.Int.{cast_signed, cast_unsigned, int_wrap, w64}
use Rattle.std.specs.Int.RustNames.{FitsSigned}
use Rattle.std.proofs.lemmas.Int.{SFits-int_wrap, int_wrap-add_same, int_wrap_fits, of_z-to_z}
use Rattle.std.proofs.Math.Nat.{mod-eq_of_lt}
use Rattle.ir_values.specs.Addresses.{moved_by, wrapped}
use Rattle.ir_values.specs.Numbers.{modulo}
use Rattle.ir_values.proofs.InKind.{modulo_below}

wrapped_is : (z : ℤ) → wrapped z ≡ int_wrap w64 z
unfolding int_wrap
wrapped_is z = refl

pub wrapped_fits : (z : ℤ) → FitsSigned w64 (wrapped z)
wrapped_fits z = subst (FitsSigned w64) (sym (wrapped_is z)) (SFits-int_wrap w64 z)

pub wrapped_same : (z : ℤ) → FitsSigned w64 z → wrapped z ≡ z
wrapped_same z h = wrapped_is z ∙ int_wrap_fits w64 z h

pub modulo_same : (n : ℕ) → n < 2 ^ 64 → modulo 64 (pos n) ≡ n
modulo_same n h = mod-eq_of_lt h

word_of_wrapped : (z : ℤ) → cast_unsigned w64 (wrapped z) ≡ modulo 64 z
word_of_wrapped z = of_z-to_z w64 (modulo 64 z) (modulo_below 64 z)

pub word_is : (z : ℤ) → FitsSigned w64 z → cast_unsigned w64 z ≡ modulo 64 z
word_is z h = sym (ap (cast_unsigned w64) (wrapped_same z h)) ∙ word_of_wrapped z

-- integers of one word come to integers of one word
step_same : (x y d : ℤ) → modulo 64 x ≡ modulo 64 y → modulo 64 (x +ℤ d) ≡ modulo 64 (y +ℤ d)
step_same x y d e =
    let one : int_wrap w64 x ≡ int_wrap w64 y = sym (wrapped_is x) ∙ ap (cast_signed w64) e ∙ wrapped_is y in
    sym (word_of_wrapped (x +ℤ d))
    ∙ ap (cast_unsigned w64) (wrapped_is (x +ℤ d) ∙ int_wrap-add_same w64 x y d one ∙ sym (wrapped_is (y +ℤ d)))
    ∙ word_of_wrapped (y +ℤ d)

pub moved_same : (x y : ℤ) (ds : List ℤ) → modulo 64 x ≡ modulo 64 y → modulo 64 (moved_by x ds) ≡ modulo 64 (moved_by y ds)
moved_same x y [] e = e
moved_same x y (d ∷ ds) e = moved_same (x +ℤ d) (y +ℤ d) ds (step_same x y d e)

-- a word stays what it is
pub word_again : (z : ℤ) → modulo 64 (pos (modulo 64 z)) ≡ modulo 64 z
word_again z = modulo_same (modulo 64 z) (modulo_below 64 z)
