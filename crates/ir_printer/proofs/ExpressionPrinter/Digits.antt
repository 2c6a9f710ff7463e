-- The digits of a number are those of its tenth, and its last one.
use Rattle.std.proofs.Common.{◌≡◌, ◌∙◌, ℕ, ◌+◌, ◌/◌, ◌%◌, ◌^◌, ◌<◌, ◌≤◌, List, [], ◌∷◌, ◌++◌, ap, sym, append_assoc}
use Rattle.std.specs.Fmt.{decimal}
use Rattle.std.proofs.lemmas.Fmt.{decimal_step}

pub digit_more : (n : ℕ) (before told all : List ℕ) → 10 ≤ n → n < 2 ^ 64 → told ≡ before ++ decimal (n / 10) → all ≡ told ++ ((48 + n % 10) ∷ []) → all ≡ before ++ decimal n
digit_more n before told all large small front last =
    last ∙ ap (λ t. t ++ ((48 + n % 10) ∷ [])) front ∙ append_assoc before (decimal (n / 10)) ((48 + n % 10) ∷ []) ∙ ap (λ t. before ++ t) (sym (decimal_step n large small))
