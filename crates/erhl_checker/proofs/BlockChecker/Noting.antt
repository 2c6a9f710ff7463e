-- Steps that are put behind others, one at a time.
use Rattle.std.proofs.Common.{◌≡◌, ◌∙◌, List, [], ◌∷◌, ◌++◌, ap, append_assoc}
use Rattle.erhl_assert.specs.declared.hints.HintStep.{HintStep}

pub one_noted : (before after rest all : List HintStep) (s : HintStep) → after ≡ before ++ s ∷ [] → before ++ s ∷ rest ≡ all → after ++ rest ≡ all
one_noted before after rest all s put so_far = ap (λ (xs : List HintStep). xs ++ rest) put ∙ append_assoc before (s ∷ []) rest ∙ so_far
