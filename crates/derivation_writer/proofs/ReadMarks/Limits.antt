-- What is read within the limits passes none.
use Rattle.std.proofs.Common.{◌≡◌, ℕ, List, [], ◌∷◌}
use Rattle.derivation_writer.proofs.Limits as writing
use Rattle.ir_core.specs.declared.limits.Limit.{Limit}
use Rattle.module_grammar.specs.Tokens.{token_grammar}
use Rattle.module_spelling.specs.Faults.{PassesLimit}
use Rattle.module_spelling.specs.Opened.{IsWithin}
use Rattle.derivation_writer.specs.ReadMarks.Runs.{IsStart}
use Rattle.predictive.specs.Grammar.{Forest, Forms, yield}
use Rattle.predictive.specs.declared.symbol.Symbol.TheVariants.{Non}

-- where a text is read within the limits, none is passed before anything isn't expected
pub not_limited :
    (n : ℕ) → IsStart n → (kinds : List ℕ) (f : Forest) → Forms token_grammar f (Non n ∷ []) → yield f ≡ kinds → IsWithin f → (k : ℕ) (l : Limit)
    → PassesLimit n kinds k l → ⊥
not_limited n start kinds f formed e within k l passes = writing.not_limited n start.ends start.other kinds f formed e within k l passes
