use Rattle.std.proofs.Common.{◌≡◌, None, Some, Option, refl, sym, ◌∙◌}
use Rattle.erhl_assert.specs.declared.facts.Assertion.{Assertion}
use Rattle.erhl_assert.specs.Course.{Ends, Gives}
use Rattle.fact_sets.proofs.added_facts.laws.limits_are_apart.Goals as goal

not_both : (due : Option (Ends Assertion)) (known : Assertion) → due ≡ Some (Gives known) → due ≡ None → ⊥
not_both due known gives none = let same : Some (Gives known) ≡ None = sym gives ∙ none in cc

pub returns : goal.returns
returns c = record {
  facts = λ l known c told. (told l refl).0;
  course = λ l known other c gives told. not_both _ known gives (told l refl).1;
}
