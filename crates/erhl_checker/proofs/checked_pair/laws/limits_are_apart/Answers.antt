use Rattle.std.proofs.Common.{◌≡◌, None, Some, Option, refl, sym, ◌∙◌}
use Rattle.erhl_checker.proofs.checked_pair.laws.limits_are_apart.Goals as goal

not_both : {V : Type 0} (due : Option V) (v : V) → due ≡ Some v → due ≡ None → ⊥
not_both due v is none = let same : Some v ≡ None = sym is ∙ none in cc

pub returns : goal.returns
returns c = record {
  facts = λ l due told. (told l refl).0;
  answer = λ l v due is told. not_both due v is (told l refl).1;
  came = λ l refusal known other due is told. not_both due _ is (told l refl).1;
  course = λ l known other c is told. not_both _ _ is (told l refl).1;
  gave = λ l known due is told. not_both due _ is (told l refl).1;
}
