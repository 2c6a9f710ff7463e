-- How facts grow where others are known beside them, which are counted and aren't here.
use Rattle.std.specs.Prelude.{ℕ, ◌+◌, cond, List, [], ◌∷◌}
use Rattle.erhl_assert.specs.declared.facts.Fact.{Fact}
use Rattle.erhl_assert.specs.declared.facts.Assertion.{Assertion}
use Rattle.erhl_assert.specs.declared.facts.Side.{Side}
use Rattle.erhl_assert.specs.Facts.{has_fact}
use Rattle.erhl_assert.specs.Course.{Course, Gives, gives, and_then}
use Rattle.erhl_assert.specs.Growth.{facts_of, size, with_conclusion}

-- a fact is added to those of a side, while so many others are known
abbrev pub adds_beside : ℕ → Side → Fact → Assertion → Course Assertion
adds_beside others side f known = record {
  sizes = cond (has_fact f (facts_of side known)) [] ((size (with_conclusion side f known) + others) ∷ []);
  ends = Gives (with_conclusion side f known);
}

abbrev pub adds_all_beside : ℕ → Side → List Fact → Assertion → Course Assertion
adds_all_beside others side [] known = gives known
adds_all_beside others side (f ∷ fs) known = and_then (adds_beside others side f known) (adds_all_beside others side fs)
