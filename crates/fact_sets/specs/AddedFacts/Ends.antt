-- How a call follows a course within the limit on facts.
use Rattle.std.specs.Prelude.{◌≡◌, None, Some, Result, Ok, Err}
use Rattle.ir_core.specs.declared.limits.Limit.{Limit}
use Rattle.ir_core.specs.declared.limits.Limit.TheVariants.{Facts}
use Rattle.erhl_assert.specs.declared.facts.Assertion.{Assertion}
use Rattle.erhl_assert.specs.Course.{Gives, Course, within}
use Rattle.fact_sets.specs.declared.added_facts.ends.AddEnd.{AddEnd}
use Rattle.fact_sets.specs.declared.added_facts.ends.AddEnd.TheVariants as add_end

-- what is known is what the course gives, or the limit on facts is passed on it; want of memory says nothing
abbrev pub Follows : {X : Type 0} → Result X AddEnd → Assertion → Course Assertion → Type 0
Follows (Ok x) known c = within c ≡ Some (Gives known)
Follows (Err fault) known c = (l : Limit) → fault ≡ add_end.Limit l → (l ≡ Facts) × (within c ≡ None)

-- No limit but that on facts is told, and none where the course gives what is known.
pub record LimitsAreApart : Type 0 where
  pub facts : (l : Limit) (known : Assertion) (c : Course Assertion) → Follows {X = Unit {0}} (Err (add_end.Limit l)) known c → l ≡ Facts
  pub course : (l : Limit) (known other : Assertion) (c : Course Assertion)
      → Follows {X = Unit {0}} (Ok tt) known c → Follows {X = Unit {0}} (Err (add_end.Limit l)) other c → ⊥
