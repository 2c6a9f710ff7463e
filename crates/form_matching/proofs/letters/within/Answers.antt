use Rattle.std.proofs.Common.{refl}
use Rattle.form_matching.proofs.letters.within.Goals as goal

pub returns-in-Binary-Binary : goal.returns-in-Binary-Binary
returns-in-Binary-Binary g c = rw (
  c.in-Binary-Binary.is-0,
  c.in-Binary-Binary.is-1,
  c.at-in-Binary-Binary-2.ensures,
  c.at-in-Binary-Binary.ensures,
  c.with_flags-letters.ensures,
  c.at_type-in-Binary-Binary.ensures,
) refl

pub returns-in-Select-Select : goal.returns-in-Select-Select
returns-in-Select-Select g c = rw (c.in-Select-Select.is-0, c.in-Select-Select.is-1, c.within_arms.ensures, c.get.ensures) refl
