-- Words of private functions: how often names stand, and what is first for each, as they are kept.
use Rattle.std.specs.Prelude.{ℕ, ◌+◌, ◌&&◌, Bool, true, List, [], ◌∷◌, Option, None, Some, nat_eq, if◌then◌else◌}
use Rattle.std.specs.Borrow.{Bor}
use Rattle.std.specs.HashMap.{get_by}
use Rattle.ir_core.specs.declared.functions.Entry.{Entry}
use Rattle.ir_types.specs.declared.names.Name.{Name}
use Rattle.ir_core.specs.declared.operands.Atom.{Atom}
use Rattle.ir_types.specs.Same.{same_name}
use Rattle.ir_core.specs.Same.{same_atom}
use Rattle.ir_shape.specs.declared.shape_tests.counts.Counts.{Counts}
use Rattle.ir_shape.specs.declared.shape_tests.counts.Firsts.{Firsts}

abbrev pub found_count : Counts → Name → Option ℕ
found_count counts name = get_by (λ (key : Bor Name). same_name name key.now) counts.of

abbrev pub number : Option ℕ → ℕ
number None = 0
number (Some n) = n

unfoldable pub count_in : Counts → Name → ℕ
count_in counts name = number (found_count counts name)

abbrev pub none_counted : Name → ℕ
none_counted name = 0

unfoldable pub with_count : (Name → ℕ) → Name → Name → ℕ
with_count counts name other = (if same_name other name then 1 else 0) + counts other

abbrev pub with_counts : (Name → ℕ) → List Name → Name → ℕ
with_counts counts [] = counts
with_counts counts (name ∷ names) = with_counts (with_count counts name) names

abbrev pub counts_of : List Name → Name → ℕ
counts_of = with_counts none_counted

-- as many here as there
abbrev pub agree_at : (Name → ℕ) → (Name → ℕ) → Name → Bool
agree_at counts others name = nat_eq (counts name) (others name)

-- ---- the first of each name

abbrev pub found_first : Firsts → Name → Option (Bor (Atom Name))
found_first firsts name = get_by (λ (key : Bor Name). same_name name key.now) firsts.of

abbrev pub lent_atom : Option (Bor (Atom Name)) → Option (Atom Name)
lent_atom None = None
lent_atom (Some a) = Some a.now

unfoldable pub first_in : Firsts → Name → Option (Atom Name)
first_in firsts name = lent_atom (found_first firsts name)

abbrev pub none_first : Name → Option (Atom Name)
none_first name = None

abbrev pub or_first : Option (Atom Name) → Option (Atom Name) → Option (Atom Name)
or_first None other = other
or_first (Some a) other = Some a

unfoldable pub with_first : (Name → Option (Atom Name)) → Name → Atom Name → Name → Option (Atom Name)
with_first firsts name value other = or_first (firsts other) (if same_name other name then Some value else None)

abbrev pub agrees_with : Option (Atom Name) → Atom Name → Bool
agrees_with None value = true
agrees_with (Some first) value = same_atom same_name first value

abbrev pub alike_along : (Name → Option (Atom Name)) → List Entry → Bool
alike_along firsts [] = true
alike_along firsts (e ∷ es) = agrees_with (firsts e.from) e.value && alike_along (with_first firsts e.from e.value) es
