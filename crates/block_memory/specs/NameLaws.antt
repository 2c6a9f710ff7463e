-- The laws of names.
use Rattle.std.specs.Prelude.{◌≡◌, ℕ, ℤ, false, [], ◌∷◌, Option, None, Some}
use Rattle.std.specs.List.{list_any}
use Rattle.ir_core.specs.declared.values.Value.{Value}
use Rattle.ir_core.specs.declared.values.Value.TheVariants.{Ptr}
use Rattle.ir_core.specs.declared.values.Kind.{Kind}
use Rattle.block_memory.specs.declared.items.Shown.{Shown}
use Rattle.block_memory.specs.declared.items.Shown.TheVariants.{Name}
use Rattle.block_memory.specs.Memory.{Memory}
use Rattle.block_memory.specs.Names.{IsShown, Names, is_bound_to, shown_of}

-- the block is bound to none of the names
abbrev pub IsFree : Option ℕ → Names → Type 0
IsFree None names = Unit {0}
IsFree (Some b) names = list_any (is_bound_to b) names ≡ false

-- no block has two names
abbrev pub AreApart : Names → Type 0
AreApart [] = Unit {0}
AreApart (x ∷ names) = IsFree x names × AreApart names

-- whatever is shown, no block gets a second name
abbrev pub NamesStayApart : Type 0
NamesStayApart = (v : Value) (k : Kind) (m : Memory) (names after : Names) (s : Shown) → IsShown v k m names s after → AreApart names → AreApart after

-- a pointer that was shown is shown by the same name again, at each offset, and no name comes
abbrev pub PointersAreShownAgain : Type 0
PointersAreShownAgain = (names after : Names) (b : ℕ) (o : ℤ) (s : Shown) → shown_of names (Ptr b o) ≡ Some (s, after)
    → (x : ℕ) × (s ≡ Name x o) × ((p : ℤ) → shown_of after (Ptr b p) ≡ Some (Name x p, after))
