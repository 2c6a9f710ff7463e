-- Words of private functions. Where registers of a list stand, and which of them are left.
use Rattle.std.specs.Prelude.{◌≡◌, ℕ, Bool, true, false, not, filter, List, [], get_or, set, Option, None, Some, if◌then◌else◌}
use Rattle.std.specs.Borrow.{Bor}
use Rattle.std.specs.List.{position}
use Rattle.ir_core.specs.declared.expressions.Reg.{Reg}
use Rattle.ir_core.specs.declared.expressions.Reg.TheVariants.{Now, Old, Ghost}
use Rattle.ir_core.specs.Same.{same_reg}
use Rattle.ir_core.specs.NameIndexes.Places.{place_in}
use Rattle.fact_sets.specs.declared.listed_registers.Places.{Places}

abbrev pub is_ghost : Reg → Bool
is_ghost (Now x) = false
is_ghost (Old x) = false
is_ghost (Ghost x) = true

-- the place of a register among those of its kind
abbrev pub place_in_kind : Places → Reg → Option ℕ
place_in_kind places (Now x) = place_in places.current x
place_in_kind places (Old x) = place_in places.former x
place_in_kind places (Ghost x) = place_in places.ghosts x

-- the place of a register, where one of them has this one
abbrev pub placed : Reg → ℕ → (Reg → Option ℕ) → Reg → Option ℕ
placed r place rest other = if same_reg other r then Some place else rest other

-- each register has the place where it stands first, and no other one has a place
unfoldable pub ArePlaced : Places → List Reg → Type 0
ArePlaced places rs = (r : Reg) → place_in_kind places r ≡ position (same_reg r) rs

-- the list that is lent, or none of its registers
abbrev pub lent : Option (Bor (List Reg)) → List Reg
lent None = []
lent (Some list) = list.now

-- whether what has this place is left, where those of these places are gone
abbrev pub is_left_at : Option ℕ → List Bool → Bool
is_left_at None gone = false
is_left_at (Some k) gone = not (get_or gone k false)

abbrev pub gone_at : Option ℕ → List Bool → List Bool
gone_at None gone = gone
gone_at (Some k) gone = set gone k true

abbrev pub is_left : List Reg → List Bool → Reg → Bool
is_left rs gone r = is_left_at (position (same_reg r) rs) gone

-- the registers of the list that are left
unfoldable pub left_of : List Reg → List Bool → List Reg
left_of rs gone = filter (is_left rs gone) rs
