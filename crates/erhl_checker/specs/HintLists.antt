-- Words of private functions. Lists of registers, each once, and their numbers.
use Rattle.std.specs.Prelude.{◌≡◌, ◌<◌, ℕ, List, [], ◌∷◌, length, get_or, Option, None, Some, ⊤}
use Rattle.ir_core.specs.declared.expressions.Reg.{Reg}
use Rattle.erhl_assert.specs.declared.hints.HintBlock.{HintBlock}

-- the registers that the hint says may differ where the block begins
abbrev pub diff_of : HintBlock → List Reg
diff_of hint = hint.entry.diff

-- the list of that number
abbrev pub listed_at : List (List Reg) → Option ℕ → List Reg
listed_at lists None = []
listed_at lists (Some n) = get_or lists n []

-- the number is that of a list with these registers, or there are none
abbrev pub IsNumbered : List (List Reg) → Option ℕ → List Reg → Type 0
IsNumbered lists None rs = rs ≡ []
IsNumbered lists (Some n) rs = (n < length lists) × (get_or lists n [] ≡ rs)

-- each of these lists keeps its number
unfoldable pub Keeps : List (List Reg) → List (List Reg) → Type 0
Keeps few many = (n : ℕ) → n < length few → (n < length many) × (get_or many n [] ≡ get_or few n [])

unfoldable pub AreNumbered : List (List Reg) → List (Option ℕ) → List (List Reg) → Type 0
AreNumbered lists [] [] = ⊤
AreNumbered lists [] (rs ∷ more) = ⊥
AreNumbered lists (n ∷ ns) [] = ⊥
AreNumbered lists (n ∷ ns) (rs ∷ more) = IsNumbered lists n rs × AreNumbered lists ns more
