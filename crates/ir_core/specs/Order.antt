-- How names stand in order (LangRef 3.7, Identifiers): each is defined once, and the unnamed ones are counted in order of appearance.
use Rattle.std.specs.Prelude.{◌≡◌, ℕ, ◌+◌, List, [], ◌∷◌, ◌++◌}
use Rattle.std.specs.List.{AllByRecursion, Contains}
use Rattle.ir_core.specs.declared.modules.Module.{Module}
use Rattle.ir_types.specs.declared.names.Name.{Name}
use Rattle.ir_types.specs.declared.names.Name.TheVariants.{Text, Number}
use Rattle.ir_core.specs.Functions.{function_names, names_of}

-- each of them is new: it is none of those that are taken, and none before it
abbrev pub AreNew : {A : Type 0} → List A → List A → Type 0
AreNew taken [] = Unit {0}
AreNew taken (x ∷ xs) = (Contains taken x → ⊥) × AreNew (taken ++ x ∷ []) xs

-- A name that is a number is the one that is due, and the next one is due behind it; a text takes none.
abbrev pub Counts : ℕ → Name → ℕ → Type 0
Counts due (Number n) next = (n ≡ due) × (next ≡ due + 1)
Counts due (Text bytes) next = next ≡ due

-- the numbers among the names count up, from the one that is due to the one that is due behind them
abbrev pub AreCounted : ℕ → List Name → ℕ → Type 0
AreCounted due [] behind = behind ≡ due
AreCounted due (name ∷ names) behind = (next : ℕ) × Counts due name next × AreCounted next names behind

-- No name stands twice, and the numbers among them count up from 0. The names 0, 1, `x`, 2 are in order; 0, `x`, 2 and 0, 1, 1 aren't.
abbrev pub AreInOrder : List Name → Type 0
AreInOrder names = AreNew [] names × (count : ℕ) × AreCounted 0 names count

-- Functions have a count of their own, and each has one of its parameters, blocks and registers together.
pub record IsInOrder (m : Module) : Type 0 where
  pub functions : AllByRecursion (λ f. AreInOrder (names_of f)) m.functions
  pub names : AreInOrder (function_names m)
