-- What a check is asked of, as the code holds it.
use Rattle.std.specs.Prelude.{ℕ, Bool, List}
use Rattle.ir_values.specs.Constants.{Scope}
use Rattle.ir_machine.specs.State.{scope_of}
use Rattle.erhl_assert.specs.declared.facts.Schema.{Schema}
use Rattle.erhl_assert.specs.Steps.{Beside, beside}
use Rattle.rule_base.specs.Book.{rules_of}
use Rattle.erhl_checker.specs.declared.checked_pair.pair.Pair.{Pair}

-- what the pair says, by what a rule is called and what it takes
unfoldable pub asked : {V : Type 0} {D : V → Type 0} → ((v : V) × D v → List ℕ) → ((v : V) × D v → Scope → Schema → Bool) → Pair V D → Beside
asked called takes p = beside (rules_of called takes p.book.now) (scope_of p.«module».now) p.source p.target (record { blocks = p.hints })
