-- Words of private functions: what a run of the parser writes down.
use Rattle.std.specs.Prelude.{◌≡◌, ◌<◌, ℕ, List, Result, Ok, Err}
use Rattle.derivation_writer.specs.Writing.{IsDerived}
use Rattle.derivation_writer.specs.declared.stop.Stop.{Stop}
use Rattle.derivation_writer.specs.declared.stop.Stop.TheVariants as stop
use Rattle.module_grammar.specs.Sets.{sets}
use Rattle.module_grammar.specs.Tokens.{gap}
use Rattle.module_spelling.specs.Faults.{IsStuck, PassesLimit}
use Rattle.derivation_writer.specs.declared.read_marks.unread.Unread.{Unread}
use Rattle.derivation_writer.specs.declared.read_marks.unread.Unread.TheVariants as unread
use Rattle.predictive.specs.Predictive.{MayEnd}
use Rattle.derivation_writer.specs.TokenLimits.Laws.{base_number}

-- a text may be of the nonterminal, which isn't of fillings, nor of types without their stars
pub record IsStart (n : ℕ) : Type 0 where
  pub typed : n < gap.non
  pub ends : MayEnd sets n
  pub other : n ≡ base_number → ⊥

abbrev pub unread_by : Stop → Unread
unread_by (stop.Stuck k) = unread.Stuck k
unread_by (stop.Limit l) = unread.Limit l

-- the numbers of the derivation of tokens of these kinds, or why they are no tree
abbrev pub IsRun : ℕ → List ℕ → Result (List ℕ) Unread → Type 0
IsRun n kinds (Ok numbers) = IsDerived n kinds (Ok numbers)
IsRun n kinds (Err (unread.Stuck k)) = IsStuck n kinds k
IsRun n kinds (Err (unread.Limit l)) = (k : ℕ) × PassesLimit n kinds k l
