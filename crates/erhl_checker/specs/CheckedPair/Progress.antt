-- What the checker has in hand while it goes on: how courses end within the limit on facts.
use Rattle.std.specs.Prelude.{◌≡◌, ℕ, List, map, Option, None, Some, Result, Ok, Err}
use Rattle.std.specs.Borrow.{Bor}
use Rattle.ir_core.specs.declared.limits.Limit.{Limit}
use Rattle.ir_core.specs.declared.limits.Limit.TheVariants.{Facts}
use Rattle.ir_types.specs.declared.names.Name.{Name}
use Rattle.erhl_assert.specs.declared.facts.Assertion.{Assertion}
use Rattle.erhl_assert.specs.declared.hints.HintStep.{HintStep}
use Rattle.erhl_assert.specs.declared.hints.RuleStep.{RuleStep}
use Rattle.erhl_assert.specs.declared.verdict.Reason.{Reason}
use Rattle.erhl_assert.specs.declared.verdict.Reason.TheVariants.{UnknownRule, RuleUnfit}
use Rattle.erhl_assert.specs.declared.verdict.Verdict.{Verdict}
use Rattle.erhl_assert.specs.Alignment.{Line, AlignedBlock, block_hint}
use Rattle.erhl_assert.specs.Course.{Ends, Refuses, Gives, Course, refuses, and_then, tested, within, judged_answer}
use Rattle.erhl_assert.specs.Edges.{without_old}
use Rattle.erhl_assert.specs.Growth.{facts_of, over_line}
use Rattle.erhl_assert.specs.Steps.{Beside, after_steps, concluded, first_missing}
use Rattle.erhl_assert.specs.Acceptance.{arrival_fault, end_judged, lines_judged}
use Rattle.rule_base.specs.declared.rule_book.Fitness.{Fitness}
use Rattle.rule_base.specs.declared.rule_book.Fitness.TheVariants.{Unknown, Unfit, Fits}
use Rattle.erhl_checker.specs.declared.checked_pair.ends.CheckEnd.{CheckEnd}
use Rattle.erhl_checker.specs.declared.checked_pair.ends.CheckEnd.TheVariants as check_end

-- names that are lent
abbrev pub names_lent : List (Bor Name) → List Name
names_lent xs = map (λ x. x.now) xs

-- a refusal, or what is known
abbrev pub ended : Option Reason → Assertion → Ends Assertion
ended (Some r) known = Refuses r
ended None known = Gives known

-- what a rule step leads to, by what the book says of it
abbrev pub on_answer : Fitness → RuleStep → Assertion → Course Assertion
on_answer Unknown step known = refuses (UnknownRule step.rule)
on_answer Unfit step known = refuses (RuleUnfit step.rule)
on_answer Fits step known = concluded (first_missing (facts_of step.side known) step.schema.from) step known

-- an end without an answer: the limit on facts is passed, where nothing is due; want of memory says nothing
abbrev pub Stopped : {V : Type 0} → CheckEnd → Option V → Type 0
Stopped fault due = (l : Limit) → fault ≡ check_end.Limit l → (l ≡ Facts) × (due ≡ None)

-- what came of a course: a refusal or what is known
abbrev pub CameOf : Result (Option Reason) CheckEnd → Assertion → Option (Ends Assertion) → Type 0
CameOf (Ok refusal) known due = due ≡ Some (ended refusal known)
CameOf (Err fault) known due = Stopped fault due

-- what is known now is what the course gives
abbrev pub Follows : {X : Type 0} → Result X CheckEnd → Assertion → Course Assertion → Type 0
Follows (Ok x) known c = within c ≡ Some (Gives known)
Follows (Err fault) known c = Stopped fault (within c)

-- what is returned is what a course gives
abbrev pub Gave : Result Assertion CheckEnd → Option (Ends Assertion) → Type 0
Gave (Ok known) due = due ≡ Some (Gives known)
Gave (Err fault) due = Stopped fault due

-- what is answered is due
abbrev pub Answers : {V : Type 0} → Result V CheckEnd → Option V → Type 0
Answers (Ok v) due = due ≡ Some v
Answers (Err fault) due = Stopped fault due

-- where a course ends within the limit, whether it refuses
abbrev pub fault_at : Option (Ends Assertion) → Option (Option Reason)
fault_at None = None
fault_at (Some (Refuses r)) = Some (Some r)
fault_at (Some (Gives known)) = Some None

-- the steps that stand before an aligned line, and then the line, within the limit on facts
abbrev pub past_line : Beside → List HintStep → Line → Assertion → Option (Ends Assertion)
past_line w steps l known = within (and_then (after_steps w steps known) (over_line w.scope.types l))

-- behind the phis of an edge: its steps, and what the block claims that it enters
abbrev pub after_edge_steps : Beside → List HintStep → Name → Assertion → Course Assertion
after_edge_steps w steps to crossed =
    and_then (after_steps w steps crossed) (λ after. tested (arrival_fault (block_hint w.hint to).entry (without_old after)) after)

-- what is answered from line k on, and at the terminators
abbrev pub lines_answer : Beside → AlignedBlock → ℕ → List Line → Assertion → Option Verdict
lines_answer w b k ls known = judged_answer (lines_judged w b k ls known)

abbrev pub end_answer : Beside → AlignedBlock → ℕ → Assertion → Option Verdict
end_answer w b k known = judged_answer (end_judged w b k known)

-- No limit but that on facts is told, and none where there is an answer, or a course gives what is known.
pub record LimitsAreApart : Type 0 where
  pub facts : (l : Limit) (due : Option Verdict) → Answers (Err (check_end.Limit l)) due → l ≡ Facts
  pub answer : (l : Limit) (v : Verdict) (due : Option Verdict) → Answers (Ok v) due → Answers (Err (check_end.Limit l)) due → ⊥
  pub came : (l : Limit) (refusal : Option Reason) (known other : Assertion) (due : Option (Ends Assertion))
      → CameOf (Ok refusal) known due → CameOf (Err (check_end.Limit l)) other due → ⊥
  pub course : (l : Limit) (known other : Assertion) (c : Course Assertion)
      → Follows {X = Unit {0}} (Ok tt) known c → Follows {X = Unit {0}} (Err (check_end.Limit l)) other c → ⊥
  pub gave : (l : Limit) (known : Assertion) (due : Option (Ends Assertion)) → Gave (Ok known) due → Gave (Err (check_end.Limit l)) due → ⊥
