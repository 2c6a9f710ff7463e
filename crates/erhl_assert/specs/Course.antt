-- A check as a course: what it comes to, and how many facts are known on the way.
use Rattle.std.specs.Prelude.{◌≡◌, ℕ, Bool, nat_lt, cond, List, [], ◌∷◌, ◌++◌, Option, None, Some}
use Rattle.std.specs.Option.{option_or}
use Rattle.std.specs.List.{list_any}
use Rattle.ir_types.specs.declared.names.Name.{Name}
use Rattle.ir_core.specs.Limits.{fact_limit}
use Rattle.erhl_assert.specs.declared.verdict.Reason.{Reason}
use Rattle.erhl_assert.specs.declared.verdict.Spot.{Spot}
use Rattle.erhl_assert.specs.declared.verdict.Verdict.{Verdict}
use Rattle.erhl_assert.specs.declared.verdict.Verdict.TheVariants as verdict

-- how a course ends: with a refusal, or with what it gives
pub data Ends (A : Type 0) : Type 0 where
  Refuses : Reason → Ends A
  Gives : A → Ends A

-- a course: how many facts are known, of both sides together, after each one that is added; and how it ends
pub record Course (A : Type 0) : Type 0 where
  pub sizes : List ℕ
  pub ends : Ends A

abbrev pub gives : {A : Type 0} → A → Course A
gives a = record { sizes = []; ends = Gives a }

abbrev pub refuses : {A : Type 0} → Reason → Course A
refuses r = record { sizes = []; ends = Refuses r }

abbrev pub after_ends : {A B : Type 0} → List ℕ → Ends A → (A → Course B) → Course B
after_ends sizes (Refuses r) next = record { sizes = sizes; ends = Refuses r }
after_ends sizes (Gives a) next = record { sizes = sizes ++ (next a).sizes; ends = (next a).ends }

-- a course, and then the next with what it gives, unless it refuses
abbrev pub and_then : {A B : Type 0} → Course A → (A → Course B) → Course B
and_then c next = after_ends c.sizes c.ends next

-- a test, which adds nothing: for a fault it refuses, and else it gives what it was made of
abbrev pub tested : {A : Type 0} → Option Reason → A → Course A
tested None a = gives a
tested (Some r) a = refuses r

-- of faults that are tested for in their order the first
abbrev pub first_fault : List (Option Reason) → Option Reason
first_fault [] = None
first_fault (o ∷ os) = option_or o (first_fault os)

-- A check: sizes in their order, and whether all tests are passed, or where and why the first one fails.
pub data Judged : Type 0 where
  Good : List ℕ → Judged
  Bad : List ℕ → Name → Spot → Reason → Judged

abbrev pub with_sizes : List ℕ → Judged → Judged
with_sizes before (Good sizes) = Good (before ++ sizes)
with_sizes before (Bad sizes block where_ why) = Bad (before ++ sizes) block where_ why

abbrev pub placed_end : {A : Type 0} → Name → Spot → List ℕ → Ends A → (A → Judged) → Judged
placed_end block where_ sizes (Refuses r) next = Bad sizes block where_ r
placed_end block where_ sizes (Gives a) next = with_sizes sizes (next a)

-- a course at a place of a block, whose refusal is one there; and then what follows it
abbrev pub placed : {A : Type 0} → Name → Spot → Course A → (A → Judged) → Judged
placed block where_ c next = placed_end block where_ c.sizes c.ends next

-- a check, and then the next, unless it fails
abbrev pub then_also : Judged → Judged → Judged
then_also (Good sizes) next = with_sizes sizes next
then_also (Bad sizes block where_ why) next = Bad sizes block where_ why

abbrev pub sizes_of : Judged → List ℕ
sizes_of (Good sizes) = sizes
sizes_of (Bad sizes block where_ why) = sizes

-- what a check says, without its sizes
abbrev pub verdict_of : Judged → Verdict
verdict_of (Good sizes) = verdict.Valid
verdict_of (Bad sizes block where_ why) = verdict.Refused block where_ why

-- ---- within the limit on facts

-- one of the sizes is past the limit
abbrev pub are_too_many : List ℕ → Bool
are_too_many sizes = list_any (nat_lt fact_limit) sizes

-- How a course ends; one on which too many facts are known has no end.
abbrev pub within : {A : Type 0} → Course A → Option (Ends A)
within c = cond (are_too_many c.sizes) None (Some c.ends)

-- What a check answers: its verdict, or nothing, where too many facts are known before the first test that fails, or before the end
-- where none does. With the sizes 65,535 and 65,536 it has a verdict; with 65,537 among them it has none.
abbrev pub judged_answer : Judged → Option Verdict
judged_answer j = cond (are_too_many (sizes_of j)) None (Some (verdict_of j))

-- the answer at a place where a course ends so within the limit, and on what follows
abbrev pub answer_at : {A : Type 0} → Name → Spot → Option (Ends A) → (A → Option Verdict) → Option Verdict
answer_at block where_ None next = None
answer_at block where_ (Some (Refuses r)) next = Some (verdict.Refused block where_ r)
answer_at block where_ (Some (Gives a)) next = next a

-- all tests are passed
abbrev pub IsGood : Judged → Type 0
IsGood j = (sizes : List ℕ) × (j ≡ Good sizes)
