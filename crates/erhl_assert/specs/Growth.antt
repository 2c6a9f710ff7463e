-- How facts grow, one at a time: where a fact is added, over an aligned line, and over an edge.
use Rattle.std.specs.Prelude.{ℕ, ◌+◌, Bool, cond, List, [], ◌∷◌, length, Option, None, Some}
use Rattle.std.specs.List.{filter_map}
use Rattle.std.specs.Option.{is_none}
use Rattle.ir_types.specs.declared.named.NamedTy.{NamedTy}
use Rattle.ir_core.specs.declared.functions.Instr.{Instr}
use Rattle.erhl_assert.specs.declared.facts.Fact.{Fact}
use Rattle.erhl_assert.specs.declared.facts.Assertion.{Assertion}
use Rattle.erhl_assert.specs.declared.facts.Side.{Side}
use Rattle.erhl_assert.specs.declared.facts.Side.TheVariants.{Src, Tgt}
use Rattle.erhl_assert.specs.Facts.{has_fact, with_fact, on_side}
use Rattle.erhl_assert.specs.Kills.{all_killed}
use Rattle.erhl_assert.specs.Alignment.{Line}
use Rattle.erhl_assert.specs.Postcondition.{line_kills, line_adds, diff_after}
use Rattle.erhl_assert.specs.Allowed.{line_fault}
use Rattle.erhl_assert.specs.Edges.{Edge, without_old, as_old, past_phis, phi_facts, diff_over}
use Rattle.erhl_assert.specs.Course.{Course, Gives, gives, and_then, tested}

-- how many facts are known, of both sides together
abbrev pub size : Assertion → ℕ
size known = length known.src + length known.tgt

abbrev pub facts_of : Side → Assertion → List Fact
facts_of Src known = known.src
facts_of Tgt known = known.tgt

abbrev pub with_conclusion : Side → Fact → Assertion → Assertion
with_conclusion Src f known = record known { src = with_fact f known.src }
with_conclusion Tgt f known = record known { tgt = with_fact f known.tgt }

-- A fact is added to those of a side. One that is there already adds nothing, and so no size.
abbrev pub adds : Side → Fact → Assertion → Course Assertion
adds side f known = record {
  sizes = cond (has_fact f (facts_of side known)) [] (size (with_conclusion side f known) ∷ []);
  ends = Gives (with_conclusion side f known);
}

-- facts are added one after the other
abbrev pub adds_all : Side → List Fact → Assertion → Course Assertion
adds_all side [] known = gives known
adds_all side (f ∷ fs) known = and_then (adds side f known) (adds_all side fs)

-- The lists of a hint are put into empty ones, first those of the source. What it gives is `each_once`.
abbrev pub put_in : Assertion → Course Assertion
put_in lists = and_then (adds_all Src lists.src (record { src = []; tgt = []; diff = lists.diff })) (adds_all Tgt lists.tgt)

-- Over a line on a side, which is of this side alone or of both: first what it kills goes, then what it adds comes.
abbrev pub over_side : List NamedTy → Bool → Side → Option Instr → Assertion → Course Assertion
over_side types one_sided side None known = gives known
over_side types one_sided side (Some l) known = adds_all side (line_adds types one_sided l) (on_side side (all_killed (line_kills l)) known)

-- Over an aligned line that is allowed: first the source's facts, then the target's, and at last the registers that may differ. So the
-- source's are added while those of the target that go are still there. What it gives is `after_line`.
abbrev pub over_allowed : List NamedTy → Line → Assertion → Course Assertion
over_allowed types l known =
    and_then (over_side types (is_none l.target) Src l.source known) (λ half.
    and_then (over_side types (is_none l.source) Tgt l.target half) (λ after. gives (record after { diff = diff_after known l.source l.target })))

-- Over an aligned line: one that isn't allowed is refused before anything is added. Beside no line of the source, `%x = udiv i8 1, %y` is.
abbrev pub over_line : List NamedTy → Line → Assertion → Course Assertion
over_line types l known = and_then (tested (line_fault types known l) known) (over_allowed types l)

-- on each side what its phis take away goes
abbrev pub without_phis : Edge → Assertion → Assertion
without_phis e known = record known { src = past_phis e.from e.source known.src; tgt = past_phis e.from e.target known.tgt }

-- Over an edge, before its steps: the copies are added while their originals are all there, and then, behind those that go, the facts of
-- phis; each time first the source's. What it gives is `after_edge`.
abbrev pub over_edge : Edge → Assertion → Course Assertion
over_edge e known =
    let kept = without_old known in
    and_then (adds_all Src (filter_map as_old kept.src) kept) (λ half.
    and_then (adds_all Tgt (filter_map as_old kept.tgt) half) (λ copied.
    and_then (adds_all Src (phi_facts e.from e.source) (without_phis e copied)) (λ more.
    and_then (adds_all Tgt (phi_facts e.from e.target) more) (λ after. gives (record after { diff = diff_over e known })))))
