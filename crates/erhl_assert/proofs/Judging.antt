-- What checks answer: two of them one after the other, a test and then a check, and what comes over an edge.
use Rattle.std.proofs.Common.{◌≡◌, ◌∙◌, true, false, cond, [], Option, None, Some, refl, sym, ap}
use Rattle.ir_types.specs.declared.names.Name.{Name}
use Rattle.erhl_assert.specs.declared.facts.Assertion.{Assertion}
use Rattle.erhl_assert.specs.declared.verdict.Reason.{Reason}
use Rattle.erhl_assert.specs.declared.verdict.Spot.{Spot}
use Rattle.erhl_assert.specs.declared.verdict.Verdict.{Verdict}
use Rattle.erhl_assert.specs.declared.verdict.Verdict.TheVariants as verdict
use Rattle.erhl_assert.specs.Edges.{Edge, after_edge}
use Rattle.erhl_assert.specs.Course.{Gives, tested, Judged, Good, Bad, placed, then_also, are_too_many, within, judged_answer}
use Rattle.erhl_assert.specs.Growth.{over_edge}
use Rattle.erhl_assert.proofs.Courses.{answer_with_sizes}
use Rattle.erhl_assert.proofs.Edges.{edge_ends}

-- ---- two checks, of which the first that fails decides

abbrev pub answer_then : Option Verdict → Option Verdict → Option Verdict
answer_then None next = None
answer_then (Some verdict.Valid) next = next
answer_then (Some (verdict.Refused block where_ why)) next = Some (verdict.Refused block where_ why)

pub answer_also : (j next : Judged) → judged_answer (then_also j next) ≡ answer_then (judged_answer j) (judged_answer next)
answer_also (Good sizes) next =
    answer_with_sizes sizes next
    ∙ (elim (are_too_many sizes) as (λ b. cond b None (judged_answer next) ≡ answer_then (cond b None (Some verdict.Valid)) (judged_answer next)) [ true ↦ refl | false ↦ refl ])
answer_also (Bad sizes block where_ why) next =
    elim (are_too_many sizes) as (λ b.
    cond b None (Some (verdict.Refused block where_ why)) ≡ answer_then (cond b None (Some (verdict.Refused block where_ why))) (judged_answer next)) [ true ↦ refl | false ↦ refl ]

module _ (j next : Judged) where
  pub also_passed : judged_answer j ≡ Some verdict.Valid → judged_answer (then_also j next) ≡ judged_answer next
  also_passed h = answer_also j next ∙ ap (λ v. answer_then v (judged_answer next)) h

  pub also_refused : (block : Name) (where_ : Spot) (why : Reason) → judged_answer j ≡ Some (verdict.Refused block where_ why)
      → judged_answer (then_also j next) ≡ Some (verdict.Refused block where_ why)
  also_refused block where_ why h = answer_also j next ∙ ap (λ v. answer_then v (judged_answer next)) h

  pub also_stopped : judged_answer j ≡ None → judged_answer (then_also j next) ≡ None
  also_stopped h = answer_also j next ∙ ap (λ v. answer_then v (judged_answer next)) h

-- ---- a test, and then a check

module _ (block : Name) (where_ : Spot) (o : Option Reason) (known : Assertion) (next : Assertion → Judged) where
  abbrev after_test : Option Reason → Judged
  after_test o = placed block where_ (tested o known) next

  pub test_passes : o ≡ None → judged_answer (placed block where_ (tested o known) next) ≡ judged_answer (next known)
  test_passes h = ap (λ o. judged_answer (after_test o)) h ∙ answer_with_sizes [] (next known)

  pub test_refuses : (r : Reason) → o ≡ Some r → judged_answer (placed block where_ (tested o known) next) ≡ Some (verdict.Refused block where_ r)
  test_refuses r h = ap (λ o. judged_answer (after_test o)) h

-- ---- over an edge, within the limit on facts

pub edge_within : (e : Edge) (known after : Assertion) → after ≡ after_edge known e → are_too_many (over_edge e known).sizes ≡ false
    → within (over_edge e known) ≡ Some (Gives after)
edge_within e known after is few =
    ap (λ b. cond b None (Some (over_edge e known).ends)) few ∙ ap (λ end. Some end) (edge_ends e known) ∙ ap (λ k. Some (Gives k)) (sym is)

pub edge_past : (e : Edge) (known : Assertion) → are_too_many (over_edge e known).sizes ≡ true → within (over_edge e known) ≡ None
edge_past e known many = ap (λ b. cond b None (Some (over_edge e known).ends)) many
