-- What another rule makes than those that are read, where something stands behind a comma, or nothing.
use Rattle.std.proofs.Common.{◌≡◌, ℕ, List, [], Option, Some, None, refl}
use Rattle.module_derivations.specs.Ahead.{made_by}
use Rattle.module_derivations.specs.Parts.{Part}
use Rattle.module_derivations.specs.declared.rule.TheConstants as rule
use Rattle.module_grammar.specs.declared.commas.AlignBehindText.{AlignBehindText}
use Rattle.module_grammar.specs.declared.commas.CountBehindText.{CountBehindText}
use Rattle.module_grammar.specs.declared.commas.IndicesBehindText.{IndicesBehindText}
use Rattle.module_grammar.specs.declared.commas.NextAlignText.{NextAlignText}
use Rattle.module_grammar.specs.declared.commas.NextCountText.{NextCountText}
use Rattle.module_grammar.specs.declared.commas.NextIndexText.{NextIndexText}
use Rattle.module_grammar.specs.Joined.{align_from, count_from, indices_from}
use Rattle.module_walk.proofs.Rules.{by_another, either}
use Rattle.module_walk.specs.Commas.{count_built}

pub no_align : (r : Option ℕ) (s : List Part) → (r ≡ Some rule.ALIGN_NEXT → ⊥) → (align_from (made_by r s).next_align).align ≡ None
no_align r s h =
    let P : NextAlignText → Type 0 = λ w. (align_from w).align ≡ None in
    by_another P r rule.ALIGN_NEXT _ _ h (either P r rule.ALIGN_ATTACHMENT _ _ refl refl)

pub no_align_behind : (r : Option ℕ) (s : List Part) → (r ≡ Some rule.ALIGN_BEHIND → ⊥) → (made_by r s).align_behind.align ≡ None
no_align_behind r s h =
    let P : AlignBehindText → Type 0 = λ w. w.align ≡ None in
    by_another P r rule.ALIGN_BEHIND _ _ h refl

pub no_count :
    (r : Option ℕ) (s : List Part) → (r ≡ Some rule.COUNT_NEXT → ⊥) → (r ≡ Some rule.NO_NEXT_COUNT → ⊥)
    → count_built (count_from (made_by r s).next_count) ≡ (None, None)
no_count r s h k =
    let P : NextCountText → Type 0 = λ w. count_built (count_from w) ≡ (None, None) in
    by_another P r rule.COUNT_NEXT _ _ h (by_another P r rule.NO_NEXT_COUNT _ _ k refl)

pub no_count_behind : (r : Option ℕ) (s : List Part) → (r ≡ Some rule.COUNT_BEHIND → ⊥) → count_built (made_by r s).count_behind ≡ (None, None)
no_count_behind r s h =
    let P : CountBehindText → Type 0 = λ w. count_built w ≡ (None, None) in
    by_another P r rule.COUNT_BEHIND _ _ h refl

pub no_indices_behind : (r : Option ℕ) (s : List Part) → (r ≡ Some rule.INDICES_BEHIND → ⊥) → (made_by r s).indices_behind.indices ≡ []
no_indices_behind r s h =
    let P : IndicesBehindText → Type 0 = λ w. w.indices ≡ [] in
    by_another P r rule.INDICES_BEHIND _ _ h refl

pub no_index : (r : Option ℕ) (s : List Part) → (r ≡ Some rule.INDEX_NEXT → ⊥) → (indices_from (made_by r s).next_index).indices ≡ []
no_index r s h =
    let P : NextIndexText → Type 0 = λ w. (indices_from w).indices ≡ [] in
    by_another P r rule.INDEX_NEXT _ _ h (either P r rule.INDEX_ATTACHMENT _ _ refl refl)
