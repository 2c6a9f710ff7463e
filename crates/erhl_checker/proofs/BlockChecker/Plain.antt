-- Edges without steps, to blocks without phis.
use Rattle.std.proofs.Common.{◌≡◌, ◌∙◌, ◌==◌, arith, true, List, [], ◌∷◌, length, Option, Some, refl, sym, ap}
use Rattle.std.proofs.lemmas.Map.Views.{exact_unsigned_eq}
use Rattle.ir_types.specs.declared.names.Name.{Name}
use Rattle.ir_core.specs.declared.functions.Phi.{Phi}
use Rattle.erhl_assert.specs.declared.facts.Assertion.{Assertion}
use Rattle.erhl_assert.specs.declared.verdict.Reason.{Reason}
use Rattle.erhl_assert.specs.Acceptance.{along_edge, arrival_fault}
use Rattle.erhl_assert.specs.Alignment.{block_hint}
use Rattle.erhl_assert.specs.Course.{Gives, within}
use Rattle.erhl_assert.specs.Edges.{edge_between, phis_at, without_old}
use Rattle.erhl_assert.specs.Growth.{over_edge}
use Rattle.erhl_assert.specs.Steps.{Beside}
use Rattle.erhl_checker.proofs.CheckedPair.Progressing.{arrived, edge_crossed}
use Rattle.erhl_checker.specs.CheckedPair.Progress.{fault_at}
use Rattle.erhl_checker.specs.BlockChecker.Plain.{IsOverPlain, IsPlainEdge}

pub none_there : (ps : List Phi) → (length ps == 0) ≡ true → ps ≡ []
none_there [] none = refl
none_there (p ∷ ps) none = let no : length (p ∷ ps) ≡ 0 = exact_unsigned_eq (length (p ∷ ps)) 0 none in absurd (omega arith)

module _ (w : Beside) (from to : Name) (known : Assertion) (edge : IsPlainEdge w from to) where
  same_edge : within (over_edge (edge_between w.source w.target from to) known) ≡ within (over_edge (record { from = from; source = []; target = [] }) known)
  same_edge =
      ap (λ (xs : List Phi). within (over_edge (record { from = from; source = xs; target = phis_at to w.target }) known)) edge.0
      ∙ ap (λ (xs : List Phi). within (over_edge (record { from = from; source = []; target = xs }) known)) edge.1

  pub plain_over : (crossed : Assertion) → within (over_edge (edge_between w.source w.target from to) known) ≡ Some (Gives crossed) → IsOverPlain from known crossed
  plain_over crossed h = sym same_edge ∙ h

  pub plain_arrived : (crossed : Assertion) (fault : Option Reason) → IsOverPlain from known crossed
      → fault ≡ arrival_fault (block_hint w.hint to).entry (without_old crossed) → fault_at (within (along_edge w from to known)) ≡ Some fault
  plain_arrived crossed fault h is =
      sym (edge_crossed w from to known [] crossed (sym edge.2) (same_edge ∙ h)) ∙ arrived w [] to crossed crossed fault refl is
