-- What a queue keeps.
use Rattle.std.proofs.Common.{◌≡◌, ◌∙◌, ◌⊎◌, ⊎_elim, inl, inr, ℕ, suc, zero, ◌<◌, Bool, true, false, List, ◌∷◌, length, get_or, set, refl, sym, ap, subst, arith}
use Rattle.std.specs.List.{Contains}
use Rattle.std.specs.List.Sorted.{IsPermutation}
use Rattle.std.specs.BinaryHeap.{heap_items}
use Rattle.std.proofs.lemmas.Bool.{cases_eq, true≢false}
use Rattle.std.proofs.lemmas.List.{get_or-set_other, get_or-set_same, length-set}
use Rattle.std.proofs.lemmas.List.Sorted.{Contains-permutation, IsPermutation-sym}
use Rattle.flow_solver.specs.declared.queue.Queue.{Queue}
use Rattle.flow_solver.specs.Solving.{IsQueue, Waits}

first_or : {X : Type 0} (x : X) (xs : List X) (y : X) → Contains (x ∷ xs) y → (x ≡ y) ⊎ Contains xs y
first_or x xs y (zero, within, is) = inl is
first_or x xs y (suc k, within, is) = inr (k, omega (arith, within), is)

behind : {X : Type 0} (x : X) (xs : List X) (y : X) → Contains xs y → Contains (x ∷ xs) y
behind x xs y (k, within, is) = (suc k, omega (arith, within), is)

-- a node begins to wait
pub queued :
    (q r : Queue) (rank n : ℕ) → n < length q.waits.items → IsQueue q → r.waits.items ≡ set q.waits.items n true
    → IsPermutation ((rank, n) ∷ heap_items q.heap) (heap_items r.heap) → IsQueue r
queued q r rank n at is marks by = record {
  kept = λ m waiting. kept m (subst (λ (bs : List Bool). get_or bs m false ≡ true) marks waiting);
  nodes = λ k m has. subst (λ j. m < j) (sym (ap length marks ∙ length-set q.waits.items n true))
      (node k m (first_or (rank, n) (heap_items q.heap) (k, m) (Contains-permutation (heap_items r.heap) ((rank, n) ∷ heap_items q.heap) (k, m) (IsPermutation-sym ((rank, n) ∷ heap_items q.heap) (heap_items r.heap) by) has)));
}
  where
    kept_other : (m : ℕ) → (m ≡ n → ⊥) → get_or (set q.waits.items n true) m false ≡ true → (k : ℕ) × Contains (heap_items r.heap) (k, m)
    kept_other m other waiting =
        let before = is.kept m (sym (get_or-set_other q.waits.items n m true false other) ∙ waiting) in
        (before.0, Contains-permutation ((rank, n) ∷ heap_items q.heap) (heap_items r.heap) (before.0, m) by (behind (rank, n) (heap_items q.heap) (before.0, m) before.1))

    kept : (m : ℕ) → get_or (set q.waits.items n true) m false ≡ true → (k : ℕ) × Contains (heap_items r.heap) (k, m)
    kept m waiting = ⊎_elim
        (λ (same : m ≡ n). subst (λ k. (j : ℕ) × Contains (heap_items r.heap) (j, k)) (sym same) (rank, Contains-permutation ((rank, n) ∷ heap_items q.heap) (heap_items r.heap) (rank, n) by (0, omega arith, refl)))
        (λ other. kept_other m other waiting) (cases_eq m n)

    node : (k m : ℕ) → (◌≡◌ {A = ℕ × ℕ} (rank, n) (k, m)) ⊎ Contains (heap_items q.heap) (k, m) → m < length q.waits.items
    node k m (inl same) = subst (λ (j : ℕ). j < length q.waits.items) (ap (λ (p : ℕ × ℕ). p.1) same) at
    node k m (inr has) = is.nodes k m has

-- the node on top doesn't wait any longer
pub next_node : (q : Queue) (after : List (ℕ × ℕ)) (rank n : ℕ) → IsQueue q → IsPermutation (heap_items q.heap) ((rank, n) ∷ after) → n < length q.waits.items
next_node q after rank n is by =
    is.nodes rank n (Contains-permutation ((rank, n) ∷ after) (heap_items q.heap) (rank, n) (IsPermutation-sym (heap_items q.heap) ((rank, n) ∷ after) by) (0, omega arith, refl))

pub unqueued :
    (q r : Queue) (rank n : ℕ) → IsQueue q → r.waits.items ≡ set q.waits.items n false → IsPermutation (heap_items q.heap) ((rank, n) ∷ heap_items r.heap)
    → IsQueue r
unqueued q r rank n is marks by = record {
  kept = λ m waiting. kept m (subst (λ (bs : List Bool). get_or bs m false ≡ true) marks waiting);
  nodes = λ k m has. subst (λ j. m < j) (sym (ap length marks ∙ length-set q.waits.items n false))
      (is.nodes k m (Contains-permutation ((rank, n) ∷ heap_items r.heap) (heap_items q.heap) (k, m) (IsPermutation-sym (heap_items q.heap) ((rank, n) ∷ heap_items r.heap) by) (behind (rank, n) (heap_items r.heap) (k, m) has)));
}
  where
    at : n < length q.waits.items
    at = next_node q (heap_items r.heap) rank n is by

    other_kept : (m k : ℕ) → (m ≡ n → ⊥) → (◌≡◌ {A = ℕ × ℕ} (rank, n) (k, m)) ⊎ Contains (heap_items r.heap) (k, m) → (j : ℕ) × Contains (heap_items r.heap) (j, m)
    other_kept m k other (inl same) = absurd (other (sym (ap (λ (p : ℕ × ℕ). p.1) same)))
    other_kept m k other (inr has) = (k, has)

    kept : (m : ℕ) → get_or (set q.waits.items n false) m false ≡ true → (k : ℕ) × Contains (heap_items r.heap) (k, m)
    kept m waiting = ⊎_elim
        (λ (same : m ≡ n). absurd (true≢false (sym (subst (λ k. get_or (set q.waits.items n false) k false ≡ true) same waiting) ∙ get_or-set_same q.waits.items n false false at)))
        (λ other.
        let before = is.kept m (sym (get_or-set_other q.waits.items n m false false other) ∙ waiting) in
        other_kept m before.0 other (first_or (rank, n) (heap_items r.heap) (before.0, m) (Contains-permutation (heap_items q.heap) ((rank, n) ∷ heap_items r.heap) (before.0, m) by before.1)))
        (cases_eq m n)

-- where nothing is queued, no node waits
pub none_waits : (q : Queue) → IsQueue q → length (heap_items q.heap) ≡ 0 → (n : ℕ) → Waits q n → ⊥
none_waits q is none n waiting = let has = is.kept n waiting in omega (arith, has.1.1, none)
