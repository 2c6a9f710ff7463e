-- Two entries of two blocks, one for each of two edges in their order, fit these.
use Rattle.std.proofs.Common.{◌≡◌, ◌∙◌, ◌&&◌, suc, zero, true, false, List, [], ◌∷◌, length, get_or, sym, ap, arith}
use Rattle.std.proofs.lemmas.List.Sorted.{IsPermutation-refl}
use Rattle.std.specs.Borrow.{Bor}
use Rattle.std.specs.List.{Contains}
use Rattle.ir_core.specs.declared.functions.Entry.{Entry}
use Rattle.ir_types.specs.declared.names.Name.{Name}
use Rattle.ir_types.specs.NameLaws.{same_name_refl, same_name_true}
use Rattle.ir_types.specs.Same.{same_name}
use Rattle.ir_shape.specs.ShapeTests.Edges.{named}
use Rattle.ir_shape.specs.ShapeTests.Kinds.{are_alike, froms_of, same_counts}
use Rattle.ir_shape.proofs.ShapeTests.Entries.{are_alike_is, permutation_is}
use Rattle.ir_shape.proofs.ShapeTests.Tests.{both_hold}

apart_not : (d e : Entry) → same_name d.from e.from ≡ false → d.from ≡ e.from → ⊥
apart_not d e apart same = let yes : same_name d.from e.from ≡ true = ap (same_name d.from) (sym same) ∙ same_name_refl d.from in absurd (cc)

one_of_each : (d e : Entry) → same_name d.from e.from ≡ false → (x y : Entry) → Contains (d ∷ e ∷ []) x → Contains (d ∷ e ∷ []) y → x.from ≡ y.from → x ≡ y
one_of_each d e apart x y (zero, w, i) (zero, v, j) same = sym i ∙ j
one_of_each d e apart x y (zero, w, i) (suc zero, v, j) same =
    absurd (apart_not d e apart (ap (λ (z : Entry). z.from) i ∙ same ∙ sym (ap (λ (z : Entry). z.from) j)))
one_of_each d e apart x y (suc zero, w, i) (zero, v, j) same =
    absurd (apart_not d e apart (ap (λ (z : Entry). z.from) j ∙ sym same ∙ sym (ap (λ (z : Entry). z.from) i)))
one_of_each d e apart x y (suc zero, w, i) (suc zero, v, j) same = sym i ∙ j
one_of_each d e apart x y (suc (suc k), w, i) there same = absurd (omega arith)
one_of_each d e apart x y (zero, w, i) (suc (suc k), v, j) same = absurd (omega arith)
one_of_each d e apart x y (suc zero, w, i) (suc (suc k), v, j) same = absurd (omega arith)

fit : (a b : Name) (d e : Entry) → a ≡ d.from → b ≡ e.from → same_name d.from e.from ≡ false
    → (same_counts (a ∷ b ∷ []) (froms_of (d ∷ e ∷ [])) && are_alike (d ∷ e ∷ [])) ≡ true
fit a b d e one two apart =
    let names : a ∷ b ∷ [] ≡ d.from ∷ e.from ∷ [] = λ i. one i ∷ two i ∷ [] in
    ap (λ (ns : List Name). same_counts ns (froms_of (d ∷ e ∷ [])) && are_alike (d ∷ e ∷ [])) names
    ∙ both_hold (same_counts (d.from ∷ e.from ∷ []) (d.from ∷ e.from ∷ [])) (are_alike (d ∷ e ∷ []))
    (permutation_is (d.from ∷ e.from ∷ []) (d.from ∷ e.from ∷ []) (IsPermutation-refl (d.from ∷ e.from ∷ [])))
    (are_alike_is (d ∷ e ∷ []) (one_of_each d e apart))

pub two_fit : (xs : List (Bor Name)) (es : List Entry) (a b : Bor Name) (d e : Entry) → length xs ≡ 2 → length es ≡ 2 → a ≡ get_or xs 0 a → b ≡ get_or xs 1 b
    → d ≡ get_or es 0 d → e ≡ get_or es 1 e → same_name a.now d.from ≡ true → same_name b.now e.from ≡ true → same_name d.from e.from ≡ false
    → (same_counts (named xs) (froms_of es) && are_alike es) ≡ true
two_fit (x ∷ y ∷ []) (f ∷ g ∷ []) a b d e m n at_a at_b at_d at_e one two apart =
    fit x.now y.now f g (sym (ap (λ (z : Bor Name). z.now) at_a) ∙ same_name_true a.now d.from one ∙ ap (λ (z : Entry). z.from) at_d)
    (sym (ap (λ (z : Bor Name). z.now) at_b) ∙ same_name_true b.now e.from two ∙ ap (λ (z : Entry). z.from) at_e)
    (ap (λ (z : Entry). same_name z.from g.from) (sym at_d) ∙ ap (λ (z : Entry). same_name d.from z.from) (sym at_e) ∙ apart)
two_fit [] es a b d e m n at_a at_b at_d at_e one two apart = absurd (omega (arith, m))
two_fit (x ∷ []) es a b d e m n at_a at_b at_d at_e one two apart = absurd (omega (arith, m))
two_fit (x ∷ y ∷ z ∷ xs) es a b d e m n at_a at_b at_d at_e one two apart = absurd (omega (arith, m))
two_fit (x ∷ y ∷ []) [] a b d e m n at_a at_b at_d at_e one two apart = absurd (omega (arith, n))
two_fit (x ∷ y ∷ []) (f ∷ []) a b d e m n at_a at_b at_d at_e one two apart = absurd (omega (arith, n))
two_fit (x ∷ y ∷ []) (f ∷ g ∷ h ∷ es) a b d e m n at_a at_b at_d at_e one two apart = absurd (omega (arith, n))
