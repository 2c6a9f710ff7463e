-- Parts of lists.
use Rattle.std.proofs.Common.{◌≡◌, ℕ, suc, ◌+◌, ◌-◌, List, [], ◌∷◌, ◌++◌, length, reverse, take, drop, ap, sym, ◌∙◌, append_assoc, arith}
use Rattle.std.proofs.Math.Seq.{drop-append_seam, take-append_seam}
use Rattle.std.proofs.lemmas.List.{length-append, reverse-append, reverse-reverse}
use Rattle.std.specs.List.{slice_range}

-- a part stands behind what comes before it
pub slice_behind : (front part rest : List ℕ) (place end : ℕ) → place ≡ length front → end ≡ length front + length part → slice_range (front ++ (part ++ rest)) place end ≡ part
slice_behind front part rest place end p q =
    let n : end - place ≡ length part = omega arith in
    ap (λ k. take (end - place) (drop k (front ++ (part ++ rest)))) p
    ∙ ap (λ l. take (end - place) l) (drop-append_seam front (part ++ rest))
    ∙ ap (λ k. take k (part ++ rest)) n
    ∙ take-append_seam part rest

-- without the last
pub front_same : (xs ys : List ℕ) (a b : ℕ) → xs ++ (a ∷ []) ≡ ys ++ (b ∷ []) → xs ≡ ys
front_same xs ys a b e =
    let turned : a ∷ reverse xs ≡ b ∷ reverse ys = sym (reverse-append xs (a ∷ [])) ∙ ap reverse e ∙ reverse-append ys (b ∷ []) in
    let same : reverse xs ≡ reverse ys = cc in
    sym (reverse-reverse xs) ∙ ap reverse same ∙ reverse-reverse ys

-- what stands between two that stand behind what comes before
pub inside_is :
    (front inside rest : List ℕ) (o c : ℕ) (all part behind left : List ℕ) (x y : ℕ) (place end : ℕ)
    → all ≡ front ++ (o ∷ (inside ++ (c ∷ rest))) → place ≡ length front → end ≡ length front + suc (suc (length inside))
    → part ≡ slice_range all place end → part ≡ x ∷ behind → behind ≡ left ++ (y ∷ []) → left ≡ inside
inside_is front inside rest o c all part behind left x y place end e p q is first last =
    let n : length (inside ++ (c ∷ [])) ≡ length inside + 1 = length-append inside (c ∷ []) in
    let split : all ≡ front ++ ((o ∷ (inside ++ (c ∷ []))) ++ rest) = e ∙ ap (λ l. front ++ (o ∷ l)) (sym (append_assoc inside (c ∷ []) rest)) in
    let whole : part ≡ o ∷ (inside ++ (c ∷ [])) =
    is ∙ ap (λ l. slice_range l place end) split ∙ slice_behind front (o ∷ (inside ++ (c ∷ []))) rest place end p (omega (arith, n)) in
    let same : left ++ (y ∷ []) ≡ inside ++ (c ∷ []) = cc in
    front_same left inside y c same
