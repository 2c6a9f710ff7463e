-- A phi fits the edges into its block exactly where the test says so.
use Rattle.std.proofs.Common.{◌≡◌, ◌∙◌, ◌&&◌, ◌||◌, ⊎_elim, ℕ, suc, zero, ◌+◌, ◌<◌, Bool, true, false, cond, not, nat_eq, nat_lt, List, [], ◌∷◌, ◌++◌, length, get_or, refl, sym, ap, subst, arith}
use Rattle.std.proofs.lemmas.Bool.{lt-ltb, ltb-true, or_cases, or_right}
use Rattle.std.proofs.lemmas.List.Sorted.{IsPermutation-cons, IsPermutation-refl, IsPermutation-remove, IsPermutation-sym, IsPermutation-trans, sum_by-IsPermutation}
use Rattle.std.proofs.lemmas.List.Sums.{sum_by-cons}
use Rattle.std.specs.List.{Contains, list_all, list_any, remove}
use Rattle.std.specs.Prelude.{IsPermutation}
use Rattle.ir_core.specs.declared.functions.Block.{Block}
use Rattle.ir_core.specs.declared.functions.Entry.{Entry}
use Rattle.ir_core.specs.declared.functions.Function.{Function}
use Rattle.ir_core.specs.declared.functions.Phi.{Phi}
use Rattle.ir_types.specs.declared.names.Name.{Name}
use Rattle.ir_core.specs.declared.operands.Atom.{Atom}
use Rattle.ir_core.specs.Functions.{edges_into}
use Rattle.ir_types.specs.NameLaws.{same_name_refl, same_name_true, same_nat_refl, same_nat_true}
use Rattle.ir_types.specs.Same.{same_name}
use Rattle.ir_core.specs.Same.{same_atom}
use Rattle.ir_core.specs.WellFormed.{FitsEdges}
use Rattle.ir_core.proofs.SameLaws.{same_name_atom_refl, same_name_atom_true}
use Rattle.ir_shape.specs.ShapeTests.Edges.{agrees, alike_with}
use Rattle.ir_shape.specs.ShapeTests.Kinds.{are_alike, count_of, froms_of, phi_fits, same_counts}

left_of : (a b : Bool) → (a && b) ≡ true → a ≡ true
left_of true b e = refl
left_of false b e = e

right_of : (a b : Bool) → (a && b) ≡ true → b ≡ true
right_of true b e = e
right_of false b e = cc

both_are : (a b : Bool) → a ≡ true → b ≡ true → (a && b) ≡ true
both_are a b e f = ap (λ t. t && b) e ∙ f

-- ---- what holds of each of a list

each_of : {A : Type 0} (p : A → Bool) (xs : List A) → list_all p xs ≡ true → (x : A) → Contains xs x → p x ≡ true
each_of {A = A} p xs e x there = subst (λ y. p y ≡ true) there.2 (go xs there.0 there.1 e)
  where
    go : (xs : List A) (k : ℕ) → k < length xs → list_all p xs ≡ true → p (get_or xs k x) ≡ true
    go [] k within e = absurd (omega arith)
    go (y ∷ xs) zero within e = left_of (p y) (list_all p xs) e
    go (y ∷ xs) (suc k) within e = go xs k (omega arith) (right_of (p y) (list_all p xs) e)

of_each : {A : Type 0} (p : A → Bool) (xs : List A) → ((x : A) → Contains xs x → p x ≡ true) → list_all p xs ≡ true
of_each p [] each = refl
of_each p (x ∷ xs) each =
    both_are (p x) (list_all p xs) (each x (0, omega arith, refl)) (of_each p xs (λ y there. each y (suc there.0, omega (arith, there.1), there.2)))

one_there : (n : Name) (xs : List Name) → list_any (same_name n) xs ≡ true → Contains xs n
one_there n [] e = cc
one_there n (x ∷ xs) e =
    ⊎_elim (λ here. (0, omega arith, sym (same_name_true n x here)))
    (λ later. let more = one_there n xs later in (suc more.0, omega (arith, more.1), more.2)) (or_cases (same_name n x) (list_any (same_name n) xs) e)

-- ---- counts

abbrev one_if : Name → Name → ℕ
one_if n x = cond (same_name n x) 1 0

pub count_cons : (n x : Name) (xs : List Name) → count_of n (x ∷ xs) ≡ one_if n x + count_of n xs
count_cons n x xs = sum_by-cons (one_if n) x xs

count_self : (x : Name) (xs : List Name) → count_of x (x ∷ xs) ≡ 1 + count_of x xs
count_self x xs = count_cons x x xs ∙ ap (λ b. cond b 1 0 + count_of x xs) (same_name_refl x)

none_counted : (n : Name) (xs : List Name) → list_any (same_name n) xs ≡ false → count_of n xs ≡ 0
none_counted n [] e = refl
none_counted n (x ∷ xs) e = count_cons n x xs ∙ go (same_name n x) refl e (none_counted n xs)
  where
    go : (b : Bool) → same_name n x ≡ b → (same_name n x || list_any (same_name n) xs) ≡ false → (list_any (same_name n) xs ≡ false → count_of n xs ≡ 0)
        → one_if n x + count_of n xs ≡ 0
    go true same e more = absurd (cc)
    go false same e more =
        let later : list_any (same_name n) xs ≡ false = sym (ap (λ b. b || list_any (same_name n) xs) same) ∙ e in
        let zero_here : one_if n x ≡ 0 = ap (λ (b : Bool). let count : ℕ = cond b 1 0 in count) same in
        omega (arith, zero_here, more later)

counted_there : (n : Name) (xs : List Name) → 0 < count_of n xs → Contains xs n
counted_there n xs some = go (list_any (same_name n) xs) refl
  where
    go : (b : Bool) → list_any (same_name n) xs ≡ b → Contains xs n
    go true e = one_there n xs e
    go false e = absurd (omega (arith, none_counted n xs e))

permuted : (xs ys : List Name) → ((n : Name) → count_of n xs ≡ count_of n ys) → IsPermutation xs ys
permuted [] [] same = IsPermutation-refl []
permuted [] (y ∷ ys) same = absurd (omega (arith, same y, count_self y ys))
permuted (x ∷ xs) ys same =
    let there = counted_there x ys (omega (arith, same x, count_self x xs)) in
    let taken = IsPermutation-remove ys there.0 x there.1 (sym there.2) in
    let rest : List Name = remove ys there.0 in
    IsPermutation-trans (x ∷ xs) (x ∷ rest) ys
    (IsPermutation-cons x xs rest
    (permuted xs rest
    (λ n. omega (arith, same n, count_cons n x xs, count_cons n x rest, sum_by-IsPermutation (one_if n) ys (x ∷ rest) taken))))
    (IsPermutation-sym ys (x ∷ rest) taken)

abbrev agree : List Name → List Name → Name → Type 0
agree xs ys n = count_of n xs ≡ count_of n ys

any_left : (n : Name) (xs ys : List Name) → list_any (same_name n) (xs ++ ys) ≡ false → (list_any (same_name n) xs ≡ false) × (list_any (same_name n) ys ≡ false)
any_left n [] ys e = (refl, e)
any_left n (x ∷ xs) ys e = go (same_name n x) refl e (any_left n xs ys)
  where
    go : (b : Bool) → same_name n x ≡ b → (same_name n x || list_any (same_name n) (xs ++ ys)) ≡ false
        → (list_any (same_name n) (xs ++ ys) ≡ false → (list_any (same_name n) xs ≡ false) × (list_any (same_name n) ys ≡ false))
        → ((same_name n x || list_any (same_name n) xs) ≡ false) × (list_any (same_name n) ys ≡ false)
    go true same e rest = absurd (cc)
    go false same e rest =
        let more = rest (sym (ap (λ b. b || list_any (same_name n) (xs ++ ys)) same) ∙ e) in
        (ap (λ b. b || list_any (same_name n) xs) same ∙ more.0, more.1)

counts_by : (xs ys : List Name) → same_counts xs ys ≡ true → (n : Name) → agree xs ys n
counts_by xs ys e n = go (list_any (same_name n) (xs ++ ys)) refl
  where
    go : (b : Bool) → list_any (same_name n) (xs ++ ys) ≡ b → agree xs ys n
    go true there = same_nat_true (count_of n xs) (count_of n ys) (each_of (agrees xs ys) (xs ++ ys) e n (one_there n (xs ++ ys) there))
    go false none = let both = any_left n xs ys none in none_counted n xs both.0 ∙ sym (none_counted n ys both.1)

pub permutation_by : (xs ys : List Name) → same_counts xs ys ≡ true → IsPermutation xs ys
permutation_by xs ys e = permuted xs ys (counts_by xs ys e)

pub permutation_is : (xs ys : List Name) → IsPermutation xs ys → same_counts xs ys ≡ true
permutation_is xs ys is =
    of_each (agrees xs ys) (xs ++ ys)
    (λ n there. ap (λ k. nat_eq k (count_of n ys)) (sym (sum_by-IsPermutation (one_if n) xs ys is)) ∙ same_nat_refl (count_of n ys))

-- ---- entries of one block

alike_true : (d e : Entry) → d.from ≡ e.from → alike_with d e ≡ true → d ≡ e
alike_true d e same is =
    let froms : same_name d.from e.from ≡ true = ap (λ n. same_name d.from n) (sym same) ∙ same_name_refl d.from in
    let values : same_atom same_name d.value e.value ≡ true = sym (ap (λ b. not b || same_atom same_name d.value e.value) froms) ∙ is in
    let value : d.value ≡ e.value = same_name_atom_true d.value e.value values in
    let made : Atom Name → Name → Entry = λ v n. record { value = v; from = n } in
    subst (λ n. d ≡ made e.value n) same (ap (λ v. made v d.from) value)

alike_is : (d e : Entry) → (d.from ≡ e.from → d ≡ e) → alike_with d e ≡ true
alike_is d e is = go (same_name d.from e.from) refl
  where
    go : (b : Bool) → same_name d.from e.from ≡ b → alike_with d e ≡ true
    go false other = ap (λ b. not b || same_atom same_name d.value e.value) other
    go true same =
        let equal : d ≡ e = is (same_name_true d.from e.from same) in
        or_right (not (same_name d.from e.from)) (same_atom same_name d.value e.value)
        (subst (λ (x : Entry). same_atom same_name d.value x.value ≡ true) equal (same_name_atom_refl d.value))

pub alike_by : (es : List Entry) → are_alike es ≡ true → (d e : Entry) → Contains es d → Contains es e → d.from ≡ e.from → d ≡ e
alike_by es all d e there also same = alike_true d e same (each_of (alike_with d) es (each_of (λ (x : Entry). list_all (alike_with x) es) es all d there) e also)

pub are_alike_is : (es : List Entry) → ((d e : Entry) → Contains es d → Contains es e → d.from ≡ e.from → d ≡ e) → are_alike es ≡ true
are_alike_is es is =
    of_each (λ (d : Entry). list_all (alike_with d) es) es (λ d there. of_each (alike_with d) es (λ e also. alike_is d e (is d e there also)))

-- ---- phis

pub fits_edges_by : (f : Function) (b : Block) (p : Phi) → phi_fits (edges_into f b.name) p.entries ≡ true → FitsEdges f b p
fits_edges_by f b p e =
    let both = left_of (nat_lt 0 (length p.entries) && same_counts (edges_into f b.name) (froms_of p.entries)) (are_alike p.entries) e in
    record {
      some = ltb-true 0 (length p.entries) (left_of (nat_lt 0 (length p.entries)) (same_counts (edges_into f b.name) (froms_of p.entries)) both);
      edges = permutation_by (edges_into f b.name) (froms_of p.entries) (right_of (nat_lt 0 (length p.entries)) (same_counts (edges_into f b.name) (froms_of p.entries)) both);
      alike = alike_by p.entries (right_of (nat_lt 0 (length p.entries) && same_counts (edges_into f b.name) (froms_of p.entries)) (are_alike p.entries) e);
    }

pub fits_edges_is : (f : Function) (b : Block) (p : Phi) → FitsEdges f b p → phi_fits (edges_into f b.name) p.entries ≡ true
fits_edges_is f b p is =
    both_are (nat_lt 0 (length p.entries) && same_counts (edges_into f b.name) (froms_of p.entries)) (are_alike p.entries)
    (both_are (nat_lt 0 (length p.entries)) (same_counts (edges_into f b.name) (froms_of p.entries)) (lt-ltb 0 (length p.entries) is.some)
    (permutation_is (edges_into f b.name) (froms_of p.entries) is.edges))
    (are_alike_is p.entries is.alike)
