-- Rows of symbols, one behind the other: what may be ahead after them, their trees, and how many rules are opened before a token. The
-- lemmas of `Decision` stand here and in `Openings`, since what it defines is made of them.
use Rattle.std.proofs.Common.{◌≡◌, ◌<◌, ◌+◌, ℕ, zero, suc, Bool, true, false, ◌&&◌, ◌||◌, List, [], ◌∷◌, ◌++◌, refl, ap, sym, ◌∙◌, subst, append_assoc, cond, arith}
use Rattle.std.proofs.lemmas.Bool.{true≢false}
use Rattle.predictive.specs.declared.symbol.Symbol.{Symbol}
use Rattle.predictive.specs.declared.symbol.Symbol.TheVariants.{Kind, Non}
use Rattle.predictive.specs.Grammar.{Grammar, Forest, End, Leaf, Node, Forms, yield, Derives}
use Rattle.predictive.specs.Predictive.{Sets, nullable_row, first_row, select, IsFollowed, IsPredictive, RanksBelow, cost_row}

-- what may be ahead before two rows may be ahead before the first, where the second's beginning may follow it
weaker :
    (s : Sets) (row rest : List Symbol) (next wide : ℕ → Bool) → ((k : ℕ) → select s rest next k ≡ true → wide k ≡ true)
    → (k : ℕ) → select s (row ++ rest) next k ≡ true → select s row wide k ≡ true
weaker s [] rest next wide h k e = h k e
weaker s (Kind c ∷ row) rest next wide h k e = e
weaker s (Non n ∷ row) rest next wide h k e =
    go (s.first n k) (s.nullable n) (first_row s (row ++ rest) k) (nullable_row s (row ++ rest)) (next k) (first_row s row k) (nullable_row s row) (wide k) e (weaker s row rest next wide h k)
  where
    go : (first null a b c d f g : Bool) → ((first || (null && a)) || ((null && b) && c)) ≡ true → ((a || (b && c)) ≡ true → (d || (f && g)) ≡ true) → ((first || (null && d)) || ((null && f) && g)) ≡ true
    go true null a b c d f g e h = refl
    go false true a b c d f g e h = h e
    go false false a b c d f g e h = e

pub followed_row :
    (s : Sets) (row rest : List Symbol) (next wide : ℕ → Bool) → ((k : ℕ) → select s rest next k ≡ true → wide k ≡ true)
    → IsFollowed s row wide → IsFollowed s rest next → IsFollowed s (row ++ rest) next
followed_row s [] rest next wide h a b = b
followed_row s (Kind c ∷ row) rest next wide h a b = followed_row s row rest next wide h a b
followed_row s (Non n ∷ row) rest next wide h a b =
    (a.0, (λ k e. a.1 k (weaker s row rest next wide h k e)), followed_row s row rest next wide h a.2 b)

-- trees of two rows are trees of the first, and then trees of the second
abbrev pub Parts : Grammar → List Symbol → List Symbol → List ℕ → Type 0
Parts g row rest ks = (kids : Forest) × (others : Forest) × Forms g kids row × Forms g others rest × (yield kids ++ yield others ≡ ks)

abbrev pub parted : (g : Grammar) (row rest : List Symbol) (f : Forest) → Forms g f (row ++ rest) → Parts g row rest (yield f)
parted g [] rest f formed = (End, f, tt, formed, refl)
parted g (Kind c ∷ row) rest End formed = absurd formed
parted g (Kind c ∷ row) rest (Node p kids f) formed = absurd formed
parted g (Kind c ∷ row) rest (Leaf k f) formed =
    let more = parted g row rest f formed.1 in
    (Leaf k more.0, more.1, (formed.0, more.2), more.3, ap (λ l. k ∷ l) more.4)
parted g (Non n ∷ row) rest End formed = absurd formed
parted g (Non n ∷ row) rest (Leaf k f) formed = absurd formed
parted g (Non n ∷ row) rest (Node p kids f) formed =
    let more = parted g row rest f formed.3 in (
      Node p kids more.0,
      more.1,
      (formed.0, formed.1, formed.2, more.2),
      more.3,
      append_assoc (yield kids) (yield more.0) (yield more.1) ∙ ap (λ l. yield kids ++ l) more.4,
    )

pub joined :
    (g : Grammar) (row rest : List Symbol) (kids f : Forest) → Forms g kids row → Forms g f rest → Derives g (row ++ rest) (yield kids ++ yield f)
joined g [] rest End f a b = (f, b, refl)
joined g [] rest (Leaf k kids) f a b = absurd a
joined g [] rest (Node p kin kids) f a b = absurd a
joined g (Kind c ∷ row) rest End f a b = absurd a
joined g (Kind c ∷ row) rest (Node p kin kids) f a b = absurd a
joined g (Kind c ∷ row) rest (Leaf k kids) f a b =
    let more = joined g row rest kids f a.1 b in
    (Leaf k more.0, (a.0, more.1), ap (λ l. k ∷ l) more.2)
joined g (Non n ∷ row) rest End f a b = absurd a
joined g (Non n ∷ row) rest (Leaf k kids) f a b = absurd a
joined g (Non n ∷ row) rest (Node p kin kids) f a b =
    let more = joined g row rest kids f a.3 b in
    (Node p kin more.0, (a.0, a.1, a.2, more.1), ap (λ l. yield kin ++ l) more.2 ∙ sym (append_assoc (yield kin) (yield kids) (yield f)))

-- a nonterminal's shortest tree
Tree : Grammar → ℕ → Type 0
Tree g n = (p : ℕ) × (kids : Forest) × (p < g.count) × (g.left p ≡ n) × Forms g kids (g.right p)

row_of :
    (g : Grammar) (s : Sets) (bound : ℕ) → ((n : ℕ) → n < s.count → s.rank n < bound → Tree g n)
    → (row : List Symbol) → RanksBelow s row bound → (f : Forest) × Forms g f row
unfolding Tree
row_of g s bound each [] low = (End, tt)
row_of g s bound each (Kind c ∷ row) low = let more = row_of g s bound each row low in (Leaf c more.0, (refl, more.1))
row_of g s bound each (Non n ∷ row) low =
    let more = row_of g s bound each row low.2 in
    let tree = each n low.0 low.1 in
    (Node tree.0 tree.1 more.0, (tree.2, tree.3, tree.4, more.1))

tree_of : (g : Grammar) (s : Sets) → IsPredictive g s → (bound : ℕ) (n : ℕ) → n < s.count → s.rank n < bound → Tree g n
unfolding Tree
tree_of g s is zero n h low = absurd (omega arith)
tree_of g s is (suc bound) n h low =
    let short = is.shortest n h in
    let kids = row_of g s (s.rank n) (λ m k lower. tree_of g s is bound m k (omega arith)) (g.right (s.shortest n)) short.2 in
    (s.shortest n, kids.0, short.0, short.1, kids.1)

-- what is followed is something
pub some_trees : (g : Grammar) (s : Sets) → IsPredictive g s → (row : List Symbol) (next : ℕ → Bool) → IsFollowed s row next → (f : Forest) × Forms g f row
unfolding Tree
some_trees g s is [] next a = (End, tt)
some_trees g s is (Kind c ∷ row) next a = let more = some_trees g s is row next a in (Leaf c more.0, (refl, more.1))
some_trees g s is (Non n ∷ row) next a =
    let more = some_trees g s is row next a.2 in
    let tree = tree_of g s is (suc (s.rank n)) n a.0 (omega arith) in
    (Node tree.0 tree.1 more.0, (tree.2, tree.3, tree.4, more.1))

cost_joined : (s : Sets) (row rest : List Symbol) → cost_row s (row ++ rest) ≡ cost_row s row + cond (nullable_row s row) (cost_row s rest) 0
cost_joined s [] rest = omega arith
cost_joined s (Kind c ∷ row) rest = omega arith
cost_joined s (Non n ∷ row) rest =
    go (s.nullable n) (nullable_row s row) (cost_row s (row ++ rest)) (cost_row s row) (cost_row s rest) (cost_joined s row rest)
  where
    go : (null others : Bool) (a b c : ℕ) → a ≡ b + cond others c 0 → s.cost n + cond null a 0 ≡ (s.cost n + cond null b 0) + cond (null && others) c 0
    go true others a b c e = omega arith
    go false others a b c e = omega arith

-- fewer rules are left to be opened, once one is
pub opens_down :
    (g : Grammar) (s : Sets) → IsPredictive g s → (p n : ℕ) → p < g.count → g.left p ≡ n → (rest : List Symbol)
    → cost_row s (g.right p ++ rest) < cost_row s (Non n ∷ rest)
opens_down g s is p n h e rest =
    let cost : suc (cost_row s (g.right p)) < s.cost n = subst (λ m. suc (cost_row s (g.right p)) < s.cost m) e (is.cost p h) in
    let null = subst (λ m. nullable_row s (g.right p) ≡ true → s.nullable m ≡ true) e (is.nullable p h) in
    go (nullable_row s (g.right p)) (s.nullable n) (cost_row s (g.right p ++ rest)) null (cost_joined s (g.right p) rest) cost
  where
    go : (a b : Bool) (m : ℕ) → (a ≡ true → b ≡ true) → m ≡ cost_row s (g.right p) + cond a (cost_row s rest) 0 → suc (cost_row s (g.right p)) < s.cost n → m < s.cost n + cond b (cost_row s rest) 0
    go true true m null e c = omega arith
    go true false m null e c = absurd (true≢false (sym (null refl)))
    go false true m null e c = omega arith
    go false false m null e c = omega arith
