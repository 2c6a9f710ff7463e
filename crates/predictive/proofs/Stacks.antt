-- Rows of symbols put on the stack: what may be ahead after them, their trees, and how long it takes to open them.
use Rattle.std.proofs.Common.{◌≡◌, ◌<◌, ◌+◌, ℕ, zero, suc, Bool, true, false, ◌&&◌, ◌||◌, List, [], ◌∷◌, ◌++◌, refl, ap, sym, ◌∙◌, subst, append_assoc, cond, arith}
use Rattle.std.proofs.lemmas.Bool.{true≢false}
use Rattle.predictive.specs.declared.symbol.Symbol.{Symbol}
use Rattle.predictive.specs.declared.symbol.Symbol.TheVariants.{Kind, Non}
use Rattle.predictive.specs.declared.item.Item.{Item}
use Rattle.predictive.specs.declared.item.Item.TheVariants as item
use Rattle.predictive.specs.Grammar.{Grammar, Forest, End, Leaf, Node, Forms, yield, Derives, Begin, Shift, Reduce, events}
use Rattle.predictive.specs.Predictive.{Sets, nullable_row, first_row, select, IsFollowed, IsPredictive, RanksBelow, cost_row}
use Rattle.predictive.specs.Moves.{opened, wanted, acts}

pub wanted_opened : (row : List Symbol) (items : List Item) → wanted (opened row items) ≡ row ++ wanted items
wanted_opened [] items = refl
wanted_opened (Kind c ∷ row) items = ap (λ r. Kind c ∷ r) (wanted_opened row items)
wanted_opened (Non n ∷ row) items = ap (λ r. Non n ∷ r) (wanted_opened row items)

-- what may be ahead before two rows may be ahead before the first, where the second's beginning may follow it
weaker :
    (s : Sets) (row rest : List Symbol) (next wide : ℕ → Bool) → ((k : ℕ) → select s rest next k ≡ true → wide k ≡ true)
    → (k : ℕ) → select s (row ++ rest) next k ≡ true → select s row wide k ≡ true
weaker s [] rest next wide h k e = h k e
weaker s (Kind c ∷ row) rest next wide h k e = e
weaker s (Non n ∷ row) rest next wide h k e =
    go (s.first n k) (s.nullable n) (first_row s (row ++ rest) k) (nullable_row s (row ++ rest)) (next k) (first_row s row k) (nullable_row s row) (wide k) e (weaker s row rest next wide h k)
  where
    go : (first null a b c d f g : Bool) → ((first || (null && a)) || ((null && b) && c)) ≡ true → ((a || (b && c)) ≡ true → (d || (f && g)) ≡ true) → ((first || (null && d)) || ((null && f) && g)) ≡ true
    go true null a b c d f g e h = refl
    go false true a b c d f g e h = h e
    go false false a b c d f g e h = e

pub followed_row :
    (s : Sets) (row rest : List Symbol) (next wide : ℕ → Bool) → ((k : ℕ) → select s rest next k ≡ true → wide k ≡ true)
    → IsFollowed s row wide → IsFollowed s rest next → IsFollowed s (row ++ rest) next
followed_row s [] rest next wide h a b = b
followed_row s (Kind c ∷ row) rest next wide h a b = followed_row s row rest next wide h a b
followed_row s (Non n ∷ row) rest next wide h a b =
    (a.0, (λ k e. a.1 k (weaker s row rest next wide h k e)), followed_row s row rest next wide h a.2 b)

-- trees of what is put on the stack
pub record Parts (g : Grammar) (row : List Symbol) (items : List Item) (f : Forest) : Type 0 where
  pub kids : Forest
  pub rest : Forest
  pub formed : Forms g kids row
  pub others : Forms g rest (wanted items)
  pub yields : yield kids ++ yield rest ≡ yield f
  pub acted : acts (opened row items) f ≡ events kids ++ acts items rest

pub parted : (g : Grammar) (row : List Symbol) (items : List Item) (f : Forest) → Forms g f (wanted (opened row items)) → Parts g row items f
parted g [] items f formed = record { kids = End; rest = f; formed = tt; others = formed; yields = refl; acted = refl }
parted g (Kind c ∷ row) items End formed = absurd formed
parted g (Kind c ∷ row) items (Node p kids f) formed = absurd formed
parted g (Kind c ∷ row) items (Leaf k f) formed =
    let more = parted g row items f formed.1 in
    record {
      kids = Leaf k more.kids;
      rest = more.rest;
      formed = (formed.0, more.formed);
      others = more.others;
      yields = ap (λ l. k ∷ l) more.yields;
      acted = ap (λ es. Shift k ∷ es) more.acted;
    }
parted g (Non n ∷ row) items End formed = absurd formed
parted g (Non n ∷ row) items (Leaf k f) formed = absurd formed
parted g (Non n ∷ row) items (Node p kids f) formed =
    let more = parted g row items f formed.3 in
    record {
      kids = Node p kids more.kids;
      rest = more.rest;
      formed = (formed.0, formed.1, formed.2, more.formed);
      others = more.others;
      yields = append_assoc (yield kids) (yield more.kids) (yield more.rest) ∙ ap (λ l. yield kids ++ l) more.yields;
      acted =
          ap (λ es. Begin p ∷ (events kids ++ (Reduce p ∷ es))) more.acted
          ∙ ap (λ es. Begin p ∷ es) (sym (append_assoc (events kids) (Reduce p ∷ events more.kids) (acts items more.rest)));
    }

pub joined :
    (g : Grammar) (row : List Symbol) (items : List Item) (kids f : Forest) → Forms g kids row → Forms g f (wanted items)
    → Derives g (wanted (opened row items)) (yield kids ++ yield f)
joined g [] items End f a b = (f, b, refl)
joined g [] items (Leaf k kids) f a b = absurd a
joined g [] items (Node p kin kids) f a b = absurd a
joined g (Kind c ∷ row) items End f a b = absurd a
joined g (Kind c ∷ row) items (Node p kin kids) f a b = absurd a
joined g (Kind c ∷ row) items (Leaf k kids) f a b =
    let more = joined g row items kids f a.1 b in
    (Leaf k more.0, (a.0, more.1), ap (λ l. k ∷ l) more.2)
joined g (Non n ∷ row) items End f a b = absurd a
joined g (Non n ∷ row) items (Leaf k kids) f a b = absurd a
joined g (Non n ∷ row) items (Node p kin kids) f a b =
    let more = joined g row items kids f a.3 b in
    (Node p kin more.0, (a.0, a.1, a.2, more.1), ap (λ l. yield kin ++ l) more.2 ∙ sym (append_assoc (yield kin) (yield kids) (yield f)))

-- a nonterminal's shortest tree
Tree : Grammar → ℕ → Type 0
Tree g n = (p : ℕ) × (kids : Forest) × (p < g.count) × (g.left p ≡ n) × Forms g kids (g.right p)

row_of :
    (g : Grammar) (s : Sets) (bound : ℕ) → ((n : ℕ) → n < s.count → s.rank n < bound → Tree g n)
    → (row : List Symbol) → RanksBelow s row bound → (f : Forest) × Forms g f row
unfolding Tree
row_of g s bound each [] low = (End, tt)
row_of g s bound each (Kind c ∷ row) low = let more = row_of g s bound each row low in (Leaf c more.0, (refl, more.1))
row_of g s bound each (Non n ∷ row) low =
    let more = row_of g s bound each row low.2 in
    let tree = each n low.0 low.1 in
    (Node tree.0 tree.1 more.0, (tree.2, tree.3, tree.4, more.1))

tree_of : (g : Grammar) (s : Sets) → IsPredictive g s → (bound : ℕ) (n : ℕ) → n < s.count → s.rank n < bound → Tree g n
unfolding Tree
tree_of g s is zero n h low = absurd (omega arith)
tree_of g s is (suc bound) n h low =
    let short = is.shortest n h in
    let kids = row_of g s (s.rank n) (λ m k lower. tree_of g s is bound m k (omega arith)) (g.right (s.shortest n)) short.2 in
    (s.shortest n, kids.0, short.0, short.1, kids.1)

-- what is followed is something
pub some_trees : (g : Grammar) (s : Sets) → IsPredictive g s → (row : List Symbol) (next : ℕ → Bool) → IsFollowed s row next → (f : Forest) × Forms g f row
unfolding Tree
some_trees g s is [] next a = (End, tt)
some_trees g s is (Kind c ∷ row) next a = let more = some_trees g s is row next a in (Leaf c more.0, (refl, more.1))
some_trees g s is (Non n ∷ row) next a =
    let more = some_trees g s is row next a.2 in
    let tree = tree_of g s is (suc (s.rank n)) n a.0 (omega arith) in
    (Node tree.0 tree.1 more.0, (tree.2, tree.3, tree.4, more.1))

-- the moves that are left before the next token
abbrev pub moves_left : Sets → List Item → ℕ
moves_left s [] = 0
moves_left s (item.Done p ∷ items) = suc (moves_left s items)
moves_left s (item.Kind c ∷ items) = 0
moves_left s (item.Non n ∷ items) = s.cost n + cond (s.nullable n) (moves_left s items) 0

moves_row : (s : Sets) (row : List Symbol) (items : List Item) → moves_left s (opened row items) ≡ cost_row s row + cond (nullable_row s row) (moves_left s items) 0
moves_row s [] items = omega arith
moves_row s (Kind c ∷ row) items = omega arith
moves_row s (Non n ∷ row) items =
    go (s.nullable n) (nullable_row s row) (moves_left s (opened row items)) (cost_row s row) (moves_left s items) (moves_row s row items)
  where
    go : (null others : Bool) (a b c : ℕ) → a ≡ b + cond others c 0 → s.cost n + cond null a 0 ≡ (s.cost n + cond null b 0) + cond (null && others) c 0
    go true others a b c e = omega arith
    go false others a b c e = omega arith

pub opens_down :
    (g : Grammar) (s : Sets) → IsPredictive g s → (p n : ℕ) → p < g.count → g.left p ≡ n → (items : List Item)
    → moves_left s (opened (g.right p) (item.Done p ∷ items)) < moves_left s (item.Non n ∷ items)
opens_down g s is p n h e items =
    let cost : suc (cost_row s (g.right p)) < s.cost n = subst (λ m. suc (cost_row s (g.right p)) < s.cost m) e (is.cost p h) in
    let null = subst (λ m. nullable_row s (g.right p) ≡ true → s.nullable m ≡ true) e (is.nullable p h) in
    let moves = moves_row s (g.right p) (item.Done p ∷ items) in
    go (nullable_row s (g.right p)) (s.nullable n) (moves_left s (opened (g.right p) (item.Done p ∷ items))) null moves cost
  where
    go : (a b : Bool) (m : ℕ) → (a ≡ true → b ≡ true) → m ≡ cost_row s (g.right p) + cond a (suc (moves_left s items)) 0 → suc (cost_row s (g.right p)) < s.cost n → m < s.cost n + cond b (moves_left s items) 0
    go true true m null e c = omega arith
    go true false m null e c = absurd (true≢false (sym (null refl)))
    go false true m null e c = omega arith
    go false false m null e c = omega arith
