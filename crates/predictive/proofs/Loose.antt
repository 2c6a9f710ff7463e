-- The rules of fillings leave the stack as it was.
use Rattle.std.proofs.Common.{◌≡◌, ◌<◌, ◌≤◌, ℕ, Bool, true, false, nat_lt, List, [], ◌∷◌, ◌++◌, map, refl, ap, sym, ◌∙◌, append_assoc, subst, arith}
use Rattle.std.proofs.lemmas.Bool.{ltb-true, ltb-false}
use Rattle.predictive.specs.Grammar.{Forest, End, Leaf, Node, Forms, yield, after_trees}
use Rattle.predictive.specs.declared.symbol.Symbol.{Symbol}
use Rattle.predictive.specs.declared.symbol.Symbol.TheVariants.{Kind, Non}
use Rattle.predictive.proofs.Sound.{divided}
use Rattle.predictive.specs.Meaning.{Meaning, EachOf, State, begun, shifted, IsLawful}
use Rattle.predictive.specs.Gapped.{Gapped, IsGapped, IsLoose, pushed, reduced}

module _ (m : Meaning) (lawful : IsLawful m) (x : Gapped m) (is : IsGapped m x) where
  abbrev pub state : List m.Token → List m.Part → State m
  state ts ps = record { tokens = ts; parts = ps }

  abbrev pub run : Forest → State m → State m
  run f s = after_trees (begun m) (shifted m) (reduced m x) f s

  abbrev pub drop_rule : ℕ → State m → State m
  drop_rule p s = reduced m x s p

  -- a rule is of fillings where its nonterminal is
  pub outside : (p : ℕ) → p < x.grammar.count → (n : ℕ) → x.grammar.left p ≡ n → x.non ≤ n → m.grammar.count ≤ p
  outside p h n e above = go (nat_lt p m.grammar.count) refl
    where
      go : (b : Bool) → nat_lt p m.grammar.count ≡ b → m.grammar.count ≤ p
      go true below =
          let i : p < m.grammar.count = ltb-true p m.grammar.count below in
          let same : m.grammar.left p ≡ n = sym (is.left p i) ∙ e in
          let small : m.grammar.left p < x.non = is.typed_left p i in
          absurd (omega (arith, same, small, above))
      go false above = ltb-false p m.grammar.count above

  pub inside : (p : ℕ) → p < x.grammar.count → (n : ℕ) → x.grammar.left p ≡ n → n < x.non → p < m.grammar.count
  inside p h n e small = go (nat_lt p m.grammar.count) refl
    where
      go : (b : Bool) → nat_lt p m.grammar.count ≡ b → p < m.grammar.count
      go true below = ltb-true p m.grammar.count below
      go false above =
          let large : x.non ≤ x.grammar.left p = is.loose_left p (ltb-false p m.grammar.count above) h in
          absurd (omega (arith, e, small, large))

  abbrev pub LeavesAll : Forest → (s : List Symbol) → List m.Token → Type 0
  LeavesAll f s ts =
      (vs : EachOf m.Content (λ n. Unit {0}) s)
      × ((rest : List m.Token) (below : List m.Part) → run f (state (ts ++ rest) below) ≡ state rest (pushed m s vs below))

  with_token :
      (k c : ℕ) (f : Forest) (s : List Symbol) (t : m.Token) (ts : List m.Token) → m.kind_of t ≡ c → LeavesAll f s ts
      → LeavesAll (Leaf k f) (Kind c ∷ s) (t ∷ ts)
  with_token k c f s t ts e r =
      let content : (y : m.Content c) × (m.token c y ≡ t) = subst (λ j. (y : m.Content j) × (m.token j y ≡ t)) e (lawful.content t) in (
        (content.0, r.0),
        λ rest below. r.1 rest (m.kept t below) ∙ ap (λ u. state rest (pushed m s r.0 (m.kept u below))) (sym content.1),
      )

  pub loose : (f : Forest) (s : List Symbol) → IsLoose x.non s → Forms x.grammar f s → (ts : List m.Token) → map m.kind_of ts ≡ yield f → LeavesAll f s ts
  loose End [] l formed [] e = (tt, λ rest below. refl)
  loose End [] l formed (t ∷ ts) e = cc
  loose (Leaf k f) (Kind c ∷ s) l formed [] e = cc
  loose (Leaf k f) (Kind c ∷ s) l formed (t ∷ ts) e =
      let at : m.kind_of t ≡ k = cc in
      let more : map m.kind_of ts ≡ yield f = cc in
      with_token k c f s t ts (at ∙ sym formed.0) (loose f s l formed.1 ts more)
  loose (Node p kids f) (Non n ∷ s) l formed ts e =
      let out : m.grammar.count ≤ p = outside p formed.0 n formed.1 l.0 in
      let parts = divided m.kind_of (yield kids) (yield f) ts e in
      let inner = loose kids (x.grammar.right p) (is.loose p out formed.0) formed.2 parts.0 parts.3 in
      let outer = loose f s l.1 formed.3 parts.1 parts.4 in
      subst (λ ts. LeavesAll (Node p kids f) (Non n ∷ s) ts) parts.2 (
        (tt, outer.0),
        λ rest below.
            ap (λ l. run f (drop_rule p (run kids (state l below)))) (append_assoc parts.0 parts.1 rest)
            ∙ ap (λ st. run f (drop_rule p st)) (inner.1 (parts.1 ++ rest) below)
            ∙ ap (λ ps. run f (state (parts.1 ++ rest) ps)) (is.drops p out formed.0 inner.0 below)
            ∙ outer.1 rest below,
      )
  loose End (y ∷ s) l formed ts e = absurd formed
  loose (Leaf k f) [] l formed ts e = absurd formed
  loose (Leaf k f) (Non n ∷ s) l formed ts e = absurd formed
  loose (Node p kids f) [] l formed ts e = absurd formed
  loose (Node p kids f) (Kind c ∷ s) l formed ts e = absurd formed

  -- a tree of the gap's nonterminal leaves the stack as it was
  pub filled :
      (p : ℕ) (kids : Forest) → p < x.grammar.count → x.grammar.left p ≡ x.non → Forms x.grammar kids (x.grammar.right p)
      → (ts : List m.Token) → map m.kind_of ts ≡ yield kids
      → (rest : List m.Token) (below : List m.Part) → drop_rule p (run kids (state (ts ++ rest) below)) ≡ state rest below
  filled p kids h e formed ts kinds rest below =
      let out : m.grammar.count ≤ p = outside p h x.non e (grind arith) in
      let inner = loose kids (x.grammar.right p) (is.loose p out h) formed ts kinds in
      ap (λ st. drop_rule p st) (inner.1 rest below) ∙ ap (λ ps. state rest ps) (is.drops p out h inner.0 below)
