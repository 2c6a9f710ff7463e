-- A derivation reads values in which so many lines stand as begin in it.
use Rattle.std.proofs.Common.{◌≡◌, ◌<◌, ◌≤◌, ◌+◌, ℕ, Bool, true, false, nat_eq, nat_lt, List, [], ◌∷◌, ◌++◌, map, refl, ap, sym, ◌∙◌, append_assoc, subst, arith}
use Rattle.std.proofs.lemmas.Bool.{ltb-true, ltb-false}
use Rattle.std.proofs.lemmas.List.{append-nil}
use Rattle.predictive.specs.Gapped.{Gapped, IsGapped, IsLoose, IsTyped, opened, opened_kind, reduced}
use Rattle.predictive.proofs.GapSound.{reads}
use Rattle.module_spelling.specs.Opened.{lines_at, lines_in}
use Rattle.predictive.specs.Grammar.{Forest, End, Leaf, Node, Forms, yield, after_trees}
use Rattle.predictive.specs.declared.symbol.Symbol.{Symbol}
use Rattle.predictive.specs.declared.symbol.Symbol.TheVariants.{Kind, Non}
use Rattle.predictive.proofs.Sound.{divided}
use Rattle.predictive.specs.Meaning.{Meaning, Each, IsLawful, State, begun, onto, shifted}

-- how much stands in one of each symbol
abbrev pub sum_each : (m : Meaning) → ((n : ℕ) → m.Value n → ℕ) → (s : List Symbol) → Each m s → ℕ
sum_each m W [] vs = 0
sum_each m W (Kind k ∷ s) vs = sum_each m W s vs.1
sum_each m W (Non n ∷ s) vs = W n vs.0 + sum_each m W s vs.1

-- a rule makes one value, in which its own line stands beside those of its right side
abbrev pub Adds : (m : Meaning) → ((n : ℕ) → m.Value n → ℕ) → ℕ → Type 0
Adds m W p =
    (vs : Each m (m.grammar.right p))
    → (v : m.Value (m.grammar.left p))
    × ((below : List m.Part) → m.act p (onto m (m.grammar.right p) vs below) ≡ m.part (m.grammar.left p) v ∷ below)
    × (W (m.grammar.left p) v ≡ lines_at p + sum_each m W (m.grammar.right p) vs)

module _ (m : Meaning) (lawful : IsLawful m) (x : Gapped m) (is : IsGapped m x) (W : (n : ℕ) → m.Value n → ℕ) where
  abbrev state : List m.Token → List m.Part → State m
  state ts ps = record { tokens = ts; parts = ps }

  abbrev pub run : Forest → State m → State m
  run f s = after_trees (begun m) (shifted m) (reduced m x) f s

  outside : (p : ℕ) → p < x.grammar.count → x.non ≤ x.grammar.left p → m.grammar.count ≤ p
  outside p h above = go (nat_lt p m.grammar.count) refl
    where
      go : (b : Bool) → nat_lt p m.grammar.count ≡ b → m.grammar.count ≤ p
      go true below =
          let i : p < m.grammar.count = ltb-true p m.grammar.count below in
          let same : x.grammar.left p ≡ m.grammar.left p = is.left p i in
          let small : m.grammar.left p < x.non = is.typed_left p i in
          absurd (omega (arith, same, small, above))
      go false above = ltb-false p m.grammar.count above

  pub inside : (p : ℕ) → p < x.grammar.count → (n : ℕ) → x.grammar.left p ≡ n → n < x.non → p < m.grammar.count
  inside p h n e small = go (nat_lt p m.grammar.count) refl
    where
      go : (b : Bool) → nat_lt p m.grammar.count ≡ b → p < m.grammar.count
      go true below = ltb-true p m.grammar.count below
      go false above =
          let large : x.non ≤ x.grammar.left p = is.loose_left p (ltb-false p m.grammar.count above) h in
          absurd (omega (arith, e, small, large))

  -- values are read, and the lines in them are those that begin
  pub record Counted (f : Forest) (s : List Symbol) (ts : List m.Token) : Type 0 where
    pub values : Each m s
    pub runs :
        (rest : List m.Token) (below : List m.Part)
        → run f (record { tokens = ts ++ rest; parts = below }) ≡ record { tokens = rest; parts = onto m s values below }
    pub count : lines_in f ≡ sum_each m W s values

  module _ (bare : (p : ℕ) → p < x.grammar.count → x.non ≤ x.grammar.left p → lines_at p ≡ 0) where
    -- no line begins in text that isn't kept
    none_in : (f : Forest) (s : List Symbol) → IsLoose x.non s → Forms x.grammar f s → lines_in f ≡ 0
    none_in End s l formed = refl
    none_in (Leaf k f) (Kind c ∷ s) l formed = none_in f s l formed.1
    none_in (Node p kids f) (Non n ∷ s) l formed =
        let left : x.non ≤ x.grammar.left p = subst (λ j. x.non ≤ j) (sym formed.1) l.0 in
        let none = bare p formed.0 left in
        let inner = none_in kids (x.grammar.right p) (is.loose p (outside p formed.0 left) formed.0) formed.2 in
        let outer = none_in f s l.1 formed.3 in
        omega (arith, none, inner, outer)
    none_in (Leaf k f) [] l formed = absurd formed
    none_in (Leaf k f) (Non n ∷ s) l formed = absurd formed
    none_in (Node p kids f) [] l formed = absurd formed
    none_in (Node p kids f) (Kind c ∷ s) l formed = absurd formed

    leaf_formed :
        (b : Bool) (k c : ℕ) (f : Forest) (s : List Symbol) → Forms x.grammar (Leaf k f) (opened_kind b c x.non ∷ s)
        → (c ≡ k) × Forms x.grammar f s
    leaf_formed true k c f s formed = absurd formed
    leaf_formed false k c f s formed = formed

    with_token :
        (k c : ℕ) (f : Forest) (s : List Symbol) (t : m.Token) (ts : List m.Token) → m.kind_of t ≡ c → Counted f s ts → Counted (Leaf k f) (Kind c ∷ s) (t ∷ ts)
    with_token k c f s t ts e r =
        let content : (y : m.Content c) × (m.token c y ≡ t) = subst (λ j. (y : m.Content j) × (m.token j y ≡ t)) e (lawful.content t) in
        record {
          values = (content.0, r.values);
          runs = λ rest below.
              r.runs rest (m.kept t below) ∙ ap (λ u. state rest (onto m s r.values (m.kept u below))) (sym content.1);
          count = r.count;
        }

    -- a tree of the gap's nonterminal
    record OneGap (p c : ℕ) (kids : Forest) : Type 0 where
      pub gap : nat_eq c x.kind ≡ true
      pub inside : p < x.grammar.count
      pub left : x.grammar.left p ≡ x.non
      pub formed : Forms x.grammar kids (x.grammar.right p)

    gap_formed :
        (b : Bool) (p c : ℕ) (kids f : Forest) (s : List Symbol) → nat_eq c x.kind ≡ b → Forms x.grammar (Node p kids f) (opened_kind b c x.non ∷ s)
        → OneGap p c kids × Forms x.grammar f s
    gap_formed true p c kids f s e formed = (record { gap = e; inside = formed.0; left = formed.1; formed = formed.2 }, formed.3)
    gap_formed false p c kids f s e formed = absurd formed

    alone_formed : (b : Bool) (p c : ℕ) (kids : Forest) → b ≡ true → p < x.grammar.count → x.grammar.left p ≡ x.non → Forms x.grammar kids (x.grammar.right p) → Forms x.grammar (Node p kids End) (opened_kind b c x.non ∷ [])
    alone_formed true p c kids e h left formed = (h, left, formed, tt)
    alone_formed false p c kids e h left formed = cc

    with_gap :
        (p c : ℕ) (kids f : Forest) (s : List Symbol) (ts us : List m.Token) → OneGap p c kids → map m.kind_of ts ≡ yield kids → Counted f s us
        → Counted (Node p kids f) (Kind c ∷ s) (ts ++ us)
    with_gap p c kids f s ts us g e r =
        let alone = reads m lawful x is (Node p kids End) (Kind c ∷ []) tt (alone_formed (nat_eq c x.kind) p c kids g.gap g.inside g.left g.formed) ts (e ∙ sym (append-nil (yield kids))) in
        let above : x.non ≤ x.grammar.left p = omega (arith, g.left) in
        let none = bare p g.inside above in
        let inner = none_in kids (x.grammar.right p) (is.loose p (outside p g.inside above) g.inside) g.formed in
        record {
          values = (alone.0.0, r.values);
          runs = λ rest below.
              ap (λ l. run f (run (Node p kids End) (state l below))) (append_assoc ts us rest)
              ∙ ap (λ st. run f st) (alone.2 (us ++ rest) below)
              ∙ ap (λ ps. run f (state (us ++ rest) ps)) (is.says_nothing c g.gap alone.0.0 below)
              ∙ r.runs rest below
              ∙ ap (λ ps. state rest (onto m s r.values ps)) (sym (is.says_nothing c g.gap alone.0.0 below));
          count = more (lines_at p) (lines_in kids) (lines_in f) (sum_each m W s r.values) none inner r.count;
        }
      where
        more : (a b c d : ℕ) → a ≡ 0 → b ≡ 0 → c ≡ d → a + b + c ≡ d
        more a b c d e f g = omega arith

    module _ (adds : (p : ℕ) → p < m.grammar.count → Adds m W p) where
      with_node :
          (p : ℕ) → p < m.grammar.count → (kids f : Forest) (s : List Symbol) (ts us : List m.Token)
          → Counted kids (m.grammar.right p) ts → Counted f s us → Counted (Node p kids f) (Non (m.grammar.left p) ∷ s) (ts ++ us)
      with_node p h kids f s ts us inner outer =
          let v = adds p h inner.values in
          record {
            values = (v.0, outer.values);
            runs = λ rest below.
                ap (λ l. run f (reduced m x (run kids (state l below)) p)) (append_assoc ts us rest)
                ∙ ap (λ (st : State m). run f (reduced m x st p)) (inner.runs (us ++ rest) below)
                ∙ ap (λ ps. run f (state (us ++ rest) ps)) (is.act p h (onto m (m.grammar.right p) inner.values below) ∙ v.1 below)
                ∙ outer.runs rest (m.part (m.grammar.left p) v.0 ∷ below);
            count = more (lines_at p) (lines_in kids) (lines_in f) (sum_each m W (m.grammar.right p) inner.values) (sum_each m W s outer.values) (W (m.grammar.left p) v.0) inner.count outer.count v.2;
          }
        where
          more : (a b c d e w : ℕ) → b ≡ d → c ≡ e → w ≡ a + d → a + b + c ≡ w + e
          more a b c d e w f g h = omega arith

      pub counted :
          (f : Forest) (s : List Symbol) → IsTyped x.non s → Forms x.grammar f (opened x.kind x.non s) → (ts : List m.Token) → map m.kind_of ts ≡ yield f
          → Counted f s ts
      counted End [] t formed [] e = record { values = tt; runs = λ rest below. refl; count = refl }
      counted End [] t formed (u ∷ ts) e = cc
      counted (Leaf k f) (Kind c ∷ s) t formed [] e = cc
      counted (Leaf k f) (Kind c ∷ s) t formed (u ∷ ts) e =
          let at : m.kind_of u ≡ k = cc in
          let more : map m.kind_of ts ≡ yield f = cc in
          let parts = leaf_formed (nat_eq c x.kind) k c f (opened x.kind x.non s) formed in
          with_token k c f s u ts (at ∙ sym parts.0) (counted f s t parts.1 ts more)
      counted (Node p kids f) (Kind c ∷ s) t formed ts e =
          let parts = divided m.kind_of (yield kids) (yield f) ts e in
          let g = gap_formed (nat_eq c x.kind) p c kids f (opened x.kind x.non s) refl formed in
          subst (λ ts. Counted (Node p kids f) (Kind c ∷ s) ts) parts.2
          (with_gap p c kids f s parts.0 parts.1 g.0 parts.3 (counted f s t g.1 parts.1 parts.4))
      counted (Node p kids f) (Non n ∷ s) t formed ts e =
          let h : p < m.grammar.count = inside p formed.0 n formed.1 t.0 in
          let parts = divided m.kind_of (yield kids) (yield f) ts e in
          let inner : Forms x.grammar kids (opened x.kind x.non (m.grammar.right p)) = subst (λ r. Forms x.grammar kids r) (is.right p h) formed.2 in
          let both = with_node p h kids f s parts.0 parts.1
          (counted kids (m.grammar.right p) (is.typed p h) inner parts.0 parts.3)
          (counted f s t.1 formed.3 parts.1 parts.4) in
          subst (λ ts. Counted (Node p kids f) (Non n ∷ s) ts) parts.2
          (subst (λ j. Counted (Node p kids f) (Non j ∷ s) (parts.0 ++ parts.1)) (sym (is.left p h) ∙ formed.1) both)
      counted End (Kind c ∷ s) t formed ts e = absurd formed
      counted End (Non n ∷ s) t formed ts e = absurd formed
      counted (Leaf k f) [] t formed ts e = absurd formed
      counted (Leaf k f) (Non n ∷ s) t formed ts e = absurd formed
      counted (Node p kids f) [] t formed ts e = absurd formed
