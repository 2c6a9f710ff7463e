-- A forest whose leaves are these tokens reads one value for each symbol, and the tokens are what is written of the values.
use Rattle.std.proofs.Common.{◌≡◌, ◌<◌, ℕ, Bool, true, false, nat_eq, List, [], ◌∷◌, ◌++◌, map, refl, ap, sym, ◌∙◌, append_assoc, subst}
use Rattle.std.proofs.lemmas.List.{append-nil}
use Rattle.predictive.specs.Grammar.{Forest, End, Leaf, Node, Forms, yield, Derives}
use Rattle.predictive.specs.declared.symbol.Symbol.{Symbol}
use Rattle.predictive.specs.declared.symbol.Symbol.TheVariants.{Kind, Non}
use Rattle.predictive.proofs.Sound.{divided, joined_is}
use Rattle.predictive.specs.Meaning.{Meaning, Each, row, onto, State, Law, IsLawful}
use Rattle.predictive.specs.Gapped.{Gapped, IsGapped, IsTyped, Writes, is_gap, opened, opened_kind}
use Rattle.predictive.proofs.Loose as loose
use Rattle.predictive.proofs.Splitting.{both, by_filling, by_itself}

module _ (m : Meaning) (lawful : IsLawful m) (x : Gapped m) (is : IsGapped m x) where
  abbrev state : List m.Token → List m.Part → State m
  state ts ps = record { tokens = ts; parts = ps }

  abbrev run : Forest → State m → State m
  run f s = loose.run m lawful x is f s

  abbrev pub Reads : Forest → List Symbol → List m.Token → Type 0
  Reads f s ts =
      (vs : Each m s)
      × Writes m x (row m s vs) ts
      × ((rest : List m.Token) (below : List m.Part)
      → loose.run m lawful x is f (record { tokens = ts ++ rest; parts = below }) ≡ record { tokens = rest; parts = onto m s vs below })

  leaf_formed :
      (b : Bool) (k c : ℕ) (f : Forest) (s : List Symbol) → Forms x.grammar (Leaf k f) (opened_kind b c x.non ∷ s)
      → (b ≡ false) × (c ≡ k) × Forms x.grammar f s
  leaf_formed true k c f s formed = absurd formed
  leaf_formed false k c f s formed = (refl, formed.0, formed.1)

  node_formed :
      (b : Bool) (p c : ℕ) (kids f : Forest) (s : List Symbol) → Forms x.grammar (Node p kids f) (opened_kind b c x.non ∷ s)
      → (b ≡ true) × (p < x.grammar.count) × (x.grammar.left p ≡ x.non) × Forms x.grammar kids (x.grammar.right p) × Forms x.grammar f s
  node_formed true p c kids f s formed = (refl, formed.0, formed.1, formed.2, formed.3)
  node_formed false p c kids f s formed = absurd formed

  -- a kind's token is a gap where the kind is
  gap_is : (c : ℕ) (y : m.Content c) (b : Bool) → nat_eq c x.kind ≡ b → is_gap m x (m.token c y) ≡ b
  gap_is c y b e = ap (λ k. nat_eq k x.kind) (lawful.kind c y) ∙ e

  with_token :
      (k c : ℕ) (f : Forest) (s : List Symbol) (t : m.Token) (ts : List m.Token) → nat_eq c x.kind ≡ false → m.kind_of t ≡ c
      → Reads f s ts → Reads (Leaf k f) (Kind c ∷ s) (t ∷ ts)
  with_token k c f s t ts other e r =
      let content : (y : m.Content c) × (m.token c y ≡ t) = subst (λ j. (y : m.Content j) × (m.token j y ≡ t)) e (lawful.content t) in (
        (content.0, r.0),
        by_itself (is_gap m x) x.Fit (is_gap m x (m.token c content.0)) (m.token c content.0) t (Writes m x (row m s r.0)) ts
            (gap_is c content.0 false other) content.1 r.1,
        λ rest below. r.2 rest (m.kept t below) ∙ ap (λ u. record { tokens = rest; parts = onto m s r.0 (m.kept u below) }) (sym content.1),
      )

  with_gap :
      (p c : ℕ) (kids f : Forest) (s : List Symbol) (ts us : List m.Token) → nat_eq c x.kind ≡ true → p < x.grammar.count
      → x.grammar.left p ≡ x.non → Forms x.grammar kids (x.grammar.right p) → map m.kind_of ts ≡ yield kids → Reads f s us
      → Reads (Node p kids f) (Kind c ∷ s) (ts ++ us)
  with_gap p c kids f s ts us gap h left formed e r =
      let y : m.Content c = lawful.some c in
      let derives : Derives x.grammar (Non x.non ∷ []) (map m.kind_of ts) =
      (Node p kids End, (h, left, formed, tt), append-nil (yield kids) ∙ sym e) in (
        (y, r.0),
        by_filling (is_gap m x) x.Fit (is_gap m x (m.token c y)) (m.token c y) (Writes m x (row m s r.0)) ts us
            (gap_is c y true gap) (is.fit ts derives) r.1,
        λ rest below.
            ap (λ l. run f (loose.drop_rule m lawful x is p (run kids (state l below)))) (append_assoc ts us rest)
            ∙ ap (λ st. run f st) (loose.filled m lawful x is p kids h left formed ts e (us ++ rest) below)
            ∙ r.2 rest below
            ∙ ap (λ ps. state rest (onto m s r.0 ps)) (sym (is.says_nothing c gap y below)),
      )

  with_node :
      (p : ℕ) → Law m p → p < m.grammar.count → (kids f : Forest) (s : List Symbol) (ts us : List m.Token)
      → Reads kids (m.grammar.right p) ts → Reads f s us → Reads (Node p kids f) (Non (m.grammar.left p) ∷ s) (ts ++ us)
  with_node p law h kids f s ts us inner outer =
      let v = law inner.0 in (
        (v.0, outer.0),
        subst (λ ws. Writes m x ws (ts ++ us)) (sym (joined_is m (m.grammar.left p) v.0 s outer.0))
            (both (is_gap m x) x.Fit (m.written (m.grammar.left p) v.0) (row m s outer.0) ts us (subst (λ ws. Writes m x ws ts) (sym v.2) inner.1) outer.1),
        λ rest below.
            ap (λ l. run f (loose.drop_rule m lawful x is p (run kids (state l below)))) (append_assoc ts us rest)
            ∙ ap (λ st. run f (loose.drop_rule m lawful x is p st)) (inner.2 (us ++ rest) below)
            ∙ ap (λ ps. run f (state (us ++ rest) ps)) (is.act p h (onto m (m.grammar.right p) inner.0 below) ∙ v.1 below)
            ∙ outer.2 rest (m.part (m.grammar.left p) v.0 ∷ below),
      )

  pub reads :
      (f : Forest) (s : List Symbol) → IsTyped x.non s → Forms x.grammar f (opened x.kind x.non s) → (ts : List m.Token) → map m.kind_of ts ≡ yield f
      → Reads f s ts
  reads End [] t formed [] e = (tt, refl, λ rest below. refl)
  reads End [] t formed (u ∷ ts) e = cc
  reads (Leaf k f) (Kind c ∷ s) t formed [] e = cc
  reads (Leaf k f) (Kind c ∷ s) t formed (u ∷ ts) e =
      let at : m.kind_of u ≡ k = cc in
      let more : map m.kind_of ts ≡ yield f = cc in
      let parts = leaf_formed (nat_eq c x.kind) k c f (opened x.kind x.non s) formed in
      with_token k c f s u ts parts.0 (at ∙ sym parts.1) (reads f s t parts.2 ts more)
  reads (Node p kids f) (Kind c ∷ s) t formed ts e =
      let parts = divided m.kind_of (yield kids) (yield f) ts e in
      let is_formed = node_formed (nat_eq c x.kind) p c kids f (opened x.kind x.non s) formed in
      subst (λ ts. Reads (Node p kids f) (Kind c ∷ s) ts) parts.2
      (with_gap p c kids f s parts.0 parts.1 is_formed.0 is_formed.1 is_formed.2 is_formed.3 parts.3 (reads f s t is_formed.4 parts.1 parts.4))
  reads (Node p kids f) (Non n ∷ s) t formed ts e =
      let h : p < m.grammar.count = loose.inside m lawful x is p formed.0 n formed.1 t.0 in
      let parts = divided m.kind_of (yield kids) (yield f) ts e in
      let inner : Forms x.grammar kids (opened x.kind x.non (m.grammar.right p)) = subst (λ r. Forms x.grammar kids r) (is.right p h) formed.2 in
      let both = with_node p (lawful.law p h) h kids f s parts.0 parts.1
      (reads kids (m.grammar.right p) (is.typed p h) inner parts.0 parts.3)
      (reads f s t.1 formed.3 parts.1 parts.4) in
      subst (λ ts. Reads (Node p kids f) (Non n ∷ s) ts) parts.2
      (subst (λ j. Reads (Node p kids f) (Non j ∷ s) (parts.0 ++ parts.1)) (sym (is.left p h) ∙ formed.1) both)
  reads End (Kind c ∷ s) t formed ts e = absurd formed
  reads End (Non n ∷ s) t formed ts e = absurd formed
  reads (Leaf k f) [] t formed ts e = absurd formed
  reads (Leaf k f) (Non n ∷ s) t formed ts e = absurd formed
  reads (Node p kids f) [] t formed ts e = absurd formed
