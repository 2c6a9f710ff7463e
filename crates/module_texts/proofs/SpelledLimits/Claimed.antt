-- A derivation reads values, each of which fits where the tokens under its node are within a limit.
use Rattle.std.proofs.Common.{◌≡◌, ◌<◌, ◌≤◌, ℕ, Bool, true, false, nat_eq, nat_lt, List, [], ◌∷◌, ◌++◌, map, refl, ap, sym, ◌∙◌, append_assoc, subst, arith}
use Rattle.std.specs.List.{AllByRecursion}
use Rattle.std.proofs.lemmas.Bool.{ltb-true, ltb-false}
use Rattle.std.proofs.lemmas.List.{append-nil}
use Rattle.predictive.specs.Gapped.{Gapped, IsGapped, IsTyped, opened, opened_kind, reduced}
use Rattle.predictive.proofs.GapSound.{reads}
use Rattle.module_spelling.specs.Opened.{depths}
use Rattle.predictive.specs.Grammar.{Forest, End, Leaf, Node, Forms, yield, after_trees}
use Rattle.predictive.specs.declared.symbol.Symbol.{Symbol}
use Rattle.predictive.specs.declared.symbol.Symbol.TheVariants.{Kind, Non}
use Rattle.predictive.proofs.Sound.{divided}
use Rattle.predictive.specs.Meaning.{Meaning, Each, IsLawful, State, begun, onto, shifted}

-- each is so much at most
abbrev pub AreUpTo : ℕ → List ℕ → Type 0
AreUpTo l = AllByRecursion (λ d. d ≤ l)

module _ (m : Meaning) (lawful : IsLawful m) (x : Gapped m) (is : IsGapped m x) (Fit : (n : ℕ) → ℕ → ℕ → m.Value n → Type 0) where
  abbrev state : List m.Token → List m.Part → State m
  state ts ps = record { tokens = ts; parts = ps }

  abbrev pub run : Forest → State m → State m
  run f s = after_trees (begun m) (shifted m) (reduced m x) f s

  -- wherever the node stands, its value fits where its tokens are within the limit
  abbrev pub Claim : ℕ → Forest → (n : ℕ) → m.Value n → Type 0
  Claim p kids n v = (d l : ℕ) → AreUpTo l (depths d (Node p kids End)) → Fit n d l v

  abbrev pub Claims : Forest → (s : List Symbol) → Each m s → Type 0
  Claims (Leaf k f) (Kind c ∷ s) vs = Claims f s vs.1
  Claims (Node p kids f) (Kind c ∷ s) vs = Claims f s vs.1
  Claims (Node p kids f) (Non n ∷ s) vs = Claim p kids n vs.0 × Claims f s vs.1
  Claims f s vs = Unit {0}

  inside : (p : ℕ) → p < x.grammar.count → (n : ℕ) → x.grammar.left p ≡ n → n < x.non → p < m.grammar.count
  inside p h n e small = go (nat_lt p m.grammar.count) refl
    where
      go : (b : Bool) → nat_lt p m.grammar.count ≡ b → p < m.grammar.count
      go true below = ltb-true p m.grammar.count below
      go false above =
          let large : x.non ≤ x.grammar.left p = is.loose_left p (ltb-false p m.grammar.count above) h in
          absurd (omega (arith, e, small, large))

  pub record Claimed (f : Forest) (s : List Symbol) (ts : List m.Token) : Type 0 where
    pub values : Each m s
    pub runs :
        (rest : List m.Token) (below : List m.Part)
        → run f (record { tokens = ts ++ rest; parts = below }) ≡ record { tokens = rest; parts = onto m s values below }
    pub claims : Claims f s values

  pub leaf_formed :
      (b : Bool) (k c : ℕ) (f : Forest) (s : List Symbol) → Forms x.grammar (Leaf k f) (opened_kind b c x.non ∷ s)
      → (c ≡ k) × Forms x.grammar f s
  leaf_formed true k c f s formed = absurd formed
  leaf_formed false k c f s formed = formed

  with_token :
      (k c : ℕ) (f : Forest) (s : List Symbol) (t : m.Token) (ts : List m.Token) → m.kind_of t ≡ c → Claimed f s ts → Claimed (Leaf k f) (Kind c ∷ s) (t ∷ ts)
  with_token k c f s t ts e r =
      let content : (y : m.Content c) × (m.token c y ≡ t) = subst (λ j. (y : m.Content j) × (m.token j y ≡ t)) e (lawful.content t) in
      record {
        values = (content.0, r.values);
        runs = λ rest below.
            r.runs rest (m.kept t below) ∙ ap (λ u. state rest (onto m s r.values (m.kept u below))) (sym content.1);
        claims = r.claims;
      }

  -- a tree of the gap's nonterminal
  pub record OneGap (p c : ℕ) (kids : Forest) : Type 0 where
    pub gap : nat_eq c x.kind ≡ true
    pub inside : p < x.grammar.count
    pub left : x.grammar.left p ≡ x.non
    pub formed : Forms x.grammar kids (x.grammar.right p)

  pub gap_formed :
      (b : Bool) (p c : ℕ) (kids f : Forest) (s : List Symbol) → nat_eq c x.kind ≡ b → Forms x.grammar (Node p kids f) (opened_kind b c x.non ∷ s)
      → OneGap p c kids × Forms x.grammar f s
  gap_formed true p c kids f s e formed = (record { gap = e; inside = formed.0; left = formed.1; formed = formed.2 }, formed.3)
  gap_formed false p c kids f s e formed = absurd formed

  alone_formed :
      (b : Bool) (p c : ℕ) (kids : Forest) → b ≡ true → p < x.grammar.count → x.grammar.left p ≡ x.non → Forms x.grammar kids (x.grammar.right p)
      → Forms x.grammar (Node p kids End) (opened_kind b c x.non ∷ [])
  alone_formed true p c kids e h left formed = (h, left, formed, tt)
  alone_formed false p c kids e h left formed = cc

  with_gap :
      (p c : ℕ) (kids f : Forest) (s : List Symbol) (ts us : List m.Token) → OneGap p c kids → map m.kind_of ts ≡ yield kids → Claimed f s us
      → Claimed (Node p kids f) (Kind c ∷ s) (ts ++ us)
  with_gap p c kids f s ts us g e r =
      let alone = reads m lawful x is (Node p kids End) (Kind c ∷ []) tt (alone_formed (nat_eq c x.kind) p c kids g.gap g.inside g.left g.formed) ts (e ∙ sym (append-nil (yield kids))) in
      record {
        values = (alone.0.0, r.values);
        runs = λ rest below.
            ap (λ l. run f (run (Node p kids End) (state l below))) (append_assoc ts us rest)
            ∙ ap (λ st. run f st) (alone.2 (us ++ rest) below)
            ∙ ap (λ ps. run f (state (us ++ rest) ps)) (is.says_nothing c g.gap alone.0.0 below)
            ∙ r.runs rest below
            ∙ ap (λ ps. state rest (onto m s r.values ps)) (sym (is.says_nothing c g.gap alone.0.0 below));
        claims = r.claims;
      }

  module _
      (make : (p : ℕ) → Each m (m.grammar.right p) → m.Value (m.grammar.left p))
      (acts :
      (p : ℕ) → p < m.grammar.count → (vs : Each m (m.grammar.right p)) (below : List m.Part)
      → m.act p (onto m (m.grammar.right p) vs below) ≡ m.part (m.grammar.left p) (make p vs) ∷ below)
      (claim :
      (p : ℕ) → p < m.grammar.count → (kids : Forest) → Forms x.grammar kids (opened x.kind x.non (m.grammar.right p))
      → (vs : Each m (m.grammar.right p)) → Claims kids (m.grammar.right p) vs → Claim p kids (m.grammar.left p) (make p vs))
    where
      with_node :
          (p : ℕ) → p < m.grammar.count → (kids f : Forest) (s : List Symbol) (ts us : List m.Token)
          → Forms x.grammar kids (opened x.kind x.non (m.grammar.right p)) → Claimed kids (m.grammar.right p) ts → Claimed f s us
          → Claimed (Node p kids f) (Non (m.grammar.left p) ∷ s) (ts ++ us)
      with_node p h kids f s ts us formed inner outer = record {
        values = (make p inner.values, outer.values);
        runs = λ rest below.
            ap (λ l. run f (reduced m x (run kids (state l below)) p)) (append_assoc ts us rest)
            ∙ ap (λ (st : State m). run f (reduced m x st p)) (inner.runs (us ++ rest) below)
            ∙ ap (λ ps. run f (state (us ++ rest) ps)) (is.act p h (onto m (m.grammar.right p) inner.values below) ∙ acts p h inner.values below)
            ∙ outer.runs rest (m.part (m.grammar.left p) (make p inner.values) ∷ below);
        claims = (claim p h kids formed inner.values inner.claims, outer.claims);
      }

      pub claimed :
          (f : Forest) (s : List Symbol) → IsTyped x.non s → Forms x.grammar f (opened x.kind x.non s) → (ts : List m.Token) → map m.kind_of ts ≡ yield f
          → Claimed f s ts
      claimed End [] t formed [] e = record { values = tt; runs = λ rest below. refl; claims = tt }
      claimed End [] t formed (u ∷ ts) e = cc
      claimed (Leaf k f) (Kind c ∷ s) t formed [] e = cc
      claimed (Leaf k f) (Kind c ∷ s) t formed (u ∷ ts) e =
          let at : m.kind_of u ≡ k = cc in
          let more : map m.kind_of ts ≡ yield f = cc in
          let parts = leaf_formed (nat_eq c x.kind) k c f (opened x.kind x.non s) formed in
          with_token k c f s u ts (at ∙ sym parts.0) (claimed f s t parts.1 ts more)
      claimed (Node p kids f) (Kind c ∷ s) t formed ts e =
          let parts = divided m.kind_of (yield kids) (yield f) ts e in
          let g = gap_formed (nat_eq c x.kind) p c kids f (opened x.kind x.non s) refl formed in
          subst (λ ts. Claimed (Node p kids f) (Kind c ∷ s) ts) parts.2
          (with_gap p c kids f s parts.0 parts.1 g.0 parts.3 (claimed f s t g.1 parts.1 parts.4))
      claimed (Node p kids f) (Non n ∷ s) t formed ts e =
          let h : p < m.grammar.count = inside p formed.0 n formed.1 t.0 in
          let parts = divided m.kind_of (yield kids) (yield f) ts e in
          let inner : Forms x.grammar kids (opened x.kind x.non (m.grammar.right p)) = subst (λ r. Forms x.grammar kids r) (is.right p h) formed.2 in
          let both = with_node p h kids f s parts.0 parts.1 inner
          (claimed kids (m.grammar.right p) (is.typed p h) inner parts.0 parts.3)
          (claimed f s t.1 formed.3 parts.1 parts.4) in
          subst (λ ts. Claimed (Node p kids f) (Non n ∷ s) ts) parts.2
          (subst (λ j. Claimed (Node p kids f) (Non j ∷ s) (parts.0 ++ parts.1)) (sym (is.left p h) ∙ formed.1) both)
      claimed End (Kind c ∷ s) t formed ts e = absurd formed
      claimed End (Non n ∷ s) t formed ts e = absurd formed
      claimed (Leaf k f) [] t formed ts e = absurd formed
      claimed (Leaf k f) (Non n ∷ s) t formed ts e = absurd formed
      claimed (Node p kids f) [] t formed ts e = absurd formed
