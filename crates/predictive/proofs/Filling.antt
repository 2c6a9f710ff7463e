-- A value that has a derivation has one for each text that is written of it, whatever fills its gaps.
use Rattle.std.proofs.Common.{◌≡◌, ◌<◌, ◌≤◌, ℕ, Bool, true, false, nat_eq, List, [], ◌∷◌, ◌++◌, map, refl, ap, sym, ◌∙◌, append_assoc, subst, ◌⊎◌, inl, inr, arith}
use Rattle.std.proofs.lemmas.List.{append-nil, map-append}
use Rattle.predictive.specs.Grammar.{Forest, End, Leaf, Node, Forms, yield, after_trees, Derives}
use Rattle.predictive.specs.declared.symbol.Symbol.{Symbol}
use Rattle.predictive.specs.declared.symbol.Symbol.TheVariants.{Kind, Non}
use Rattle.predictive.proofs.Sound.{divided}
use Rattle.predictive.specs.Made.{Made}
use Rattle.predictive.specs.Meaning.{Meaning, State, begun, shifted, IsLawful}
use Rattle.predictive.specs.Meaning as typed
use Rattle.predictive.specs.Gapped.{Gapped, IsGapped, IsTyped, Writes, is_gap, opened, opened_kind}
use Rattle.predictive.proofs.Loose as loose
use Rattle.predictive.proofs.Splitting.{first, split}

module _ (m : Meaning) (lawful : IsLawful m) (x : Gapped m) (is : IsGapped m x) where
  abbrev state : List m.Token → List m.Part → State m
  state ts ps = record { tokens = ts; parts = ps }

  abbrev run : Forest → State m → State m
  run f s = loose.run m lawful x is f s

  -- as if the gap were a token
  abbrev plain_run : Forest → State m → State m
  plain_run h s = after_trees (begun m) (shifted m) (typed.reduced m) h s

  -- a forest of the tokens that does what the forest of what is written does
  pub record Filled (h : Forest) (s : List Symbol) (ws ts : List m.Token) : Type 0 where
    pub forest : Forest
    pub forms : Forms x.grammar forest (opened x.kind x.non s)
    pub yields : yield forest ≡ map m.kind_of ts
    pub does : List m.Part → List m.Part
    pub runs : (rest : List m.Token) (below : List m.Part) → run forest (state (ts ++ rest) below) ≡ state rest (does below)
    pub plainly : (rest : List m.Token) (below : List m.Part) → plain_run h (state (ws ++ rest) below) ≡ state rest (does below)

  leaf_forms : (b : Bool) (k c : ℕ) (f : Forest) (s : List Symbol) → b ≡ false → c ≡ k → Forms x.grammar f s → Forms x.grammar (Leaf k f) (opened_kind b c x.non ∷ s)
  leaf_forms true k c f s e at formed = cc
  leaf_forms false k c f s e at formed = (at, formed)

  gap_forms :
      (b : Bool) (p c : ℕ) (kids f : Forest) (s : List Symbol) → b ≡ true → p < x.grammar.count → x.grammar.left p ≡ x.non
      → Forms x.grammar kids (x.grammar.right p) → Forms x.grammar f s → Forms x.grammar (Node p kids f) (opened_kind b c x.non ∷ s)
  gap_forms true p c kids f s e h left inner formed = (h, left, inner, formed)
  gap_forms false p c kids f s e h left inner formed = cc

  with_token :
      (k c : ℕ) (h : Forest) (s : List Symbol) (w : m.Token) (ws ts : List m.Token) → nat_eq c x.kind ≡ false → c ≡ k → m.kind_of w ≡ k
      → Filled h s ws ts → Filled (Leaf k h) (Kind c ∷ s) (w ∷ ws) (w ∷ ts)
  with_token k c h s w ws ts other at is_kind r = record {
    forest = Leaf k r.forest;
    forms = leaf_forms (nat_eq c x.kind) k c r.forest (opened x.kind x.non s) other at r.forms;
    yields = ap (λ ks. k ∷ ks) r.yields ∙ ap (λ j. j ∷ map m.kind_of ts) (sym is_kind);
    does = λ below. r.does (m.kept w below);
    runs = λ rest below. r.runs rest (m.kept w below);
    plainly = λ rest below. r.plainly rest (m.kept w below);
  }

  -- a tree of the gap's nonterminal
  record OneTree (f : Forest) (ks : List ℕ) : Type 0 where
    pub rule : ℕ
    pub kids : Forest
    pub inside : rule < x.grammar.count
    pub left : x.grammar.left rule ≡ x.non
    pub forms : Forms x.grammar kids (x.grammar.right rule)
    pub yields : yield kids ≡ ks

  one_tree : (f : Forest) (ks : List ℕ) → Forms x.grammar f (Non x.non ∷ []) → yield f ≡ ks → OneTree f ks
  one_tree End ks formed e = absurd formed
  one_tree (Leaf k f) ks formed e = absurd formed
  one_tree (Node p kids End) ks formed e =
      record { rule = p; kids = kids; inside = formed.0; left = formed.1; forms = formed.2; yields = sym (append-nil (yield kids)) ∙ e }
  one_tree (Node p kids (Leaf k f)) ks formed e = absurd formed.3
  one_tree (Node p kids (Node q more f)) ks formed e = absurd formed.3

  -- the gap's token says nothing
  kept_nothing : (c : ℕ) (w : m.Token) → nat_eq c x.kind ≡ true → m.kind_of w ≡ c → (below : List m.Part) → m.kept w below ≡ below
  kept_nothing c w gap at below =
      let content : (y : m.Content c) × (m.token c y ≡ w) = subst (λ j. (y : m.Content j) × (m.token j y ≡ w)) at (lawful.content w) in
      ap (λ u. m.kept u below) (sym content.1) ∙ is.says_nothing c gap content.0 below

  with_gap :
      (k c : ℕ) (h : Forest) (s : List Symbol) (w : m.Token) (ws a ts : List m.Token) → nat_eq c x.kind ≡ true → c ≡ k → m.kind_of w ≡ k
      → Derives x.grammar (Non x.non ∷ []) (map m.kind_of a) → Filled h s ws ts → Filled (Leaf k h) (Kind c ∷ s) (w ∷ ws) (a ++ ts)
  with_gap k c h s w ws a ts gap at is_kind derived r =
      let t = one_tree derived.0 (map m.kind_of a) derived.1 derived.2 in
      let kept = kept_nothing c w gap (is_kind ∙ sym at) in
      record {
        forest = Node t.rule t.kids r.forest;
        forms = gap_forms (nat_eq c x.kind) t.rule c t.kids r.forest (opened x.kind x.non s) gap t.inside t.left t.forms r.forms;
        yields = ap (λ ks. ks ++ yield r.forest) t.yields ∙ ap (λ ks. map m.kind_of a ++ ks) r.yields ∙ sym (map-append m.kind_of a ts);
        does = r.does;
        runs = λ rest below.
            ap (λ l. run r.forest (loose.drop_rule m lawful x is t.rule (run t.kids (state l below)))) (append_assoc a ts rest)
            ∙ ap (λ st. run r.forest st) (loose.filled m lawful x is t.rule t.kids t.inside t.left t.forms a (sym t.yields) (ts ++ rest) below)
            ∙ r.runs rest below;
        plainly = λ rest below. ap (λ ps. plain_run h (state (ws ++ rest) ps)) (kept below) ∙ r.plainly rest below;
      }

  with_node :
      (p n : ℕ) (kids h : Forest) (s : List Symbol) (ws us ts vs : List m.Token) → p < m.grammar.count → m.grammar.left p ≡ n
      → Filled kids (m.grammar.right p) ws ts → Filled h s us vs → Filled (Node p kids h) (Non n ∷ s) (ws ++ us) (ts ++ vs)
  with_node p n kids h s ws us ts vs i left inner outer = record {
    forest = Node p inner.forest outer.forest;
    forms = (
      below_all i,
      is.left p i ∙ left,
      subst (λ r. Forms x.grammar inner.forest r) (sym (is.right p i)) inner.forms,
      outer.forms,
    );
    yields =
        ap (λ ks. ks ++ yield outer.forest) inner.yields ∙ ap (λ ks. map m.kind_of ts ++ ks) outer.yields ∙ sym (map-append m.kind_of ts vs);
    does = λ below. outer.does (m.act p (inner.does below));
    runs = λ rest below.
        ap (λ l. run outer.forest (loose.drop_rule m lawful x is p (run inner.forest (state l below)))) (append_assoc ts vs rest)
        ∙ ap (λ st. run outer.forest (loose.drop_rule m lawful x is p st)) (inner.runs (vs ++ rest) below)
        ∙ ap (λ ps. run outer.forest (state (vs ++ rest) ps)) (is.act p i (inner.does below))
        ∙ outer.runs rest (m.act p (inner.does below));
    plainly = λ rest below.
        ap (λ l. plain_run h (typed.reduced m (plain_run kids (state l below)) p)) (append_assoc ws us rest)
        ∙ ap (λ (st : State m). plain_run h (typed.reduced m st p)) (inner.plainly (us ++ rest) below)
        ∙ outer.plainly rest (m.act p (inner.does below));
  }
    where
      below_all : p < m.grammar.count → p < x.grammar.count
      below_all i = let all : m.grammar.count ≤ x.grammar.count = is.more in omega (arith, i, all)

  -- what stands for the first token, and what stands for the others
  with_first :
      (k c : ℕ) (h : Forest) (s : List Symbol) (w : m.Token) (ws a ts : List m.Token) → c ≡ k → m.kind_of w ≡ k
      → (((is_gap m x w ≡ true) × x.Fit a) ⊎ ((is_gap m x w ≡ false) × (a ≡ w ∷ []))) → Filled h s ws ts
      → Filled (Leaf k h) (Kind c ∷ s) (w ∷ ws) (a ++ ts)
  with_first k c h s w ws a ts at is_kind (inl (gap, fit)) r =
      with_gap k c h s w ws a ts (ap (λ j. nat_eq j x.kind) (at ∙ sym is_kind) ∙ gap) at is_kind (is.derived a fit) r
  with_first k c h s w ws a ts at is_kind (inr (other, alone)) r =
      subst (λ l. Filled (Leaf k h) (Kind c ∷ s) (w ∷ ws) (l ++ ts)) (sym alone)
      (with_token k c h s w ws ts (ap (λ j. nat_eq j x.kind) (at ∙ sym is_kind) ∙ other) at is_kind r)

  pub filled :
      (h : Forest) (s : List Symbol) → IsTyped x.non s → Forms m.grammar h s → (ws : List m.Token) → map m.kind_of ws ≡ yield h → (ts : List m.Token)
      → Writes m x ws ts → Filled h s ws ts
  filled End [] t formed [] e ts writes =
      subst (λ l. Filled End [] [] l) (sym writes)
      (record { forest = End; forms = tt; yields = refl; does = λ below. below; runs = λ rest below. refl; plainly = λ rest below. refl })
  filled End [] t formed (w ∷ ws) e ts writes = cc
  filled (Leaf k h) (Kind c ∷ s) t formed [] e ts writes = cc
  filled (Leaf k h) (Kind c ∷ s) t formed (w ∷ ws) e ts writes =
      let at : m.kind_of w ≡ k = cc in
      let more : map m.kind_of ws ≡ yield h = cc in
      let parts = first (is_gap m x) x.Fit (is_gap m x w) w (Writes m x ws) ts writes in
      subst (λ l. Filled (Leaf k h) (Kind c ∷ s) (w ∷ ws) l) parts.2
      (with_first k c h s w ws parts.0 parts.1 formed.0 at parts.4 (filled h s t formed.1 ws more parts.1 parts.3))
  filled (Node p kids h) (Non n ∷ s) t formed ws e ts writes =
      let d = divided m.kind_of (yield kids) (yield h) ws e in
      let parts = split (is_gap m x) x.Fit d.0 d.1 ts (subst (λ l. Writes m x l ts) (sym d.2) writes) in
      subst (λ l. Filled (Node p kids h) (Non n ∷ s) l ts) d.2
      (subst (λ l. Filled (Node p kids h) (Non n ∷ s) (d.0 ++ d.1) l) parts.2
      (with_node p n kids h s d.0 d.1 parts.0 parts.1 formed.0 formed.1
      (filled kids (m.grammar.right p) (is.typed p formed.0) formed.2 d.0 d.3 parts.0 parts.3)
      (filled h s t.1 formed.3 d.1 d.4 parts.1 parts.4)))
  filled End (y ∷ s) t formed ws e ts writes = absurd formed
  filled (Leaf k h) [] t formed ws e ts writes = absurd formed
  filled (Leaf k h) (Non n ∷ s) t formed ws e ts writes = absurd formed
  filled (Node p kids h) [] t formed ws e ts writes = absurd formed
  filled (Node p kids h) (Kind c ∷ s) t formed ws e ts writes = absurd formed

  pub record Grown (n : ℕ) (v : m.Value n) (ts : List m.Token) : Type 0 where
    pub forest : Forest
    pub forms : Forms x.grammar forest (Non n ∷ [])
    pub yields : yield forest ≡ map m.kind_of ts
    pub runs : (rest : List m.Token) (below : List m.Part) → loose.run m lawful x is forest (record { tokens = ts ++ rest; parts = below }) ≡ record { tokens = rest; parts = m.part n v ∷ below }

  pub grown : (n : ℕ) → n < x.non → (v : m.Value n) → Made m n v → (ts : List m.Token) → Writes m x (m.written n v) ts → Grown n v ts
  grown n small v made ts writes =
      let h : Forest = Node made.rule made.kids End in
      let f = filled h (Non n ∷ []) (small, tt) (made.inside, made.left, made.forms, tt) (m.written n v) (sym made.yields ∙ sym (append-nil (yield made.kids))) ts writes in
      record {
        forest = f.forest;
        forms = f.forms;
        yields = f.yields;
        runs = λ rest below.
            f.runs rest below ∙ ap (λ (st : State m). state rest st.parts) (sym (f.plainly rest below) ∙ made.runs rest below);
      }
