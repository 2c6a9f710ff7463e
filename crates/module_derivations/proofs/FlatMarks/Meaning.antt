-- What stands ahead where the marks of a derivation do is what a parser's acts leave on its stack, and so what the text is written of.
use Rattle.std.proofs.Common.{◌≡◌, ◌<◌, ◌≤◌, ◌+◌, ℕ, zero, suc, Bool, true, false, cond, nat_eq, nat_lt, List, [], ◌∷◌, ◌++◌, map, length, get_or, refl, ap, sym, ◌∙◌, append_assoc, subst, arith, Some}
use Rattle.std.proofs.lemmas.Bool.{ltb-false, ltb-true}
use Rattle.std.proofs.lemmas.List.{append-nil, get_or_at, length-append}
use Rattle.predictive.proofs.GapJoint as joint
use Rattle.predictive.proofs.GapSound as sound
use Rattle.predictive.proofs.Sound.{divided}
use Rattle.predictive.specs.GapListing.{Gap, gapped}
use Rattle.predictive.specs.Gapped.{Gapped, IsGapped, IsTyped, Writes, opened, opened_kind, reduced}
use Rattle.predictive.specs.Grammar.{End, Forest, Forms, Leaf, Node, after_trees, yield}
use Rattle.predictive.specs.Meaning.{IsLawful, Meaning, State, begun, onto, shifted}
use Rattle.predictive.specs.Typed.{IsVocabulary, Rule, Vocabulary, made, meaning_of, nth, top}
use Rattle.predictive.specs.declared.symbol.Symbol.{Symbol}
use Rattle.predictive.specs.declared.symbol.Symbol.TheVariants.{Kind, Non}
use Rattle.module_derivations.specs.FlatMarks.Flat as flat
use Rattle.module_derivations.specs.FlatMarks.Flat.{Mark, marks_from, parts, rule_marks, skip, token_marks}
use Rattle.module_derivations.specs.FlatMarks.Seeing.{AreSeen, IsSeeing, IsSeen, IsSeenAs, Seeing, values, width, AreLeaves as leaves_of}
use Rattle.module_derivations.proofs.FlatMarks.Making.{acts}
use Rattle.module_derivations.proofs.FlatMarks.Passing as passing

-- ---- trees of right sides with the gap's nonterminal in place of the gap

module _ (m : Meaning) (x : Gapped m) where
  leaf_formed :
      (b : Bool) (k c : ℕ) (f : Forest) (s : List Symbol) → Forms x.grammar (Leaf k f) (opened_kind b c x.non ∷ s)
      → (b ≡ false) × (c ≡ k) × Forms x.grammar f s
  leaf_formed true k c f s formed = absurd formed
  leaf_formed false k c f s formed = (refl, formed.0, formed.1)

  node_formed :
      (b : Bool) (p c : ℕ) (kids f : Forest) (s : List Symbol) → Forms x.grammar (Node p kids f) (opened_kind b c x.non ∷ s)
      → (b ≡ true) × (p < x.grammar.count) × (x.grammar.left p ≡ x.non) × Forms x.grammar kids (x.grammar.right p) × Forms x.grammar f s
  node_formed true p c kids f s formed = (refl, formed.0, formed.1, formed.2, formed.3)
  node_formed false p c kids f s formed = absurd formed

  -- a rule is typed where its nonterminal is
  typed : IsGapped m x → (p : ℕ) → p < x.grammar.count → (n : ℕ) → x.grammar.left p ≡ n → n < x.non → p < m.grammar.count
  typed is p h n e small = go (nat_lt p m.grammar.count) refl
    where
      go : (b : Bool) → nat_lt p m.grammar.count ≡ b → p < m.grammar.count
      go true below = ltb-true p m.grammar.count below
      go false above =
          let large : x.non ≤ x.grammar.left p = is.loose_left p (ltb-false p m.grammar.count above) h in
          absurd (omega (arith, e, small, large))

seen_in :
    (w : Vocabulary) (a : Seeing w) (first : Rule w) (i : ℕ) (rs : List (Rule w)) → AreSeen w a i rs → (q : ℕ) → q < length rs
    → (p : ℕ) → p ≡ i + q → IsSeen w a p (nth first rs q)
seen_in w a first i [] are q h p at = absurd (grind arith)
seen_in w a first i (r ∷ rs) are zero h p at =
    let here : p ≡ i = omega (arith, at) in
    subst (λ p. IsSeen w a p r) (sym here) are.0
seen_in w a first i (r ∷ rs) are (suc q) h p at = seen_in w a first (suc i) rs are.1 q (grind arith) p (grind arith)

module _
    (w : Vocabulary) (are : IsVocabulary w) (written : (n : ℕ) → w.Value n → List w.Token) (first : Rule w) (rules : List (Rule w))
    (gap : Gap) (Fit : List w.Token → Type 0) (lawful : IsLawful (meaning_of w written first rules))
    (is : IsGapped (meaning_of w written first rules) (gapped w written first rules gap Fit))
    (a : Seeing w) (sees : IsSeeing w rules gap a) (leaf : ℕ → a.Part)
  where
    abbrev m : Meaning
    m = meaning_of w written first rules

    abbrev x : Gapped (meaning_of w written first rules)
    x = gapped w written first rules gap Fit

    abbrev state : List w.Token → List w.Part → State (meaning_of w written first rules)
    state ts ps = record { tokens = ts; parts = ps }

    abbrev run : Forest → State (meaning_of w written first rules) → State (meaning_of w written first rules)
    run f s =
        after_trees (begun (meaning_of w written first rules)) (shifted (meaning_of w written first rules))
        (reduced (meaning_of w written first rules) (gapped w written first rules gap Fit)) f s

    abbrev ahead : List Mark → List a.Part
    ahead ms = parts a.arity a.node leaf ms

    abbrev marks : ℕ → Forest → List Mark
    marks i f = marks_from a.chosen a.says i f

    abbrev AreLeaves : ℕ → List w.Token → Type 0
    AreLeaves i ts = leaves_of w a leaf i ts

    leaves_apart :
        (i : ℕ) (ts us : List w.Token) (ks : List ℕ) → map w.kind_of ts ≡ ks → AreLeaves i (ts ++ us)
        → AreLeaves i ts × AreLeaves (i + length ks) us
    leaves_apart i [] us [] e all = let same : i ≡ i + 0 = omega arith in (tt, subst (λ j. AreLeaves j us) same all)
    leaves_apart i [] us (k ∷ ks) e all = cc
    leaves_apart i (t ∷ ts) us [] e all = cc
    leaves_apart i (t ∷ ts) us (k ∷ ks) e all =
        let rest : map w.kind_of ts ≡ ks = cc in
        let more = leaves_apart (suc i) ts us ks rest all.1 in
        let same : suc i + length ks ≡ i + suc (length ks) = omega arith in
        ((all.0, more.0), subst (λ j. AreLeaves j us) same more.1)

    -- the acts along trees leave what stands ahead
    abbrev Leaves : Forest → List Symbol → List w.Token → ℕ → Type 0
    Leaves f s ts i =
        (more : List Mark) (rest : List w.Token) (below : List w.Part)
        → run f (state (ts ++ rest) below) ≡ state rest (onto (meaning_of w written first rules) s (values w a s (ahead (marks i f ++ more))) below)

    -- what a token says stands in front where it is written down, and is nothing where it isn't
    token_is_as :
        (b : Bool) (c i : ℕ) (y : w.Content c) (ms : List Mark) → a.says c ≡ b → leaf i ≡ a.leaf (w.token c y)
        → a.content c (ahead (cond b (flat.Token i ∷ []) [] ++ ms)) ≡ y
    token_is_as true c i y ms says at = ap (λ l. a.content c (l ∷ ahead ms)) at ∙ sees.kept c y (ahead ms) says
    token_is_as false c i y ms says at = sees.plain c y (ahead ms) says

    with_token :
        (k c : ℕ) (f : Forest) (s : List Symbol) (t : w.Token) (ts : List w.Token) (i : ℕ) → nat_eq c gap.kind ≡ false → c ≡ k → w.kind_of t ≡ c
        → leaf i ≡ a.leaf t → Leaves f s ts (suc i) → Leaves (Leaf k f) (Kind c ∷ s) (t ∷ ts) i
    with_token k c f s t ts i other is_k e at r more rest below =
        let content : (y : w.Content c) × (w.token c y ≡ t) = subst (λ j. (y : w.Content j) × (w.token j y ≡ t)) e (are.content t) in
        let ms = marks (suc i) f in
        let behind = ms ++ more in
        let all = ahead ((token_marks a.chosen a.says k i ++ ms) ++ more) in
        let wide : width w a c ≡ cond (a.says k) 1 0 =
        ap (λ g. cond (nat_eq c g) 1 (cond (a.says c) 1 0)) sees.gap_kind
        ∙ ap (λ b. cond b 1 (cond (a.says c) 1 0)) other
        ∙ ap (λ j. cond (a.says j) 1 0) is_k in
        let past : skip (width w a c) all ≡ ahead behind =
        ap (λ n. skip n all) wide ∙ passing.leaf_passed w rules gap a sees leaf k i ms more in
        let same : all ≡ ahead (token_marks a.chosen a.says c i ++ behind) =
        ap (λ l. ahead l) (append_assoc (token_marks a.chosen a.says k i) ms more)
        ∙ ap (λ j. ahead (token_marks a.chosen a.says j i ++ behind)) (sym is_k) in
        let one : a.content c all ≡ content.0 =
        ap (λ ps. a.content c ps) same ∙ token_is_as (a.says c) c i content.0 behind refl (at ∙ ap (λ t. a.leaf t) (sym content.1)) in
        let says : w.token c (a.content c all) ≡ t = ap (λ y. w.token c y) one ∙ content.1 in
        r more rest (w.kept t below)
        ∙ ap (λ u. state rest (onto (meaning_of w written first rules) s (values w a s (ahead behind)) (w.kept u below))) (sym says)
        ∙ ap (λ ps. state rest (onto (meaning_of w written first rules) s (values w a s ps) (w.kept (w.token c (a.content c all)) below))) (sym past)

    with_gap :
        (p c : ℕ) (kids f : Forest) (s : List Symbol) (ts us : List w.Token) (i : ℕ) → nat_eq c gap.kind ≡ true
        → p < (gapped w written first rules gap Fit).grammar.count → (gapped w written first rules gap Fit).grammar.left p ≡ gap.non
        → Forms (gapped w written first rules gap Fit).grammar kids ((gapped w written first rules gap Fit).grammar.right p)
        → map w.kind_of ts ≡ yield kids → Leaves f s us (i + length (yield kids))
        → Leaves (Node p kids f) (Kind c ∷ s) (ts ++ us) i
    with_gap p c kids f s ts us i is_gap h left formed e r more rest below =
        let one : Forms x.grammar (Node p kids End) (opened gap.kind gap.non (Kind c ∷ [])) =
        subst (λ b. Forms x.grammar (Node p kids End) (opened_kind b c gap.non ∷ [])) (sym is_gap) (h, left, formed, tt) in
        let kinds : map w.kind_of ts ≡ yield (Node p kids End) = e ∙ sym (append-nil (yield kids)) in
        let filled = sound.reads m lawful x is (Node p kids End) (Kind c ∷ []) tt one ts kinds in
        let ms = marks i kids in
        let others = marks (i + length (yield kids)) f in
        let all = ahead ((rule_marks a.chosen a.says p ++ (ms ++ others)) ++ more) in
        let wide : width w a c ≡ a.size (x.grammar.left p) =
        ap (λ g. cond (nat_eq c g) 1 (cond (a.says c) 1 0)) sees.gap_kind
        ∙ ap (λ b. cond b 1 (cond (a.says c) 1 0)) is_gap
        ∙ sym sees.gap_size
        ∙ ap (λ n. a.size n) (sym left) in
        let past : skip (width w a c) all ≡ ahead (others ++ more) =
        ap (λ n. skip n all) wide
        ∙ passing.node_passed w rules gap a sees leaf p h ms others more (λ more. passing.passed w rules gap a sees leaf kids (x.grammar.right p) formed i more) in
        ap (λ l. run (Node p kids f) (state l below)) (append_assoc ts us rest)
        ∙ ap (λ st. run f st) (filled.2 (us ++ rest) below ∙ ap (λ ps. state (us ++ rest) ps) (is.says_nothing c is_gap filled.0.0 below))
        ∙ r more rest below
        ∙ ap (λ ps. state rest (onto m s (values w a s ps) below)) (sym past)
        ∙ ap (λ ps. state rest (onto m s (values w a s (skip (width w a c) all)) ps)) (sym (is.says_nothing c is_gap (a.content c all) below))

    -- what a rule makes stands in front, whether it is written down or not
    made_is_as :
        (b : Bool) (p : ℕ) (r : Rule w) → IsSeenAs w a b p r → (ms : List Mark)
        → a.value r.left (ahead (cond b (flat.Rule p ∷ []) [] ++ ms)) ≡ made w r (values w a r.right (ahead ms))
    made_is_as true p r seen ms = seen (ahead ms) (skip (a.arity p) (ahead ms))
    made_is_as false p r seen ms = seen (ahead ms)

    with_node :
        (p : ℕ) (kids f : Forest) (s : List Symbol) (ts us : List w.Token) (i : ℕ) → p < length rules
        → p < (gapped w written first rules gap Fit).grammar.count
        → Forms (gapped w written first rules gap Fit).grammar kids ((gapped w written first rules gap Fit).grammar.right p)
        → Leaves kids (nth first rules p).right ts i → Leaves f s us (i + length (yield kids))
        → Leaves (Node p kids f) (Non (nth first rules p).left ∷ s) (ts ++ us) i
    with_node p kids f s ts us i inside h formed inner outer more rest below =
        let ms = marks i kids in
        let others = marks (i + length (yield kids)) f in
        let all = ahead ((rule_marks a.chosen a.says p ++ (ms ++ others)) ++ more) in
        let vs = values w a (nth first rules p).right (ahead (ms ++ (others ++ more))) in
        let order : (rule_marks a.chosen a.says p ++ (ms ++ others)) ++ more ≡ rule_marks a.chosen a.says p ++ (ms ++ (others ++ more)) =
        append_assoc (rule_marks a.chosen a.says p) (ms ++ others) more ∙ ap (λ l. rule_marks a.chosen a.says p ++ l) (append_assoc ms others more) in
        let makes : a.value (nth first rules p).left all ≡ made w (nth first rules p) vs =
        ap (λ l. a.value (nth first rules p).left (ahead l)) order
        ∙ made_is_as (a.chosen p) p (nth first rules p) (seen_in w a first 0 rules sees.seen p inside p (grind arith)) (ms ++ (others ++ more)) in
        let past : skip (a.size (nth first rules p).left) all ≡ ahead (others ++ more) =
        ap (λ j. skip (a.size j) all) (sym (is.left p inside))
        ∙ passing.node_passed w rules gap a sees leaf p h ms others more (λ more. passing.passed w rules gap a sees leaf kids (x.grammar.right p) formed i more) in
        ap (λ l. run (Node p kids f) (state l below)) (append_assoc ts us rest)
        ∙ ap (λ st. run f (reduced m x st p)) (inner (others ++ more) (us ++ rest) below)
        ∙ ap (λ ps. run f (state (us ++ rest) ps)) (is.act p inside (onto m (nth first rules p).right vs below) ∙ acts w are written first rules p inside vs below)
        ∙ outer more rest (w.part (nth first rules p).left (made w (nth first rules p) vs) ∷ below)
        ∙ ap (λ v. state rest (onto m s (values w a s (ahead (others ++ more))) (w.part (nth first rules p).left v ∷ below))) (sym makes)
        ∙ ap (λ ps. state rest (onto m s (values w a s ps) (w.part (nth first rules p).left (a.value (nth first rules p).left all) ∷ below))) (sym past)

    leaves :
        (f : Forest) (s : List Symbol) → IsTyped gap.non s → Forms (gapped w written first rules gap Fit).grammar f (opened gap.kind gap.non s)
        → (ts : List w.Token) → map w.kind_of ts ≡ yield f → (i : ℕ) → AreLeaves i ts → Leaves f s ts i
    leaves End [] t formed [] e i are_leaves = λ more rest below. refl
    leaves End [] t formed (u ∷ ts) e i are_leaves = cc
    leaves (Leaf k f) (Kind c ∷ s) t formed [] e i are_leaves = cc
    leaves (Leaf k f) (Kind c ∷ s) t formed (u ∷ ts) e i are_leaves =
        let at : w.kind_of u ≡ k = cc in
        let more : map w.kind_of ts ≡ yield f = cc in
        let parts = leaf_formed m x (nat_eq c gap.kind) k c f (opened gap.kind gap.non s) formed in
        with_token k c f s u ts i parts.0 parts.1 (at ∙ sym parts.1) are_leaves.0 (leaves f s t parts.2 ts more (suc i) are_leaves.1)
    leaves (Node p kids f) (Kind c ∷ s) t formed ts e i are_leaves =
        let parts = divided w.kind_of (yield kids) (yield f) ts e in
        let is_formed = node_formed m x (nat_eq c gap.kind) p c kids f (opened gap.kind gap.non s) formed in
        let both = leaves_apart i parts.0 parts.1 (yield kids) parts.3 (subst (λ ts. AreLeaves i ts) (sym parts.2) are_leaves) in
        subst (λ ts. Leaves (Node p kids f) (Kind c ∷ s) ts i) parts.2
        (with_gap p c kids f s parts.0 parts.1 i is_formed.0 is_formed.1 is_formed.2 is_formed.3 parts.3 (leaves f s t is_formed.4 parts.1 parts.4 (i + length (yield kids)) both.1))
    leaves (Node p kids f) (Non n ∷ s) t formed ts e i are_leaves =
        let inside : p < length rules = typed m x is p formed.0 n formed.1 t.0 in
        let parts = divided w.kind_of (yield kids) (yield f) ts e in
        let both = leaves_apart i parts.0 parts.1 (yield kids) parts.3 (subst (λ ts. AreLeaves i ts) (sym parts.2) are_leaves) in
        let inner : Forms x.grammar kids (opened gap.kind gap.non (nth first rules p).right) = subst (λ r. Forms x.grammar kids r) (is.right p inside) formed.2 in
        let all = with_node p kids f s parts.0 parts.1 i inside formed.0 formed.2
        (leaves kids (nth first rules p).right (is.typed p inside) inner parts.0 parts.3 i both.0)
        (leaves f s t.1 formed.3 parts.1 parts.4 (i + length (yield kids)) both.1) in
        subst (λ ts. Leaves (Node p kids f) (Non n ∷ s) ts i) parts.2
        (subst (λ j. Leaves (Node p kids f) (Non j ∷ s) (parts.0 ++ parts.1) i) (sym (is.left p inside) ∙ formed.1) all)
    leaves End (Kind c ∷ s) t formed ts e i are_leaves = absurd formed
    leaves End (Non n ∷ s) t formed ts e i are_leaves = absurd formed
    leaves (Leaf k f) [] t formed ts e i are_leaves = absurd formed
    leaves (Leaf k f) (Non n ∷ s) t formed ts e i are_leaves = absurd formed
    leaves (Node p kids f) [] t formed ts e i are_leaves = absurd formed

    -- what stands in front of a whole derivation's marks is what its text is written of
    pub means :
        (n : ℕ) → n < gap.non → (f : Forest) → Forms (gapped w written first rules gap Fit).grammar f (Non n ∷ [])
        → (ts : List w.Token) → yield f ≡ map w.kind_of ts → AreLeaves 0 ts
        → Writes (meaning_of w written first rules) (gapped w written first rules gap Fit) (written n (a.value n (ahead (marks 0 f)))) ts
    means n small f formed ts e are_leaves =
        let r = joint.leaves m lawful x is n small f formed ts e in
        let acted : run f (state ts []) ≡ state [] (w.part n (a.value n (ahead (marks 0 f))) ∷ []) =
        ap (λ l. run f (state l [])) (sym (append-nil ts))
        ∙ leaves f (Non n ∷ []) (small, tt) formed ts (sym e) 0 are_leaves [] [] []
        ∙ ap (λ l. state [] (w.part n (a.value n (ahead l)) ∷ [])) (append-nil (marks 0 f)) in
        let same : w.part n r.0 ∷ [] ≡ w.part n (a.value n (ahead (marks 0 f))) ∷ [] = ap (λ (st : State m). st.parts) (sym r.2 ∙ acted) in
        let both : Some r.0 ≡ Some (a.value n (ahead (marks 0 f))) =
        sym (are.value n r.0) ∙ ap (λ s. top (w.value n) s) same ∙ are.value n (a.value n (ahead (marks 0 f))) in
        let one : r.0 ≡ a.value n (ahead (marks 0 f)) = cc in
        subst (λ v. Writes m x (written n v) ts) one r.1

-- the tokens are the leaves at their places
leaves_at :
    (w : Vocabulary) (a : Seeing w) (none : w.Token) (whole before ts : List w.Token) (i : ℕ) → before ++ ts ≡ whole → length before ≡ i
    → leaves_of w a (λ i. a.leaf (get_or whole i none)) i ts
leaves_at w a none whole before [] i e n = tt
leaves_at w a none whole before (t ∷ ts) i e n =
    let one : length (before ++ (t ∷ [])) ≡ length before + 1 = length-append before (t ∷ []) in
    let next : length (before ++ (t ∷ [])) ≡ suc i = omega (arith, one, n) in
    let at : get_or whole i none ≡ t = ap (λ l. get_or l i none) (sym e) ∙ get_or_at before t ts none i n in
    (ap (λ t. a.leaf t) at, leaves_at w a none whole (before ++ (t ∷ [])) ts (suc i) (append_assoc before (t ∷ []) ts ∙ e) next)

-- What stands in front of the marks of a text's derivation is what the text is written of.
pub means_text :
    (w : Vocabulary) (are : IsVocabulary w) (written : (n : ℕ) → w.Value n → List w.Token) (first : Rule w) (rules : List (Rule w))
    (gap : Gap) (Fit : List w.Token → Type 0) → IsLawful (meaning_of w written first rules)
    → IsGapped (meaning_of w written first rules) (gapped w written first rules gap Fit) → (a : Seeing w) → IsSeeing w rules gap a
    → (n : ℕ) → n < gap.non → (f : Forest) → Forms (gapped w written first rules gap Fit).grammar f (Non n ∷ [])
    → (ts : List w.Token) → yield f ≡ map w.kind_of ts → (none : w.Token)
    → Writes (meaning_of w written first rules) (gapped w written first rules gap Fit)
    (written n (a.value n (parts a.arity a.node (λ i. a.leaf (get_or ts i none)) (marks_from a.chosen a.says 0 f)))) ts
means_text w are written first rules gap Fit lawful is a sees n small f formed ts e none =
    means w are written first rules gap Fit lawful is a sees (λ i. a.leaf (get_or ts i none)) n small f formed ts e
    (leaves_at w a none ts [] ts 0 refl refl)
