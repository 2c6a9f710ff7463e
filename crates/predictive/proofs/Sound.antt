-- A forest whose leaves are these tokens reads one value for each symbol, and the values are written as the tokens.
use Rattle.std.proofs.Common.{◌≡◌, ℕ, List, [], ◌∷◌, ◌++◌, map, refl, ap, sym, ◌∙◌, append_assoc, subst}
use Rattle.std.proofs.lemmas.List.{append-nil}
use Rattle.predictive.specs.Grammar.{Forest, End, Leaf, Node, Forms, yield, after_trees}
use Rattle.predictive.specs.declared.symbol.Symbol.{Symbol}
use Rattle.predictive.specs.declared.symbol.Symbol.TheVariants.{Kind, Non}
use Rattle.predictive.specs.Meaning.{Meaning, Each, joined, row, onto, State, begun, shifted, reduced, Law, IsLawful}

abbrev pub Runs : (m : Meaning) → (f : Forest) → (s : List Symbol) → Each m s → List m.Token → Type 0
Runs m f s vs ts =
    (rest : List m.Token) (below : List m.Part)
    → after_trees (begun m) (shifted m) (reduced m) f (record { tokens = ts ++ rest; parts = below })
    ≡ record { tokens = rest; parts = onto m s vs below }

abbrev pub Reads : (m : Meaning) → Forest → List Symbol → List m.Token → Type 0
Reads m f s ts = (vs : Each m s) × (row m s vs ≡ ts) × Runs m f s vs ts

pub joined_is : (m : Meaning) (n : ℕ) (v : m.Value n) (s : List Symbol) (vs : Each m s) → joined m n v s (row m s vs) ≡ m.written n v ++ row m s vs
joined_is m n v [] vs = sym (append-nil (m.written n v))
joined_is m n v (x ∷ s) vs = refl

pub divided : {T : Type 0} (kind : T → ℕ) (a b : List ℕ) (ts : List T) → map kind ts ≡ a ++ b → (front : List T) × (back : List T) × (front ++ back ≡ ts) × (map kind front ≡ a) × (map kind back ≡ b)
divided kind [] b ts e = ([], ts, refl, refl, e)
divided kind (k ∷ a) b [] e = cc
divided kind (k ∷ a) b (t ∷ ts) e =
    let at : kind t ≡ k = cc in
    let rest : map kind ts ≡ a ++ b = cc in
    let more = divided kind a b ts rest in
    (t ∷ more.0, more.1, ap (λ l. t ∷ l) more.2, ap (λ l. kind t ∷ l) more.3 ∙ ap (λ j. j ∷ a) at, more.4)

with_leaf : (m : Meaning) → IsLawful m → (k c : ℕ) (f : Forest) (s : List Symbol) (t : m.Token) (ts : List m.Token) → m.kind_of t ≡ c → Reads m f s ts → Reads m (Leaf k f) (Kind c ∷ s) (t ∷ ts)
with_leaf m lawful k c f s t ts e r =
    let x : (x : m.Content c) × (m.token c x ≡ t) = subst (λ j. (x : m.Content j) × (m.token j x ≡ t)) e (lawful.content t) in (
      (x.0, r.0),
      ap (λ u. u ∷ row m s r.0) x.1 ∙ ap (λ l. t ∷ l) r.1,
      λ rest below. r.2 rest (m.kept t below) ∙ ap (λ u. record { tokens = rest; parts = onto m s r.0 (m.kept u below) }) (sym x.1),
    )

with_node : (m : Meaning) (p : ℕ) → Law m p → (kids f : Forest) (s : List Symbol) (ts us : List m.Token) → Reads m kids (m.grammar.right p) ts → Reads m f s us → Reads m (Node p kids f) (Non (m.grammar.left p) ∷ s) (ts ++ us)
with_node m p law kids f s ts us inner outer =
    let v = law inner.0 in (
      (v.0, outer.0),
      joined_is m (m.grammar.left p) v.0 s outer.0 ∙ ap (λ l. l ++ row m s outer.0) (v.2 ∙ inner.1) ∙ ap (λ l. ts ++ l) outer.1,
      λ rest below.
          ap (λ l. after_trees (begun m) (shifted m) (reduced m) f (reduced m (after_trees (begun m) (shifted m) (reduced m) kids (record { tokens = l; parts = below })) p)) (append_assoc ts us rest)
          ∙ ap (λ (st : State m). after_trees (begun m) (shifted m) (reduced m) f (reduced m st p)) (inner.2 (us ++ rest) below)
          ∙ ap (λ l. after_trees (begun m) (shifted m) (reduced m) f (record { tokens = us ++ rest; parts = l })) (v.1 below)
          ∙ outer.2 rest (m.part (m.grammar.left p) v.0 ∷ below),
    )

pub reads : (m : Meaning) → IsLawful m → (f : Forest) (s : List Symbol) → Forms m.grammar f s → (ts : List m.Token) → map m.kind_of ts ≡ yield f → Reads m f s ts
reads m lawful End [] formed [] e = (tt, refl, λ rest below. refl)
reads m lawful End [] formed (t ∷ ts) e = cc
reads m lawful (Leaf k f) (Kind c ∷ s) formed [] e = cc
reads m lawful (Leaf k f) (Kind c ∷ s) formed (t ∷ ts) e =
    let at : m.kind_of t ≡ k = cc in
    let rest : map m.kind_of ts ≡ yield f = cc in
    with_leaf m lawful k c f s t ts (at ∙ sym formed.0) (reads m lawful f s formed.1 ts rest)
reads m lawful (Node p kids f) (Non n ∷ s) formed ts e =
    let parts = divided m.kind_of (yield kids) (yield f) ts e in
    let both = with_node m p (lawful.law p formed.0) kids f s parts.0 parts.1
    (reads m lawful kids (m.grammar.right p) formed.2 parts.0 parts.3)
    (reads m lawful f s formed.3 parts.1 parts.4) in
    subst (λ ts. Reads m (Node p kids f) (Non n ∷ s) ts) parts.2
    (subst (λ j. Reads m (Node p kids f) (Non j ∷ s) (parts.0 ++ parts.1)) formed.1 both)
reads m lawful End (x ∷ s) formed ts e = absurd formed
reads m lawful (Leaf k f) [] formed ts e = absurd formed
reads m lawful (Leaf k f) (Non n ∷ s) formed ts e = absurd formed
reads m lawful (Node p kids f) [] formed ts e = absurd formed
reads m lawful (Node p kids f) (Kind c ∷ s) formed ts e = absurd formed
