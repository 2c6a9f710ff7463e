-- Values in a row have a forest; a rule's act over made values makes a value.
use Rattle.std.proofs.Common.{◌≡◌, ℕ, true, List, [], ◌∷◌, ◌++◌, map, refl, ap, sym, ◌∙◌, append_assoc, nat_lt}
use Rattle.std.proofs.lemmas.Bool.{ltb-true}
use Rattle.std.proofs.lemmas.List.{map-append}
use Rattle.predictive.specs.Grammar.{Forest, End, Leaf, Node, Forms, yield, after_trees}
use Rattle.predictive.specs.declared.symbol.Symbol.{Symbol}
use Rattle.predictive.specs.declared.symbol.Symbol.TheVariants.{Kind, Non}
use Rattle.predictive.specs.Meaning.{Meaning, Each, row, onto, State, begun, shifted, reduced, IsLawful}
use Rattle.predictive.specs.Made.{Made, MadeEach}
use Rattle.predictive.proofs.Sound.{Runs, joined_is}

pub record Grows (m : Meaning) (s : List Symbol) (vs : Each m s) : Type 0 where
  pub forest : Forest
  pub forms : Forms m.grammar forest s
  pub yields : yield forest ≡ map m.kind_of (row m s vs)
  pub runs : Runs m forest s vs (row m s vs)

with_leaf : (m : Meaning) → IsLawful m → (k : ℕ) (s : List Symbol) (x : m.Content k) (vs : Each m s) → m.kind_of (m.token k x) ≡ k → Grows m s vs → Grows m (Kind k ∷ s) (x, vs)
with_leaf m lawful k s x vs e g = record {
  forest = Leaf k g.forest;
  forms = (refl, g.forms);
  yields = ap (λ j. k ∷ j) g.yields ∙ ap (λ j. j ∷ map m.kind_of (row m s vs)) (sym e);
  runs = λ rest below. g.runs rest (m.kept (m.token k x) below);
}

with_node : (m : Meaning) (n : ℕ) (s : List Symbol) (v : m.Value n) (vs : Each m s) → Made m n v → Grows m s vs → Grows m (Non n ∷ s) (v, vs)
with_node m n s v vs made g = record {
  forest = Node made.rule made.kids g.forest;
  forms = (made.inside, made.left, made.forms, g.forms);
  yields =
      ap (λ l. l ++ yield g.forest) made.yields
      ∙ ap (λ l. map m.kind_of (m.written n v) ++ l) g.yields
      ∙ sym (map-append m.kind_of (m.written n v) (row m s vs))
      ∙ ap (λ l. map m.kind_of l) (sym (joined_is m n v s vs));
  runs = λ rest below.
      ap (λ l. after_trees (begun m) (shifted m) (reduced m) g.forest (reduced m (after_trees (begun m) (shifted m) (reduced m) made.kids (record { tokens = l ++ rest; parts = below })) made.rule)) (joined_is m n v s vs)
      ∙ ap (λ l. after_trees (begun m) (shifted m) (reduced m) g.forest (reduced m (after_trees (begun m) (shifted m) (reduced m) made.kids (record { tokens = l; parts = below })) made.rule)) (append_assoc (m.written n v) (row m s vs) rest)
      ∙ ap (λ (st : State m). after_trees (begun m) (shifted m) (reduced m) g.forest st) (made.runs (row m s vs ++ rest) below)
      ∙ g.runs rest (m.part n v ∷ below);
}

pub grows : (m : Meaning) → IsLawful m → (s : List Symbol) (vs : Each m s) → MadeEach m s vs → Grows m s vs
grows m lawful [] vs made = record { forest = End; forms = tt; yields = refl; runs = λ rest below. refl }
grows m lawful (Kind k ∷ s) vs made = with_leaf m lawful k s vs.0 vs.1 (lawful.kind k vs.0) (grows m lawful s vs.1 made)
grows m lawful (Non n ∷ s) vs made = with_node m n s vs.0 vs.1 made.0 (grows m lawful s vs.1 made.1)

pub node :
    (m : Meaning) → IsLawful m → (p : ℕ) → nat_lt p m.grammar.count ≡ true
    → (vs : Each m (m.grammar.right p)) (v : m.Value (m.grammar.left p))
    → ((below : List m.Part) → m.act p (onto m (m.grammar.right p) vs below) ≡ m.part (m.grammar.left p) v ∷ below)
    → m.written (m.grammar.left p) v ≡ row m (m.grammar.right p) vs
    → MadeEach m (m.grammar.right p) vs → Made m (m.grammar.left p) v
node m lawful p inside vs v acts writes made =
    let g = grows m lawful (m.grammar.right p) vs made in
    record {
      rule = p;
      kids = g.forest;
      inside = ltb-true p m.grammar.count inside;
      left = refl;
      forms = g.forms;
      yields = g.yields ∙ ap (λ l. map m.kind_of l) (sym writes);
      runs = λ rest below.
          ap (λ l. reduced m (after_trees (begun m) (shifted m) (reduced m) g.forest (record { tokens = l ++ rest; parts = below })) p) writes
          ∙ ap (λ (st : State m). reduced m st p) (g.runs rest below)
          ∙ ap (λ l. record { tokens = rest; parts = l }) (acts below);
    }
