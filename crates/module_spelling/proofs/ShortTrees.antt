-- A module that is written within the limit on lines is built of functions within it.
use Rattle.std.proofs.Common.{◌≡◌, ◌<◌, ◌≤◌, ◌+◌, ℕ, zero, suc, Bool, true, false, cond, nat_eq, List, [], ◌∷◌, ◌++◌, get_or, map, Some, refl, ap, sym, ◌∙◌, append_assoc, subst, inl, inr, arith}
use Rattle.std.specs.List.{AllByRecursion, filter_map}
use Rattle.std.proofs.lemmas.Bool.{ltb-true}
use Rattle.std.proofs.lemmas.List.{append-nil}
use Rattle.predictive.specs.Gapped.{reduced}
use Rattle.predictive.proofs.Filling.{grown}
use Rattle.ir_core.specs.declared.limits.Limit.TheVariants as limit
use Rattle.ir_core.specs.Limits.{line_limit}
use Rattle.module_grammar.specs.declared.functions.DefinitionText.{DefinitionText}
use Rattle.module_grammar.specs.declared.items.ItemText.{ItemText}
use Rattle.module_grammar.specs.declared.items.ItemText.TheVariants as item
use Rattle.module_grammar.specs.declared.items.ModuleText.{ModuleText}
use Rattle.module_grammar.specs.declared.parts.Part.{Part}
use Rattle.module_grammar.specs.Rules.{first_rule, meaning, rules, written_at}
use Rattle.module_grammar.specs.Sets.{sets}
use Rattle.module_grammar.specs.Sorts.{vocabulary}
use Rattle.module_grammar.specs.Symbols.{Symbol, kind_of}
use Rattle.module_grammar.specs.Tokens.{token_grammar, with_gap}
use Rattle.module_grammar.proofs.Lawful.{lawful}
use Rattle.module_grammar.proofs.ModulesMade.{module_text}
use Rattle.module_grammar.proofs.Predictive.{is_predictive}
use Rattle.module_grammar.proofs.Vocabulary.{is_vocabulary}
use Rattle.module_grammar.proofs.WithGap.{is_gapped}
use Rattle.module_spelling.specs.Opened.{definition, lines, lines_at, lines_in}
use Rattle.named_modules.specs.Built.{types_of}
use Rattle.named_modules.specs.Modules.{definition_item}
use Rattle.named_modules.proofs.Lists.{all_left, all_right}
use Rattle.predictive.specs.GrammarDecides.Selects.{unambiguous}
use Rattle.predictive.specs.Grammar.{Forest, End, Leaf, Node, Forms, yield}
use Rattle.predictive.specs.declared.symbol.Symbol.TheVariants.{Non}
use Rattle.predictive.proofs.Sound.{divided}
use Rattle.predictive.specs.Meaning.{Each, State, onto}
use Rattle.predictive.specs.Typed.{made, nth, top}
use Rattle.module_spelling.specs.TokenLaws.{WithinTreesAreShort}
use Rattle.module_spelling.proofs.Acts.{acts}
use Rattle.module_spelling.proofs.BuiltLines.{all_built}
use Rattle.module_spelling.proofs.Counted.{Adds, Counted, counted}
use Rattle.module_spelling.proofs.Counted as reading
use Rattle.module_spelling.proofs.RuleTests.{Tested, of_rule}
use Rattle.module_spelling.proofs.Shown.{AllFew, Few, are_few}
use Rattle.module_spelling.proofs.Weights.{definition_weight, each_rule, item_weight, weight_at}

-- ---- a derivation is read

state : List Symbol → List Part → State meaning
state ts ps = record { tokens = ts; parts = ps }

abbrev run : Forest → State meaning → State meaning
run = reading.run meaning lawful with_gap is_gapped weight_at

adds : (p : ℕ) → p < meaning.grammar.count → Adds meaning weight_at p
adds p h vs = (made vocabulary (nth first_rule rules p) vs, acts vocabulary is_vocabulary written_at first_rule rules p h vs, each_rule p h vs)

-- what a rule's act leaves of what its right side left
left_by :
    (p : ℕ) (h : p < meaning.grammar.count) (vs : Each meaning (meaning.grammar.right p)) (below : List Part)
    → with_gap.act p (onto meaning (meaning.grammar.right p) vs below) ≡ meaning.part (meaning.grammar.left p) (made vocabulary (nth first_rule rules p) vs) ∷ below
left_by p h vs below =
    is_gapped.act p h (onto meaning (meaning.grammar.right p) vs below) ∙ acts vocabulary is_vocabulary written_at first_rule rules p h vs below

-- ---- definitions

abbrev AllShort : List DefinitionText → Type 0
AllShort = AllByRecursion (λ (w : DefinitionText). definition_weight w ≤ line_limit)

with_item : (w : ItemText) (ws : List ItemText) → item_weight w ≤ line_limit → AllShort (filter_map definition_item ws) → AllShort (filter_map definition_item (w ∷ ws))
with_item (item.Definition d) ws few more = (few, more)
with_item w ws few more = more

-- so many had begun before the tokens of an item, and before those behind it
record Apart (inside behind : Forest) : Type 0 where
  pub at_item : ℕ
  pub item : AllFew (lines at_item inside)
  pub at_more : ℕ
  pub more : AllFew (lines at_more behind)

apart :
    (b : Bool) (n i j : ℕ) (inside behind : Forest) → AllFew (cond b (lines 0 inside ++ lines n behind) (lines i inside ++ lines j behind))
    → Apart inside behind
apart true n i j inside behind all = record {
  at_item = 0;
  item = all_left (λ (n : ℕ). n ≤ line_limit) (lines 0 inside) (lines n behind) all;
  at_more = n;
  more = all_right (λ (n : ℕ). n ≤ line_limit) (lines 0 inside) (lines n behind) all;
}
apart false n i j inside behind all = record {
  at_item = i;
  item = all_left (λ (n : ℕ). n ≤ line_limit) (lines i inside) (lines j behind) all;
  at_more = j;
  more = all_right (λ (n : ℕ). n ≤ line_limit) (lines i inside) (lines j behind) all;
}

few_in : (n : ℕ) (f : Forest) → Few n f → lines_in f ≤ line_limit
few_in n f (inl none) = omega (arith, none.0)
few_in n f (inr few) = omega (arith, few)

-- ---- modules

-- a module is read, whose definitions are within the limit
record Read (f : Forest) (ts : List Symbol) : Type 0 where
  pub tree : ModuleText
  pub runs : (rest : List Symbol) (below : List Part) → run f (record { tokens = ts ++ rest; parts = below }) ≡ record { tokens = rest; parts = meaning.part 0 tree ∷ below }
  pub short : AllShort (filter_map definition_item tree.items)

no_items : Read (Node zero End End) []
unfolding state
no_items = record {
  tree = record { items = [] };
  runs = λ rest below. ap (λ ps. state rest ps) (left_by 0 (ltb-true 0 206 refl) tt below);
  short = tt;
}

-- an item is read, and those behind it
with_more :
    (p : ℕ) (inside behind : Forest) (a b : List Symbol) → p < token_grammar.count → token_grammar.left p ≡ 1
    → Counted meaning lawful with_gap is_gapped weight_at (Node p inside End) (Non 1 ∷ []) a → lines_in inside ≤ line_limit → Read behind b
    → Read (Node (suc zero) (Node p inside behind) End) (a ++ b)
unfolding state
with_more p inside behind a b h left r few more =
    let t : Tested p = of_rule p h in
    let no_line : lines_at p ≡ 0 = t.item left in
    let count : lines_at p + lines_in inside + 0 ≡ item_weight r.values.0 + 0 = r.count in
    record {
      tree = record { items = r.values.0 ∷ more.tree.items };
      runs = λ rest below.
          ap (λ l. reduced meaning with_gap (run behind (run (Node p inside End) (state l below))) 1) (append_assoc a b rest)
          ∙ ap (λ st. reduced meaning with_gap (run behind st) 1) (r.runs (b ++ rest) below)
          ∙ ap (λ st. reduced meaning with_gap st 1) (more.runs rest (meaning.part 1 r.values.0 ∷ below))
          ∙ ap (λ ps. state rest ps) (left_by 1 (ltb-true 1 206 refl) (r.values.0, (more.tree, tt)) below);
      short = with_item r.values.0 more.tree.items (omega (arith, few, no_line, count)) more.short;
    }

read : (n : ℕ) (f : Forest) → Forms token_grammar f (Non 0 ∷ []) → (ts : List Symbol) → map kind_of ts ≡ yield f → AllFew (lines n f) → Read f ts
read n (Node zero End End) formed [] e all = no_items
read n (Node zero End End) formed (t ∷ ts) e all = cc
read n (Node (suc zero) (Node p inside behind) End) formed ts e all =
    let d = divided kind_of (yield inside) (yield behind) ts (e ∙ append-nil (yield inside ++ yield behind)) in
    let t : Tested p = of_rule p formed.2.0 in
    let row = t.inner (let left : token_grammar.left p ≡ 1 = formed.2.1 in omega (arith, left)) in
    let each = all_left (λ (n : ℕ). n ≤ line_limit) (lines (n + lines_at 1) (Node p inside behind)) [] all in
    let parts = apart (nat_eq p definition) (n + lines_at 1) (n + lines_at 1 + lines_at p) (n + lines_at 1 + lines_at p + lines_in inside) inside behind each in
    let few = few_in parts.at_item inside (are_few parts.at_item inside (token_grammar.right p) row formed.2.2 parts.item) in
    let r = counted meaning lawful with_gap is_gapped weight_at (λ p h above. (of_rule p h).dropped above) adds (Node p inside End) (Non 1 ∷ []) (ltb-true 1 92 refl, tt) (formed.2.0, formed.2.1, formed.2.2, tt) d.0 (d.3 ∙ sym (append-nil (yield inside))) in
    subst (Read (Node (suc zero) (Node p inside behind) End)) d.2
    (with_more p inside behind d.0 d.1 formed.2.0 formed.2.1 r few (read parts.at_more behind formed.2.3 d.1 d.4 parts.more))
read n (Node (suc (suc p)) kids f) formed ts e all =
    let small : suc (suc p) < 2 = (of_rule (suc (suc p)) formed.0).first formed.1 in
    absurd (omega (arith, small))
read n End formed ts e all = absurd formed
read n (Leaf k f) formed ts e all = absurd formed
read n (Node zero End (Leaf k f)) formed ts e all = absurd formed.3
read n (Node zero End (Node q a b)) formed ts e all = absurd formed.3
read n (Node zero (Leaf k a) f) formed ts e all = absurd formed.2
read n (Node zero (Node q a b) f) formed ts e all = absurd formed.2
read n (Node (suc zero) End f) formed ts e all = absurd formed.2
read n (Node (suc zero) (Leaf k a) f) formed ts e all = absurd formed.2
read n (Node (suc zero) (Node p a b) (Leaf k f)) formed ts e all = absurd formed.3
read n (Node (suc zero) (Node p a b) (Node q c f)) formed ts e all = absurd formed.3

-- ---- the law

few_each : (ns : List ℕ) → ((k : ℕ) → line_limit < get_or ns k 0 → ⊥) → AllFew ns
few_each [] none = tt
few_each (n ∷ ns) none = let here : line_limit < n → ⊥ = none 0 in (omega (arith, here), few_each ns (λ k. none (suc k)))

pub within_trees_are_short : WithinTreesAreShort
unfolding state
within_trees_are_short params tree symbols derivation written formed yields within =
    let r = read 0 derivation formed symbols (sym yields) (few_each (lines 0 derivation) (λ k passes. within k limit.Lines passes)) in
    let g = grown meaning lawful with_gap is_gapped 0 (ltb-true 0 92 refl) tree (module_text tree) symbols written in
    let same : g.forest ≡ derivation = unambiguous token_grammar sets is_predictive 0 (ltb-true 0 94 refl, refl) g.forest derivation g.forms formed (g.yields ∙ sym yields) in
    let ends : state [] (meaning.part 0 tree ∷ []) ≡ state [] (meaning.part 0 r.tree ∷ []) =
    sym (g.runs [] []) ∙ ap (λ f. run f (state (symbols ++ []) [])) same ∙ r.runs [] [] in
    let values : Some tree ≡ Some r.tree = ap (λ (st : State meaning). top (vocabulary.value 0) st.parts) ends in
    let one : r.tree ≡ tree = cc in
    all_built (types_of tree) (filter_map definition_item tree.items) (subst (λ (w : ModuleText). AllShort (filter_map definition_item w.items)) one r.short)
