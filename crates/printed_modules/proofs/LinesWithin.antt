-- What is within the limit on lines is written within it.
use Rattle.std.proofs.Common.{◌≡◌, ◌<◌, ◌≤◌, ◌+◌, ℕ, zero, suc, Bool, true, false, ◌&&◌, ◌||◌, cond, nat_eq, nat_le, List, [], ◌∷◌, ◌++◌, length, refl, sym, subst, arith}
use Rattle.std.specs.List.{AllByRecursion, filter_map}
use Rattle.std.proofs.lemmas.Bool.{leb-true}
use Rattle.predictive.proofs.GapListing.{both}
use Rattle.predictive.specs.Gapped.{IsLoose, opened}
use Rattle.ir_core.specs.Limits.{line_limit}
use Rattle.module_grammar.specs.declared.items.ItemText.{ItemText}
use Rattle.module_grammar.specs.declared.items.ItemText.TheVariants as item
use Rattle.module_grammar.specs.declared.items.ModuleText.{ModuleText}
use Rattle.module_grammar.specs.Rules.{first_rule, meaning, rules}
use Rattle.module_grammar.specs.Sorts.{vocabulary}
use Rattle.module_grammar.specs.Tokens.{token_grammar, with_gap}
use Rattle.module_grammar.proofs.Lawful.{lawful}
use Rattle.module_grammar.proofs.WithGap.{is_gapped}
use Rattle.module_spelling.specs.Opened.{definition, lines, lines_at, lines_in}
use Rattle.named_modules.specs.Modules.{definition_item}
use Rattle.named_modules.proofs.Lists.{all_append}
use Rattle.predictive.specs.Grammar.{Forest, End, Leaf, Node, Forms}
use Rattle.predictive.specs.declared.symbol.Symbol.{Symbol as Sign}
use Rattle.predictive.specs.declared.symbol.Symbol.TheVariants.{Kind, Non}
use Rattle.module_spelling.proofs.Counted.{sum_each}
use Rattle.module_spelling.proofs.RuleTests.{Tested, is_inner, of_rule}
use Rattle.module_spelling.proofs.Shown.{AllFew}
use Rattle.module_spelling.proofs.Weights.{each_rule, item_weight, weight_at}
use Rattle.predictive.specs.Meaning.{Each}
use Rattle.predictive.specs.Typed.{Rule, nth}
use Rattle.printed_modules.proofs.BuiltShort.{AllShort}
use Rattle.printed_modules.proofs.ReadTrees as trees
use Rattle.printed_modules.proofs.Told as told

-- ---- below an item

abbrev Below : ℕ → List ℕ → Type 0
Below b = AllByRecursion (λ (n : ℕ). n ≤ b)

-- where so many had begun before, at no token have more than with those that begin
pub few_inside : (n b : ℕ) (f : Forest) (s : List Sign) → is_inner s ≡ true → Forms token_grammar f s → n + lines_in f ≤ b → AllByRecursion (λ (j : ℕ). j ≤ b) (lines n f)
few_inside n b End s inner formed h = tt
few_inside n b (Leaf k f) (Kind c ∷ s) inner formed h = (omega (arith, h), few_inside n b f s inner formed.1 h)
few_inside n b (Node p kids f) (Non m ∷ s) inner formed h =
    let parts = both (nat_le 2 m) (is_inner s) inner in
    let above : 2 ≤ m = leb-true 2 m parts.0 in
    let t : Tested p = of_rule p formed.0 in
    let left : 2 ≤ token_grammar.left p = subst (λ j. 2 ≤ j) (sym formed.1) above in
    let own = few_inside (n + lines_at p) b kids (token_grammar.right p) (t.inner (omega (arith, left))) formed.2 (omega (arith, h)) in
    let more = few_inside (n + lines_at p + lines_in kids) b f s parts.1 formed.3 (omega (arith, h)) in
    subst (λ t. Below b (cond t (lines 0 kids ++ lines n f) (lines (n + lines_at p) kids ++ lines (n + lines_at p + lines_in kids) f))) (sym (t.other left))
    (all_append (λ (j : ℕ). j ≤ b) (lines (n + lines_at p) kids) (lines (n + lines_at p + lines_in kids) f) own more)
few_inside n b (Leaf k f) [] inner formed h = absurd formed
few_inside n b (Leaf k f) (Non m ∷ s) inner formed h = absurd formed
few_inside n b (Node p kids f) [] inner formed h = absurd formed
few_inside n b (Node p kids f) (Kind c ∷ s) inner formed h = absurd formed

-- no line begins in text that isn't kept
none_in : (f : Forest) (s : List Sign) → IsLoose with_gap.non s → Forms token_grammar f s → lines_in f ≡ 0
none_in End s free formed = refl
none_in (Leaf k f) (Kind c ∷ s) free formed = none_in f s free formed.1
none_in (Node p kids f) (Non n ∷ s) free formed =
    let left : with_gap.non ≤ token_grammar.left p = subst (λ j. with_gap.non ≤ j) (sym formed.1) free.0 in
    let none : lines_at p ≡ 0 = (of_rule p formed.0).dropped left in
    let above : meaning.grammar.count ≤ p = told.outside meaning with_gap is_gapped p formed.0 n formed.1 free.0 in
    let inner = none_in kids (token_grammar.right p) (is_gapped.loose p above formed.0) formed.2 in
    let outer = none_in f s free.1 formed.3 in
    omega (arith, none, inner, outer)
none_in (Leaf k f) [] free formed = absurd formed
none_in (Leaf k f) (Non n ∷ s) free formed = absurd formed
none_in (Node p kids f) [] free formed = absurd formed
none_in (Node p kids f) (Kind c ∷ s) free formed = absurd formed

-- ---- what is claimed of a node

-- of a module, that it is within the limit where its definitions are; of an item, that no line is in one that isn't a definition
abbrev pub OfModule : (n : ℕ) → ℕ → Forest → vocabulary.Value n → Type 0
OfModule zero p kids v = AllShort (filter_map definition_item v.items) → AllFew (lines 0 (Node p kids End))
OfModule (suc zero) p kids v = nat_eq p definition ≡ false → item_weight v ≡ 0
OfModule (suc (suc n)) p kids v = Unit {0}

-- so many lines begin in it as stand in its value
abbrev pub LineClaim : ℕ → Forest → (n : ℕ) → vocabulary.Value n → Type 0
LineClaim p kids n v = (lines_in (Node p kids End) ≡ weight_at n v) × OfModule n p kids v

abbrev Claims : Forest → (s : List Sign) → Each meaning s → Type 0
Claims = trees.Claims LineClaim

added_up : (kids : Forest) (s : List Sign) → Forms token_grammar kids (opened with_gap.kind with_gap.non s) → (vs : Each meaning s) → Claims kids s vs → lines_in kids ≡ sum_each meaning weight_at s vs
added_up End [] formed vs claims = refl
added_up (Leaf k f) (Kind c ∷ s) formed vs claims =
    let parts = told.leaf_formed meaning lawful with_gap is_gapped LineClaim (nat_eq c with_gap.kind) k c f (opened with_gap.kind with_gap.non s) formed in
    added_up f s parts.1 vs.1 claims
added_up (Node p kids f) (Kind c ∷ s) formed vs claims =
    let g = told.gap_formed meaning lawful with_gap is_gapped LineClaim (nat_eq c with_gap.kind) p c kids f (opened with_gap.kind with_gap.non s) refl formed in
    let none : lines_at p + lines_in kids + 0 ≡ 0 = none_in (Node p kids End) (Non with_gap.non ∷ []) (omega arith, tt) (g.0.inside, g.0.left, g.0.formed, tt) in
    let more = added_up f s g.1 vs.1 claims in
    omega (arith, none, more)
added_up (Node p kids f) (Non n ∷ s) formed vs claims =
    let here : lines_at p + lines_in kids + 0 ≡ weight_at n vs.0 = claims.0.0 in
    let more = added_up f s formed.3 vs.1 claims.1 in
    omega (arith, here, more)
added_up End (Kind c ∷ s) formed vs claims = absurd formed
added_up End (Non n ∷ s) formed vs claims = absurd formed
added_up (Leaf k f) [] formed vs claims = absurd formed
added_up (Leaf k f) (Non n ∷ s) formed vs claims = absurd formed
added_up (Node p kids f) [] formed vs claims = absurd formed

-- ---- items

first_few : (w : ItemText) (ws : List ItemText) → AllShort (filter_map definition_item (w ∷ ws)) → (item_weight w ≤ line_limit) × AllShort (filter_map definition_item ws)
first_few (item.Definition d) ws short = (short.0, short.1)
first_few item.Target ws short = (omega arith, short)
first_few (item.Attributes at) ws short = (omega arith, short)
first_few (item.Metadata is_distinct meta) ws short = (omega arith, short)
first_few (item.Declaration d) ws short = (omega arith, short)
first_few (item.Type name body) ws short = (omega arith, short)
first_few (item.Global name body) ws short = (omega arith, short)

-- the lines of an item are within the limit, and so are those behind it, before which none has begun
with_item :
    (b : Bool) (p : ℕ) (inside behind : Forest) → lines_at p ≡ 0 → is_inner (token_grammar.right p) ≡ true → Forms token_grammar inside (token_grammar.right p)
    → lines_in inside ≤ line_limit → (b ≡ false → lines_in inside ≡ 0) → AllFew (lines 0 behind)
    → AllFew (cond b (lines 0 inside ++ lines 0 behind) (lines (0 + lines_at p) inside ++ lines (0 + lines_at p + lines_in inside) behind))
with_item true p inside behind no_line inner formed few none more =
    all_append (λ (n : ℕ). n ≤ line_limit) (lines 0 inside) (lines 0 behind) (few_inside 0 line_limit inside (token_grammar.right p) inner formed (omega (arith, few))) more
with_item false p inside behind no_line inner formed few none more =
    let zero_lines = none refl in
    let at : 0 ≡ 0 + lines_at p + lines_in inside = omega (arith, zero_lines, no_line) in
    all_append (λ (n : ℕ). n ≤ line_limit) (lines (0 + lines_at p) inside) (lines (0 + lines_at p + lines_in inside) behind)
    (few_inside (0 + lines_at p) line_limit inside (token_grammar.right p) inner formed (omega (arith, few, no_line)))
    (subst (λ n. AllFew (lines n behind)) at more)

-- an item and those behind it
of_items : (kids : Forest) → Forms token_grammar kids (Non 1 ∷ Non 0 ∷ []) → (vs : Each meaning (Non 1 ∷ Non 0 ∷ [])) → Claims kids (Non 1 ∷ Non 0 ∷ []) vs → AllShort (filter_map definition_item (vs.0 ∷ vs.1.0.items)) → AllFew (lines 0 (Node 1 kids End))
of_items (Node p inside (Node q more End)) formed vs claims short =
    let t : Tested p = of_rule p formed.0 in
    let left : token_grammar.left p ≡ 1 = formed.1 in
    let parts = first_few vs.0 vs.1.0.items short in
    let no_line : lines_at p ≡ 0 = t.item left in
    let count : lines_at p + lines_in inside + 0 ≡ item_weight vs.0 = claims.0.0 in
    all_append (λ (n : ℕ). n ≤ line_limit) (lines 0 (Node p inside (Node q more End))) []
    (with_item (nat_eq p definition) p inside (Node q more End) no_line (t.inner (omega (arith, left))) formed.2 (let few = parts.0 in omega (arith, few, count))
    (λ e. (let none = claims.0.1 e in omega (arith, none, count))) (claims.1.0.1 parts.1)) tt
of_items End formed vs claims short = absurd formed
of_items (Leaf k f) formed vs claims short = absurd formed
of_items (Node p inside End) formed vs claims short = absurd formed.3
of_items (Node p inside (Leaf k f)) formed vs claims short = absurd formed.3
of_items (Node p inside (Node q more (Leaf k f))) formed vs claims short = absurd formed.3.3
of_items (Node p inside (Node q more (Node r g f))) formed vs claims short = absurd formed.3.3

-- ---- rules

no_items : (kids : Forest) → Forms token_grammar kids [] → AllFew (lines 0 (Node 0 kids End))
no_items End formed = tt
no_items (Leaf k f) formed = absurd formed
no_items (Node p kids f) formed = absurd formed

-- behind the first nine, which are of modules and items, no other is
test : ℕ → List (Rule vocabulary) → Bool
test i [] = true
test i (r ∷ rs) = (nat_le i 8 || nat_le 2 r.left) && test (suc i) rs

tested : test 0 rules ≡ true
unfolding test
tested = refl

tested_at : (rs : List (Rule vocabulary)) (i p : ℕ) → test i rs ≡ true → p < length rs → (nat_le (i + p) 8 || nat_le 2 (nth first_rule rs p).left) ≡ true
unfolding test
tested_at [] i p e h = absurd (grind arith)
tested_at (r ∷ rs) i zero e h =
    let here : i ≡ i + 0 = omega arith in
    subst (λ j. (nat_le j 8 || nat_le 2 r.left) ≡ true) here (both (nat_le i 8 || nat_le 2 r.left) (test (suc i) rs) e).0
tested_at (r ∷ rs) i (suc p) e h =
    let next : suc i + p ≡ i + suc p = omega arith in
    subst (λ j. (nat_le j 8 || nat_le 2 (nth first_rule rs p).left) ≡ true) next
    (tested_at rs (suc i) p (both (nat_le i 8 || nat_le 2 r.left) (test (suc i) rs) e).1 (grind arith))

behind_items : (p : ℕ) → 9 ≤ p → p < length rules → nat_le 2 (nth first_rule rules p).left ≡ true
behind_items p above h =
    let same : 0 + p ≡ p = omega arith in
    go (nat_le p 8) refl (subst (λ j. (nat_le j 8 || nat_le 2 (nth first_rule rules p).left) ≡ true) same (tested_at rules 0 p tested h))
  where
    go : (b : Bool) → nat_le p 8 ≡ b → (b || nat_le 2 (nth first_rule rules p).left) ≡ true → nat_le 2 (nth first_rule rules p).left ≡ true
    go true e t = let small = leb-true p 8 e in absurd (omega (arith, small, above))
    go false e t = t

of_others : (n p : ℕ) (kids : Forest) (v : vocabulary.Value n) → nat_le 2 n ≡ true → OfModule n p kids v
of_others zero p kids v e = cc
of_others (suc zero) p kids v e = cc
of_others (suc (suc n)) p kids v e = tt

abbrev nine_more : ℕ → ℕ
nine_more p = suc (suc (suc (suc (suc (suc (suc (suc (suc p))))))))

of_module :
    (p : ℕ) → p < meaning.grammar.count → (kids : Forest) → Forms token_grammar kids (opened with_gap.kind with_gap.non (meaning.grammar.right p))
    → (vs : Each meaning (meaning.grammar.right p)) → Claims kids (meaning.grammar.right p) vs → OfModule (meaning.grammar.left p) p kids (trees.make p vs)
of_module zero h kids formed vs claims = λ short. no_items kids formed
of_module (suc zero) h kids formed vs claims = λ short. of_items kids formed vs claims short
of_module (suc (suc zero)) h kids formed vs claims = λ e. refl
of_module (suc (suc (suc zero))) h kids formed vs claims = λ e. refl
of_module (suc (suc (suc (suc zero)))) h kids formed vs claims = λ e. refl
of_module (suc (suc (suc (suc (suc zero))))) h kids formed vs claims = λ e. refl
of_module (suc (suc (suc (suc (suc (suc zero)))))) h kids formed vs claims = λ e. refl
of_module (suc (suc (suc (suc (suc (suc (suc zero))))))) h kids formed vs claims = λ e. refl
of_module (suc (suc (suc (suc (suc (suc (suc (suc zero)))))))) h kids formed vs claims = λ e. cc
of_module (suc (suc (suc (suc (suc (suc (suc (suc (suc p))))))))) h kids formed vs claims =
    of_others (meaning.grammar.left (nine_more p)) (nine_more p) kids (trees.make (nine_more p) vs) (behind_items (nine_more p) (grind arith) h)

pub line_claim : (p : ℕ) → p < meaning.grammar.count → trees.IsClaimed LineClaim p
line_claim p h kids formed vs claims =
    let inside = added_up kids (meaning.grammar.right p) formed vs claims in
    let own = each_rule p h vs in
    (omega (arith, inside, own), of_module p h kids formed vs claims)

-- ---- the root of a derivation

pub one_short :
    (f : Forest) (v : ModuleText) → Forms token_grammar f (Non 0 ∷ []) → Claims f (Non 0 ∷ []) (v, tt) → AllShort (filter_map definition_item v.items)
    → AllFew (lines 0 f)
one_short (Node p kids End) v formed claims short = claims.0.1 short
one_short End v formed claims short = absurd formed
one_short (Leaf k f) v formed claims short = absurd formed
one_short (Node p kids (Leaf k f)) v formed claims short = absurd formed.3
one_short (Node p kids (Node q more f)) v formed claims short = absurd formed.3

pub one_counted :
    (f : Forest) (n : ℕ) (v : vocabulary.Value n) → Forms token_grammar f (Non n ∷ []) → Claims f (Non n ∷ []) (v, tt) → lines_in f ≡ weight_at n v
one_counted (Node p kids End) n v formed claims = claims.0.0
one_counted End n v formed claims = absurd formed
one_counted (Leaf k f) n v formed claims = absurd formed
one_counted (Node p kids (Leaf k f)) n v formed claims = absurd formed.3
one_counted (Node p kids (Node q more f)) n v formed claims = absurd formed.3
