-- What fits the limit on depths is written within it.
use Rattle.std.proofs.Common.{◌≡◌, ◌<◌, ◌≤◌, ◌+◌, ℕ, Bool, true, false, ◌||◌, cond, nat_eq, nat_lt, List, [], ◌∷◌, ◌++◌, refl, ap, sym, ◌∙◌, subst, arith}
use Rattle.std.specs.List.{list_all}
use Rattle.std.proofs.lemmas.Bool.{eqb-true, ltb-true}
use Rattle.std.proofs.lemmas.List.{append-nil}
use Rattle.predictive.proofs.GapListing.{both}
use Rattle.predictive.specs.Gapped.{IsLoose, opened}
use Rattle.ir_core.specs.Depths.{deepest, depth_of}
use Rattle.module_grammar.specs.declared.types.TypeText.{TypeText}
use Rattle.module_grammar.specs.Joined.{pointers_to}
use Rattle.module_grammar.specs.Rules.{first_rule, meaning, rules}
use Rattle.module_grammar.specs.Sorts.{vocabulary}
use Rattle.module_grammar.specs.Tokens.{token_grammar, with_gap}
use Rattle.module_grammar.proofs.Lawful.{lawful}
use Rattle.module_grammar.proofs.WithGap.{is_gapped}
use Rattle.module_spelling.specs.Opened.{constant_rules, depths, init_rules, is_among, opens, pointers, type_rules}
use Rattle.named_modules.specs.Types.{type_of}
use Rattle.named_modules.proofs.Lists.{all_append}
use Rattle.predictive.specs.Grammar.{Forest, End, Leaf, Node, Forms}
use Rattle.predictive.specs.declared.symbol.Symbol.{Symbol as Sign}
use Rattle.predictive.specs.declared.symbol.Symbol.TheVariants.{Kind, Non}
use Rattle.predictive.specs.Meaning.{Each}
use Rattle.predictive.specs.Typed.{nth}
use Rattle.module_texts.proofs.SpelledLimits.Claimed.{AreUpTo}
use Rattle.module_texts.proofs.SpelledLimits.Depths.{of_pointers}
use Rattle.module_texts.proofs.SpelledLimits.FitsMade.{UnlessPointers, deeper_is}
use Rattle.printed_modules.proofs.Deep.{StarsFit, TypeFits}
use Rattle.printed_modules.proofs.DeepMade.{EachFits, IsSplit, each_splits, fits_at}
use Rattle.printed_modules.proofs.ReadTrees as trees
use Rattle.printed_modules.proofs.Told as told

-- ---- depths of a node's tokens

-- those of its own, and those behind it
apart : (d p : ℕ) (kids f : Forest) → depths d (Node p kids f) ≡ depths d (Node p kids End) ++ depths d f
apart d p End f = refl
apart d p (Leaf k g) f = ap (λ l. l ++ depths d f) (sym (append-nil (depths (d + opens p) (Leaf k g))))
apart d p (Node b base stars) f =
    ap (λ l. l ++ depths d f)
    (sym (append-nil (cond (nat_eq p pointers) (depths (d + opens b) base ++ depths (d + deepest (depths (opens b) base)) stars) (depths (d + opens p) (Node b base stars)))))

plainly : (d p : ℕ) (kids : Forest) → nat_eq p pointers ≡ false → depths d (Node p kids End) ≡ depths (d + opens p) kids
plainly d p End e = refl
plainly d p (Leaf k g) e = append-nil (depths (d + opens p) (Leaf k g))
plainly d p (Node b base stars) e =
    append-nil (cond (nat_eq p pointers) (depths (d + opens b) base ++ depths (d + deepest (depths (opens b) base)) stars) (depths (d + opens p) (Node b base stars)))
    ∙ ap (λ t. cond t (depths (d + opens b) base ++ depths (d + deepest (depths (opens b) base)) stars) (depths (d + opens p) (Node b base stars))) e

both_up_to : (d l p : ℕ) (kids f : Forest) → AreUpTo l (depths d (Node p kids End)) → AreUpTo l (depths d f) → AreUpTo l (depths d (Node p kids f))
both_up_to d l p kids f own more =
    subst (AreUpTo l) (sym (apart d p kids f)) (all_append (λ j. j ≤ l) (depths d (Node p kids End)) (depths d f) own more)

deepest_up_to : (ds : List ℕ) (l : ℕ) → AreUpTo l ds → deepest ds ≤ l
deepest_up_to [] l all = omega arith
deepest_up_to (d ∷ ds) l all =
    let here : d ≤ l = all.0 in
    let more = deepest_up_to ds l all.1 in
    omega (arith, here, more)

-- ---- text of which nothing is kept

-- numbers below another aren't among those from it on
not_among : (p n : ℕ) (ns : List ℕ) → list_all (λ k. nat_lt k n) ns ≡ true → n ≤ p → is_among p ns ≡ false
not_among p n [] e h = refl
not_among p n (k ∷ ns) e h =
    let parts = both (nat_lt k n) (list_all (λ k. nat_lt k n) ns) e in
    other (nat_eq p k) refl (ltb-true k n parts.0) (not_among p n ns parts.1 h)
  where
    other : (b : Bool) → nat_eq p k ≡ b → k < n → is_among p ns ≡ false → (b || is_among p ns) ≡ false
    other true same below more = let at : p ≡ k = eqb-true p k same in absurd (omega (arith, at, below, h))
    other false same below more = more

-- its rules count nothing
counted : Bool → ℕ
counted b = cond b 1 0

none_counted : (a b c : Bool) → a ≡ false → b ≡ false → c ≡ false → counted (a || (b || c)) ≡ 0
unfolding counted
none_counted false false false d e f = refl
none_counted true b c d e f = cc
none_counted false true c d e f = cc
none_counted false false true d e f = cc

opens_nothing : (p : ℕ) → meaning.grammar.count ≤ p → opens p ≡ 0
unfolding counted
opens_nothing p h =
    let types = not_among p 206 type_rules refl h in
    let constants = not_among p 206 constant_rules refl h in
    let inits = not_among p 206 init_rules refl h in
    none_counted (is_among p type_rules) (is_among p constant_rules) (is_among p init_rules) types constants inits

no_pointers : (p : ℕ) → (p ≡ pointers → ⊥) → nat_eq p pointers ≡ false
no_pointers p other = go (nat_eq p pointers) refl
  where
    go : (t : Bool) → nat_eq p pointers ≡ t → t ≡ false
    go true e = absurd (other (eqb-true p pointers e))
    go false e = refl

gap_up_to : (f : Forest) (s : List Sign) → IsLoose with_gap.non s → Forms token_grammar f s → (d l : ℕ) → d ≤ l → AreUpTo l (depths d f)
gap_up_to End s free formed d l h = tt
gap_up_to (Leaf k f) (Kind c ∷ s) free formed d l h = (h, gap_up_to f s free formed.1 d l h)
gap_up_to (Node p kids f) (Non n ∷ s) free formed d l h =
    let above : meaning.grammar.count ≤ p = told.outside meaning with_gap is_gapped p formed.0 n formed.1 free.0 in
    let inside = gap_up_to kids (token_grammar.right p) (is_gapped.loose p above formed.0) formed.2 d l h in
    let none = opens_nothing p above in
    let same : d ≡ d + opens p = omega (arith, none) in
    let other = no_pointers p (λ e. (let large : 206 ≤ p = above in omega (arith, large, e))) in
    both_up_to d l p kids f
    (subst (AreUpTo l) (sym (plainly d p kids other)) (subst (λ j. AreUpTo l (depths j kids)) same inside))
    (gap_up_to f s free.1 formed.3 d l h)
gap_up_to (Leaf k f) [] free formed d l h = absurd formed
gap_up_to (Leaf k f) (Non n ∷ s) free formed d l h = absurd formed
gap_up_to (Node p kids f) [] free formed d l h = absurd formed
gap_up_to (Node p kids f) (Kind c ∷ s) free formed d l h = absurd formed

-- ---- rules

-- wherever a node stands, its tokens are within a limit where its value fits it
abbrev pub DeepClaim : ℕ → Forest → (n : ℕ) → vocabulary.Value n → Type 0
DeepClaim p kids n v = (d l : ℕ) → d ≤ l → fits_at n d l v → AreUpTo l (depths d (Node p kids End))

abbrev Claims : Forest → (s : List Sign) → Each meaning s → Type 0
Claims = trees.Claims DeepClaim

spread :
    (kids : Forest) (s : List Sign) → Forms token_grammar kids (opened with_gap.kind with_gap.non s) → (vs : Each meaning s) → Claims kids s vs
    → (d l : ℕ) → d ≤ l → EachFits d l s vs → AreUpTo l (depths d kids)
spread End s formed vs claims d l h fits = tt
spread (Leaf k f) (Kind c ∷ s) formed vs claims d l h fits =
    let parts = told.leaf_formed meaning lawful with_gap is_gapped DeepClaim (nat_eq c with_gap.kind) k c f (opened with_gap.kind with_gap.non s) formed in
    (h, spread f s parts.1 vs.1 claims d l h fits)
spread (Node p kids f) (Kind c ∷ s) formed vs claims d l h fits =
    let g = told.gap_formed meaning lawful with_gap is_gapped DeepClaim (nat_eq c with_gap.kind) p c kids f (opened with_gap.kind with_gap.non s) refl formed in
    both_up_to d l p kids f
    (gap_up_to (Node p kids End) (Non with_gap.non ∷ []) (omega arith, tt) (g.0.inside, g.0.left, g.0.formed, tt) d l h)
    (spread f s g.1 vs.1 claims d l h fits)
spread (Node p kids f) (Non n ∷ s) formed vs claims d l h fits =
    both_up_to d l p kids f (claims.0 d l h fits.0) (spread f s formed.3 vs.1 claims.1 d l h fits.1)
spread (Leaf k f) [] formed vs claims d l h fits = absurd formed
spread (Leaf k f) (Non n ∷ s) formed vs claims d l h fits = absurd formed
spread (Node p kids f) [] formed vs claims d l h fits = absurd formed

abbrev IsClaimed : ℕ → Type 0
IsClaimed = trees.IsClaimed DeepClaim

stars_fit : (d deep l : ℕ) (t : TypeText) (ss : List ℕ) → deep ≤ depth_of (type_of t) → TypeFits d l (pointers_to t ss) → StarsFit (d + deep) l ss
stars_fit d deep l t [] below fits = tt
stars_fit d deep l t (at ∷ more) below fits =
    let whole = of_pointers t (at ∷ more) in
    omega (arith, below, fits, whole)

-- stars stand deeper than the deepest token before them
of_stars : IsClaimed 74
of_stars (Node b base (Node q stars End)) formed (t, (ss, _)) claims d l h fits =
    let other : nat_eq b pointers ≡ false = no_pointers b (λ e. absurd (base_type b e formed.1)) in
    let deep : ℕ = deepest (depths (opens b) base) in
    let whole = of_pointers t ss in
    let first : AreUpTo l (depths (d + opens b) base) =
    subst (AreUpTo l) (plainly d b base other) (claims.0 d l h (omega (arith, fits, whole))) in
    let same : 0 + opens b ≡ opens b = omega arith in
    let alone : AreUpTo (depth_of (type_of t)) (depths (opens b) base) =
    subst (λ j. AreUpTo (depth_of (type_of t)) (depths j base)) same
    (subst (AreUpTo (depth_of (type_of t))) (plainly 0 b base other) (claims.0 0 (depth_of (type_of t)) (omega arith) (omega arith))) in
    let below : deep ≤ depth_of (type_of t) = deepest_up_to (depths (opens b) base) (depth_of (type_of t)) alone in
    let behind : AreUpTo l (depths (d + deep) (Node q stars End)) =
    claims.1.0 (d + deep) l (omega (arith, fits, whole, below)) (stars_fit d deep l t ss below fits) in
    all_append (λ j. j ≤ l) (depths (d + opens b) base ++ depths (d + deep) (Node q stars End)) []
    (all_append (λ j. j ≤ l) (depths (d + opens b) base) (depths (d + deep) (Node q stars End)) first behind) tt
  where
    -- a base type isn't `T {*}`
    base_type : (b : ℕ) → b ≡ pointers → token_grammar.left b ≡ 34 → ⊥
    base_type b e left = let at : token_grammar.left b ≡ 33 = ap token_grammar.left e in omega (arith, at, left)
of_stars End formed vs claims d l h fits = absurd formed
of_stars (Leaf k f) formed vs claims d l h fits = absurd formed
of_stars (Node b base End) formed vs claims d l h fits = absurd formed.3
of_stars (Node b base (Leaf k f)) formed vs claims d l h fits = absurd formed.3
of_stars (Node b base (Node q stars (Leaf k f))) formed vs claims d l h fits = absurd formed.3.3
of_stars (Node b base (Node q stars (Node r g f))) formed vs claims d l h fits = absurd formed.3.3

pub deep_claim : (p : ℕ) → p < meaning.grammar.count → IsClaimed p
deep_claim p i kids formed vs claims = by (nat_eq p pointers) refl (each_splits p i)
  where
    by : (b : Bool) → nat_eq p pointers ≡ b → UnlessPointers b (IsSplit p (nth first_rule rules p)) → DeepClaim p kids (meaning.grammar.left p) (trees.make p vs)
    by true e none d l h fits = subst IsClaimed (sym (eqb-true p pointers e)) of_stars kids formed vs claims d l h fits
    by false e splits d l h fits =
        let parts = splits d l vs h fits in
        subst (AreUpTo l) (sym (plainly d p kids e))
        (spread kids (meaning.grammar.right p) formed vs claims (d + opens p) l (subst (λ j. j ≤ l) (sym (deeper_is p d)) parts.0)
        (subst (λ j. EachFits j l (meaning.grammar.right p) vs) (sym (deeper_is p d)) parts.1))

-- what is claimed of a derivation's root
pub one_deep : (f : Forest) (n : ℕ) (v : vocabulary.Value n) → Forms token_grammar f (Non n ∷ []) → Claims f (Non n ∷ []) (v, tt) → (d l : ℕ) → d ≤ l → fits_at n d l v → AreUpTo l (depths d f)
one_deep (Node p kids End) n v formed claims d l h fits = claims.0 d l h fits
one_deep End n v formed claims d l h fits = absurd formed
one_deep (Leaf k f) n v formed claims d l h fits = absurd formed
one_deep (Node p kids (Leaf k f)) n v formed claims d l h fits = absurd formed.3
one_deep (Node p kids (Node q more f)) n v formed claims d l h fits = absurd formed.3
