-- What is written within the limit on depths fits it.
use Rattle.std.proofs.Common.{◌≡◌, ◌<◌, ◌≤◌, ◌+◌, ℕ, Bool, true, false, cond, nat_eq, List, [], ◌∷◌, ◌++◌, map, Some, refl, ap, sym, ◌∙◌, subst, arith}
use Rattle.std.proofs.lemmas.Bool.{eqb-true}
use Rattle.std.proofs.lemmas.List.{append-nil}
use Rattle.predictive.specs.Gapped.{opened}
use Rattle.predictive.proofs.Filling.{grown}
use Rattle.ir_core.specs.Depths.{deepest, depth_of}
use Rattle.module_grammar.specs.declared.parts.Part.{Part}
use Rattle.module_grammar.specs.declared.types.TypeText.{TypeText}
use Rattle.module_grammar.specs.Joined.{pointers_to}
use Rattle.module_grammar.specs.Rules.{first_rule, meaning, rules, written_at}
use Rattle.module_grammar.specs.Sets.{sets}
use Rattle.module_grammar.specs.Sorts.{sort, vocabulary}
use Rattle.module_grammar.specs.Symbols.{Symbol, kind_of}
use Rattle.module_grammar.specs.Texts.{IsWritten}
use Rattle.module_grammar.specs.Tokens.{token_grammar, with_gap}
use Rattle.module_grammar.proofs.Lawful.{lawful}
use Rattle.module_grammar.proofs.Predictive.{is_predictive}
use Rattle.module_grammar.proofs.Vocabulary.{is_vocabulary}
use Rattle.module_grammar.proofs.WithGap.{is_gapped}
use Rattle.module_spelling.specs.Opened.{depths, opens, pointers}
use Rattle.named_modules.specs.Types.{type_of}
use Rattle.named_modules.proofs.Lists.{all_left, all_right}
use Rattle.predictive.specs.GrammarDecides.Selects.{unambiguous}
use Rattle.predictive.specs.Grammar.{Forest, End, Leaf, Node, Forms, yield}
use Rattle.predictive.specs.declared.symbol.Symbol.{Symbol as Sign}
use Rattle.predictive.specs.declared.symbol.Symbol.TheVariants.{Kind, Non}
use Rattle.predictive.specs.Predictive.{MayEnd}
use Rattle.predictive.specs.Made.{Made}
use Rattle.predictive.specs.Meaning.{Each, State}
use Rattle.predictive.specs.Typed.{made, nth, top}
use Rattle.module_spelling.proofs.Acts.{acts}
use Rattle.module_texts.proofs.SpelledLimits.Claimed.{AreUpTo}
use Rattle.module_texts.proofs.SpelledLimits.Claimed as reading
use Rattle.module_texts.proofs.SpelledLimits.Depths.{of_pointers}
use Rattle.module_texts.proofs.SpelledLimits.Fits.{StarsFit, TypeFits}
use Rattle.module_texts.proofs.SpelledLimits.FitsMade.{EachFits, IsFitting, UnlessPointers, deeper_is, each_fits, fits_at}

-- ---- depths of a node's tokens

-- those of its own, and those behind it
apart : (d p : ℕ) (kids f : Forest) → depths d (Node p kids f) ≡ depths d (Node p kids End) ++ depths d f
apart d p End f = refl
apart d p (Leaf k g) f = ap (λ l. l ++ depths d f) (sym (append-nil (depths (d + opens p) (Leaf k g))))
apart d p (Node b base stars) f =
    ap (λ l. l ++ depths d f)
    (sym (append-nil (cond (nat_eq p pointers) (depths (d + opens b) base ++ depths (d + deepest (depths (opens b) base)) stars) (depths (d + opens p) (Node b base stars)))))

plainly : (d p : ℕ) (kids : Forest) → nat_eq p pointers ≡ false → depths d (Node p kids End) ≡ depths (d + opens p) kids
plainly d p End e = refl
plainly d p (Leaf k g) e = append-nil (depths (d + opens p) (Leaf k g))
plainly d p (Node b base stars) e =
    append-nil (cond (nat_eq p pointers) (depths (d + opens b) base ++ depths (d + deepest (depths (opens b) base)) stars) (depths (d + opens p) (Node b base stars)))
    ∙ ap (λ t. cond t (depths (d + opens b) base ++ depths (d + deepest (depths (opens b) base)) stars) (depths (d + opens p) (Node b base stars))) e

up_to : (ds : List ℕ) (l : ℕ) → deepest ds ≤ l → AreUpTo l ds
up_to [] l h = tt
up_to (d ∷ ds) l h = (omega (arith, h), up_to ds l (omega (arith, h)))

-- ---- rules

abbrev Claims : Forest → (s : List Sign) → Each meaning s → Type 0
Claims = reading.Claims meaning lawful with_gap is_gapped fits_at

abbrev Claim : ℕ → Forest → (n : ℕ) → vocabulary.Value n → Type 0
Claim = reading.Claim meaning lawful with_gap is_gapped fits_at

abbrev make : (p : ℕ) → Each meaning (meaning.grammar.right p) → vocabulary.Value (meaning.grammar.left p)
make p vs = made vocabulary (nth first_rule rules p) vs

-- the values of a right side fit where their tokens are within the limit
gather :
    (kids : Forest) (s : List Sign) → Forms token_grammar kids (opened with_gap.kind with_gap.non s) → (vs : Each meaning s) → Claims kids s vs
    → (d l : ℕ) → AreUpTo l (depths d kids) → EachFits d l s vs
gather End [] formed vs claims d l all = tt
gather (Leaf k f) (Kind c ∷ s) formed vs claims d l all =
    let parts = reading.leaf_formed meaning lawful with_gap is_gapped fits_at (nat_eq c with_gap.kind) k c f (opened with_gap.kind with_gap.non s) formed in
    (λ e. all.0, gather f s parts.1 vs.1 claims d l all.1)
gather (Node p kids f) (Kind c ∷ s) formed vs claims d l all =
    let g = reading.gap_formed meaning lawful with_gap is_gapped fits_at (nat_eq c with_gap.kind) p c kids f (opened with_gap.kind with_gap.non s) refl formed in
    let each = subst (AreUpTo l) (apart d p kids f) all in
    (λ e. absurd (apart_bits (nat_eq c with_gap.kind) g.0.gap e), gather f s g.1 vs.1 claims d l (all_right (λ j. j ≤ l) (depths d (Node p kids End)) (depths d f) each))
  where
    apart_bits : (b : Bool) → b ≡ true → b ≡ false → ⊥
    apart_bits b e f = cc
gather (Node p kids f) (Non n ∷ s) formed vs claims d l all =
    let each = subst (AreUpTo l) (apart d p kids f) all in (
      claims.0 d l (all_left (λ j. j ≤ l) (depths d (Node p kids End)) (depths d f) each),
      gather f s formed.3 vs.1 claims.1 d l (all_right (λ j. j ≤ l) (depths d (Node p kids End)) (depths d f) each),
    )
gather End (Kind c ∷ s) formed vs claims d l all = absurd formed
gather End (Non n ∷ s) formed vs claims d l all = absurd formed
gather (Leaf k f) [] formed vs claims d l all = absurd formed
gather (Leaf k f) (Non n ∷ s) formed vs claims d l all = absurd formed
gather (Node p kids f) [] formed vs claims d l all = absurd formed

-- a base type isn't `T {*}`
no_pointers : (b : ℕ) → token_grammar.left b ≡ 34 → nat_eq b pointers ≡ false
no_pointers b left = go (nat_eq b pointers) refl
  where
    go : (t : Bool) → nat_eq b pointers ≡ t → t ≡ false
    go true e =
        let at : token_grammar.left b ≡ 33 = ap token_grammar.left (eqb-true b pointers e) in
        absurd (omega (arith, at, left))
    go false e = refl

-- stars stand deeper than the deepest token before them
pointed : (d l deep : ℕ) (t : TypeText) (ss : List ℕ) → TypeFits d l t → depth_of (type_of t) ≤ deep → StarsFit (d + deep) l ss → TypeFits d l (pointers_to t ss)
pointed d l deep t [] base below stars = base
pointed d l deep t (at ∷ more) base below stars =
    let whole = of_pointers t (at ∷ more) in omega (arith, below, stars, whole)

abbrev IsClaimed : ℕ → Type 0
IsClaimed p =
    (kids : Forest) → Forms token_grammar kids (opened with_gap.kind with_gap.non (meaning.grammar.right p)) → (vs : Each meaning (meaning.grammar.right p))
    → Claims kids (meaning.grammar.right p) vs → Claim p kids (meaning.grammar.left p) (make p vs)

of_stars : IsClaimed 74
of_stars (Node b base (Node q stars End)) formed (t, (ss, _)) claims d l all =
    let other : nat_eq b pointers ≡ false = no_pointers b formed.1 in
    let deep : ℕ = deepest (depths (opens b) base) in
    let each = all_left (λ j. j ≤ l) (depths (d + opens b) base ++ depths (d + deep) (Node q stars End)) [] all in
    let first = all_left (λ j. j ≤ l) (depths (d + opens b) base) (depths (d + deep) (Node q stars End)) each in
    let behind = all_right (λ j. j ≤ l) (depths (d + opens b) base) (depths (d + deep) (Node q stars End)) each in
    let same : 0 + opens b ≡ opens b = omega arith in
    let alone : AreUpTo deep (depths (opens b) base) = up_to (depths (opens b) base) deep (omega arith) in
    let below : 0 + depth_of (type_of t) ≤ deep =
    claims.0 0 deep (subst (AreUpTo deep) (sym (plainly 0 b base other)) (subst (λ j. AreUpTo deep (depths j base)) (sym same) alone)) in
    pointed d l deep t ss (claims.0 d l (subst (AreUpTo l) (sym (plainly d b base other)) first)) (omega (arith, below)) (claims.1.0 (d + deep) l behind)
of_stars End formed vs claims d l all = absurd formed
of_stars (Leaf k f) formed vs claims d l all = absurd formed
of_stars (Node b base End) formed vs claims d l all = absurd formed.3
of_stars (Node b base (Leaf k f)) formed vs claims d l all = absurd formed.3
of_stars (Node b base (Node q stars (Leaf k f))) formed vs claims d l all = absurd formed.3.3
of_stars (Node b base (Node q stars (Node r g f))) formed vs claims d l all = absurd formed.3.3

claim : (p : ℕ) → p < meaning.grammar.count → IsClaimed p
claim p h kids formed vs claims = by (nat_eq p pointers) refl (each_fits p h)
  where
    by : (b : Bool) → nat_eq p pointers ≡ b → UnlessPointers b (IsFitting p (nth first_rule rules p)) → Claim p kids (meaning.grammar.left p) (make p vs)
    by true e none d l all = subst IsClaimed (sym (eqb-true p pointers e)) of_stars kids formed vs claims d l all
    by false e fits d l all =
        fits d l vs
        (subst (λ j. EachFits j l (meaning.grammar.right p) vs) (deeper_is p d)
        (gather kids (meaning.grammar.right p) formed vs claims (d + opens p) l (subst (AreUpTo l) (plainly d p kids e) all)))

-- ---- what is written

state : List Symbol → List Part → State meaning
state ts ps = record { tokens = ts; parts = ps }

abbrev run : Forest → State meaning → State meaning
run = reading.run meaning lawful with_gap is_gapped fits_at

one_claim : (f : Forest) (n : ℕ) (v : vocabulary.Value n) → Forms token_grammar f (Non n ∷ []) → Claims f (Non n ∷ []) (v, tt) → (d l : ℕ) → AreUpTo l (depths d f) → fits_at n d l v
one_claim (Node p kids End) n v formed claims d l all = claims.0 d l all
one_claim End n v formed claims d l all = absurd formed
one_claim (Leaf k f) n v formed claims d l all = absurd formed
one_claim (Node p kids (Leaf k f)) n v formed claims d l all = absurd formed.3
one_claim (Node p kids (Node q more f)) n v formed claims d l all = absurd formed.3

-- the tree that tokens within the limit are written of fits
pub written_fits :
    (n : ℕ) → n < 92 → MayEnd sets n → (v : vocabulary.Value n) → Made meaning n v → (tokens : List Symbol) → IsWritten (sort n) v tokens
    → (derivation : Forest) → Forms token_grammar derivation (Non n ∷ []) → yield derivation ≡ map kind_of tokens
    → (d l : ℕ) → AreUpTo l (depths d derivation) → fits_at n d l v
unfolding state
written_fits n small may v is_made tokens written derivation formed yields d l all =
    let r = reading.claimed meaning lawful with_gap is_gapped fits_at make (λ p h vs below. acts vocabulary is_vocabulary written_at first_rule rules p h vs below) claim
    derivation (Non n ∷ []) (small, tt) formed tokens (sym yields) in
    let g = grown meaning lawful with_gap is_gapped n small v is_made tokens written in
    let same : g.forest ≡ derivation = unambiguous token_grammar sets is_predictive n may g.forest derivation g.forms formed (g.yields ∙ sym yields) in
    let ends : state [] (meaning.part n v ∷ []) ≡ state [] (meaning.part n r.values.0 ∷ []) =
    sym (g.runs [] []) ∙ ap (λ f. run f (state (tokens ++ []) [])) same ∙ r.runs [] [] in
    let values : Some v ≡ Some r.values.0 =
    sym (is_vocabulary.value n v) ∙ ap (λ (st : State meaning). top (vocabulary.value n) st.parts) ends ∙ is_vocabulary.value n r.values.0 in
    let one : r.values.0 ≡ v = cc in
    subst (fits_at n d l) one (one_claim derivation n r.values.0 formed r.claims d l all)
