-- Along trees each token stands as deep as their depths say.
use Rattle.std.proofs.Common.{◌≡◌, ◌<◌, ◌+◌, max, ℕ, Bool, true, false, cond, ◌||◌, nat_eq, List, [], ◌∷◌, ◌++◌, refl, ap, sym, ◌∙◌, subst, append_assoc, add-zero, arith}
use Rattle.std.proofs.lemmas.Bool.{and_parts, not-true, true≢false, eqb-true}
use Rattle.ir_core.specs.Depths.{deepest}
use Rattle.predictive.specs.Grammar.{Forest, End, Leaf, Node, Forms, Grammar, Event, Reduce, events}
use Rattle.predictive.specs.declared.symbol.Symbol.{Symbol}
use Rattle.predictive.specs.declared.symbol.Symbol.TheVariants.{Kind, Non}
use Rattle.module_spelling.specs.Opened.{depths, opens, pointers}
use Rattle.derivation_writer.specs.TokenLimits.Laws.{base_number}
use Rattle.derivation_writer.specs.TokenLimits.Nested as nested
use Rattle.derivation_writer.specs.TokenLimits.Nested.{at_level}
use Rattle.derivation_writer.specs.TokenLimits.Roles.{role_of}
use Rattle.derivation_writer.specs.declared.token_limits.nesting.Nesting.{Nesting}
use Rattle.derivation_writer.specs.declared.token_limits.role.Role.{Role}
use Rattle.derivation_writer.specs.declared.token_limits.role.Role.TheVariants.{Base, Definition, Line, Part, Plain, Pointers}
use Rattle.derivation_writer.proofs.TokenLimits.Depths.{base_depth, deepest_joined}
use Rattle.derivation_writer.proofs.TokenLimits.Facts.{Stands, base_fits, begins_with_kind, has_no_base, is_base, is_calm, opens_of, other_fits, stands, stars_number}
use Rattle.derivation_writer.proofs.TokenLimits.Seen.{levels_seen}

-- behind tokens that stand so deep
abbrev pub passed : Nesting → List ℕ → Nesting
passed n ds = record { level = n.level; deepest = max n.deepest (deepest ds); saved = n.saved }

passed_none : (n : Nesting) → n ≡ passed n []
passed_none n = let e : n.deepest ≡ max n.deepest 0 = omega arith in ap (λ d. record n { deepest = d }) e

passed_one : (n : Nesting) (ds : List ℕ) → passed (nested.shifted n) ds ≡ passed n (n.level ∷ ds)
passed_one n ds =
    let e : max (max n.deepest n.level) (deepest ds) ≡ max n.deepest (max n.level (deepest ds)) = omega arith in
    ap (λ d. record n { deepest = d }) e

passed_both : (n : Nesting) (a b : List ℕ) → passed (passed n a) b ≡ passed n (a ++ b)
passed_both n a b =
    let j = deepest_joined a b in
    let e : max (max n.deepest (deepest a)) (deepest b) ≡ max n.deepest (deepest (a ++ b)) = omega arith in
    ap (λ d. record n { deepest = d }) e

-- what is seen along the trees, from any state and with anything behind
abbrev pub Follows : Forest → Type 0
Follows f = (n : Nesting) (rest : List Event) → levels_seen (events f ++ rest) n ≡ depths n.level f ++ levels_seen rest (passed n (depths n.level f))

none_follow : Follows End
none_follow n rest = ap (λ m. levels_seen rest m) (passed_none n)

token_follows : (k : ℕ) (f : Forest) → Follows f → Follows (Leaf k f)
token_follows k f is n rest =
    ap (λ l. n.level ∷ l) (is (nested.shifted n) rest)
    ∙ ap (λ m. n.level ∷ (depths n.level f ++ levels_seen rest m)) (passed_one n (depths n.level f))

-- ---- a rule that is neither a type nor what stands before its stars

calm_begun : (r : Role) → is_calm r ≡ true → (n : Nesting) → nested.begun n r ≡ at_level n (n.level + opens_of r)
calm_begun Plain e n = ap (λ l. at_level n l) (sym (add-zero n.level))
calm_begun Pointers e n = absurd (true≢false (sym e))
calm_begun Base e n = absurd (true≢false (sym e))
calm_begun Part e n = refl
calm_begun Line e n = ap (λ l. at_level n l) (sym (add-zero n.level))
calm_begun Definition e n = ap (λ l. at_level n l) (sym (add-zero n.level))

calm_reduced : (r : Role) → is_calm r ≡ true → (n : Nesting) (l : ℕ) → n.level ≡ l + opens_of r → nested.reduced n r ≡ at_level n l
calm_reduced Plain e n l h = ap (λ l. at_level n l) (h ∙ add-zero l)
calm_reduced Pointers e n l h = absurd (true≢false (sym e))
calm_reduced Base e n l h = absurd (true≢false (sym e))
calm_reduced Part e n l h = ap (λ l. at_level n l) (omega arith)
calm_reduced Line e n l h = ap (λ l. at_level n l) (h ∙ add-zero l)
calm_reduced Definition e n l h = ap (λ l. at_level n l) (h ∙ add-zero l)

-- the depths of such a node
other_depths : (n p : ℕ) (kids f : Forest) → nat_eq p pointers ≡ false → depths n (Node p kids f) ≡ depths (n + opens p) kids ++ depths n f
other_depths n p End f e = refl
other_depths n p (Leaf k kids) f e = refl
other_depths n p (Node b base stars) f e =
    ap (λ c. cond c (depths (n + opens b) base ++ depths (n + deepest (depths (opens b) base)) stars) (depths (n + opens p) (Node b base stars)) ++ depths n f) e

node_joined : (p : ℕ) (kids f rest : List Event) → (kids ++ (Reduce p ∷ f)) ++ rest ≡ kids ++ (Reduce p ∷ (f ++ rest))
node_joined p kids f rest = append_assoc kids (Reduce p ∷ f) rest

other_follows :
    (p : ℕ) (kids f : Forest) → nat_eq p pointers ≡ false → is_calm (role_of p) ≡ true → opens p ≡ opens_of (role_of p)
    → Follows kids → Follows f → Follows (Node p kids f)
other_follows p kids f other calm same within behind n rest =
    let level = n.level + opens p in
    let here = depths level kids in
    let then = depths n.level f in
    let whole = depths n.level (Node p kids f) in
    let entered : nested.begun n (role_of p) ≡ at_level n level = calm_begun (role_of p) calm n ∙ ap (λ i. at_level n (n.level + i)) (sym same) in
    let left : nested.reduced (passed (at_level n level) here) (role_of p) ≡ passed n here
    = calm_reduced (role_of p) calm (passed (at_level n level) here) n.level (ap (λ i. n.level + i) same) in
    let all : whole ≡ here ++ then = other_depths n.level p kids f other in
    ap (λ es. levels_seen es (nested.begun n (role_of p))) (node_joined p (events kids) (events f) rest)
    ∙ ap (λ m. levels_seen (events kids ++ (Reduce p ∷ (events f ++ rest))) m) entered
    ∙ within (at_level n level) (Reduce p ∷ (events f ++ rest))
    ∙ ap (λ m. here ++ levels_seen (events f ++ rest) m) left
    ∙ ap (λ l. here ++ l) (behind (passed n here) rest)
    ∙ ap (λ m. here ++ (then ++ levels_seen rest m)) (passed_both n here then)
    ∙ sym (append_assoc here then (levels_seen rest (passed n (here ++ then))))
    ∙ ap (λ ds. ds ++ levels_seen rest (passed n ds)) (sym all)

-- ---- a type, and its stars

base_joined :
    (b p : ℕ) (base stars f rest : List Event)
    → ((base ++ (Reduce b ∷ stars)) ++ (Reduce p ∷ f)) ++ rest ≡ base ++ (Reduce b ∷ (stars ++ (Reduce p ∷ (f ++ rest))))
base_joined b p base stars f rest =
    append_assoc (base ++ (Reduce b ∷ stars)) (Reduce p ∷ f) rest ∙ append_assoc base (Reduce b ∷ stars) (Reduce p ∷ (f ++ rest))

-- the state in what stands before the stars, and the one behind it
abbrev in_base : Nesting → Nesting
in_base n = at_level (nested.opened n) (n.level + 1)

abbrev at_stars : Nesting → ℕ → Nesting
at_stars n level = record { level = level; deepest = level; saved = (nested.opened n).saved }

base_left :
    (r : Role) → r ≡ Base → (n : Nesting) (ds : List ℕ) (level : ℕ) → max n.level (deepest ds) ≡ level
    → nested.reduced (passed (in_base n) ds) r ≡ at_stars n level
base_left r e n ds level h = ap (λ r. nested.reduced (passed (in_base n) ds) r) e ∙ ap (λ l. at_stars n l) h

-- the deepest is that of the tokens before the stars and of the stars
type_left :
    (r : Role) → r ≡ Pointers → (n : Nesting) (base stars : List ℕ) (level : ℕ) → max n.level (deepest base) ≡ level → n.level < deepest base
    → nested.reduced (passed (at_stars n level) stars) r ≡ passed n (base ++ stars)
type_left r e n base stars level h more =
    let j = deepest_joined base stars in
    let same : max (max level (deepest stars)) n.deepest ≡ max n.deepest (deepest (base ++ stars)) = omega arith in
    ap (λ r. nested.reduced (passed (at_stars n level) stars) r) e ∙ ap (λ d. record n { deepest = d }) same

type_follows :
    (b : ℕ) (base stars f : Forest) → role_of pointers ≡ Pointers → role_of b ≡ Base → opens b ≡ 1 → ((l : ℕ) → l < deepest (depths (l + 1) base))
    → Follows base → Follows stars → Follows f → Follows (Node pointers (Node b base stars) f)
type_follows b base stars f pointed is_one same some within starred behind n rest =
    let before = depths (n.level + 1) base in
    let level = n.level + deepest (depths 1 base) in
    let starry = depths level stars in
    let then = depths n.level f in
    let entered : nested.begun (nested.begun n (role_of pointers)) (role_of b) ≡ in_base n
    = ap (λ r. nested.begun (nested.begun n r) (role_of b)) pointed ∙ ap (λ r. nested.begun (nested.opened n) r) is_one in
    let high = base_depth n.level base in
    let all : depths n.level (Node pointers (Node b base stars) f) ≡ (before ++ starry) ++ then
    = ap (λ i. (depths (n.level + i) base ++ depths (n.level + deepest (depths i base)) stars) ++ then) same in
    let last = events f ++ rest in
    ap (λ es. levels_seen es (nested.begun (nested.begun n (role_of pointers)) (role_of b))) (base_joined b pointers (events base) (events stars) (events f) rest)
    ∙ ap (λ m. levels_seen (events base ++ (Reduce b ∷ (events stars ++ (Reduce pointers ∷ last)))) m) entered
    ∙ within (in_base n) (Reduce b ∷ (events stars ++ (Reduce pointers ∷ last)))
    ∙ ap (λ m. before ++ levels_seen (events stars ++ (Reduce pointers ∷ last)) m) (base_left (role_of b) is_one n before level high)
    ∙ ap (λ l. before ++ l) (starred (at_stars n level) (Reduce pointers ∷ last))
    ∙ ap (λ m. before ++ (starry ++ levels_seen last m)) (type_left (role_of pointers) pointed n before starry level high (some n.level))
    ∙ ap (λ l. before ++ (starry ++ l)) (behind (passed n (before ++ starry)) rest)
    ∙ sym (append_assoc before starry (then ++ levels_seen rest (passed (passed n (before ++ starry)) then)))
    ∙ sym (append_assoc (before ++ starry) then (levels_seen rest (passed (passed n (before ++ starry)) then)))
    ∙ ap (λ m. ((before ++ starry) ++ then) ++ levels_seen rest m) (passed_both n (before ++ starry) then)
    ∙ ap (λ ds. ds ++ levels_seen rest (passed n ds)) (sym all)

-- ---- trees of a grammar

abbrev Known : Grammar → Forest → Type 0
Known g f = (s : List Symbol) → Forms g f s → has_no_base s ≡ true → Follows f

abbrev Inside : Grammar → Forest → Type 0
Inside g End = Unit {0}
Inside g (Leaf k f) = Unit {0}
Inside g (Node b base stars) = Known g base × Known g stars

role_base : (r : Role) → is_base r ≡ true → r ≡ Base
role_base Plain e = absurd (true≢false (sym e))
role_base Pointers e = absurd (true≢false (sym e))
role_base Base e = refl
role_base Part e = absurd (true≢false (sym e))
role_base Line e = absurd (true≢false (sym e))
role_base Definition e = absurd (true≢false (sym e))

some_token : (g : Grammar) (row : List Symbol) (base : Forest) → begins_with_kind row ≡ true → Forms g base row → (l : ℕ) → l < deepest (depths (l + 1) base)
some_token g [] base e w l = absurd (true≢false (sym e))
some_token g (Non n ∷ row) base e w l = absurd (true≢false (sym e))
some_token g (Kind c ∷ row) End e w l = absurd w
some_token g (Kind c ∷ row) (Leaf k f) e w l = omega arith
some_token g (Kind c ∷ row) (Node p kids f) e w l = absurd w

module _ (g : Grammar) (is : Stands g) where
  base_fit : (b : ℕ) → b < g.count → g.left b ≡ base_number → base_fits b (g.right b) ≡ true
  base_fit b h e = subst (λ l. stands b l (g.right b) ≡ true) e (is.stands b h)

  other_fit : (p n : ℕ) → p < g.count → g.left p ≡ n → nat_eq n base_number ≡ false → nat_eq p pointers ≡ false → other_fits p (g.right p) ≡ true
  other_fit p n h e f other = go (nat_eq n base_number) (nat_eq p pointers) f other (subst (λ l. stands p l (g.right p) ≡ true) e (is.stands p h))
    where
      go : (a b : Bool) → a ≡ false → b ≡ false → cond a (base_fits p (g.right p)) (b || other_fits p (g.right p)) ≡ true → other_fits p (g.right p) ≡ true
      go true b x y t = absurd (true≢false x)
      go false true x y t = absurd (true≢false y)
      go false false x y t = t

  a_type : (kids f : Forest) → Forms g kids (Non base_number ∷ Non stars_number ∷ []) → Inside g kids → Follows f → Follows (Node pointers kids f)
  a_type End f w inside behind = absurd w
  a_type (Leaf k kids) f w inside behind = absurd w
  a_type (Node b base stars) f w inside behind =
      let fit = and_parts _ _ (base_fit b w.0 w.1) in
      let more = and_parts _ _ fit.1 in
      let row = and_parts _ _ more.1 in
      type_follows b base stars f is.role (role_base (role_of b) fit.0) (eqb-true (opens b) 1 more.0) (some_token g (g.right b) base row.0 w.2)
      (inside.0 (g.right b) w.2 row.1)
      (inside.1 (Non stars_number ∷ []) w.3 refl)
      behind

  other : (p n : ℕ) (kids f : Forest) → p < g.count → g.left p ≡ n → nat_eq n base_number ≡ false → nat_eq p pointers ≡ false → Forms g kids (g.right p) → Known g kids → Follows f → Follows (Node p kids f)
  other p n kids f h e no_base no_type w known behind =
      let fit = and_parts _ _ (other_fit p n h e no_base no_type) in
      let more = and_parts _ _ fit.1 in
      other_follows p kids f no_type fit.0 (eqb-true (opens p) (opens_of (role_of p)) more.0) (known (g.right p) w more.1) behind

  node : (p n : ℕ) (kids f : Forest) → p < g.count → g.left p ≡ n → nat_eq n base_number ≡ false → Forms g kids (g.right p) → Known g kids → Inside g kids → Follows f → Follows (Node p kids f)
  node p n kids f h e no_base w known inside behind = go (nat_eq p pointers) refl
    where
      go : (b : Bool) → nat_eq p pointers ≡ b → Follows (Node p kids f)
      go false no_type = other p n kids f h e no_base no_type w known behind
      go true here =
          let same = eqb-true p pointers here in
          let formed = subst (λ s. Forms g kids s) is.pointed (subst (λ q. Forms g kids (g.right q)) same w) in
          subst (λ q. Follows (Node q kids f)) (sym same) (a_type kids f formed inside behind)

  no_base_here : (n : ℕ) (row : List Symbol) → has_no_base (Non n ∷ row) ≡ true → nat_eq n base_number ≡ false
  no_base_here n row e = not-true (nat_eq n base_number) (and_parts _ _ e).0

  pub follow : (f : Forest) → Known g f
  follow End s w e = none_follow
  follow (Leaf k f) [] w e = absurd w
  follow (Leaf k f) (Kind c ∷ s) w e = token_follows k f (follow f s w.1 e)
  follow (Leaf k f) (Non n ∷ s) w e = absurd w
  follow (Node p kids f) [] w e = absurd w
  follow (Node p kids f) (Kind c ∷ s) w e = absurd w
  follow (Node p End f) (Non n ∷ s) w e =
      node p n End f w.0 w.1 (no_base_here n s e) w.2 (follow End) tt (follow f s w.3 (and_parts _ _ e).1)
  follow (Node p (Leaf k kids) f) (Non n ∷ s) w e =
      node p n (Leaf k kids) f w.0 w.1 (no_base_here n s e) w.2 (follow (Leaf k kids)) tt (follow f s w.3 (and_parts _ _ e).1)
  follow (Node p (Node b base stars) f) (Non n ∷ s) w e =
      node p n (Node b base stars) f w.0 w.1 (no_base_here n s e) w.2 (follow (Node b base stars)) (follow base, follow stars)
      (follow f s w.3 (and_parts _ _ e).1)
