-- Along trees as many lines have begun at each token as their lines say.
use Rattle.std.proofs.Common.{◌≡◌, ◌<◌, ◌+◌, ℕ, Bool, true, false, cond, not, ◌&&◌, ◌||◌, nat_eq, nat_lt, List, [], ◌∷◌, ◌++◌, refl, ap, sym, ◌∙◌, subst, append_assoc, add-zero, arith}
use Rattle.std.proofs.lemmas.Bool.{and_parts, not-true, or_parts, true≢false, eqb-true, false_from_ne_true}
use Rattle.predictive.specs.Grammar.{Forest, End, Leaf, Node, Forms, Grammar, Event, Reduce, events}
use Rattle.predictive.specs.declared.symbol.Symbol.{Symbol}
use Rattle.predictive.specs.declared.symbol.Symbol.TheVariants.{Kind, Non}
use Rattle.module_spelling.specs.Opened.{definition, lines, lines_at, lines_in}
use Rattle.derivation_writer.specs.TokenLimits.Roles.{role_of}
use Rattle.derivation_writer.specs.TokenLimits.Watched.{lines_begun, lines_reduced}
use Rattle.derivation_writer.specs.declared.token_limits.role.Role.{Role}
use Rattle.derivation_writer.specs.declared.token_limits.role.Role.TheVariants.{Base, Definition, Line, Part, Plain, Pointers}
use Rattle.derivation_writer.proofs.TokenLimits.Facts.{Counts, all_lineless, all_within, counts, has_no_lines, is_inner, is_lineless, is_module_row, is_within, item_fits, item_number, lines_of, module_number, part_fits, role_fits}
use Rattle.derivation_writer.proofs.TokenLimits.Seen.{lines_seen}

-- what is seen along the trees where so many lines have begun, and how many have then
abbrev pub Steps : Forest → ℕ → ℕ → Type 0
Steps f n m = (rest : List Event) → lines_seen (events f ++ rest) n ≡ lines n f ++ lines_seen rest m

none_steps : (n : ℕ) → Steps End n n
none_steps n rest = refl

none_inner : (n : ℕ) → Steps End n (n + 0)
none_inner n rest = ap (λ i. lines_seen rest i) (sym (add-zero n))

token_steps : (k : ℕ) (f : Forest) (n m : ℕ) → Steps f n m → Steps (Leaf k f) n m
token_steps k f n m is rest = ap (λ l. n ∷ l) (is rest)

inner_begun : (r : Role) → is_inner r ≡ true → (n : ℕ) → lines_begun n r ≡ n + lines_of r
inner_begun Plain e n = sym (add-zero n)
inner_begun Pointers e n = sym (add-zero n)
inner_begun Base e n = sym (add-zero n)
inner_begun Part e n = sym (add-zero n)
inner_begun Line e n = refl
inner_begun Definition e n = absurd (true≢false (sym e))

inner_reduced : (r : Role) → is_inner r ≡ true → (n : ℕ) → lines_reduced n r ≡ n
inner_reduced Plain e n = refl
inner_reduced Pointers e n = refl
inner_reduced Base e n = refl
inner_reduced Part e n = refl
inner_reduced Line e n = refl
inner_reduced Definition e n = absurd (true≢false (sym e))

-- a node's lines
other_lines : (n p : ℕ) (kids f : Forest) → nat_eq p definition ≡ false → lines n (Node p kids f) ≡ lines (n + lines_at p) kids ++ lines (n + lines_at p + lines_in kids) f
other_lines n p kids f e = ap (λ c. cond c (lines 0 kids ++ lines n f) (lines (n + lines_at p) kids ++ lines (n + lines_at p + lines_in kids) f)) e

node_run :
    (p : ℕ) (kids f : Forest) (n a b m : ℕ) → lines_begun n (role_of p) ≡ a → lines_reduced b (role_of p) ≡ m → Steps kids a b → (k : ℕ) → Steps f m k
    → (rest : List Event) → lines_seen (events (Node p kids f) ++ rest) n ≡ (lines a kids ++ lines m f) ++ lines_seen rest k
node_run p kids f n a b m begins ends within k behind rest =
    let last = events f ++ rest in
    ap (λ es. lines_seen es (lines_begun n (role_of p))) (append_assoc (events kids) (Reduce p ∷ events f) rest)
    ∙ ap (λ i. lines_seen (events kids ++ (Reduce p ∷ last)) i) begins
    ∙ within (Reduce p ∷ last)
    ∙ ap (λ i. lines a kids ++ lines_seen last i) ends
    ∙ ap (λ l. lines a kids ++ l) (behind rest)
    ∙ sym (append_assoc (lines a kids) (lines m f) (lines_seen rest k))

-- what `role_fits` says
begun_at : (p : ℕ) → role_fits p ≡ true → (n : ℕ) → lines_begun n (role_of p) ≡ n + lines_at p
begun_at p fit n =
    let parts = and_parts _ _ fit in
    inner_begun (role_of p) parts.1 n ∙ ap (λ i. n + i) (sym (eqb-true (lines_at p) (lines_of (role_of p)) parts.0))

reduced_at : (p : ℕ) → role_fits p ≡ true → (n : ℕ) → lines_reduced n (role_of p) ≡ n
reduced_at p fit n = inner_reduced (role_of p) (and_parts _ _ fit).1 n

-- a node that is no definition, with what stands behind it
other_steps :
    (p : ℕ) (kids f : Forest) (n m k : ℕ) → nat_eq p definition ≡ false → role_fits p ≡ true → Steps kids (n + lines_at p) m
    → m ≡ n + lines_at p + lines_in kids → Steps f m k → Steps (Node p kids f) n k
other_steps p kids f n m k other fit within same behind rest =
    node_run p kids f n (n + lines_at p) m m (begun_at p fit n) (reduced_at p fit m) within k behind rest
    ∙ ap (λ i. (lines (n + lines_at p) kids ++ lines i f) ++ lines_seen rest k) same
    ∙ ap (λ l. l ++ lines_seen rest k) (sym (other_lines n p kids f other))

-- one behind which nothing stands
last_steps :
    (p : ℕ) (kids : Forest) (n m : ℕ) → nat_eq p definition ≡ false → role_fits p ≡ true → Steps kids (n + lines_at p) m
    → Steps (Node p kids End) n m
last_steps p kids n m other fit within rest =
    node_run p kids End n (n + lines_at p) m m (begun_at p fit n) (reduced_at p fit m) within m (none_steps m) rest
    ∙ ap (λ l. l ++ lines_seen rest m) (sym (other_lines n p kids End other))

definition_steps : (kids f : Forest) (m : ℕ) → role_of definition ≡ Definition → Steps kids 0 m → Steps f 0 0 → Steps (Node definition kids f) 0 0
definition_steps kids f m is within behind rest =
    node_run definition kids f 0 0 m 0 (ap (λ r. lines_begun 0 r) is) (ap (λ r. lines_reduced m r) is) within 0 behind rest

-- ---- trees of a grammar

-- what the tests of a rule say
part_said :
    (p n : ℕ) (right : List Symbol) → (not (nat_eq p definition) && part_fits p n right) ≡ true
    → (nat_eq p definition ≡ false) × (role_fits p ≡ true) × (all_within right ≡ true) × ((not (is_lineless n) || has_no_lines p right) ≡ true)
part_said p n right e =
    let fit = and_parts (not (nat_eq p definition)) (part_fits p n right) e in
    let more = and_parts (role_fits p) (all_within right && (not (is_lineless n) || has_no_lines p right)) fit.1 in
    let row = and_parts (all_within right) (not (is_lineless n) || has_no_lines p right) more.1 in
    (not-true (nat_eq p definition) fit.0, more.0, row.0, row.1)

module_said :
    (p : ℕ) (right : List Symbol) → (role_fits p && (nat_eq (lines_at p) 0 && is_module_row right)) ≡ true
    → (role_fits p ≡ true) × (lines_at p ≡ 0) × (is_module_row right ≡ true)
module_said p right e =
    let fit = and_parts (role_fits p) (nat_eq (lines_at p) 0 && is_module_row right) e in
    let more = and_parts (nat_eq (lines_at p) 0) (is_module_row right) fit.1 in
    (fit.0, eqb-true (lines_at p) 0 more.0, more.1)

lineless_within : (n : ℕ) → is_lineless n ≡ true → is_within n ≡ true
lineless_within n e = (and_parts (is_within n) (nat_lt n 52 || nat_lt 91 n) e).0

quiet_row : (a b : Bool) → a ≡ true → (not a || b) ≡ true → b ≡ true
quiet_row true b x t = t
quiet_row false b x t = absurd (true≢false (sym x))

module _ (g : Grammar) (is : Counts g) where
  fits : (p n : ℕ) → p < g.count → g.left p ≡ n → counts p n (g.right p) ≡ true
  fits p n h e = subst (λ l. counts p l (g.right p) ≡ true) e (is.counts p h)

  module_fit : (p : ℕ) → p < g.count → g.left p ≡ module_number → (role_fits p && (nat_eq (lines_at p) 0 && is_module_row (g.right p))) ≡ true
  module_fit p h e = fits p module_number h e

  item_fit : (p : ℕ) → p < g.count → g.left p ≡ item_number → item_fits p (g.right p) ≡ true
  item_fit p h e = fits p item_number h e

  part_fit : (p n : ℕ) → p < g.count → g.left p ≡ n → is_within n ≡ true → (not (nat_eq p definition) && part_fits p n (g.right p)) ≡ true
  part_fit p n h e within = go (nat_eq n module_number) (nat_eq n item_number) (or_parts _ _ (not-true (nat_eq n module_number || nat_eq n item_number) within)) (fits p n h e)
    where
      go :
          (a b : Bool) → (a ≡ false) × (b ≡ false)
          → cond a (role_fits p && (nat_eq (lines_at p) 0 && is_module_row (g.right p)))
          (cond b (item_fits p (g.right p)) (not (nat_eq p definition) && part_fits p n (g.right p)))
          ≡ true
          → (not (nat_eq p definition) && part_fits p n (g.right p)) ≡ true
      go true b x t = absurd (true≢false x.0)
      go false true x t = absurd (true≢false x.1)
      go false false x t = t

  -- trees with neither modules nor items
  pub inner : (f : Forest) (s : List Symbol) → Forms g f s → all_within s ≡ true → (n : ℕ) → Steps f n (n + lines_in f)
  inner End s w e n = none_inner n
  inner (Leaf k f) [] w e n = absurd w
  inner (Leaf k f) (Kind c ∷ s) w e n = token_steps k f n (n + lines_in f) (inner f s w.1 e n)
  inner (Leaf k f) (Non m ∷ s) w e n = absurd w
  inner (Node p kids f) [] w e n = absurd w
  inner (Node p kids f) (Kind c ∷ s) w e n = absurd w
  inner (Node p kids f) (Non m ∷ s) w e n =
      let here = and_parts _ _ e in
      let fit = part_said p m (g.right p) (part_fit p m w.0 w.1 here.0) in
      let reached = n + lines_at p + lines_in kids in
      let same : reached + lines_in f ≡ n + (lines_at p + lines_in kids + lines_in f) = omega arith in
      subst (λ i. Steps (Node p kids f) n i) same
      (other_steps p kids f n reached (reached + lines_in f) fit.0 fit.1
      (inner kids (g.right p) w.2 fit.2 (n + lines_at p))
      refl
      (inner f s w.3 here.1 reached))

  no_lines_at : (p n : ℕ) → p < g.count → g.left p ≡ n → is_lineless n ≡ true → has_no_lines p (g.right p) ≡ true
  no_lines_at p n h e quiet =
      quiet_row (is_lineless n) (has_no_lines p (g.right p)) quiet (part_said p n (g.right p) (part_fit p n h e (lineless_within n quiet))).3

  -- trees of parts that have no lines
  lineless : (f : Forest) (s : List Symbol) → Forms g f s → all_lineless s ≡ true → lines_in f ≡ 0
  lineless End s w e = refl
  lineless (Leaf k f) [] w e = absurd w
  lineless (Leaf k f) (Kind c ∷ s) w e = lineless f s w.1 e
  lineless (Leaf k f) (Non m ∷ s) w e = absurd w
  lineless (Node p kids f) [] w e = absurd w
  lineless (Node p kids f) (Kind c ∷ s) w e = absurd w
  lineless (Node p kids f) (Non m ∷ s) w e =
      let here = and_parts _ _ e in
      let none = and_parts _ _ (no_lines_at p m w.0 w.1 here.0) in
      let one = eqb-true (lines_at p) 0 none.0 in
      let two = lineless kids (g.right p) w.2 none.1 in
      let three = lineless f s w.3 here.1 in
      omega arith

  -- an item, and what stands behind it
  item : (q : ℕ) (kids f : Forest) → q < g.count → g.left q ≡ item_number → Forms g kids (g.right q) → Steps f 0 0 → Steps (Node q kids f) 0 0
  item q kids f h e w behind = go (nat_eq q definition) refl
    where
      fit : (all_within (g.right q) ≡ true) × ((nat_eq q definition || (role_fits q && has_no_lines q (g.right q))) ≡ true)
      fit = and_parts _ _ (item_fit q h e)

      other : (role_fits q && has_no_lines q (g.right q)) ≡ true → nat_eq q definition ≡ false → Steps (Node q kids f) 0 0
      other t no_definition =
          let parts = and_parts _ _ t in
          let none = and_parts _ _ parts.1 in
          let one = eqb-true (lines_at q) 0 none.0 in
          let two = lineless kids (g.right q) w none.1 in
          let same : 0 ≡ 0 + lines_at q + lines_in kids = omega arith in
          other_steps q kids f 0 0 0 no_definition parts.0
          (subst (λ i. Steps kids (0 + lines_at q) i) (sym same) (inner kids (g.right q) w fit.0 (0 + lines_at q)))
          same
          behind

      go : (b : Bool) → nat_eq q definition ≡ b → Steps (Node q kids f) 0 0
      go true here =
          let same = eqb-true q definition here in
          subst (λ p. Steps (Node p kids f) 0 0) (sym same) (definition_steps kids f (0 + lines_in kids) is.role (inner kids (g.right q) w fit.0 0) behind)
      go false here = other (subst (λ b. (b || (role_fits q && has_no_lines q (g.right q))) ≡ true) here fit.1) here

  -- a module's trees are items, one after another
  abbrev Items : Forest → Type 0
  Items f = Forms g f (Non module_number ∷ []) → Steps f 0 0

  abbrev InItems : Forest → Type 0
  InItems End = Unit {0}
  InItems (Leaf k f) = Unit {0}
  InItems (Node q kids f) = Items f

  items : (row : List Symbol) → is_module_row row ≡ true → (f : Forest) → Forms g f row → InItems f → Steps f 0 0
  items [] e End w known = none_steps 0
  items [] e (Leaf k f) w known = absurd w
  items [] e (Node q kids f) w known = absurd w
  items (Kind c ∷ row) e f w known = absurd (true≢false (sym e))
  items (Non n ∷ []) e f w known = absurd (true≢false (sym e))
  items (Non n ∷ Kind c ∷ row) e f w known = absurd (true≢false (sym e))
  items (Non n ∷ Non m ∷ []) e End w known = absurd w
  items (Non n ∷ Non m ∷ []) e (Leaf k f) w known = absurd w
  items (Non n ∷ Non m ∷ []) e (Node q kids f) w known =
      let same = and_parts _ _ e in
      let one = eqb-true n item_number same.0 in
      let two = eqb-true m module_number same.1 in
      item q kids f w.0 (w.1 ∙ one) w.2 (known (subst (λ i. Forms g f (Non i ∷ [])) two w.3))
  items (Non n ∷ Non m ∷ x ∷ row) e f w known = absurd (true≢false (sym e))

  no_definition : (p : ℕ) → role_fits p ≡ true → nat_eq p definition ≡ false
  no_definition p fit = false_from_ne_true (nat_eq p definition) (λ e.
      true≢false (sym (and_parts _ _ fit).1 ∙ ap (λ q. is_inner (role_of q)) (eqb-true p definition e) ∙ ap is_inner is.role))

  a_module : (p : ℕ) (kids : Forest) → p < g.count → g.left p ≡ module_number → Forms g kids (g.right p) → InItems kids → Steps (Node p kids End) 0 0
  a_module p kids h e w known =
      let fit = module_said p (g.right p) (module_fit p h e) in
      let same : 0 ≡ 0 + lines_at p = omega (arith, fit.1) in
      last_steps p kids 0 0 (no_definition p fit.0) fit.0 (subst (λ i. Steps kids i 0) same (items (g.right p) fit.2 kids w known))

  modules : (f : Forest) → Items f
  modules End w = absurd w
  modules (Leaf k f) w = absurd w
  modules (Node p End End) w = a_module p End w.0 w.1 w.2 tt
  modules (Node p (Leaf k kids) End) w = a_module p (Leaf k kids) w.0 w.1 w.2 tt
  modules (Node p (Node q kids f) End) w = a_module p (Node q kids f) w.0 w.1 w.2 (modules f)
  modules (Node p kids (Leaf k f)) w = absurd w.3
  modules (Node p kids (Node q more f)) w = absurd w.3

  an_item : (f : Forest) → Forms g f (Non item_number ∷ []) → Steps f 0 0
  an_item End w = absurd w
  an_item (Leaf k f) w = absurd w
  an_item (Node q kids End) w = item q kids End w.0 w.1 w.2 (none_steps 0)
  an_item (Node q kids (Leaf k f)) w = absurd w.3
  an_item (Node q kids (Node p more f)) w = absurd w.3

  pub count : (n : ℕ) (f : Forest) → Forms g f (Non n ∷ []) → (m : ℕ) × Steps f 0 m
  count n f w = go (nat_eq n module_number) refl (nat_eq n item_number) refl
    where
      go : (a : Bool) → nat_eq n module_number ≡ a → (b : Bool) → nat_eq n item_number ≡ b → (m : ℕ) × Steps f 0 m
      go true e b h = (0, modules f (subst (λ i. Forms g f (Non i ∷ [])) (eqb-true n module_number e) w))
      go false e true h = (0, an_item f (subst (λ i. Forms g f (Non i ∷ [])) (eqb-true n item_number h) w))
      go false e false h =
          (0 + lines_in f, inner f (Non n ∷ []) w (ap (λ b. not (b || nat_eq n item_number) && true) e ∙ ap (λ b. not b && true) h) 0)
