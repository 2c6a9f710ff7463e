-- A line begins with a token that stands at most 1 deep, so no token is the first one past the limit on lines and passes that on depths, too.
use Rattle.std.proofs.Common.{◌≡◌, ◌<◌, ◌≤◌, ◌+◌, ℕ, zero, suc, Bool, true, false, not, cond, ◌&&◌, ◌||◌, nat_eq, List, [], ◌∷◌, ◌++◌, get_or, length, ◌⊎◌, inl, inr, ⊎_elim, refl, ap, sym, ◌∙◌, subst, arith}
use Rattle.std.proofs.lemmas.Bool.{and_parts, cond_both, eqb-true}
use Rattle.std.proofs.lemmas.Bool.Decides.{leb_tells}
use Rattle.std.proofs.lemmas.List.{append-nil, length-append}
use Rattle.std.specs.List.{AllByRecursion}
use Rattle.predictive.specs.GapListing.{opened_rules}
use Rattle.ir_core.specs.Limits.{line_limit}
use Rattle.ir_core.specs.Depths.{deepest}
use Rattle.ir_core.specs.declared.limits.Limit.TheVariants as limit
use Rattle.module_grammar.specs.Rules.{rules}
use Rattle.module_grammar.specs.Tokens.{gap, token_grammar}
use Rattle.module_spelling.specs.Opened.{Passes, PassesFirst, constant_rules, definition, depths, init_rules, is_among, lines, lines_at, lines_in, opens, pointers, type_rules}
use Rattle.module_texts.proofs.Lists.{all_joined}
use Rattle.predictive.specs.Grammar.{End, Forest, Forms, Leaf, Node, yield}
use Rattle.predictive.specs.Listed.{Rule, rule_at}
use Rattle.predictive.specs.declared.symbol.Symbol.{Symbol}
use Rattle.predictive.specs.declared.symbol.Symbol.TheVariants.{Kind, Non}

-- ---- the test of a rule

-- types, constants and initialisers, in which no line begins
abbrev is_low : ℕ → Bool
is_low n = is_among n (2 ∷ 33 ∷ 34 ∷ 35 ∷ 36 ∷ 37 ∷ 42 ∷ 43 ∷ 44 ∷ 45 ∷ 46 ∷ 47 ∷ 48 ∷ 49 ∷ [])

-- numbers and global names, which are no deeper than what they stand in
abbrev is_flat : ℕ → Bool
is_flat n = is_among n (42 ∷ 43 ∷ [])

abbrev base : ℕ
base = 34

abbrev all_low : List Symbol → Bool
all_low [] = true
all_low (Kind k ∷ row) = all_low row
all_low (Non n ∷ row) = is_low n && all_low row

-- it begins with a token, or with a nonterminal that is so
abbrev begins : (ℕ → Bool) → List Symbol → Bool
begins test [] = false
begins test (Kind k ∷ row) = true
begins test (Non n ∷ row) = test n

abbrev none : ℕ → Bool
none n = false

abbrev if_so : Bool → Bool → Bool
if_so a b = not a || b

-- where it is deeper than what it stands in, no line begins in it
abbrev keeps : ℕ → Rule → Bool
keeps p r = if_so (is_low r.left) (all_low r.right && (nat_eq (lines_at p) 0 && not (nat_eq p definition)))

abbrev deep : ℕ → Rule → Bool
deep p r = (nat_eq (opens p) 0 && not (nat_eq p pointers)) || is_low r.left

-- how its first token stands
abbrev first : ℕ → Rule → Bool
first p r =
    if_so (nat_eq p pointers) (begins (nat_eq base) r.right) && (if_so (nat_eq base r.left) (begins none r.right)
    && (if_so (is_flat r.left) (begins none r.right && nat_eq (opens p) 0) && (nat_eq (opens p) 0 || begins is_flat r.right)))

abbrev test : ℕ → Rule → Bool
test p r = keeps p r && (deep p r && first p r)

abbrev all_from : ℕ → List Rule → Bool
all_from m [] = true
all_from m (r ∷ rs) = test m r && all_from (suc m) rs

tested : all_from 0 (opened_rules gap rules) ≡ true
tested = refl

at_index : (m : ℕ) (rs : List Rule) → all_from m rs ≡ true → (p : ℕ) → p < length rs → test (m + p) (rule_at rs p) ≡ true
at_index m [] e p h = absurd (grind arith)
at_index m (r ∷ rs) e zero h = let here : m ≡ m + 0 = omega arith in subst (λ j. test j r ≡ true) here (and_parts _ _ e).0
at_index m (r ∷ rs) e (suc p) h =
    let next : suc m + p ≡ m + suc p = omega arith in
    subst (λ j. test j (rule_at rs p) ≡ true) next (at_index (suc m) rs (and_parts _ _ e).1 p (grind arith))

record Fits (p : ℕ) (left : ℕ) (right : List Symbol) : Type 0 where
  pub keeps : if_so (is_low left) (all_low right && (nat_eq (lines_at p) 0 && not (nat_eq p definition))) ≡ true
  pub deep : ((nat_eq (opens p) 0 && not (nat_eq p pointers)) || is_low left) ≡ true
  pub pointed : if_so (nat_eq p pointers) (begins (nat_eq base) right) ≡ true
  pub based : if_so (nat_eq base left) (begins none right) ≡ true
  pub flat : if_so (is_flat left) (begins none right && nat_eq (opens p) 0) ≡ true
  pub opened : (nat_eq (opens p) 0 || begins is_flat right) ≡ true

fits : (p : ℕ) → p < token_grammar.count → Fits p (token_grammar.left p) (token_grammar.right p)
fits p h =
    let same : 0 + p ≡ p = omega arith in
    let all : test p (rule_at (opened_rules gap rules) p) ≡ true = subst (λ j. test j (rule_at (opened_rules gap rules) p) ≡ true) same (at_index 0 (opened_rules gap rules) tested p h) in
    let parts = and_parts _ _ all in
    let more = and_parts _ _ parts.1 in
    let one = and_parts _ _ more.1 in
    let two = and_parts _ _ one.1 in
    let three = and_parts _ _ two.1 in
    record { keeps = parts.0; deep = more.0; pointed = one.0; based = two.0; flat = three.0; opened = three.1 }

so : (a b : Bool) → if_so a b ≡ true → a ≡ true → b ≡ true
so true b e is = e
so false b e is = cc

open_most : (p : ℕ) → opens p ≤ 1
open_most p = cond_both (is_among p type_rules || (is_among p constant_rules || is_among p init_rules)) 1 0 (λ n. n ≤ 1) (λ yes. omega arith) (λ no. omega arith)

-- ---- no line begins in them

abbrev HasNone : ℕ → Forest → Type 0
HasNone n f = AllByRecursion (λ l. l ≡ n) (lines n f) × (lines_in f ≡ 0)

node_lines : (n p : ℕ) (kids f : Forest) → (d : Bool) → nat_eq p definition ≡ d → not d ≡ true → lines_at p ≡ 0 → lines_in kids ≡ 0 → lines n (Node p kids f) ≡ lines n kids ++ lines n f
node_lines n p kids f true is e calm inner = cc
node_lines n p kids f false is e calm inner =
    let here : n + lines_at p ≡ n = omega (arith, calm) in
    let behind : n + lines_at p + lines_in kids ≡ n = omega (arith, calm, inner) in
    ap (λ b. cond b (lines 0 kids ++ lines n f) (lines (n + lines_at p) kids ++ lines (n + lines_at p + lines_in kids) f)) is
    ∙ ap (λ m. lines m kids ++ lines (n + lines_at p + lines_in kids) f) here
    ∙ ap (λ m. lines n kids ++ lines m f) behind

node_none : (n p : ℕ) (kids f : Forest) → lines_at p ≡ 0 → not (nat_eq p definition) ≡ true → HasNone n kids → HasNone n f → HasNone n (Node p kids f)
node_none n p kids f calm other inner outer =
    let all : lines n (Node p kids f) ≡ lines n kids ++ lines n f = node_lines n p kids f (nat_eq p definition) refl other calm inner.1 in
    let total : lines_at p + lines_in kids + lines_in f ≡ 0 = omega (arith, calm, inner.1, outer.1) in
    (subst (AllByRecursion (λ l. l ≡ n)) (sym all) (all_joined (λ l. l ≡ n) (lines n kids) (lines n f) inner.0 outer.0), total)

no_lines : (f : Forest) (row : List Symbol) → all_low row ≡ true → Forms token_grammar f row → (n : ℕ) → HasNone n f
no_lines End [] e formed n = (tt, refl)
no_lines (Leaf k f) (Kind c ∷ row) e formed n = let rest = no_lines f row e formed.1 n in ((refl, rest.0), rest.1)
no_lines (Node p kids f) (Non m ∷ row) e formed n =
    let parts = and_parts _ _ e in
    let kept = and_parts _ _ (so _ _ (fits p formed.0).keeps (ap is_low formed.1 ∙ parts.0)) in
    let calm = and_parts _ _ kept.1 in
    node_none n p kids f (eqb-true (lines_at p) 0 calm.0) calm.1 (no_lines kids (token_grammar.right p) kept.0 formed.2 n) (no_lines f row parts.1 formed.3 n)
no_lines (Leaf k f) [] e formed n = absurd formed
no_lines (Leaf k f) (Non m ∷ row) e formed n = absurd formed
no_lines (Node p kids f) [] e formed n = absurd formed
no_lines (Node p kids f) (Kind c ∷ row) e formed n = absurd formed
no_lines End (x ∷ row) e formed n = absurd formed

-- ---- how deep first tokens stand

abbrev HeadAtMost : ℕ → List ℕ → Type 0
HeadAtMost m [] = Unit {0}
HeadAtMost m (d ∷ ds) = d ≤ m

head_joined : (m : ℕ) (a b : List ℕ) → HeadAtMost m a → HeadAtMost m b → HeadAtMost m (a ++ b)
head_joined m [] b h k = k
head_joined m (d ∷ a) b h k = h

-- the depths in a rule's node
abbrev node_depths : ℕ → ℕ → Forest → List ℕ
node_depths n p End = []
node_depths n p (Leaf k kids) = depths (n + opens p) (Leaf k kids)
node_depths n p (Node b inner stars) =
    cond (nat_eq p pointers) (depths (n + opens b) inner ++ depths (n + deepest (depths (opens b) inner)) stars) (depths (n + opens p) (Node b inner stars))

parted : (n p : ℕ) (kids f : Forest) → depths n (Node p kids f) ≡ node_depths n p kids ++ depths n f
parted n p End f = refl
parted n p (Leaf k kids) f = refl
parted n p (Node b inner stars) f = refl

-- what stands first in a right side
first_is : (test : ℕ → Bool) (b : ℕ) (inner stars : Forest) (right : List Symbol) → begins test right ≡ true → Forms token_grammar (Node b inner stars) right → (test (token_grammar.left b) ≡ true) × (b < token_grammar.count) × Forms token_grammar inner (token_grammar.right b)
first_is test b inner stars [] e formed = cc
first_is test b inner stars (Kind c ∷ row) e formed = absurd formed
first_is test b inner stars (Non m ∷ row) e formed = (ap test formed.1 ∙ e, formed.0, formed.2)

-- what a node begins with whose right side begins with a token
base_first : (b m n : ℕ) (inner : Forest) (row : List Symbol) (rest : List ℕ) → begins none row ≡ true → Forms token_grammar inner row → n + opens b ≤ m → HeadAtMost m (depths (n + opens b) inner ++ rest)
base_first b m n (Leaf k inner) row rest e formed less = less
base_first b m n End [] rest e formed less = cc
base_first b m n End (x ∷ row) rest e formed less = absurd formed
base_first b m n (Node q inner stars) row rest e formed less = let wrong : false ≡ true = (first_is none q inner stars row e formed).0 in cc

flat_first : (b m n : ℕ) (inner stars : Forest) (row : List Symbol) → begins none row ≡ true → Forms token_grammar inner row → n + opens b ≤ m → HeadAtMost m (depths n (Node b inner stars))
flat_first b m n (Leaf k inner) stars row e formed less = less
flat_first b m n End stars [] e formed less = cc
flat_first b m n End stars (x ∷ row) e formed less = absurd formed
flat_first b m n (Node q inner more) stars row e formed less = let wrong : false ≡ true = (first_is none q inner more row e formed).0 in cc

module _ (n p b : ℕ) (inner stars : Forest) (left : ℕ) (right : List Symbol) (f : Fits p left right) (formed : Forms token_grammar (Node b inner stars) right) where
  pointed_head : nat_eq p pointers ≡ true → HeadAtMost (n + 1) (depths (n + opens b) inner ++ depths (n + deepest (depths (opens b) inner)) stars)
  pointed_head is =
      let at = first_is (nat_eq base) b inner stars right (so _ _ f.pointed is) formed in
      let is_token = so _ _ (fits b at.1).based at.0 in
      let most = open_most b in
      base_first b (n + 1) n inner (token_grammar.right b) (depths (n + deepest (depths (opens b) inner)) stars) is_token at.2 (omega (arith, most))

  other_head : (closed : Bool) → nat_eq (opens p) 0 ≡ closed → (closed || begins is_flat right) ≡ true → ((m : ℕ) → HeadAtMost (m + 1) (depths m (Node b inner stars))) → HeadAtMost (n + 1) (depths (n + opens p) (Node b inner stars))
  other_head true e or kids =
      let none_open = eqb-true (opens p) 0 e in
      let same : n + opens p ≡ n = omega (arith, none_open) in
      subst (λ m. HeadAtMost (n + 1) (depths m (Node b inner stars))) (sym same) (kids n)
  other_head false e or kids =
      let at = first_is is_flat b inner stars right or formed in
      let parts = and_parts _ _ (so _ _ (fits b at.1).flat at.0) in
      let none_open = eqb-true (opens b) 0 parts.1 in
      let most = open_most p in
      flat_first b (n + 1) (n + opens p) inner stars (token_grammar.right b) parts.0 at.2 (omega (arith, none_open, most))

  node_head : ((m : ℕ) → HeadAtMost (m + 1) (depths m (Node b inner stars))) → HeadAtMost (n + 1) (node_depths n p (Node b inner stars))
  node_head kids =
      cond_both (nat_eq p pointers) (depths (n + opens b) inner ++ depths (n + deepest (depths (opens b) inner)) stars) (depths (n + opens p) (Node b inner stars)) (HeadAtMost (n + 1))
      pointed_head (λ no. other_head (nat_eq (opens p) 0) refl f.opened kids)

head_in : (n p : ℕ) (kids : Forest) → p < token_grammar.count → Forms token_grammar kids (token_grammar.right p) → ((m : ℕ) → HeadAtMost (m + 1) (depths m kids)) → HeadAtMost (n + 1) (node_depths n p kids)
head_in n p End h formed inside = tt
head_in n p (Leaf k kids) h formed inside = let most = open_most p in omega (arith, most)
head_in n p (Node b inner stars) h formed inside = node_head n p b inner stars (token_grammar.left p) (token_grammar.right p) (fits p h) formed inside

head_low : (f : Forest) (row : List Symbol) → Forms token_grammar f row → (n : ℕ) → HeadAtMost (n + 1) (depths n f)
head_low End row formed n = tt
head_low (Leaf k f) row formed n = omega arith
head_low (Node p kids f) (Non m ∷ row) formed n =
    subst (HeadAtMost (n + 1)) (sym (parted n p kids f))
    (head_joined (n + 1) (node_depths n p kids) (depths n f) (head_in n p kids formed.0 formed.2 (head_low kids (token_grammar.right p) formed.2)) (head_low f row formed.3 n))
head_low (Node p kids f) (Kind c ∷ row) formed n = absurd formed
head_low (Node p kids f) [] formed n = absurd formed

-- ---- lengths

joined_length : (xs ys : List ℕ) (a b : List ℕ) → length xs ≡ length a → length ys ≡ length b → length (xs ++ ys) ≡ length (a ++ b)
joined_length xs ys a b e d = length-append xs ys ∙ ap (λ x. x + length ys) e ∙ ap (λ x. length a + x) d ∙ sym (length-append a b)

lines_length : (f : Forest) (n : ℕ) → length (lines n f) ≡ length (yield f)
lines_length End n = refl
lines_length (Leaf k f) n = ap suc (lines_length f n)
lines_length (Node p kids f) n =
    cond_both (nat_eq p definition) _ _ (λ (ls : List ℕ). length ls ≡ length (yield kids ++ yield f))
    (λ yes. joined_length (lines 0 kids) (lines n f) (yield kids) (yield f) (lines_length kids 0) (lines_length f n))
    (λ no. joined_length (lines (n + lines_at p) kids) (lines (n + lines_at p + lines_in kids) f) (yield kids) (yield f) (lines_length kids (n + lines_at p)) (lines_length f (n + lines_at p + lines_in kids)))

depths_length : (f : Forest) (n : ℕ) → length (depths n f) ≡ length (yield f)
depths_length End n = refl
depths_length (Leaf k f) n = ap suc (depths_length f n)
depths_length (Node p End f) n = depths_length f n
depths_length (Node p (Leaf k kids) f) n =
    joined_length (depths (n + opens p) (Leaf k kids)) (depths n f) (yield (Leaf k kids)) (yield f) (ap suc (depths_length kids (n + opens p))) (depths_length f n)
depths_length (Node p (Node b inner stars) f) n =
    joined_length (node_depths n p (Node b inner stars)) (depths n f) (yield inner ++ yield stars) (yield f)
    (cond_both (nat_eq p pointers) _ _ (λ (ls : List ℕ). length ls ≡ length (yield inner ++ yield stars))
    (λ yes. joined_length (depths (n + opens b) inner) (depths (n + deepest (depths (opens b) inner)) stars) (yield inner) (yield stars) (depths_length inner (n + opens b)) (depths_length stars (n + deepest (depths (opens b) inner))))
    (λ no. depths_length (Node b inner stars) (n + opens p))) (depths_length f n)

-- ---- lines rise where depths are low

-- behind a token of a line of this number each that is of a later one stands at most 1 deep
abbrev RisesLow : ℕ → List ℕ → List ℕ → Type 0
RisesLow n [] [] = Unit {0}
RisesLow n (d ∷ ds) (l ∷ ls) = ((l ≤ n) ⊎ (d ≤ 1)) × RisesLow l ds ls
RisesLow n _ _ = ⊥

-- and the first one does, too
abbrev BeginsLow : List ℕ → List ℕ → Type 0
BeginsLow [] [] = Unit {0}
BeginsLow (d ∷ ds) (l ∷ ls) = (d ≤ 1) × RisesLow l ds ls
BeginsLow _ _ = ⊥

low_again : (n : ℕ) (ds ls : List ℕ) → BeginsLow ds ls → RisesLow n ds ls
low_again n [] [] low = tt
low_again n [] (l ∷ ls) low = absurd low
low_again n (d ∷ ds) [] low = absurd low
low_again n (d ∷ ds) (l ∷ ls) low = (inr low.0, low.1)

rises_joined : (n : ℕ) (ds ls es ms : List ℕ) → RisesLow n ds ls → BeginsLow es ms → RisesLow n (ds ++ es) (ls ++ ms)
rises_joined n [] [] es ms low more = low_again n es ms more
rises_joined n [] (l ∷ ls) es ms low more = absurd low
rises_joined n (d ∷ ds) [] es ms low more = absurd low
rises_joined n (d ∷ ds) (l ∷ ls) es ms low more = (low.0, rises_joined l ds ls es ms low.1 more)

begins_joined : (ds ls es ms : List ℕ) → BeginsLow ds ls → BeginsLow es ms → BeginsLow (ds ++ es) (ls ++ ms)
begins_joined [] [] es ms low more = more
begins_joined [] (l ∷ ls) es ms low more = absurd low
begins_joined (d ∷ ds) [] es ms low more = absurd low
begins_joined (d ∷ ds) (l ∷ ls) es ms low more = (low.0, rises_joined l ds ls es ms low.1 more)

level_rises : (n m : ℕ) (ds ls : List ℕ) → m ≡ n → AllByRecursion (λ l. l ≡ n) ls → length ds ≡ length ls → RisesLow m ds ls
level_rises n m [] [] at each e = tt
level_rises n m [] (l ∷ ls) at each e = let none : 0 ≡ suc (length ls) = e in absurd (omega (arith, none))
level_rises n m (d ∷ ds) [] at each e = let none : suc (length ds) ≡ 0 = e in absurd (omega (arith, none))
level_rises n m (d ∷ ds) (l ∷ ls) at each e =
    let more : suc (length ds) ≡ suc (length ls) = e in
    (inl (omega (arith, at, each.0)), level_rises n l ds ls each.0 each.1 (omega (arith, more)))

level_begins : (n : ℕ) (ds ls : List ℕ) → AllByRecursion (λ l. l ≡ n) ls → length ds ≡ length ls → HeadAtMost 1 ds → BeginsLow ds ls
level_begins n [] [] each e head = tt
level_begins n [] (l ∷ ls) each e head = let none : 0 ≡ suc (length ls) = e in absurd (omega (arith, none))
level_begins n (d ∷ ds) [] each e head = let none : suc (length ds) ≡ 0 = e in absurd (omega (arith, none))
level_begins n (d ∷ ds) (l ∷ ls) each e head =
    let more : suc (length ds) ≡ suc (length ls) = e in
    (head, level_rises n l ds ls each.0 each.1 (omega (arith, more)))

-- the depths in the node of a rule that counts nothing
plain_node : (p : ℕ) (kids : Forest) → opens p ≡ 0 → (q : Bool) → nat_eq p pointers ≡ q → not q ≡ true → node_depths 0 p kids ≡ depths 0 kids
plain_node p End e q is other = refl
plain_node p (Leaf k kids) e q is other = let same : 0 + opens p ≡ 0 = omega (arith, e) in ap (λ m. depths m (Leaf k kids)) same
plain_node p (Node b inner stars) e true is other = cc
plain_node p (Node b inner stars) e false is other =
    let same : 0 + opens p ≡ 0 = omega (arith, e) in
    ap (λ c. cond c (depths (0 + opens b) inner ++ depths (0 + deepest (depths (opens b) inner)) stars) (depths (0 + opens p) (Node b inner stars))) is
    ∙ ap (λ m. depths m (Node b inner stars)) same

node_length : (p : ℕ) (kids : Forest) → length (node_depths 0 p kids) ≡ length (yield kids)
node_length p kids =
    ap length (sym (append-nil (node_depths 0 p kids)) ∙ sym (parted 0 p kids End)) ∙ depths_length (Node p kids End) 0 ∙ ap length (append-nil (yield kids))

either : (a b : Bool) → (a || b) ≡ true → (a ≡ true) ⊎ (b ≡ true)
either true b e = inl refl
either false b e = inr e

node_low : (p : ℕ) (kids : Forest) → p < token_grammar.count → Forms token_grammar kids (token_grammar.right p) → ((n : ℕ) → BeginsLow (depths 0 kids) (lines n kids)) → (n : ℕ) → BeginsLow (node_depths 0 p kids) (lines n kids)
node_low p kids h formed inside n =
    ⊎_elim
    (λ calm.
    let parts = and_parts _ _ calm in
    subst (λ ds. BeginsLow ds (lines n kids)) (sym (plain_node p kids (eqb-true (opens p) 0 parts.0) (nat_eq p pointers) refl parts.1)) (inside n))
    (λ low.
    let kept = and_parts _ _ (so _ _ (fits p h).keeps low) in
    level_begins n (node_depths 0 p kids) (lines n kids) (no_lines kids (token_grammar.right p) kept.0 formed n).0
    (node_length p kids ∙ sym (lines_length kids n)) (head_in 0 p kids h formed (head_low kids (token_grammar.right p) formed)))
    (either _ _ (fits p h).deep)

begins_low : (f : Forest) (row : List Symbol) → Forms token_grammar f row → (n : ℕ) → BeginsLow (depths 0 f) (lines n f)
begins_low End row formed n = tt
begins_low (Leaf k f) (Kind c ∷ row) formed n = (omega arith, low_again n (depths 0 f) (lines n f) (begins_low f row formed.1 n))
begins_low (Node p kids f) (Non m ∷ row) formed n =
    let inner = node_low p kids formed.0 formed.2 (begins_low kids (token_grammar.right p) formed.2) in
    subst (λ ds. BeginsLow ds (lines n (Node p kids f))) (sym (parted 0 p kids f))
    (cond_both (nat_eq p definition) _ _ (BeginsLow (node_depths 0 p kids ++ depths 0 f))
    (λ yes. begins_joined (node_depths 0 p kids) (lines 0 kids) (depths 0 f) (lines n f) (inner 0) (begins_low f row formed.3 n))
    (λ no. begins_joined (node_depths 0 p kids) (lines (n + lines_at p) kids) (depths 0 f) (lines (n + lines_at p + lines_in kids) f) (inner (n + lines_at p)) (begins_low f row formed.3 (n + lines_at p + lines_in kids))))
begins_low (Leaf k f) [] formed n = absurd formed
begins_low (Leaf k f) (Non m ∷ row) formed n = absurd formed
begins_low (Node p kids f) [] formed n = absurd formed
begins_low (Node p kids f) (Kind c ∷ row) formed n = absurd formed

-- ---- the first token past a limit

-- the first token of a line past the limit
rises_at : (n most : ℕ) (ds ls : List ℕ) (k : ℕ) → RisesLow n ds ls → n ≤ most → ((j : ℕ) → j < k → get_or ls j 0 ≤ most) → most < get_or ls k 0 → get_or ds k 0 ≤ 1
rises_at n most [] [] k low less before past = omega arith
rises_at n most [] (l ∷ ls) k low less before past = absurd low
rises_at n most (d ∷ ds) [] k low less before past = absurd low
rises_at n most (d ∷ ds) (l ∷ ls) zero low less before past = ⊎_elim (λ same. absurd (omega (arith, same, less, past))) (λ at. at) low.0
rises_at n most (d ∷ ds) (l ∷ ls) (suc k) low less before past =
    rises_at l most ds ls k low.1 (before 0 (omega arith)) (λ j sooner. before (suc j) (omega (arith, sooner))) past

pub low_where_lines_pass : (f : Forest) (row : List Symbol) → Forms token_grammar f row → (k : ℕ) → PassesFirst f k limit.Lines → Passes f k limit.Depth → ⊥
low_where_lines_pass f row formed k first_past past =
    let low = rises_at 0 line_limit (depths 0 f) (lines 0 f) k (low_again 0 (depths 0 f) (lines 0 f) (begins_low f row formed 0)) (omega arith)
    (λ j sooner. not_past (line_limit) (get_or (lines 0 f) j 0) (first_past.1 j limit.Lines sooner)) first_past.0 in
    omega (arith, low, past)
  where
    not_past : (a b : ℕ) → (a < b → ⊥) → b ≤ a
    not_past a b none = ⊎_elim (λ is. is.1) (λ less. absurd (none less.1)) (leb_tells b a)
