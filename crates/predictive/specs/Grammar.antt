-- Context-free grammars over numbered kinds of tokens and numbered nonterminals, their derivation trees, and the first fault of a
-- text. A text is here the list of its tokens' kinds.
use Rattle.std.specs.Prelude.{◌≡◌, ◌<◌, ◌≤◌, ℕ, zero, suc, List, [], ◌∷◌, ◌++◌, length, take, drop}
use Rattle.predictive.specs.declared.symbol.Symbol.{Symbol}
use Rattle.predictive.specs.declared.symbol.Symbol.TheVariants.{Kind, Non}

-- trees in a row
pub data Forest : Type 0 where
  End : Forest
  Leaf : ℕ → Forest → Forest
  Node : ℕ → Forest → Forest → Forest

pub record Grammar : Type 0 where
  pub count : ℕ
  pub left : ℕ → ℕ
  pub right : ℕ → List Symbol

abbrev pub Forms : Grammar → Forest → List Symbol → Type 0
Forms g End [] = Unit {0}
Forms g (Leaf k f) (Kind c ∷ s) = (c ≡ k) × Forms g f s
Forms g (Node p kids f) (Non n ∷ s) = (p < g.count) × (g.left p ≡ n) × Forms g kids (g.right p) × Forms g f s
Forms g _ _ = ⊥

abbrev pub yield : Forest → List ℕ
yield End = []
yield (Leaf k f) = k ∷ yield f
yield (Node p kids f) = yield kids ++ yield f

abbrev pub Derives : Grammar → List Symbol → List ℕ → Type 0
Derives g s ks = (f : Forest) × Forms g f s × (yield f ≡ ks)

-- both end, or both go on with the same kind
abbrev pub Agree : List ℕ → List ℕ → Type 0
Agree [] [] = Unit {0}
Agree (a ∷ more) (b ∷ rest) = a ≡ b
Agree _ _ = ⊥

abbrev pub IsFirstFault : Grammar → List Symbol → List ℕ → ℕ → Type 0
IsFirstFault g s ks place =
    (place ≤ length ks)
    × ((more : List ℕ) × Derives g s (take place ks ++ more))
    × ((more : List ℕ) → Agree more (drop place ks) → Derives g s (take place ks ++ more) → ⊥)

-- what a parser does: it begins a rule, shifts a token of a kind, or reduces a rule whose right side is there
pub data Event : Type 0 where
  Begin : ℕ → Event
  Shift : ℕ → Event
  Reduce : ℕ → Event

-- what it does along trees, in order
abbrev pub events : Forest → List Event
events End = []
events (Leaf k f) = Shift k ∷ events f
events (Node p kids f) = Begin p ∷ (events kids ++ (Reduce p ∷ events f))

-- what comes up to the shift of so many tokens, with nothing behind the last of them
abbrev pub until_shifted : ℕ → List Event → List Event
until_shifted zero es = []
until_shifted (suc n) [] = []
until_shifted (suc n) (Begin p ∷ es) = Begin p ∷ until_shifted (suc n) es
until_shifted (suc n) (Shift k ∷ es) = Shift k ∷ until_shifted n es
until_shifted (suc n) (Reduce p ∷ es) = Reduce p ∷ until_shifted (suc n) es

abbrev pub after_events : {S : Type 0} → (S → ℕ → S) → (S → ℕ → S) → (S → ℕ → S) → List Event → S → S
after_events begun shifted reduced [] s = s
after_events begun shifted reduced (Begin p ∷ es) s = after_events begun shifted reduced es (begun s p)
after_events begun shifted reduced (Shift k ∷ es) s = after_events begun shifted reduced es (shifted s k)
after_events begun shifted reduced (Reduce p ∷ es) s = after_events begun shifted reduced es (reduced s p)

abbrev pub after_trees : {S : Type 0} → (S → ℕ → S) → (S → ℕ → S) → (S → ℕ → S) → Forest → S → S
after_trees begun shifted reduced End s = s
after_trees begun shifted reduced (Leaf k f) s = after_trees begun shifted reduced f (shifted s k)
after_trees begun shifted reduced (Node p kids f) s =
    after_trees begun shifted reduced f (reduced (after_trees begun shifted reduced kids (begun s p)) p)

-- after the first tokens of trees, so many
abbrev pub after_some : {S : Type 0} → (S → ℕ → S) → (S → ℕ → S) → (S → ℕ → S) → ℕ → Forest → S → S
after_some begun shifted reduced n f s = after_events begun shifted reduced (until_shifted n (events f)) s

-- what the engine's crate proves of a predictive grammar
abbrev pub IsUnambiguous : Grammar → List Symbol → Type 0
IsUnambiguous g s = (f h : Forest) → Forms g f s → Forms g h s → yield f ≡ yield h → f ≡ h
