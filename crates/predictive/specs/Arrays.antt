-- A listed grammar laid out in arrays, which are read without a search. Of `Examples`' brackets, at width 3, the choices are `1 2 1`,
-- the starts `0 0 4`, and the symbols those of the second rule.
use Rattle.std.specs.Prelude.{◌≡◌, ℕ, zero, suc, ◌+◌, ◌^◌, Bool, true, false, cond, ◌&&◌, nat_eq, nat_lt, List, [], ◌∷◌, ◌++◌, length, map, Option, Some, None}
use Rattle.predictive.specs.declared.symbol.Symbol.{Symbol}
use Rattle.predictive.specs.Listed.{Listed, Rule, Selected, has, selected}

-- a rule's number, and what selects the rule
pub record Numbered : Type 0 where
  pub rule : ℕ
  pub mask : ℕ

abbrev pub with_if : {X : Type 0} → Bool → X → List X → List X
with_if true x xs = x ∷ xs
with_if false x xs = xs

-- the rules of a nonterminal, the rules being numbered from i on
abbrev pub rules_of : ℕ → ℕ → List Selected → List Numbered
rules_of i n [] = []
rules_of i n (s ∷ rest) = with_if (nat_eq s.left n) (record { rule = i; mask = s.mask }) (rules_of (suc i) n rest)

abbrev pub pick : List Numbered → ℕ → Option ℕ
pick [] k = None
pick (r ∷ rest) k = cond (has r.mask k) (Some r.rule) (pick rest k)

abbrev pub code : Option ℕ → ℕ
code None = 0
code (Some p) = suc p

-- entries by what is ahead, from k on
abbrev pub entries : List Numbered → ℕ → ℕ → List ℕ
entries rules k zero = []
entries rules k (suc left) = code (pick rules k) ∷ entries rules (suc k) left

-- a row for each nonterminal, from n on
abbrev pub rows : List Selected → ℕ → ℕ → ℕ → List ℕ
rows all width n zero = []
rows all width n (suc left) = entries (rules_of 0 n all) 0 width ++ rows all width (suc n) left

abbrev pub masks_below : ℕ → List Selected → Bool
masks_below limit [] = true
masks_below limit (s ∷ rest) = nat_lt s.mask limit && masks_below limit rest

-- nothing at `width` or above is ahead of a rule; 0 where there is no rule, else one more than its number
abbrev pub IsDense : Listed → ℕ → List ℕ → Type 0
IsDense d width choices =
    (masks_below (2 ^ width) (map (λ r. selected d.facts r) d.rules) ≡ true)
    × (choices ≡ rows (map (λ r. selected d.facts r) d.rules) width 0 (length d.facts))

-- where each right side begins, and where the last one ends
abbrev pub starts_of : ℕ → List Rule → List ℕ
starts_of at [] = at ∷ []
starts_of at (r ∷ rs) = at ∷ starts_of (at + length r.right) rs

abbrev pub symbols_of : List Rule → List Symbol
symbols_of [] = []
symbols_of (r ∷ rs) = r.right ++ symbols_of rs

abbrev pub IsLaid : Listed → List ℕ → List Symbol → Type 0
IsLaid d starts symbols = (starts ≡ starts_of 0 d.rules) × (symbols ≡ symbols_of d.rules)
