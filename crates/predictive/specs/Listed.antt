-- Grammars as lists of rules, their LL(1) sets as masks, and the test that they are predictive, which is computed. `Examples` has one that
-- passes it and one that doesn't.
use Rattle.std.specs.Prelude.{ℕ, zero, suc, ◌+◌, ◌^◌, Bool, true, false, cond, ◌&&◌, ◌||◌, not, nat_eq, nat_lt, List, [], ◌∷◌, length, map, Option, Some, None}
use Rattle.std.specs.Int.{bit_at}
use Rattle.std.specs.Int.Bits.{bit_and, bit_or}
use Rattle.predictive.specs.declared.symbol.Symbol.{Symbol}
use Rattle.predictive.specs.declared.symbol.Symbol.TheVariants.{Kind, Non}
use Rattle.predictive.specs.Grammar.{Grammar}
use Rattle.predictive.specs.Predictive.{Sets}

pub record Rule : Type 0 where
  pub left : ℕ
  pub right : List Symbol

-- what is said of a nonterminal; FIRST and FOLLOW are masks by what is ahead: bit 0 for the end of the text, bit k + 1 for kind k
pub record Facts : Type 0 where
  pub nullable : Bool
  pub first : ℕ
  pub follow : ℕ
  pub cost : ℕ
  pub shortest : ℕ
  pub rank : ℕ

-- the nonterminal n's facts stand at n, and the rule p at p
pub record Listed : Type 0 where
  pub facts : List Facts
  pub rules : List Rule

abbrev pub rule_at : List Rule → ℕ → Rule
rule_at [] p = record { left = 0; right = [] }
rule_at (r ∷ rs) zero = r
rule_at (r ∷ rs) (suc p) = rule_at rs p

abbrev pub facts_at : List Facts → ℕ → Facts
facts_at [] n = record { nullable = false; first = 0; follow = 0; cost = 0; shortest = 0; rank = 0 }
facts_at (f ∷ fs) zero = f
facts_at (f ∷ fs) (suc n) = facts_at fs n

-- 5 has 0 and 2
abbrev pub has : ℕ → ℕ → Bool
has mask k = nat_eq (bit_at mask k) 1

-- 4 is within 5
abbrev pub within : ℕ → ℕ → Bool
within a b = nat_eq (bit_or a b) b

-- 2 and 5 are
abbrev pub disjoint : ℕ → ℕ → Bool
disjoint a b = nat_eq (bit_and a b) 0

abbrev pub nullable_mask : List Facts → List Symbol → Bool
nullable_mask fs [] = true
nullable_mask fs (Kind c ∷ row) = false
nullable_mask fs (Non n ∷ row) = (facts_at fs n).nullable && nullable_mask fs row

abbrev pub first_mask : List Facts → List Symbol → ℕ
first_mask fs [] = 0
first_mask fs (Kind c ∷ row) = 2 ^ suc c
first_mask fs (Non n ∷ row) = bit_or (facts_at fs n).first (cond (facts_at fs n).nullable (first_mask fs row) 0)

abbrev pub select_mask : List Facts → List Symbol → ℕ → ℕ
select_mask fs row next = bit_or (first_mask fs row) (cond (nullable_mask fs row) next 0)

-- a rule's nonterminal, and what selects the rule
pub record Selected : Type 0 where
  pub left : ℕ
  pub mask : ℕ

abbrev pub selected : List Facts → Rule → Selected
selected fs r = record { left = r.left; mask = select_mask fs r.right (facts_at fs r.left).follow }

-- the first rule that is selected, the rules being numbered from i on
abbrev pub find : ℕ → List Selected → ℕ → ℕ → Option ℕ
find i [] n k = None
find i (s ∷ rest) n k = cond (nat_eq s.left n && has s.mask k) (Some i) (find (suc i) rest n k)

abbrev pub grammar_of : Listed → Grammar
grammar_of d = record {
  count = length d.rules;
  left = λ p. (rule_at d.rules p).left;
  right = λ p. (rule_at d.rules p).right;
}

abbrev pub sets_of : Listed → Sets
sets_of d = record {
  count = length d.facts;
  nullable = λ n. (facts_at d.facts n).nullable;
  first = λ n k. has (facts_at d.facts n).first k;
  follow = λ n k. has (facts_at d.facts n).follow k;
  table = λ n k. find 0 (map (λ r. selected d.facts r) d.rules) n k;
  cost = λ n. (facts_at d.facts n).cost;
  shortest = λ n. (facts_at d.facts n).shortest;
  rank = λ n. (facts_at d.facts n).rank;
}

abbrev pub followed_test : List Facts → List Symbol → ℕ → Bool
followed_test fs [] next = true
followed_test fs (Kind c ∷ row) next = followed_test fs row next
followed_test fs (Non n ∷ row) next =
    nat_lt n (length fs) && (within (select_mask fs row next) (facts_at fs n).follow && followed_test fs row next)

abbrev pub cost_mask : List Facts → List Symbol → ℕ
cost_mask fs [] = 0
cost_mask fs (Kind c ∷ row) = 0
cost_mask fs (Non n ∷ row) = (facts_at fs n).cost + cond (facts_at fs n).nullable (cost_mask fs row) 0

abbrev pub ranks_test : List Facts → List Symbol → ℕ → Bool
ranks_test fs [] r = true
ranks_test fs (Kind c ∷ row) r = ranks_test fs row r
ranks_test fs (Non n ∷ row) r = nat_lt n (length fs) && (nat_lt (facts_at fs n).rank r && ranks_test fs row r)

-- what a rule's right side says of its nonterminal is in the nonterminal's facts
abbrev pub rule_test : List Facts → Rule → Bool
rule_test fs r =
    (not (nullable_mask fs r.right) || (facts_at fs r.left).nullable)
    && (within (first_mask fs r.right) (facts_at fs r.left).first
    && (followed_test fs r.right (facts_at fs r.left).follow
    && nat_lt (suc (cost_mask fs r.right)) (facts_at fs r.left).cost))

abbrev pub rules_test : List Facts → List Rule → Bool
rules_test fs [] = true
rules_test fs (r ∷ rs) = rule_test fs r && rules_test fs rs

-- a nonterminal's shortest rule is one of its own, over nonterminals of lower rank
abbrev pub fact_test : Listed → ℕ → Facts → Bool
fact_test d n f =
    nat_lt f.shortest (length d.rules)
    && (nat_eq (rule_at d.rules f.shortest).left n && ranks_test d.facts (rule_at d.rules f.shortest).right f.rank)

-- of each nonterminal's facts, numbered from n on
abbrev pub facts_test : Listed → ℕ → List Facts → Bool
facts_test d n [] = true
facts_test d n (f ∷ fs) = fact_test d n f && facts_test d (suc n) fs

abbrev pub mask_at : List ℕ → ℕ → ℕ
mask_at [] n = 0
mask_at (m ∷ ms) zero = m
mask_at (m ∷ ms) (suc n) = mask_at ms n

abbrev pub with_mask : List ℕ → ℕ → ℕ → List ℕ
with_mask [] zero mask = mask ∷ []
with_mask [] (suc n) mask = 0 ∷ with_mask [] n mask
with_mask (m ∷ ms) zero mask = bit_or m mask ∷ ms
with_mask (m ∷ ms) (suc n) mask = m ∷ with_mask ms n mask

-- none is selected where an earlier rule of its nonterminal is
abbrev pub apart : List ℕ → List Selected → Bool
apart taken [] = true
apart taken (s ∷ rest) = disjoint s.mask (mask_at taken s.left) && apart (with_mask taken s.left s.mask) rest

abbrev pub is_predictive : Listed → Bool
is_predictive d = rules_test d.facts d.rules && (facts_test d 0 d.facts && apart [] (map (λ r. selected d.facts r) d.rules))
