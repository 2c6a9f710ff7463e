-- What is seen ahead in a flat derivation of a typed grammar with a gap.
use Rattle.std.specs.Prelude.{◌≡◌, ◌+◌, ◌&&◌, ℕ, suc, Bool, true, false, cond, nat_eq, List, [], ◌∷◌}
use Rattle.predictive.specs.GapListing.{Gap, opened_rules}
use Rattle.predictive.specs.Listed.{Rule as PlainRule}
use Rattle.predictive.specs.Meaning.{EachOf}
use Rattle.predictive.specs.Typed.{Rule, Vocabulary, made}
use Rattle.predictive.specs.declared.symbol.Symbol.{Symbol}
use Rattle.predictive.specs.declared.symbol.Symbol.TheVariants.{Kind, Non}
use Rattle.module_derivations.specs.FlatMarks.Flat.{skip}

pub record Seeing (w : Vocabulary) : Type 1 where
  -- the rules and the kinds of tokens that are written down, and the kind that is a gap
  pub chosen : ℕ → Bool
  pub says : ℕ → Bool
  pub gap : ℕ
  -- the part that a token is, and the one that a rule makes
  pub Part : Type 0
  pub leaf : w.Token → Part
  pub node : ℕ → List Part → Part
  -- how many parts a rule that is written down has behind it, and how many a nonterminal is
  pub arity : ℕ → ℕ
  pub size : ℕ → ℕ
  -- what stands in front, as a token of a kind, and as a nonterminal
  pub content : (k : ℕ) → List Part → w.Content k
  pub value : (n : ℕ) → List Part → w.Value n

module _ (w : Vocabulary) (a : Seeing w) where
  -- the parts of a token; a gap is one
  abbrev pub width : ℕ → ℕ
  width k = cond (nat_eq k a.gap) 1 (cond (a.says k) 1 0)

  -- what stands in front, one for each symbol
  abbrev pub values : (s : List Symbol) → List a.Part → EachOf w.Content w.Value s
  values [] ps = tt
  values (Kind k ∷ s) ps = (a.content k ps, values s (skip (width k) ps))
  values (Non n ∷ s) ps = (a.value n ps, values s (skip (a.size n) ps))

  -- what a rule makes stands in front where it begins, or where what it is made of does
  abbrev pub IsSeenAs : Bool → ℕ → Rule w → Type 0
  IsSeenAs true p r = (ps rest : List a.Part) → a.value r.left (a.node p ps ∷ rest) ≡ made w r (values r.right ps)
  IsSeenAs false p r = (ps : List a.Part) → a.value r.left ps ≡ made w r (values r.right ps)

  -- the law of a rule and its number
  abbrev pub IsSeen : ℕ → Rule w → Type 0
  IsSeen p r = IsSeenAs (a.chosen p) p r

  -- the laws of rules that are numbered from i on
  abbrev pub AreSeen : ℕ → List (Rule w) → Type 0
  AreSeen i [] = Unit {0}
  AreSeen i (r ∷ rs) = IsSeen i r × AreSeen (suc i) rs

  -- the parts of the places from one on are those of the tokens
  abbrev pub AreLeaves : (ℕ → a.Part) → ℕ → List w.Token → Type 0
  AreLeaves leaf i [] = Unit {0}
  AreLeaves leaf i (t ∷ ts) = (leaf i ≡ a.leaf t) × AreLeaves leaf (suc i) ts

  -- ---- the test of sizes, over the rules as a parser has them

  abbrev pub breadth : List Symbol → ℕ
  breadth [] = 0
  breadth (Kind k ∷ s) = cond (a.says k) 1 0 + breadth s
  breadth (Non n ∷ s) = a.size n + breadth s

  -- a rule that is written down makes one part
  abbrev pub is_sized_as : Bool → ℕ → PlainRule → Bool
  is_sized_as true p r = nat_eq (a.size r.left) 1 && nat_eq (a.arity p) (breadth r.right)
  is_sized_as false p r = nat_eq (a.size r.left) (breadth r.right)

  abbrev pub are_sized : ℕ → List PlainRule → Bool
  are_sized i [] = true
  are_sized i (r ∷ rs) = is_sized_as (a.chosen i) i r && are_sized (suc i) rs

-- When what is seen ahead is what the derivation means.
pub record IsSeeing (w : Vocabulary) (rules : List (Rule w)) (gap : Gap) (a : Seeing w) : Type 0 where
  pub seen : AreSeen w a 0 rules
  pub sized : are_sized w a 0 (opened_rules gap rules) ≡ true
  pub gap_kind : a.gap ≡ gap.kind
  pub gap_size : a.size gap.non ≡ 1
  -- a token that is written down is seen, and one that isn't says nothing
  pub kept : (k : ℕ) (c : w.Content k) (ps : List a.Part) → a.says k ≡ true → a.content k (a.leaf (w.token k c) ∷ ps) ≡ c
  pub plain : (k : ℕ) (c : w.Content k) (ps : List a.Part) → a.says k ≡ false → a.content k ps ≡ c
