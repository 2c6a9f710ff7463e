-- Rules that say what they make, and the stack acts that follow from it.
--
-- `rule pair (Kind open ∷ Non value ∷ Kind comma ∷ Non value ∷ Kind close ∷ []) (λ left right. record { left = left; right = right })`
-- is the rule of a pair. Over the stack `part value 2 ∷ part value 1 ∷ below`, top first, its action leaves
-- `part pair (1, 2) ∷ below`: the fixed tokens are not on the stack, since they say nothing beside their kind.
use Rattle.std.specs.Prelude.{◌≡◌, ℕ, zero, suc, List, [], ◌∷◌, length, Option, Some, None, cond, nat_eq, ◌+◌}
use Rattle.predictive.specs.declared.symbol.Symbol.{Symbol}
use Rattle.predictive.specs.declared.symbol.Symbol.TheVariants.{Kind, Non}
use Rattle.predictive.specs.Meaning.{Meaning, EachOf, row}

-- what the symbols stand for, and how that stands on the stack
pub record Vocabulary : Type 1 where
  pub Token : Type 0
  pub kind_of : Token → ℕ
  -- what a token of a kind says beside its kind
  pub Content : ℕ → Type 0
  pub token : (k : ℕ) → Content k → Token
  -- a function of a kind's content; of nothing, where it has none
  pub Given : ℕ → Type 0 → Type 0
  pub give : (k : ℕ) (R : Type 0) → Given k R → Content k → R
  -- what a nonterminal stands for
  pub Value : ℕ → Type 0
  -- what stands on the stack
  pub Part : Type 0
  -- a token put onto the stack, where it says more than its kind
  pub kept : Token → List Part → List Part
  -- a token's content taken from the stack, and what is then done with it
  pub unkept : (k : ℕ) → List Part → (Content k → List Part → List Part) → List Part
  pub part : (n : ℕ) → Value n → Part
  -- the value that a part is, if it is one of this nonterminal
  pub value : (n : ℕ) → Part → Option (Value n)

-- a function of what the symbols stand for
abbrev pub Of : (w : Vocabulary) → List Symbol → Type 0 → Type 0
Of w [] R = R
Of w (Kind k ∷ s) R = w.Given k (Of w s R)
Of w (Non n ∷ s) R = w.Value n → Of w s R

-- such a function at one of each symbol
abbrev pub of : (w : Vocabulary) (s : List Symbol) (R : Type 0) → Of w s R → EachOf w.Content w.Value s → R
of w [] R f vs = f
of w (Kind k ∷ s) R f vs = of w s R (w.give k (Of w s R) f vs.0) vs.1
of w (Non n ∷ s) R f vs = of w s R (f vs.0) vs.1

-- a nonterminal, a right side, and what is made of what stands there
pub record Rule (w : Vocabulary) : Type 0 where
  pub left : ℕ
  pub right : List Symbol
  pub make : Of w right (w.Value left)

abbrev pub made : (w : Vocabulary) (r : Rule w) → EachOf w.Content w.Value r.right → w.Value r.left
made w r vs = of w r.right (w.Value r.left) r.make vs

-- what the part on top is, if there is one
abbrev pub top : {P X : Type 0} → (P → Option X) → List P → Option X
top is [] = None
top is (p ∷ s) = is p

-- the stack below its top
abbrev pub below : {P : Type 0} → List P → List P
below [] = []
below (p ∷ s) = s

-- the part on top, where it is such a part; else it is dropped
abbrev pub take : {P X : Type 0} → (P → Option X) → List P → (X → List P → List P) → List P
take {P} {X} is s then = go (top is s)
  where
    go : Option X → List P
    go None = below s
    go (Some x) = then x (below s)

-- one of each symbol taken from the stack, the last one first
abbrev pub unload : (w : Vocabulary) (s : List Symbol) → List w.Part → (EachOf w.Content w.Value s → List w.Part → List w.Part) → List w.Part
unload w [] parts then = then tt parts
unload w (Kind k ∷ s) parts then = unload w s parts (λ vs parts. w.unkept k parts (λ x parts. then (x, vs) parts))
unload w (Non n ∷ s) parts then = unload w s parts (λ vs parts. take (w.value n) parts (λ v parts. then (v, vs) parts))

-- a rule's semantic action: the parts of its right side are taken from the stack, and what it makes of them is put there
abbrev pub action : (w : Vocabulary) → Rule w → List w.Part → List w.Part
action w r parts = unload w r.right parts (λ vs parts. w.part r.left (made w r vs) ∷ parts)

-- the rule of a number; past the end the first one given
abbrev pub nth : {R : Type 0} → R → List R → ℕ → R
nth first [] p = first
nth first (r ∷ rs) zero = r
nth first (r ∷ rs) (suc p) = nth first rs p

-- the action of the rule of this number, the rules being numbered from i on
abbrev pub act_at : (w : Vocabulary) → ℕ → List (Rule w) → ℕ → List w.Part → List w.Part
act_at w i [] p s = s
act_at w i (r ∷ rs) p s = cond (nat_eq p i) (action w r s) (act_at w (i + 1) rs p s)

-- the meaning of a grammar that is given by its rules
abbrev pub meaning_of : (w : Vocabulary) → ((n : ℕ) → w.Value n → List w.Token) → Rule w → List (Rule w) → Meaning
meaning_of w written first rules = record {
  Token = w.Token;
  kind_of = w.kind_of;
  Content = w.Content;
  token = w.token;
  Value = w.Value;
  written = written;
  Part = w.Part;
  kept = w.kept;
  part = w.part;
  grammar = record {
    count = length rules;
    left = λ p. (nth first rules p).left;
    right = λ p. (nth first rules p).right;
  };
  act = λ p s. act_at w 0 rules p s;
}

-- what a rule makes is written as its right side is
abbrev pub IsRight : (w : Vocabulary) → ((n : ℕ) → w.Value n → List w.Token) → Rule w → Rule w → List (Rule w) → Type 0
IsRight w written r first rules =
    (vs : EachOf w.Content w.Value r.right) → written r.left (made w r vs) ≡ row (meaning_of w written first rules) r.right vs

abbrev pub AllOf : {R : Type 0} → (R → Type 0) → List R → Type 0
AllOf P [] = Unit {0}
AllOf P (r ∷ rs) = P r × AllOf P rs

-- a token is its kind and content, and what is put onto the stack is what is taken from it
pub record IsVocabulary (w : Vocabulary) : Type 0 where
  pub content : (t : w.Token) → (c : w.Content (w.kind_of t)) × (w.token (w.kind_of t) c ≡ t)
  pub kind : (k : ℕ) (c : w.Content k) → w.kind_of (w.token k c) ≡ k
  pub some : (k : ℕ) → w.Content k
  pub kept : (k : ℕ) (c : w.Content k) (s : List w.Part) (then : w.Content k → List w.Part → List w.Part) → w.unkept k (w.kept (w.token k c) s) then ≡ then c s
  pub value : (n : ℕ) (v : w.Value n) → w.value n (w.part n v) ≡ Some v
