-- What the engine's stack stands for, and what its moves keep. The stack is a list, top first. The examples are of rows of brackets,
-- `row = | "(" row ")" row`.
use Rattle.std.specs.Prelude.{◌≡◌, ℕ, zero, suc, List, [], ◌∷◌, ◌++◌}
use Rattle.predictive.specs.declared.symbol.Symbol.{Symbol}
use Rattle.predictive.specs.declared.symbol.Symbol.TheVariants.{Kind, Non}
use Rattle.predictive.specs.declared.item.Item.{Item}
use Rattle.predictive.specs.declared.item.Item.TheVariants as item
use Rattle.predictive.specs.Grammar.{Grammar, Forest, End, Leaf, Node, Forms, yield, Derives, Event, Begin, Shift, Reduce, events, after_events}
use Rattle.predictive.specs.Predictive.{Sets, ahead, IsFollowed, at_end}

abbrev pub item_of : Symbol → Item
item_of (Kind c) = item.Kind c
item_of (Non n) = item.Non n

-- a row of symbols put on the stack: `(` row on a stack with `)` makes `(` row `)`
abbrev pub opened : List Symbol → List Item → List Item
opened [] items = items
opened (x ∷ row) items = item_of x ∷ opened row items

-- the symbols that are still to come
abbrev pub wanted : List Item → List Symbol
wanted [] = []
wanted (item.Kind c ∷ items) = Kind c ∷ wanted items
wanted (item.Non n ∷ items) = Non n ∷ wanted items
wanted (item.Done p ∷ items) = wanted items

-- what is done along the trees of what is wanted: a tree's rule begins before its kids and is reduced after them, a token is shifted, and
-- a rule that stands on the stack as done is reduced when its turn comes
abbrev pub acts : List Item → Forest → List Event
acts [] f = []
acts (item.Done p ∷ items) f = Reduce p ∷ acts items f
acts (item.Kind c ∷ items) End = []
acts (item.Kind c ∷ items) (Leaf k f) = Shift k ∷ acts items f
acts (item.Kind c ∷ items) (Node p kids f) = []
acts (item.Non n ∷ items) End = []
acts (item.Non n ∷ items) (Leaf k f) = []
acts (item.Non n ∷ items) (Node p kids f) = Begin p ∷ (events kids ++ (Reduce p ∷ acts items f))

-- the kinds of the tokens that are shifted
abbrev pub shifts : List Event → List ℕ
shifts [] = []
shifts (Begin p ∷ es) = shifts es
shifts (Shift k ∷ es) = k ∷ shifts es
shifts (Reduce p ∷ es) = shifts es

-- from the one stack to the other something is done, and no token is shifted; each row of trees of the second stack is behind that one
-- of the first; each text of the first with this ahead is one of the second
pub record Leads {S : Type 0} (g : Grammar) (begun shifted reduced : S → ℕ → S) (look : ℕ) (a : List Item) (s : S) (b : List Item) (t : S) : Type 0 where
  pub made : List Event
  pub quiet : shifts made ≡ []
  pub ran : t ≡ after_events begun shifted reduced made s
  pub sound :
      (f : Forest) → Forms g f (wanted b)
      → (h : Forest) × Forms g h (wanted a) × (yield h ≡ yield f) × (acts a h ≡ made ++ acts b f)
  pub complete : (more : List ℕ) → ahead more ≡ look → Derives g (wanted a) more → Derives g (wanted b) more

-- what is ahead put back on the stack, or both end
abbrev pub with_ahead : ℕ → List Item → List Item
with_ahead zero items = items
with_ahead (suc k) items = item.Kind k ∷ items

-- a parser came from the stack `old` to one whose top was what is ahead, and took that off
abbrev pub IsMet : {S : Type 0} → Grammar → Sets → (S → ℕ → S) → (S → ℕ → S) → (S → ℕ → S) → ℕ → List Item → S → List Item → S → Type 0
IsMet g s begun shifted reduced look old start items state =
    IsFollowed s (wanted items) at_end
    × Leads g begun shifted reduced look old start (with_ahead look items) state
    × (look ≡ 0 → items ≡ [])

-- nothing that the stack stands for goes on with what is ahead
abbrev pub IsStuck : Grammar → ℕ → List Item → Type 0
IsStuck g look old = (more : List ℕ) → ahead more ≡ look → Derives g (wanted old) more → ⊥
