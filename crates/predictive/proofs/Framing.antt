-- Rows of begun rules as a stack of what has yet to be done.
use Rattle.std.proofs.Common.{◌≡◌, ℕ, List, [], ◌∷◌, refl, ap, ◌∙◌}
use Rattle.predictive.specs.Frames.{framed}
use Rattle.predictive.specs.Moves.{item_of, opened}
use Rattle.predictive.specs.declared.frames.Frame.{Frame}
use Rattle.predictive.specs.declared.item.Item.TheVariants as item
use Rattle.predictive.specs.declared.symbol.Symbol.{Symbol}
use Rattle.predictive.specs.declared.symbol.Symbol.TheVariants.{Non}

first_framed : (x : Symbol) (row : List Symbol) (rule : ℕ) (below : List Frame) → framed (x ∷ row) rule below ≡ item_of x ∷ framed row rule below
first_framed x row rule [] = refl
first_framed x row rule (f ∷ fs) = refl

-- a row that goes on with a symbol
pub symbol_framed : (row others : List Symbol) (x : Symbol) (rule : ℕ) (below : List Frame) → row ≡ x ∷ others → framed row rule below ≡ item_of x ∷ framed others rule below
symbol_framed row others x rule below e = ap (λ r. framed r rule below) e ∙ first_framed x others rule below

-- a row that is done, before others
pub done_framed : (row : List Symbol) (rule : ℕ) (below : List Frame) (f : Frame) (fs : List Frame) → row ≡ [] → below ≡ f ∷ fs → framed row rule below ≡ item.Done rule ∷ framed f.rest.now f.rule fs
done_framed row rule below f fs e b = ap (λ r. framed r rule below) e ∙ ap (λ l. framed [] rule l) b

-- the lowest row, when it is done
pub none_framed : (row : List Symbol) (rule : ℕ) (below : List Frame) → row ≡ [] → below ≡ [] → framed row rule below ≡ []
none_framed row rule below e b = ap (λ r. framed r rule below) e ∙ ap (λ l. framed [] rule l) b

-- what is wanted at first
pub first_row : (start rule : ℕ) (below : List Frame) → below ≡ [] → framed (Non start ∷ []) rule below ≡ item.Non start ∷ []
first_row start rule below e = ap (λ l. framed (Non start ∷ []) rule l) e

-- a right side before what was wanted
pub opened_framed : (right : List Symbol) (rule : ℕ) (f : Frame) (fs below : List Frame) → below ≡ f ∷ fs → framed right rule below ≡ opened right (item.Done rule ∷ framed f.rest.now f.rule fs)
opened_framed right rule f fs below e = ap (λ l. framed right rule l) e
