-- What the rules stand for that are begun and not yet done.
use Rattle.std.specs.Prelude.{ℕ, List, [], ◌∷◌}
use Rattle.predictive.specs.declared.symbol.Symbol.{Symbol}
use Rattle.predictive.specs.declared.item.Item.{Item}
use Rattle.predictive.specs.declared.item.Item.TheVariants as item
use Rattle.predictive.specs.declared.frames.Frame.{Frame}
use Rattle.predictive.specs.Moves.{opened}

-- the row is wanted, then its rule is done, and then those below it go on; the lowest row is of no rule, and nothing is done behind it
abbrev pub framed : List Symbol → ℕ → List Frame → List Item
framed row rule [] = opened row []
framed row rule (f ∷ fs) = opened row (item.Done rule ∷ framed f.rest.now f.rule fs)
