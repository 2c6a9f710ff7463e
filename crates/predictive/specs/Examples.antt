-- Two listed grammars: one that is predictive, and one whose rules begin alike.
use Rattle.std.specs.Prelude.{true, false, [], ◌∷◌}
use Rattle.predictive.specs.declared.symbol.Symbol.TheVariants.{Kind, Non}
use Rattle.predictive.specs.Listed.{Listed}

-- balanced brackets: a row is empty, or `(` row `)` row
abbrev pub brackets : Listed
brackets = record {
  -- begins with `(`; the end or `)` follows
  facts = record { nullable = true; first = 2; follow = 5; cost = 2; shortest = 0; rank = 0 } ∷ [];
  rules =
      record { left = 0; right = [] }
      ∷ record { left = 0; right = Kind 0 ∷ Non 0 ∷ Kind 1 ∷ Non 0 ∷ [] }
      ∷ [];
}

-- `a`, or `a` `b`: what is ahead doesn't say which
abbrev pub alike : Listed
alike = record {
  facts = record { nullable = false; first = 2; follow = 1; cost = 2; shortest = 0; rank = 0 } ∷ [];
  rules =
      record { left = 0; right = Kind 0 ∷ [] }
      ∷ record { left = 0; right = Kind 0 ∷ Kind 1 ∷ [] }
      ∷ [];
}
