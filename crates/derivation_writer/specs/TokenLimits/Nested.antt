-- How deep a token stands, as rules begin, tokens are shifted and rules are reduced. In `[2 x i8*]*` the first star stands one deeper than `i8`, and
-- the second one deeper than the first, which is the deepest token inside.
use Rattle.std.specs.Prelude.{ℕ, ◌+◌, ◌-◌, max, List, [], ◌∷◌}
use Rattle.derivation_writer.specs.declared.token_limits.nesting.Nesting.{Nesting}
use Rattle.derivation_writer.specs.declared.token_limits.nesting.Saved.{Saved}
use Rattle.derivation_writer.specs.declared.token_limits.role.Role.{Role}
use Rattle.derivation_writer.specs.declared.token_limits.role.Role.TheVariants.{Base, Definition, Line, Part, Plain, Pointers}

abbrev pub none_open : Nesting
none_open = record { level = 0; deepest = 0; saved = [] }

-- a type begins, and its deepest token is sought
abbrev pub opened : Nesting → Nesting
opened n = record { level = n.level; deepest = n.level; saved = record { level = n.level; deepest = n.deepest } ∷ n.saved }

-- a type ends: what was open before it is open again
abbrev pub closed_to : Nesting → List Saved → Nesting
closed_to n [] = n
closed_to n (s ∷ more) = record { level = s.level; deepest = max n.deepest s.deepest; saved = more }

abbrev pub closed : Nesting → Nesting
closed n = closed_to n n.saved

abbrev pub at_level : Nesting → ℕ → Nesting
at_level n level = record { level = level; deepest = n.deepest; saved = n.saved }

abbrev pub begun : Nesting → Role → Nesting
begun n Pointers = opened n
begun n Base = at_level n (n.level + 1)
begun n Part = at_level n (n.level + 1)
begun n Plain = n
begun n Line = n
begun n Definition = n

abbrev pub shifted : Nesting → Nesting
shifted n = record { level = n.level; deepest = max n.deepest n.level; saved = n.saved }

-- what stood before a type's stars is as deep as its deepest token
abbrev pub reduced : Nesting → Role → Nesting
reduced n Pointers = closed n
reduced n Base = at_level n n.deepest
reduced n Part = at_level n (n.level - 1)
reduced n Plain = n
reduced n Line = n
reduced n Definition = n
