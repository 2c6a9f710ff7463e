-- A typed grammar as a parser has it: its rules without what they make.
use Rattle.std.specs.Prelude.{List, map}
use Rattle.predictive.specs.Listed.{Facts, Listed, Rule as PlainRule}
use Rattle.predictive.specs.Typed.{Rule, Vocabulary}

abbrev pub plain : {w : Vocabulary} → Rule w → PlainRule
plain r = record { left = r.left; right = r.right }

-- the rules, and the LL(1) facts of the nonterminals
abbrev pub listed : {w : Vocabulary} → List Facts → List (Rule w) → Listed
listed facts rules = record { facts = facts; rules = map plain rules }
