-- The grammar of tokens, with text of which nothing is kept.
use Rattle.predictive.specs.Gapped.{Gapped}
use Rattle.predictive.specs.GapListing.{Gap, gapped}
use Rattle.module_grammar.specs.Balanced.{IsBalanced}
use Rattle.module_grammar.specs.BalancedRules.{balanced_rules}
use Rattle.module_grammar.specs.Rules.{first_rule, meaning, rules, written_at}
use Rattle.module_grammar.specs.Sorts.{vocabulary}
use Rattle.module_grammar.specs.Symbols.{balanced, kind_of}
use Rattle.predictive.specs.Grammar.{Grammar}

abbrev pub gap : Gap
gap = record { kind = kind_of balanced; non = 92; rules = balanced_rules }

abbrev pub with_gap : Gapped meaning
with_gap = gapped vocabulary written_at first_rule rules gap IsBalanced

abbrev pub token_grammar : Grammar
token_grammar = with_gap.grammar
