-- The grammar of tokens is the typed grammar with its gap.
use Rattle.std.proofs.Common.{◌≡◌, ℕ, List, true, nat_eq, refl, subst, sym}
use Rattle.std.proofs.lemmas.Bool.{eqb-true}
use Rattle.predictive.proofs.GapListing as listing
use Rattle.predictive.specs.Gapped.{IsGapped}
use Rattle.module_grammar.proofs.BalancedRows.{apart, derived, fit}
use Rattle.module_grammar.proofs.Vocabulary.{is_vocabulary}
use Rattle.module_grammar.specs.declared.parts.Part.{Part}
use Rattle.module_grammar.specs.Balanced.{IsBalanced}
use Rattle.module_grammar.specs.Kinds.{Says, kept, kind, symbol_by}
use Rattle.module_grammar.specs.Rules.{first_rule, meaning, rules, written_at}
use Rattle.module_grammar.specs.Sorts.{vocabulary}
use Rattle.module_grammar.specs.Symbols.{balanced, kind_of}
use Rattle.module_grammar.specs.Tokens.{gap, with_gap}

says_nothing : (k : ℕ) → nat_eq k (kind_of balanced) ≡ true → (c : Says (kind k)) (s : List Part) → kept (symbol_by (kind k) k c) s ≡ s
says_nothing k e =
    subst (λ j. (c : Says (kind j)) (s : List Part) → kept (symbol_by (kind j) j c) s ≡ s) (sym (eqb-true k (kind_of balanced) e)) (λ c s. refl)

pub is_gapped : IsGapped meaning with_gap
is_gapped = listing.is_gapped vocabulary is_vocabulary written_at first_rule rules gap IsBalanced apart says_nothing fit derived
