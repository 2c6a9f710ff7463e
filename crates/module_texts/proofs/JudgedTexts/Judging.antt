-- Each text spells a module or has a fault, by the steps one behind the other.
use Rattle.std.proofs.Common.{◌≡◌, ℕ, Bool, true, false, nat_lt, List, length, map, Ok, Err, ◌⊎◌, inl, inr, refl}
use Rattle.std.proofs.lemmas.Bool.{ltb-false, ltb-true}
use Rattle.std.specs.List.{Contains}
use Rattle.ir_core.specs.Limits.{text_limit}
use Rattle.ir_core.specs.declared.modules.Module.{Module}
use Rattle.ir_lexer.specs.Cut.{Cut, Placed, cut}
use Rattle.module_grammar.specs.Symbols.{Symbol, kind_of}
use Rattle.module_spelling.specs.Context.{all_seen}
use Rattle.module_spelling.specs.Faults.{HasLargeBlock, HasNameFault, IsStuck, module_number}
use Rattle.module_spelling.specs.Spells.{Spells}
use Rattle.module_texts.specs.Texts.{HasSymbols, HasTokens, IsShort, own_symbols}
use Rattle.name_claims.specs.declared.claims.Fault.{Fault}
use Rattle.module_texts.proofs.JudgedTexts.Contexts.{Context, context}
use Rattle.module_texts.proofs.JudgedTexts.Cut.{IsCutWell, cut_well}
use Rattle.module_texts.proofs.JudgedTexts.Decided.{Decided, has_or_not}
use Rattle.module_texts.proofs.JudgedTexts.Limits.{IsParsed, parsed}
use Rattle.module_texts.proofs.JudgedTexts.Named.{TextLaws, named_or_not}
use Rattle.module_texts.proofs.JudgedTexts.Told.{IsFaulty, misnamed, not_cut, not_expected, past_limit, too_deep, too_large, too_long}

module _ (laws : TextLaws) (bytes : List ℕ) where
  abbrev pub IsJudged : Type 0
  IsJudged = ((m : Module) × IsShort bytes × Spells bytes m) ⊎ IsFaulty bytes

  module _ (tokens : List Placed) (cuts : HasTokens bytes tokens) (c : Context (own_symbols bytes tokens)) where
    abbrev symbols : List Symbol
    symbols = all_seen (own_symbols bytes tokens) c.kinds

    abbrev has : HasSymbols bytes tokens symbols
    has = (cuts, c.is.stand)

    of_names : ((m : Module) × Spells bytes m) ⊎ (((f : Fault) × HasNameFault symbols f) ⊎ HasLargeBlock symbols) → IsJudged
    of_names (inl spelled) = inl (spelled.0, cuts.0, spelled.1)
    of_names (inr (inl named)) = inr (misnamed bytes tokens symbols has named.0 named.1)
    of_names (inr (inr large)) = inr (too_large bytes tokens symbols has large)

    of_stuck : (k : ℕ) → IsStuck module_number (map kind_of symbols) k → Decided (Contains c.places k) → IsJudged
    of_stuck k stuck (inl deep) = inr (too_deep bytes tokens symbols has k stuck ((c.is.deep k).0 deep))
    of_stuck k stuck (inr none) = inr (not_expected bytes tokens symbols has k (stuck, λ deep. none ((c.is.deep k).1 deep)))

    of_parse : IsParsed laws.marks symbols → IsJudged
    of_parse (inl tree) = of_names (named_or_not laws bytes tokens symbols has tree)
    of_parse (inr (inl passes)) = inr (past_limit bytes tokens symbols has passes.0 passes.1)
    of_parse (inr (inr stuck)) = of_stuck stuck.0 stuck.1 (has_or_not c.places stuck.0)

  of_cut : (c : Cut) → IsShort bytes → cut 0 0 bytes ≡ c → IsCutWell c → IsJudged
  of_cut (Ok tokens) short e well =
      let c = context (own_symbols bytes tokens) in
      of_parse tokens (short, e) c (parsed laws.marks (all_seen (own_symbols bytes tokens) c.kinds))
  of_cut (Err f) short e well = inr (not_cut bytes f short e well)

  by_length : (long : Bool) → nat_lt text_limit (length bytes) ≡ long → IsJudged
  by_length true e = inr (too_long bytes (ltb-true text_limit (length bytes) e))
  by_length false e = of_cut (cut 0 0 bytes) (ltb-false text_limit (length bytes) e) refl (cut_well 0 0 bytes)

  pub judged : IsJudged
  judged = by_length (nat_lt text_limit (length bytes)) refl
