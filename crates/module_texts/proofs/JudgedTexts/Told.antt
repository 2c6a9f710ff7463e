-- What is at fault by one of the steps, as a fault of a text that isn't want of memory.
use Rattle.std.proofs.Common.{◌≡◌, ◌-◌, ◌<◌, ℕ, zero, suc, Bool, true, false, List, [], ◌∷◌, length, map, Some, Err, inl, inr, refl}
use Rattle.std.specs.Prelude.{slice_get}
use Rattle.ir_core.specs.Limits.{text_limit}
use Rattle.ir_core.specs.declared.limits.Limit.{Limit}
use Rattle.ir_core.specs.declared.limits.Limit.TheVariants as limit
use Rattle.ir_lexer.specs.Cut.{Placed, cut}
use Rattle.ir_lexer.specs.declared.token.LexFault.{LexFault}
use Rattle.ir_lexer.specs.declared.token.LexFault.TheVariants as lexer
use Rattle.module_grammar.specs.Symbols.{Symbol, kind_of}
use Rattle.module_spelling.specs.Faults.{HasLargeBlock, HasNameFault, IsDeepAt, IsGrammarFault, IsStuck, PassesLimit, module_number}
use Rattle.module_texts.specs.Laws.{IsToldFault}
use Rattle.module_texts.specs.Texts.{HasSymbols, IsNameFault, IsShort, is_left_out_at, own_symbols, place_at}
use Rattle.ir_lexer.specs.LeftOut.{is_left_out}
use Rattle.name_claims.specs.declared.claims.Fault.{Fault}
use Rattle.name_claims.specs.declared.claims.Reason.{Reason}
use Rattle.name_claims.specs.declared.claims.Reason.TheVariants as reason
use Rattle.ir_lexer.specs.declared.fault.TextFault.{TextFault}
use Rattle.ir_lexer.specs.declared.fault.TextFault.TheVariants as fault
use Rattle.module_texts.proofs.JudgedTexts.Cut.{IsCutWell}

-- a token that is left out is there
left_out_there : (tokens : List Placed) (k : ℕ) → is_left_out_at tokens k ≡ true → (t : Placed) × (slice_get tokens k ≡ Some t) × (is_left_out t.kind ≡ true)
left_out_there [] k e = cc
left_out_there (t ∷ tokens) zero e = (t, refl, e)
left_out_there (t ∷ tokens) (suc k) e = left_out_there tokens k e

module _ (bytes : List ℕ) where
  -- something is first at fault in the text
  abbrev pub IsFaulty : Type 0
  IsFaulty = (f : TextFault) × IsToldFault bytes f

  pub too_long : text_limit < length bytes → IsFaulty
  too_long long = (fault.Limit limit.Text, (long, λ m. cc))

  pub not_cut : (f : LexFault) → IsShort bytes → cut 0 0 bytes ≡ Err f → IsCutWell (Err f) → IsFaulty
  not_cut (lexer.BadByte place) short e well = (fault.BadByte place, ((short, e), λ m. cc))
  not_cut (lexer.BadString place) short e well = (fault.BadString place, ((short, e), λ m. cc))
  not_cut (lexer.BadNumber place) short e well = (fault.BadNumber place, ((short, e), λ m. cc))
  not_cut lexer.Memory short e well = absurd well
  not_cut (lexer.Limit l) short e well = absurd well

  module _ (tokens : List Placed) (symbols : List Symbol) (has : HasSymbols bytes tokens symbols) where
    -- a token that isn't expected
    pub not_expected : (k : ℕ) → IsGrammarFault (own_symbols bytes tokens) symbols k → IsFaulty
    not_expected k is = by (is_left_out_at tokens k) refl
      where
        by : (left : Bool) → is_left_out_at tokens k ≡ left → IsFaulty
        by true left =
            let at = left_out_there tokens k left in
            let t = at.0 in
            (fault.LeftOut t.start (t.end - t.start), (inl (tokens, symbols, has, (k, t, is, at.1, at.2, refl, refl)), λ m. cc))
        by false left = (fault.Expected (place_at (length bytes) tokens k), ((tokens, symbols, has, (k, is, left, refl)), λ m. cc))

    -- one that would be expected, if what stands before it weren't too deep
    pub too_deep : (k : ℕ) → IsStuck module_number (map kind_of symbols) k → IsDeepAt (own_symbols bytes tokens) k → IsFaulty
    too_deep k stuck deep = (fault.Limit limit.Depth, ((tokens, symbols, has, inr (refl, (k, stuck, deep))), λ m. cc))

    -- one that passes a limit
    pub past_limit : (l : Limit) → ((k : ℕ) × PassesLimit module_number (map kind_of symbols) k l) → IsFaulty
    past_limit limit.Depth passes = (fault.Limit limit.Depth, ((tokens, symbols, has, inl passes), λ m. cc))
    past_limit limit.Lines passes = (fault.Limit limit.Lines, ((tokens, symbols, has, inl passes), λ m. cc))
    past_limit limit.Text (k, passes) = absurd passes.1.4.0
    past_limit limit.Json (k, passes) = absurd passes.1.4.0
    past_limit limit.Facts (k, passes) = absurd passes.1.4.0
    past_limit limit.Block (k, passes) = absurd passes.1.4.0

    pub too_large : HasLargeBlock symbols → IsFaulty
    too_large large = (fault.Limit limit.Block, ((tokens, symbols, has, large), λ m. cc))

    of_reason : (start end : ℕ) (why : Reason) → IsNameFault bytes (record { start = start; end = end; reason = why }) → IsFaulty
    of_reason start end reason.Twice is = (fault.Twice start (end - start), ((end, is, refl), λ m. cc))
    of_reason start end (reason.WrongNumber due) is = (fault.WrongNumber start due, ((end, is), λ m. cc))
    of_reason start end reason.Unknown is = (fault.Unknown start (end - start), ((end, is, refl), λ m. cc))
    of_reason start end reason.LeftOut is = (fault.LeftOut start (end - start), (inr (end, is, refl), λ m. cc))
    of_reason start end reason.WrongType is = (fault.WrongType start, ((end, is), λ m. cc))

    -- a name, a number or a type
    pub misnamed : (f : Fault) → HasNameFault symbols f → IsFaulty
    misnamed f is = of_reason f.start f.end f.reason (tokens, symbols, has, is)
