-- What is told where tokens are no tree, and where a tree is misnamed.
use Rattle.std.proofs.Common.{◌≡◌, ◌∙◌, ◌-◌, ℕ, zero, suc, Bool, true, false, cond, List, [], ◌∷◌, length, map, Option, Some, None, refl, ap, sym, inl, inr}
use Rattle.std.specs.Prelude.{slice_get}
use Rattle.ir_core.specs.declared.limits.Limit.{Limit}
use Rattle.ir_core.specs.declared.limits.Limit.TheVariants as limit
use Rattle.ir_lexer.specs.Cut.{Placed}
use Rattle.module_grammar.specs.Symbols.{Symbol, kind_of}
use Rattle.ir_reader.specs.Told.{of_grammar, of_place, of_sized}
use Rattle.module_spelling.specs.Faults.{IsDeepAt, IsGrammarFault, IsStuck, PassesLimit, module_number}
use Rattle.module_texts.specs.Texts.{HasSymbols, IsNameFault, IsTextFault, is_left_out_at, own_symbols, place_at}
use Rattle.ir_lexer.specs.LeftOut.{is_left_out}
use Rattle.name_claims.specs.declared.claims.Reason.{Reason}
use Rattle.name_claims.specs.declared.claims.Reason.TheVariants as reason
use Rattle.ir_lexer.specs.declared.fault.TextFault.TheVariants as fault

-- ---- names

-- a fault of names from one place to another
pub of_reason : (bytes : List ℕ) (start end : ℕ) (why : Reason) → IsNameFault bytes (record { start = start; end = end; reason = why })
    → IsTextFault bytes (of_sized start (end - start) why)
of_reason bytes start end reason.Twice is = (end, is, refl)
of_reason bytes start end (reason.WrongNumber due) is = (end, is)
of_reason bytes start end reason.Unknown is = (end, is, refl)
of_reason bytes start end reason.LeftOut is = inr (end, is, refl)
of_reason bytes start end reason.WrongType is = (end, is)

-- ---- the grammar

left_out_is : (tokens : List Placed) (k : ℕ) (t : Placed) → slice_get tokens k ≡ Some t → is_left_out_at tokens k ≡ is_left_out t.kind
left_out_is [] k t is = cc
left_out_is (x ∷ xs) zero t is = let same : x ≡ t = cc in ap (λ (t : Placed). is_left_out t.kind) same
left_out_is (x ∷ xs) (suc k) t is = left_out_is xs k t is

place_is : (end : ℕ) (tokens : List Placed) (k : ℕ) (t : Placed) → slice_get tokens k ≡ Some t → place_at end tokens k ≡ t.start
place_is end [] k t is = cc
place_is end (x ∷ xs) zero t is = let same : x ≡ t = cc in ap (λ (t : Placed). t.start) same
place_is end (x ∷ xs) (suc k) t is = place_is end xs k t is

none_left_out : (tokens : List Placed) (k : ℕ) → slice_get tokens k ≡ None → is_left_out_at tokens k ≡ false
none_left_out [] k is = refl
none_left_out (x ∷ xs) zero is = cc
none_left_out (x ∷ xs) (suc k) is = none_left_out xs k is

place_is_end : (end : ℕ) (tokens : List Placed) (k : ℕ) → slice_get tokens k ≡ None → place_at end tokens k ≡ end
place_is_end end [] k is = refl
place_is_end end (x ∷ xs) zero is = cc
place_is_end end (x ∷ xs) (suc k) is = place_is_end end xs k is

module _ (bytes : List ℕ) (tokens : List Placed) (symbols : List Symbol) (has : HasSymbols bytes tokens symbols) where
  -- a token that isn't expected
  pub stuck_told : (k : ℕ) → IsGrammarFault (own_symbols bytes tokens) symbols k → IsTextFault bytes (of_grammar tokens (length bytes) k)
  stuck_told k is = at (slice_get tokens k) refl
    where
      of_word : (t : Placed) → slice_get tokens k ≡ Some t → (left : Bool) → is_left_out t.kind ≡ left
          → IsTextFault bytes (cond left (fault.LeftOut t.start (t.end - t.start)) (fault.Expected t.start))
      of_word t found true left = inl (tokens, symbols, has, (k, t, is, found, left, refl, refl))
      of_word t found false left = (tokens, symbols, has, (k, is, left_out_is tokens k t found ∙ left, sym (place_is (length bytes) tokens k t found)))

      at : (o : Option Placed) → slice_get tokens k ≡ o → IsTextFault bytes (of_place (length bytes) o)
      at None found = (tokens, symbols, has, (k, is, none_left_out tokens k found, sym (place_is_end (length bytes) tokens k found)))
      at (Some t) found = of_word t found (is_left_out t.kind) refl

  -- a token that would be expected, if what stands before it weren't too deep
  pub deep_told : (k : ℕ) → IsStuck module_number (map kind_of symbols) k → IsDeepAt (own_symbols bytes tokens) k → IsTextFault bytes (fault.Limit limit.Depth)
  deep_told k stuck deep = (tokens, symbols, has, inr (refl, (k, stuck, deep)))

  -- a token that passes a limit
  pub limit_told : (l : Limit) → ((k : ℕ) × PassesLimit module_number (map kind_of symbols) k l) → IsTextFault bytes (fault.Limit l)
  limit_told limit.Text (k, passes) = absurd passes.1.4.0
  limit_told limit.Lines passes = (tokens, symbols, has, inl passes)
  limit_told limit.Depth passes = (tokens, symbols, has, inl passes)
  limit_told limit.Json (k, passes) = absurd passes.1.4.0
  limit_told limit.Facts (k, passes) = absurd passes.1.4.0
  limit_told limit.Block (k, passes) = absurd passes.1.4.0
