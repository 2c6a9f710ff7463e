-- What is told where tokens are no type.
use Rattle.std.proofs.Common.{◌≡◌, ◌∙◌, ◌-◌, ℕ, zero, suc, Bool, true, false, cond, List, [], ◌∷◌, length, Option, Some, None, refl, ap, sym}
use Rattle.std.specs.Prelude.{slice_get}
use Rattle.ir_core.specs.declared.limits.Limit.{Limit}
use Rattle.ir_core.specs.declared.limits.Limit.TheVariants as limit
use Rattle.ir_lexer.specs.Cut.{Placed}
use Rattle.module_spelling.specs.Faults.{PassesLimit}
use Rattle.module_texts.specs.Texts.{HasTokens, is_left_out_at, place_at}
use Rattle.ir_lexer.specs.LeftOut.{is_left_out}
use Rattle.ir_lexer.specs.declared.fault.TextFault.TheVariants as fault
use Rattle.token_context.proofs.Lineless.{no_lines_passed}
use Rattle.expression_reader.specs.ToldTypes.{of_place}
use Rattle.expression_reader.specs.Types.{IsStuckAt, IsTypeFault, own_kinds, type_number}

pub left_out_is : (tokens : List Placed) (k : ℕ) (t : Placed) → slice_get tokens k ≡ Some t → is_left_out_at tokens k ≡ is_left_out t.kind
left_out_is [] k t is = cc
left_out_is (x ∷ xs) zero t is = let same : x ≡ t = cc in ap (λ (t : Placed). is_left_out t.kind) same
left_out_is (x ∷ xs) (suc k) t is = left_out_is xs k t is

pub place_is : (end : ℕ) (tokens : List Placed) (k : ℕ) (t : Placed) → slice_get tokens k ≡ Some t → place_at end tokens k ≡ t.start
place_is end [] k t is = cc
place_is end (x ∷ xs) zero t is = let same : x ≡ t = cc in ap (λ (t : Placed). t.start) same
place_is end (x ∷ xs) (suc k) t is = place_is end xs k t is

pub none_left_out : (tokens : List Placed) (k : ℕ) → slice_get tokens k ≡ None → is_left_out_at tokens k ≡ false
none_left_out [] k is = refl
none_left_out (x ∷ xs) zero is = cc
none_left_out (x ∷ xs) (suc k) is = none_left_out xs k is

pub place_is_end : (end : ℕ) (tokens : List Placed) (k : ℕ) → slice_get tokens k ≡ None → place_at end tokens k ≡ end
place_is_end end [] k is = refl
place_is_end end (x ∷ xs) zero is = cc
place_is_end end (x ∷ xs) (suc k) is = place_is_end end xs k is

module _ (bytes : List ℕ) (tokens : List Placed) (has : HasTokens bytes tokens) where
  -- a token that isn't expected
  pub stuck_told : (k : ℕ) → IsStuckAt bytes tokens k → IsTypeFault bytes (of_place (length bytes) (slice_get tokens k))
  stuck_told k is = at (slice_get tokens k) refl
    where
      of_word : (t : Placed) → slice_get tokens k ≡ Some t → (left : Bool) → is_left_out t.kind ≡ left
          → IsTypeFault bytes (cond left (fault.LeftOut t.start (t.end - t.start)) (fault.Expected t.start))
      of_word t found true left = (tokens, has, (k, t, is, found, left, refl, refl))
      of_word t found false left = (tokens, has, (k, is, left_out_is tokens k t found ∙ left, sym (place_is (length bytes) tokens k t found)))

      at : (o : Option Placed) → slice_get tokens k ≡ o → IsTypeFault bytes (of_place (length bytes) o)
      at None found = (tokens, has, (k, is, none_left_out tokens k found, sym (place_is_end (length bytes) tokens k found)))
      at (Some t) found = of_word t found (is_left_out t.kind) refl

  -- a token that passes a limit: no lines begin in types
  pub limit_told : (l : Limit) → ((k : ℕ) × PassesLimit type_number (own_kinds bytes tokens) k l) → IsTypeFault bytes (fault.Limit l)
  limit_told limit.Depth passes = (tokens, has, passes)
  limit_told limit.Lines (k, passes) = absurd (no_lines_passed type_number passes.1.1 k refl passes.1.2 passes.1.4.0)
  limit_told limit.Text (k, passes) = absurd passes.1.4.0
  limit_told limit.Json (k, passes) = absurd passes.1.4.0
  limit_told limit.Facts (k, passes) = absurd passes.1.4.0
  limit_told limit.Block (k, passes) = absurd passes.1.4.0
