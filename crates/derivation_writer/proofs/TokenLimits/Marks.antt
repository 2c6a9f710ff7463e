-- The mark along the trees of a text.
use Rattle.std.proofs.Common.{◌≡◌, ◌<◌, ◌≤◌, ℕ, List, [], ◌∷◌, length, get_or, Option, Some, None, Bool, true, false, nat_eq, nat_lt, not, ◌&&◌, refl, ap, ap₂, sym, ◌∙◌, subst, append-nil, arith}
use Rattle.std.proofs.lemmas.Bool.{false_from_ne_true, eqb-true, ltb-true, ltb-false}
use Rattle.std.proofs.lemmas.List.{get_or_past}
use Rattle.ir_core.specs.Limits.{depth_limit, line_limit}
use Rattle.ir_core.specs.declared.limits.Limit.{Limit}
use Rattle.ir_core.specs.declared.limits.Limit.TheVariants as limit
use Rattle.module_grammar.specs.Tokens.{token_grammar}
use Rattle.module_spelling.specs.Opened.{Passes, depths, lines}
use Rattle.predictive.specs.Grammar.{Forest, Forms, after_some, after_trees, events, yield}
use Rattle.predictive.specs.declared.symbol.Symbol.TheVariants.{Non}
use Rattle.predictive.proofs.Happening.{mark_of_all, shifts_of}
use Rattle.derivation_writer.specs.TokenLimits.Laws.{SaysBefore, SaysWhole, base_number}
use Rattle.derivation_writer.specs.TokenLimits.Nested.{none_open}
use Rattle.derivation_writer.specs.TokenLimits.Watched.{begun, begun_unmarked, fresh, reduced, reduced_unmarked, shifted}
use Rattle.derivation_writer.proofs.TokenLimits.Counting.{count}
use Rattle.derivation_writer.proofs.TokenLimits.Firsts.{PassesAt, Told, told}
use Rattle.derivation_writer.proofs.TokenLimits.Seen.{first_mark, length_levels, length_lines, levels_seen, lines_seen, seen}
use Rattle.derivation_writer.proofs.TokenLimits.Standing.{follow}
use Rattle.derivation_writer.proofs.TokenLimits.Tokens.{tokens_count, tokens_stand}

from_passes : (f : Forest) (k : ℕ) (l : Limit) → Passes f k l → PassesAt (depths 0 f) (lines 0 f) k l
from_passes f k limit.Depth p = p
from_passes f k limit.Lines p = p
from_passes f k limit.Text p = p
from_passes f k limit.Json p = p
from_passes f k limit.Block p = p
from_passes f k limit.Facts p = p

to_passes : (f : Forest) (k : ℕ) (l : Limit) → PassesAt (depths 0 f) (lines 0 f) k l → Passes f k l
to_passes f k limit.Depth p = p
to_passes f k limit.Lines p = p
to_passes f k limit.Text p = p
to_passes f k limit.Json p = p
to_passes f k limit.Block p = p
to_passes f k limit.Facts p = p

said : (n : ℕ) (f : Forest) (m : Option Limit) → Told n (depths 0 f) (lines 0 f) m → SaysBefore n f m
said n f None t = λ k l h p. t k l h (from_passes f k l p)
said n f (Some l) t = (t.0, t.1, (to_passes f t.0 l t.2, λ j o h p. t.3 j o h (from_passes f j o p)))

none_beyond : (numbers : List ℕ) (k count limit : ℕ) → length numbers ≡ count → limit < get_or numbers k 0 → k < count
none_beyond numbers k count limit e p = go (nat_lt k count) refl
  where
    go : (b : Bool) → nat_lt k count ≡ b → k < count
    go true h = ltb-true k count h
    go false h =
        let past = get_or_past numbers k 0 (subst (λ n. n ≤ k) (sym e) (ltb-false k count h)) in
        absurd (omega arith)

module _ (n : ℕ) (f : Forest) (w : Forms token_grammar f (Non n ∷ [])) (no_base : n ≡ base_number → ⊥) where
  levels : levels_seen (events f) none_open ≡ depths 0 f
  levels =
      let other : (not (nat_eq n base_number) && true) ≡ true = ap (λ b. not b && true) (false_from_ne_true (nat_eq n base_number) (λ e. no_base (eqb-true n base_number e))) in
      ap (λ es. levels_seen es none_open) (sym (append-nil (events f)))
      ∙ follow token_grammar tokens_stand f (Non n ∷ []) w other none_open []
      ∙ append-nil (depths 0 f)

  counted : lines_seen (events f) 0 ≡ lines 0 f
  counted =
      ap (λ es. lines_seen es 0) (sym (append-nil (events f)))
      ∙ (count token_grammar tokens_count n f w).1 []
      ∙ append-nil (lines 0 f)

  as_many_levels : length (depths 0 f) ≡ length (yield f)
  as_many_levels = ap (λ l. length l) (sym levels) ∙ length_levels (events f) none_open ∙ ap (λ l. length l) (shifts_of f)

  as_many_lines : length (lines 0 f) ≡ length (yield f)
  as_many_lines = ap (λ l. length l) (sym counted) ∙ length_lines (events f) 0 ∙ ap (λ l. length l) (shifts_of f)

  mark_is : (some : ℕ) → (after_some begun shifted reduced some f fresh).mark ≡ first_mark some (depths 0 f) (lines 0 f)
  mark_is some = seen some (events f) none_open 0 ∙ ap₂ (λ a b. first_mark some a b) levels counted

  pub marked : (some : ℕ) → SaysBefore some f (after_some begun shifted reduced some f fresh).mark
  marked some =
      subst (λ m. SaysBefore some f m) (sym (mark_is some))
      (said some f (first_mark some (depths 0 f) (lines 0 f)) (told some (depths 0 f) (lines 0 f) (as_many_levels ∙ sym as_many_lines)))

  pub inside : (k : ℕ) (l : Limit) → Passes f k l → k < length (yield f)
  inside k limit.Depth p = none_beyond (depths 0 f) k (length (yield f)) depth_limit as_many_levels p
  inside k limit.Lines p = none_beyond (lines 0 f) k (length (yield f)) line_limit as_many_lines p
  inside k limit.Text p = absurd p
  inside k limit.Json p = absurd p
  inside k limit.Block p = absurd p
  inside k limit.Facts p = absurd p

  pub marked_all : SaysWhole f (after_trees begun shifted reduced f fresh).mark
  marked_all =
      subst (λ m. SaysWhole f m) (mark_of_all begun shifted reduced (λ s. s.mark) begun_unmarked reduced_unmarked f fresh)
      (of_all (after_some begun shifted reduced (length (yield f)) f fresh).mark (marked (length (yield f))))
    where
      of_all : (m : Option Limit) → SaysBefore (length (yield f)) f m → SaysWhole f m
      of_all None t = λ k l p. t k l (inside k l p) p
      of_all (Some l) t = t
