-- What a watch sees at each token, and the mark that is left of it.
use Rattle.std.proofs.Common.{◌≡◌, ℕ, zero, suc, List, [], ◌∷◌, length, Option, Some, None, refl, ap}
use Rattle.ir_core.specs.declared.limits.Limit.{Limit}
use Rattle.predictive.specs.Grammar.{Event, Begin, Shift, Reduce, until_shifted, after_events}
use Rattle.predictive.specs.Moves.{shifts}
use Rattle.derivation_writer.specs.TokenLimits.Nested as nested
use Rattle.derivation_writer.specs.TokenLimits.Roles.{role_of}
use Rattle.derivation_writer.specs.TokenLimits.Watched.{begun, lines_begun, lines_reduced, mark_at, reduced, shifted}
use Rattle.derivation_writer.specs.declared.token_limits.nesting.Nesting.{Nesting}
use Rattle.derivation_writer.specs.declared.token_limits.watch.Watch.{Watch}

-- how deep each token stands
abbrev pub levels_seen : List Event → Nesting → List ℕ
levels_seen [] n = []
levels_seen (Begin p ∷ es) n = levels_seen es (nested.begun n (role_of p))
levels_seen (Shift k ∷ es) n = n.level ∷ levels_seen es (nested.shifted n)
levels_seen (Reduce p ∷ es) n = levels_seen es (nested.reduced n (role_of p))

-- how many lines have begun at each token
abbrev pub lines_seen : List Event → ℕ → List ℕ
lines_seen [] n = []
lines_seen (Begin p ∷ es) n = lines_seen es (lines_begun n (role_of p))
lines_seen (Shift k ∷ es) n = n ∷ lines_seen es n
lines_seen (Reduce p ∷ es) n = lines_seen es (lines_reduced n (role_of p))

pub length_levels : (es : List Event) (n : Nesting) → length (levels_seen es n) ≡ length (shifts es)
length_levels [] n = refl
length_levels (Begin p ∷ es) n = length_levels es (nested.begun n (role_of p))
length_levels (Shift k ∷ es) n = ap (λ i. suc i) (length_levels es (nested.shifted n))
length_levels (Reduce p ∷ es) n = length_levels es (nested.reduced n (role_of p))

pub length_lines : (es : List Event) (n : ℕ) → length (lines_seen es n) ≡ length (shifts es)
length_lines [] n = refl
length_lines (Begin p ∷ es) n = length_lines es (lines_begun n (role_of p))
length_lines (Shift k ∷ es) n = ap (λ i. suc i) (length_lines es n)
length_lines (Reduce p ∷ es) n = length_lines es (lines_reduced n (role_of p))

abbrev pub watch_of : Nesting → ℕ → Option Limit → Watch
watch_of n lines m = record { nesting = n; lines = lines; mark = m }

abbrev pub or_else : Option Limit → Option Limit → Option Limit
or_else None b = b
or_else (Some l) b = Some l

-- the mark that the first of so many tokens gets which gets one
abbrev pub first_mark : ℕ → List ℕ → List ℕ → Option Limit
first_mark zero levels lines = None
first_mark (suc n) [] lines = None
first_mark (suc n) (a ∷ levels) [] = None
first_mark (suc n) (a ∷ levels) (b ∷ lines) = or_else (mark_at a b) (first_mark n levels lines)

-- a mark stays
frozen :
    (es : List Event) (n : Nesting) (lines : ℕ) (l : Limit)
    → (after_events begun shifted reduced es (watch_of n lines (Some l))).mark ≡ Some l
frozen [] n lines l = refl
frozen (Begin p ∷ es) n lines l = frozen es n lines l
frozen (Shift k ∷ es) n lines l = frozen es n lines l
frozen (Reduce p ∷ es) n lines l = frozen es n lines l

pub seen :
    (count : ℕ) (es : List Event) (n : Nesting) (lines : ℕ)
    → (after_events begun shifted reduced (until_shifted count es) (watch_of n lines None)).mark ≡ first_mark count (levels_seen es n) (lines_seen es lines)
seen zero es n lines = refl
seen (suc count) [] n lines = refl
seen (suc count) (Begin p ∷ es) n lines = seen (suc count) es (nested.begun n (role_of p)) (lines_begun lines (role_of p))
seen (suc count) (Shift k ∷ es) n lines = go (mark_at n.level lines) (seen count es (nested.shifted n) lines)
  where
    go :
        (m : Option Limit)
        → (after_events begun shifted reduced (until_shifted count es) (watch_of (nested.shifted n) lines None)).mark
        ≡ first_mark count (levels_seen es (nested.shifted n)) (lines_seen es lines)
        → (after_events begun shifted reduced (until_shifted count es) (watch_of (nested.shifted n) lines m)).mark
        ≡ or_else m (first_mark count (levels_seen es (nested.shifted n)) (lines_seen es lines))
    go None e = e
    go (Some l) e = frozen (until_shifted count es) (nested.shifted n) lines l
seen (suc count) (Reduce p ∷ es) n lines = seen (suc count) es (nested.reduced n (role_of p)) (lines_reduced lines (role_of p))
