-- A watch over the limits on depths and lines. Once a token passes one, nothing of it changes.
use Rattle.std.specs.Prelude.{◌≡◌, refl, ℕ, ◌+◌, cond, nat_lt, Option, None, Some}
use Rattle.ir_core.specs.declared.limits.Limit.{Limit}
use Rattle.ir_core.specs.declared.limits.Limit.TheVariants as limit
use Rattle.ir_core.specs.Limits.{depth_limit, line_limit}
use Rattle.derivation_writer.specs.TokenLimits.Nested as nested
use Rattle.derivation_writer.specs.TokenLimits.Roles.{role_of}
use Rattle.derivation_writer.specs.declared.token_limits.role.Role.{Role}
use Rattle.derivation_writer.specs.declared.token_limits.role.Role.TheVariants.{Base, Definition, Line, Part, Plain, Pointers}
use Rattle.derivation_writer.specs.declared.token_limits.watch.Watch.{Watch}

abbrev pub fresh : Watch
fresh = record { nesting = nested.none_open; lines = 0; mark = None }

-- the limit that a token passes which stands so deep, where so many lines have begun
abbrev pub mark_at : ℕ → ℕ → Option Limit
mark_at level lines = cond (nat_lt depth_limit level) (Some limit.Depth) (cond (nat_lt line_limit lines) (Some limit.Lines) None)

abbrev pub lines_begun : ℕ → Role → ℕ
lines_begun n Line = n + 1
lines_begun n Plain = n
lines_begun n Pointers = n
lines_begun n Base = n
lines_begun n Part = n
lines_begun n Definition = n

-- the lines of a function are forgotten where it ends
abbrev pub lines_reduced : ℕ → Role → ℕ
lines_reduced n Definition = 0
lines_reduced n Plain = n
lines_reduced n Pointers = n
lines_reduced n Base = n
lines_reduced n Part = n
lines_reduced n Line = n

abbrev pub begun_by : Role → Watch → Watch
begun_by r w = record { nesting = nested.begun w.nesting r; lines = lines_begun w.lines r; mark = w.mark }

abbrev pub reduced_by : Role → Watch → Watch
reduced_by r w = record { nesting = nested.reduced w.nesting r; lines = lines_reduced w.lines r; mark = w.mark }

abbrev pub marked : Watch → Watch
marked w = record { nesting = nested.shifted w.nesting; lines = w.lines; mark = mark_at w.nesting.level w.lines }

-- the one where there is no mark yet, else the other
abbrev pub unless_marked : Option Limit → Watch → Watch → Watch
unless_marked None next w = next
unless_marked (Some l) next w = w

-- a rule of this role begins
abbrev pub begun_as : Role → Watch → Watch
begun_as r w = unless_marked w.mark (begun_by r w) w

abbrev pub begun : Watch → ℕ → Watch
begun w p = begun_as (role_of p) w

abbrev pub shifted : Watch → ℕ → Watch
shifted w k = unless_marked w.mark (marked w) w

-- a rule of this role is reduced
abbrev pub reduced_as : Role → Watch → Watch
reduced_as r w = unless_marked w.mark (reduced_by r w) w

abbrev pub reduced : Watch → ℕ → Watch
reduced w p = reduced_as (role_of p) w

same_mark : (m : Option Limit) (next w : Watch) → next.mark ≡ w.mark → (unless_marked m next w).mark ≡ w.mark
same_mark None next w e = e
same_mark (Some l) next w e = refl

pub begun_unmarked : (w : Watch) (p : ℕ) → (begun w p).mark ≡ w.mark
begun_unmarked w p = same_mark w.mark (begun_by (role_of p) w) w refl

pub reduced_unmarked : (w : Watch) (p : ℕ) → (reduced w p).mark ≡ w.mark
reduced_unmarked w p = same_mark w.mark (reduced_by (role_of p) w) w refl
