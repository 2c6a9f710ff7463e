-- What a parser's acts do: a watch over the limits is told all, and once a token has passed one nothing more is written down.
use Rattle.std.specs.Prelude.{ℕ, [], Option, None, Some}
use Rattle.derivation_writer.specs.Writing as writing
use Rattle.derivation_writer.specs.Writing.{written_by}
use Rattle.derivation_writer.specs.declared.reading.Reading.{Reading}
use Rattle.derivation_writer.specs.declared.stop.Stop.{Stop}
use Rattle.derivation_writer.specs.declared.stop.Stop.TheVariants as stop
use Rattle.module_derivations.specs.FlatMarks.Flat.{Written}
use Rattle.ir_core.specs.declared.limits.Limit.{Limit}
use Rattle.derivation_writer.specs.TokenLimits.Watched as watched
use Rattle.derivation_writer.specs.declared.token_limits.watch.Watch.{Watch}

abbrev pub first : Reading
first = record { writer = written_by 0 []; watch = watched.fresh }

abbrev pub with_watch : Reading → Watch → Reading
with_watch s w = record { writer = s.writer; watch = w }

-- the one where no limit is passed, else the other
abbrev pub unless_marked : Option Limit → Written → Written → Written
unless_marked None next w = next
unless_marked (Some l) next w = w

abbrev pub rule_written : ℕ → Reading → Reading
rule_written p s = record { writer = unless_marked s.watch.mark (writing.begun s.writer p) s.writer; watch = s.watch }

abbrev pub token_written : ℕ → Reading → Reading
token_written k s = record { writer = unless_marked s.watch.mark (writing.shifted s.writer k) s.writer; watch = s.watch }

abbrev pub begun : Reading → ℕ → Reading
begun s p = rule_written p (with_watch s (watched.begun s.watch p))

abbrev pub shifted : Reading → ℕ → Reading
shifted s k = token_written k (with_watch s (watched.shifted s.watch k))

abbrev pub reduced : Reading → ℕ → Reading
reduced s p = with_watch s (watched.reduced s.watch p)

-- why tokens have no derivation, by the limit that one passes and the first fault
abbrev pub stop_by : Option Limit → Option ℕ → Option Stop
stop_by (Some l) fault = Some (stop.Limit l)
stop_by None (Some place) = Some (stop.Stuck place)
stop_by None None = None
