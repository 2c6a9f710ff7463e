-- The rows of the table of statuses follow from the first.
use Rattle.std.proofs.Common.{ℕ}
use Rattle.ir_reader.specs.Laws.{FaultsAreOfOneKind, FaultsExcludeModules}
use Rattle.crell_program.specs.Rows.{Run, IsAnswered, KeepsRows}
use Rattle.crell_program.proofs.Causes.{said, said_at, kept, is_status, other_status}
use Rattle.crell_program.proofs.Completeness.{printed, valid, invalid, too_many_facts, unread, hints_unread, missing, overlong}

pub rows_follow : FaultsAreOfOneKind → FaultsExcludeModules → (run : Run) (status : ℕ) → IsAnswered run status → KeepsRows run status
rows_follow kinds excludes run status answered = record {
  answered = answered;
  listed = λ e. said_at run status 0 answered e;
  refused = λ e. said_at run status 1 answered e;
  usage = λ e. (said_at run status 2 answered e).0;
  usage_shown = λ e. (let s = said_at run status 2 answered e in (s.1, s.2));
  no_command = other_status run status answered;
  unfit = λ e. (said_at run status 3 answered e).0;
  ill_formed = λ e. (said_at run status 4 answered e).0;
  hints_unfit = λ e. (said_at run status 5 answered e).0;
  read_failed = λ e. (said_at run status 6 answered e).0;
  write_failed = λ e. said_at run status 7 answered e;
  too_long = λ e. (said_at run status 9 answered e).0;
  absent = λ e. (said_at run status 10 answered e).0;
  out_kept = kept run status (said run status answered);
  unread = unread kinds excludes run status answered;
  hints_unread = hints_unread excludes run status answered;
  printed = printed excludes run status answered;
  valid = valid excludes run status answered;
  invalid = invalid excludes run status answered;
  too_many_facts = too_many_facts excludes run status answered;
  missing = missing run status answered;
  overlong = overlong run status answered;
  statuses = is_status run status (said run status answered);
}
