use Rattle.std.proofs.Common.{◌≡◌, ◌≤◌, vec_len, vec_items}
use Rattle.crell_io.specs.Host.{AppendsTaken}
use Rattle.crell_io.proofs.host.read_up_to.Given as goal

-- a byte or more a turn, all that was taken
abbrev pub invariant-loop : goal.invariant-loop
invariant-loop g l = record {
  turns : l.counter ≤ vec_len l.bytes;
  most : vec_len l.bytes ≤ l.most;
  room : vec_len l.piece ≡ 65536;
  taken : AppendsTaken (g.F.Read.remaining l.initial.file) (g.F.Read.remaining l.file) (vec_items l.initial.bytes) (vec_items l.bytes);
}
