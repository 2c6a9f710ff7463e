use Rattle.std.specs.Io.KnownBytes.{Keeps}
use Rattle.crell_io.proofs.host.write_some.Given as goal

-- a write that was interrupted appended nothing
abbrev pub invariant-loop : goal.invariant-loop
invariant-loop g l = Keeps (g.W.Write.contents l.initial.writer) (g.W.Write.contents l.writer)
