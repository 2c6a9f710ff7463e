use Rattle.std.proofs.Common.{arith, vec_items}
use Rattle.crell_io.proofs.Taken.{taken_in_turn}
use Rattle.crell_io.proofs.host.read_up_to.Goals as goal

pub loop-preserved : goal.loop-preserved
loop-preserved g c = record {
  turns = omega (arith, c.in_ok-append_up_to.ensures.length);
  most = c.append_up_to.ensures.most;
  room = c.loop.invariant.room;
  taken = taken_in_turn (g.F.Read.remaining c.args.file.now) (g.F.Read.remaining c.loop.file) (g.F.Read.remaining c.append_up_to.new.file) (vec_items c.args.bytes.now) (vec_items c.loop.bytes) (vec_items c.append_up_to.new.bytes) c.loop.invariant.taken c.append_up_to.ensures.taken;
}

pub returns-in_err-append_up_to-clause-taken : goal.returns-in_err-append_up_to-clause-taken
returns-in_err-append_up_to-clause-taken g c =
    taken_in_turn (g.F.Read.remaining c.args.file.now) (g.F.Read.remaining c.loop.file) (g.F.Read.remaining c.append_up_to.new.file) (vec_items c.args.bytes.now) (vec_items c.loop.bytes) (vec_items c.append_up_to.new.bytes) c.loop.invariant.taken c.append_up_to.ensures.taken

pub returns-then-branch-eq0-clause-taken : goal.returns-then-branch-eq0-clause-taken
returns-then-branch-eq0-clause-taken g c =
    taken_in_turn (g.F.Read.remaining c.args.file.now) (g.F.Read.remaining c.loop.file) (g.F.Read.remaining c.append_up_to.new.file) (vec_items c.args.bytes.now) (vec_items c.loop.bytes) (vec_items c.append_up_to.new.bytes) c.loop.invariant.taken c.append_up_to.ensures.taken
