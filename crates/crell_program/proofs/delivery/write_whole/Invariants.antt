use Rattle.std.proofs.Common.{◌≡◌, ◌≤◌, ◌-◌, length, take}
use Rattle.crell_io.specs.Sink.{appended}
use Rattle.crell_program.proofs.Writing.{HasRoomStill}
use Rattle.crell_program.proofs.delivery.write_whole.Given as goal

abbrev pub invariant-loop-done : goal.invariant-loop-done
invariant-loop-done g l = record {
  within : l.done ≤ length l.text;
  counted : g.K.Sink.faults l.fn.sink ≤ g.K.Sink.faults l.sink;
  appended_so_far : g.K.Sink.written l.sink ≡ appended (g.K.Sink.written l.fn.sink) (take l.done l.text);
  roomy : HasRoomStill (g.K.Sink.room_left l.fn.sink) (g.K.Sink.faults l.fn.sink) (g.K.Sink.room_left l.sink) (g.K.Sink.faults l.sink) l.done l.text;
}

abbrev pub decreases-loop-done : goal.decreases-loop-done
decreases-loop-done g l = length l.text - l.done
