use Rattle.std.proofs.Common.{◌≡◌, ◌++◌, drop, map}
use Rattle.ir_machine.specs.Machine.{given_byte}
use Rattle.ir_machine.specs.State.{no_world}
use Rattle.ir_machine.proofs.given.bytes_given.Given as goal

abbrev pub invariant-loop-byte : goal.invariant-loop-byte
invariant-loop-byte l =
    let byte = given_byte (record no_world { names = l.names }) in l.given.items ++ map byte (drop l.byte-index l.bytes) ≡ map byte l.bytes
