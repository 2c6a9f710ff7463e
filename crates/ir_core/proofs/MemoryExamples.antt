-- Of lines of memory: how they are read.
use Rattle.std.proofs.Common.{refl}
use Rattle.ir_core.specs.MemoryLaws.{AddressesAreRead, MemoryLinesAreRead}

pub addresses_are_read : AddressesAreRead
addresses_are_read = record {
  addressed = refl;
  loaded = refl;
  of_element = refl;
  of_load = refl;
  in_element = (refl, refl, refl);
  in_load = (refl, refl);
}

pub memory_lines_are_read : MemoryLinesAreRead
memory_lines_are_read = record {
  alloca = (refl, refl);
  store = (refl, refl);
  call = refl;
  nameless = refl;
  arguments = refl;
}
