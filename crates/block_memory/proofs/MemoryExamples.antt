-- The examples compute.
use Rattle.std.proofs.Common.{refl}
use Rattle.block_memory.specs.Examples.{AccessesAreThese, BytesAreThese, ShowingsAreThese}

pub bytes_are_these : BytesAreThese
bytes_are_these = record {
  i16_has_the_least_first = refl;
  i17_has_three = refl;
  i16_again = refl;
  high_bit_of_i7 = refl;
  i7 = refl;
  two_of_i1 = refl;
  poison_before_undef = refl;
  one_undef = refl;
  pointer = refl;
  another_pointers_part = refl;
  part_at_another_place = refl;
  part_and_number = refl;
  part_as_a_number = refl;
  address = refl;
}

pub accesses_are_these : AccessesAreThese
accesses_are_these = record {
  store = refl;
  load = refl;
  second_byte = refl;
  before_it = refl;
  half_undef = refl;
  past_the_end = refl;
  at_the_end = refl;
  unaligned_offset = refl;
  unaligned_block = refl;
  no_alignment = refl;
  negative_offset = refl;
  dead = refl;
  no_block = refl;
  null = refl;
  undef = refl;
}

pub showings_are_these : ShowingsAreThese
showings_are_these = record {
  number = refl;
  named = refl;
  unnamed = refl;
  again = refl;
  undef_as_a_number = refl;
  undef_as_too_wide = refl;
  undef_as_a_name = refl;
  undef_as_no_name = refl;
  undef_as_next = refl;
  undef_as_nothing = refl;
  undef_as_named_block = refl;
  undef_as_no_block = refl;
  number_as_next = refl;
  resolves = refl;
  bound_to_nothing = refl;
}
