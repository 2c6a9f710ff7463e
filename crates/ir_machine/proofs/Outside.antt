-- The examples of what the outside does, and of what a return ends.
use Rattle.std.proofs.Common.{refl}
use Rattle.ir_core.specs.declared.modules.Module.{Module}
use Rattle.ir_machine.specs.OutsideLaws.{ActsAreThese, ReturnsEndTheirBlocks, BlocksAreMade, BytesAreRead, BytesAreWritten, CallsAreAnswered, ReturnsEndBlocks, TheOutsideMayGoWrong, UndefBytesAreParts}
use Rattle.ir_machine.specs.State.{Frame}

bytes_are_read : (m : Module) (frame : Frame) → BytesAreRead m frame
bytes_are_read m frame = record {
  number = refl;
  undef = refl;
  undef_untold = refl;
  undef_as_no_byte = refl;
  undef_as_no_name = refl;
  undef_as_a_value = refl;
  poison = refl;
  unnamed = refl;
  already_named = refl;
  past_the_end = refl;
  before_it = refl;
  no_name = refl;
  leads_nowhere = refl;
  ended = refl;
}

pub undef_bytes_are_parts : UndefBytesAreParts
undef_bytes_are_parts = record {
  unnamed = refl;
  nothing = refl;
  has_a_name = refl;
  no_block = refl;
}

bytes_are_written : (m : Module) (frame : Frame) → BytesAreWritten m frame
bytes_are_written m frame = record {
  number = refl;
  a_part = refl;
  by_name = refl;
  of_nothing = refl;
  no_place = refl;
  no_byte = refl;
  no_such_name = refl;
  past_the_end = refl;
  ended = refl;
}

blocks_are_made : (m : Module) (frame : Frame) → BlocksAreMade m frame
blocks_are_made m frame = record {
  block = refl;
  odd_alignment = refl;
  no_alignment = refl;
  its_own_name = refl;
}

calls_are_answered : (m : Module) (frame : Frame) → CallsAreAnswered m frame
calls_are_answered m frame = record {
  number = refl;
  too_wide = refl;
  no_number = refl;
  nothing = refl;
  name = refl;
  of_nothing = refl;
  no_name = refl;
  address = refl;
  no_address = refl;
  no_offset = refl;
  of_void = refl;
  of_void_by_a_value = refl;
}

the_outside_may_go_wrong : (m : Module) (frame : Frame) → TheOutsideMayGoWrong m frame
the_outside_may_go_wrong m frame = record {
  loose = refl;
  not_loose = refl;
  label = refl;
  pick = refl;
  fresh = refl;
  silent = refl;
}

returns_end_blocks : (m : Module) (frame : Frame) → ReturnsEndBlocks m frame
returns_end_blocks m frame = record {
  inner = refl;
  nothing_made = refl;
  by_name = refl;
  by_the_next = refl;
  bare = refl;
}

pub acts_are_these : ActsAreThese
acts_are_these m frame = (bytes_are_read m frame, bytes_are_written m frame, blocks_are_made m frame, calls_are_answered m frame, the_outside_may_go_wrong m frame)

pub returns_end_their_blocks : ReturnsEndTheirBlocks
returns_end_their_blocks m frame = returns_end_blocks m frame
