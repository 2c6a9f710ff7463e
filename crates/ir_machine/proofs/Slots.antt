-- The examples over memory compute.
use Rattle.std.proofs.Common.{refl}
use Rattle.ir_types.specs.declared.ty.Ty.TheViews.{outs-Ptr}
use Rattle.ir_types.proofs.Monotone as layout
use Rattle.ir_values.proofs.ConstantWalks.{of_number, worth_number}
use Rattle.ir_machine.specs.SlotLaws.{AccessesMayTrap, SlotsAreMemory, SlotsEndWithTheirFrames}
use Rattle.ir_machine.proofs.AtOnce.{pointers}

pub slots_are_memory : SlotsAreMemory
slots_are_memory = record {
  stored = simp (outs-Ptr, of_number, worth_number, layout.at_int) refl;
  stored_again = simp (outs-Ptr, of_number, worth_number, layout.at_int) refl;
  low_byte = simp (outs-Ptr, of_number, worth_number, layout.at_int) refl;
  second_byte = simp (pointers, outs-Ptr, of_number, worth_number, layout.at_int) refl;
  two_slots = simp (outs-Ptr, of_number, worth_number, layout.at_int) refl;
  last_of_three = simp (pointers, outs-Ptr, of_number, worth_number, layout.at_int) refl;
}

pub accesses_may_trap : AccessesMayTrap
accesses_may_trap = record {
  past_the_end = simp (outs-Ptr, of_number, worth_number, layout.at_int) refl;
  past_three = simp (pointers, outs-Ptr, of_number, worth_number, layout.at_int) refl;
  count_modulo = simp (pointers, outs-Ptr, of_number, worth_number, layout.at_int) refl;
  of_none = simp (outs-Ptr, of_number, worth_number, layout.at_int) refl;
  of_no_size = simp (outs-Ptr, of_number, worth_number, layout.at_int, layout.at_named) refl;
  unaligned = simp (outs-Ptr, of_number, worth_number, layout.at_int) refl;
  no_pointer = simp (outs-Ptr, of_number, worth_number, layout.at_int) refl;
}

pub slots_end_with_their_frames : SlotsEndWithTheirFrames
slots_end_with_their_frames = record {
  own = simp (outs-Ptr, layout.at_int) refl;
  anothers = simp (outs-Ptr, layout.at_int) refl;
}
