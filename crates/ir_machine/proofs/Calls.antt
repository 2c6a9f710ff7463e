-- The examples of calls compute.
use Rattle.std.proofs.Common.{refl}
use Rattle.ir_types.specs.declared.ty.Ty.TheViews.{outs-Ptr, outs-Void}
use Rattle.ir_types.proofs.Monotone as layout
use Rattle.ir_values.proofs.ConstantWalks.{of_number, of_undef, worth_number, worth_undef}
use Rattle.ir_machine.specs.CallLaws.{ArgumentsAreShownInOrder, CalleesAreFound, CallsGiveTheirValues, EndedSlotsAreNotReached, FramesAreApart, RecursionShowsOneResult, RepliesAreTaken, TheOutsideReachesWhatItIsShown}

pub calls_give_their_values : CallsGiveTheirValues
calls_give_their_values = record {
  value = simp (of_number, worth_number) refl;
  nothing = refl;
  unused = refl;
  too_few = refl;
  too_many = simp (of_number, worth_number) refl;
  of_another_kind = refl;
  given_at_another_kind = refl;
  read_as_it_was_passed = refl;
  read_as_it_was_returned = refl;
  of_nothing = refl;
}

pub callees_are_found : CalleesAreFound
callees_are_found = record {
  first = simp (of_number, worth_number) refl;
  declared_too = simp (of_number, worth_number) refl;
  without_block = refl;
  nowhere = refl;
  of_a_global = refl;
}

pub recursion_shows_one_result : RecursionShowsOneResult
recursion_shows_one_result = record {
  once = simp (of_number, worth_number) refl;
  never = simp (of_number, worth_number) refl;
}

pub frames_are_apart : FramesAreApart
frames_are_apart = record {
  callee_slot = simp (outs-Ptr, of_number, worth_number, layout.at_int) refl;
  caller_slot = simp (outs-Ptr, outs-Void, of_number, worth_number, layout.at_int) refl;
  through = simp (outs-Ptr, outs-Void, of_number, worth_number, layout.at_int) refl;
  callers_registers = refl;
  callees_registers = simp (of_number, worth_number) refl;
}

pub arguments_are_shown_in_order : ArgumentsAreShownInOrder
arguments_are_shown_in_order = record {
  numbers = simp (outs-Void, of_number, worth_number) refl;
  poison = simp (outs-Void, of_number, worth_number) refl;
  poison_first = simp (outs-Void, of_number, of_undef, worth_number, worth_undef) refl;
  undef_first = simp (outs-Void, of_number, of_undef, worth_number, worth_undef) refl;
  undef_told = simp (outs-Void, of_number, of_undef, worth_number, worth_undef) refl;
  undef_mistold = simp (outs-Void, of_number, of_undef, worth_number, worth_undef) refl;
  answered_early = simp (outs-Void, of_undef, worth_undef) refl;
  two_undefs = simp (outs-Void, of_undef, worth_undef) refl;
  second_lacks = simp (outs-Void, of_undef, worth_undef) refl;
  one_name = simp (outs-Ptr, outs-Void, of_undef, worth_undef) refl;
  two_names = simp (outs-Ptr, outs-Void, of_undef, worth_undef) refl;
  no_name_yet = simp (outs-Ptr, outs-Void, of_undef, worth_undef) refl;
}

pub the_outside_reaches_what_it_is_shown : TheOutsideReachesWhatItIsShown
the_outside_reaches_what_it_is_shown = record {
  unwritten = simp (outs-Ptr, outs-Void, of_number, worth_number, layout.at_int) refl;
  written = simp (outs-Ptr, outs-Void, of_number, worth_number, layout.at_int) refl;
  written_past = simp (outs-Ptr, outs-Void, of_number, worth_number, layout.at_int) refl;
  not_lent = simp (outs-Ptr, of_number, worth_number, layout.at_int) refl;
  lent_before = simp (outs-Ptr, outs-Void, of_number, worth_number, layout.at_int) refl;
  same_name = simp (outs-Ptr, outs-Void, of_number, worth_number, layout.at_int) refl;
  two_slots = simp (outs-Ptr, outs-Void, of_number, worth_number, layout.at_int) refl;
  made = simp (outs-Ptr, layout.at_int) refl;
  nothing_reached = simp (outs-Ptr, outs-Void, of_undef, worth_undef) refl;
  gone_wrong = simp (outs-Ptr, outs-Void, of_undef, worth_undef) refl;
  not_gone_wrong = simp (outs-Ptr, outs-Void, of_undef, worth_undef) refl;
}

pub replies_are_taken : RepliesAreTaken
replies_are_taken = record {
  number = refl;
  calls_kind = refl;
  nothing = refl;
  unused = refl;
  unused_by_nothing = refl;
  void_by_a_number = simp (outs-Void) refl;
  loose = simp (outs-Ptr, of_undef, worth_undef) refl;
  by_name = simp (outs-Ptr, of_number, worth_number, layout.at_int) refl;
  undef_byte = simp (outs-Ptr, outs-Void, layout.at_int) refl;
}

pub ended_slots_are_not_reached : EndedSlotsAreNotReached
ended_slots_are_not_reached = record {
  while_it_lasts = simp (outs-Ptr, outs-Void, of_number, worth_number, layout.at_int) refl;
  later = simp (outs-Ptr, outs-Void, of_number, worth_number, layout.at_int) refl;
  of_the_caller = simp (outs-Ptr, outs-Void, of_number, worth_number, layout.at_int) refl;
}
