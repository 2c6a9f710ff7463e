-- The examples, by the equations of the layouts.
use Rattle.std.proofs.Common.{refl}
use Rattle.ir_types.specs.Examples.{IntegersTake, ArraysTake, StructsTake, NamesTake, BlocksFit, FieldsBegin}
use Rattle.ir_types.specs.declared.ty.Ty.TheViews.{outs-Struct, outs-Named}
use Rattle.ir_types.proofs.Monotone.{at_int, at_ptr, at_array, at_struct, at_named, at_void}

pub integers_take : IntegersTake
integers_take = record {
  one_bit = simp (at_int) refl;
  seven_bits = simp (at_int) refl;
  eight_bits = simp (at_int) refl;
  nine_bits = simp (at_int) refl;
  seventeen_bits = simp (at_int) refl;
  thirty_three_bits = simp (at_int) refl;
  sixty_four_bits = simp (at_int) refl;
}

pub arrays_take : ArraysTake
arrays_take = record {
  bytes = simp (at_int, at_array) refl;
  odd_integers = simp (at_int, at_array) refl;
  none = simp (at_int, at_array) refl;
  structs = simp (at_int, at_array, at_struct) refl;
  many = simp (at_int, at_array) refl;
}

pub structs_take : StructsTake
structs_take = record {
  empty = simp (at_struct) refl;
  padded = simp (at_int, at_struct) refl;
  padded_behind = simp (at_int, at_struct) refl;
  nested = simp (at_int, at_struct) refl;
  pointers = simp (at_int, at_ptr, at_struct) refl;
}

pub names_take : NamesTake
names_take = record {
  behind = simp (at_int, at_named, at_struct) refl;
  list = simp (at_int, at_ptr, at_named, at_struct) refl;
  turns = simp (at_array, at_named, at_struct) refl;
  to_turns = simp (at_ptr) refl;
  opaque = simp (at_named) refl;
  of_opaque = simp (at_int, at_named, at_struct) refl;
  to_opaque = simp (at_int, at_ptr, at_struct) refl;
  void = simp (at_void) refl;
  of_void = simp (at_array, at_void) refl;
  unknown = simp (at_named) refl;
}

pub blocks_fit : BlocksFit
blocks_fit = record {
  exactly = simp (at_int) refl;
  one_more = simp (at_int) refl;
  in_array = simp (at_int, at_array) refl;
  too_huge = simp (at_int, at_array) refl;
  none_huge = simp (at_int, at_array) refl;
  opaque = simp (at_named) refl;
  to_opaque = simp (at_ptr) refl;
}

pub fields_begin : FieldsBegin
fields_begin = record {
  first = simp (outs-Struct, at_int, at_struct) refl;
  second = simp (outs-Struct, at_int, at_struct) refl;
  third = simp (outs-Struct, at_int, at_struct) refl;
  of_named = simp (outs-Named, at_int, at_ptr, at_struct) refl;
}
