-- The examples of starts compute.
use Rattle.std.proofs.Common.{◌≡◌, [], map, refl, ap}
use Rattle.std.specs.List.{range_with_len, zip}
use Rattle.ir_types.specs.declared.ty.Ty.{Ty, Array, Struct}
use Rattle.ir_types.specs.Named.{size_of}
use Rattle.ir_core.specs.declared.modules.Init.{Init, Zero}
use Rattle.ir_values.specs.ConstantExamples.{scope}
use Rattle.ir_values.specs.Constants.{Scope}
use Rattle.ir_types.specs.declared.ty.Ty.TheViews.{outs-Ptr, outs-Struct}
use Rattle.ir_types.proofs.Monotone as layout
use Rattle.ir_types.proofs.SameLaws.{same_ty_refl}
use Rattle.ir_values.proofs.ConstantWalks as constants
use Rattle.ir_machine.specs.Scalars.{byte_among, initial_bytes, scalars_of, values_of}
use Rattle.ir_machine.specs.StartLaws.{ArgumentsFit, BytesFit, InitialisersAreBytes, StartsStand, WorldsAreMade}
use Rattle.ir_machine.proofs.Initials as values
use Rattle.ir_machine.proofs.ScalarParts as scalars

nothing_in : (scope : Scope) (t : Ty) (i : Init) → size_of scope.types t ≡ 0 → initial_bytes scope t i ≡ []
nothing_in scope t i none = ap (λ n. map (byte_among (zip (scalars_of scope.types t) (values_of scope i t))) (range_with_len 0 n)) none

abbrev many : Ty
many = Array 4294967295 (Struct [])

pub initialisers_are_bytes : InitialisersAreBytes
initialisers_are_bytes = record {
  fields = simp (values.of_struct, values.of_const, scalars.at_int, scalars.at_struct, layout.at_int, layout.at_struct, constants.of_number, constants.worth_number) refl;
  zero = simp (values.of_zero, scalars.at_int, scalars.at_struct, layout.at_int, layout.at_struct) refl;
  zero_of_name = simp (values.of_zero, scalars.at_int, scalars.at_struct, scalars.at_named, layout.at_int, layout.at_struct, layout.at_named) refl;
  text = simp (values.of_bytes, scalars.at_int, scalars.at_array, layout.at_int, layout.at_array) refl;
  odd = simp (values.of_const, scalars.at_int, layout.at_int, constants.of_number, constants.worth_number) refl;
  elements = simp (values.of_array, values.of_const, scalars.at_int, scalars.at_array, layout.at_int, layout.at_array, constants.of_number, constants.worth_number) refl;
  address = simp (
    values.of_struct,
    values.of_const,
    scalars.at_ptr,
    scalars.at_struct,
    layout.at_ptr,
    layout.at_int,
    layout.at_struct,
    constants.of_element,
    constants.of_global,
    constants.of_number,
    constants.worth_element,
    constants.worth_global,
    constants.worth_number,
    same_ty_refl,
    outs-Struct,
  ) refl;
  of_two_globals = simp (values.of_const, scalars.at_ptr, layout.at_ptr, constants.of_global, constants.worth_global, same_ty_refl) refl;
  null = simp (values.of_const, scalars.at_ptr, layout.at_ptr, constants.of_null, constants.worth_null, outs-Ptr) refl;
  undef_array = simp (values.of_const, scalars.at_int, scalars.at_array, layout.at_int, layout.at_array) refl;
  poison = simp (values.of_const, scalars.at_int, layout.at_int, constants.of_number, constants.worth_number) refl;
  none = nothing_in scope many Zero (simp (layout.at_array, layout.at_struct) refl);
  opaque = simp (values.of_zero, layout.at_int, layout.at_struct, layout.at_named) refl;
}

pub worlds_are_made : WorldsAreMade
worlds_are_made = record {
  world = simp (values.of_zero, scalars.at_int, scalars.at_struct, layout.at_int, layout.at_struct) refl;
  empty = refl;
}

pub arguments_fit : ArgumentsFit
arguments_fit = record {
  all = simp (layout.at_int, outs-Ptr) refl;
  address = simp (outs-Ptr) refl;
  few = refl;
  many = refl;
  past_width = refl;
  name_for_number = refl;
  number_for_address = simp (outs-Ptr) refl;
  no_name = simp (outs-Ptr) refl;
  far_address = simp (outs-Ptr) refl;
  far_offset = simp (outs-Ptr) refl;
  first = refl;
  before_blocks = simp (outs-Ptr) refl;
}

pub bytes_fit : BytesFit
bytes_fit = record {
  of_block = simp (outs-Ptr) refl;
  of_second_block = simp (outs-Ptr) refl;
  no_byte = simp (outs-Ptr) refl;
  before_externals = simp (outs-Ptr) refl;
  no_global = simp (outs-Ptr) refl;
  not_external = simp (outs-Ptr) refl;
  other_size = simp (layout.at_int, outs-Ptr) refl;
  of_external = simp (layout.at_int, outs-Ptr) refl;
  size_first = simp (layout.at_int, outs-Ptr) refl;
  second_of_a_name = simp (layout.at_int, outs-Ptr) refl;
}

pub starts_stand : StartsStand
starts_stand = record {
  at_first_block = simp (values.of_zero, scalars.at_int, scalars.at_struct, layout.at_int, layout.at_struct, outs-Ptr) refl;
  no_function = refl;
  unfit_input = refl;
}
