-- The examples are computed.
use Rattle.std.proofs.Common.{refl}
use Rattle.module_texts.proofs.NamedModuleLaws.Folds.{constants_told, inits_started, pointed, trees}
use Rattle.module_texts.specs.NamedModuleLaws.ConstantsAtFault.{ConstantsAreTested, InitialisersAreTested}

pub constants_are_tested : ConstantsAreTested
constants_are_tested = record {
  null = simp trees refl;
  null_pointer = simp trees refl;
  null_array = simp trees refl;
  address = simp trees refl;
  address_of_another = simp trees refl;
  address_of_array = simp trees refl;
  address_of_more = simp trees refl;
  address_of_fewer_than_none = simp trees refl;
  address_of_named = simp trees refl;
  unknown = simp trees refl;
  function = simp trees refl;
  function_inside = simp trees refl;
  function_in_line = simp trees refl;
  dropped = simp trees refl;
  of_element = simp trees refl;
  element_of_another = simp trees refl;
  field = simp trees refl;
  field_of_another = simp trees refl;
  field_by_another_index = simp trees refl;
  no_such_field = simp trees refl;
  nowhere = simp trees refl;
  no_field = simp trees refl;
  element_of_array = simp trees refl;
  base_of_another = simp trees refl;
  base_alone = simp trees refl;
  first_type_alone = simp trees refl;
  index = simp (inits_started, constants_told) (simp pointed (simp trees refl));
  recast = simp trees refl;
  cast_to_another = simp trees refl;
  cast_of_another = simp trees refl;
  cast_of_array = simp trees refl;
  cast_to_array = simp trees refl;
  cast_of_cast_to_array = simp trees refl;
}

pub initialisers_are_tested : InitialisersAreTested
initialisers_are_tested = record {
  undefined = simp trees refl;
  zero = simp trees refl;
  zero_integer = simp trees refl;
  undefined_opaque = simp trees refl;
  bytes = simp trees refl;
  too_few_bytes = simp trees refl;
  bits = simp trees refl;
  bytes_of_integer = simp trees refl;
  no_elements = simp trees refl;
  no_fields = simp trees refl;
  elements = simp trees refl;
  too_few = simp trees refl;
  another_element = simp trees refl;
  pointer_element = simp trees refl;
  wrong_element = simp trees refl;
  fields = simp trees refl;
  too_few_fields = simp trees refl;
  named_fields = simp trees refl;
  another_field = simp trees refl;
  braces = simp trees refl;
  brackets = simp trees refl;
  list_of_integer = simp trees refl;
  nested = simp trees refl;
}
