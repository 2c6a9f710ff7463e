-- The examples are computed.
use Rattle.std.proofs.Common.{refl}
use Rattle.module_texts.proofs.NamedModuleLaws.Folds.{trees}
use Rattle.module_texts.specs.NamedModuleLaws.TypesAtFault.{TypesAreTested, UnknownTypesAreTested}

pub types_are_tested : TypesAreTested
types_are_tested = record {
  unknown = simp trees refl;
  known = simp trees refl;
  negative_count = simp trees refl;
  too_large = simp trees refl;
  largest = simp trees refl;
  inner_count = simp trees refl;
  zero_count = simp trees refl;
  array_param = simp trees refl;
  struct_param = simp trees refl;
  named_param = simp trees refl;
  struct_result = simp trees refl;
  array_result = simp trees refl;
  array_load = simp trees refl;
  array_store = simp trees refl;
  once = simp trees refl;
  array_cast = simp trees refl;
  array_phi = simp trees refl;
  array_call = simp trees refl;
  array_argument = simp trees refl;
  any_alloca = simp trees refl;
  any_first_type = simp trees refl;
  dropped = refl;
  dropped_result = refl;
  kept_params = simp trees refl;
  kept_result = simp trees refl;
}

pub unknown_types_are_tested : UnknownTypesAreTested
unknown_types_are_tested = record {
  of_global = simp trees refl;
  of_field = simp trees refl;
  of_addresses = simp trees refl;
  of_index = simp trees refl;
  of_recast = simp trees refl;
  of_initial_element = simp trees refl;
  of_declared_param = simp trees refl;
  of_param_and_result = simp trees refl;
  of_operand = simp trees refl;
  of_conversion = simp trees refl;
  of_arms = simp trees refl;
  of_element = simp trees refl;
  of_alloca = simp trees refl;
  of_count = simp trees refl;
  of_load = simp trees refl;
  of_store = simp trees refl;
  of_call = simp trees refl;
  of_phi = simp trees refl;
  of_condition = simp trees refl;
  of_switch = simp trees refl;
  of_case = simp trees refl;
  of_returned = simp trees refl;
}
