-- The examples are computed.
use Rattle.std.proofs.Common.{refl}
use Rattle.module_texts.proofs.NamedModuleLaws.Folds.{pointed, trees}
use Rattle.module_texts.specs.NamedModuleLaws.RegistersAtFault.{RegistersAreTested}

pub registers_are_tested : RegistersAreTested
registers_are_tested = record {
  another_type = simp trees refl;
  right_value = simp trees refl;
  unknown = simp trees refl;
  behind = simp trees refl;
  another_behind = simp trees refl;
  comparison = simp trees refl;
  widened = simp trees refl;
  first_arm = simp trees refl;
  memory = simp pointed (simp trees refl);
  loaded = simp trees refl;
  called = simp trees refl;
  of_element = simp pointed (simp trees refl);
  element_of_array = simp trees refl;
  element_of_another = simp trees refl;
  counted_field = simp trees refl;
  wrong_number = simp trees refl;
  base_alone = simp trees refl;
  pointer_index = simp trees refl;
  nowhere = simp trees refl;
  nowhere_at_integer = simp trees refl;
  label_as_value = simp trees refl;
  register_as_label = simp trees refl;
  unknown_label = refl;
  entry_label = simp trees refl;
  entry_value = simp trees refl;
  condition = simp trees refl;
  returned = simp trees refl;
  converted = simp trees refl;
  load_address = simp trees refl;
  an_argument = simp trees refl;
  switched = simp trees refl;
  branched = simp trees refl;
  later_entry = simp trees refl;
  other_function = simp trees refl;
  each_operand = simp trees refl;
  base_and_index = simp trees refl;
  stored_and_address = simp trees refl;
  default_label = simp trees refl;
  case_label = simp trees refl;
}
