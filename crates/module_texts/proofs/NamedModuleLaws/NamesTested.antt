-- The examples are computed.
use Rattle.std.proofs.Common.{refl}
use Rattle.module_texts.proofs.NamedModuleLaws.Folds.{trees}
use Rattle.module_texts.specs.NamedModuleLaws.NamesAtFault.{NamesOfLinesAreTested, NamesOfItemsAreTested}

pub names_of_lines_are_tested : NamesOfLinesAreTested
names_of_lines_are_tested = record {
  stored = simp trees refl;
  known_store = simp trees refl;
  numbered_store = simp trees refl;
  stored_again = simp trees refl;
  stored_used = simp trees refl;
  void_call = refl;
  known_call = simp trees refl;
  dropped_call = refl;
  known_dropped_call = simp trees refl;
  twice = simp trees refl;
  twice_among_params = simp trees refl;
  label_twice = simp trees refl;
  labels_twice = refl;
  register_after_label = simp trees refl;
  twice_and_wrong = simp trees refl;
  wrong_number = simp trees refl;
  wrong_label = refl;
  wrong_param = simp trees refl;
  one_count = simp trees refl;
  uncounted_names = simp trees refl;
  written_label = simp trees refl;
  written_numbers = simp trees refl;
  apart = simp trees refl;
  blocks = simp trees refl;
  uncounted_lines = simp trees refl;
}

pub names_of_items_are_tested : NamesOfItemsAreTested
names_of_items_are_tested = record {
  type_twice = refl;
  type_number = refl;
  type_counted_on = refl;
  apart = simp trees refl;
  global_twice = simp trees refl;
  global_after_function = simp trees refl;
  function_after_global = simp trees refl;
  function_twice = refl;
  global_number = simp trees refl;
  number_twice = simp trees refl;
  counted_on = simp trees refl;
  globals_first = simp trees refl;
  file_order = simp trees refl;
  functions_in_order = refl;
  function_number = refl;
  dropped_name = refl;
  params_of_declarations = simp trees refl;
}
