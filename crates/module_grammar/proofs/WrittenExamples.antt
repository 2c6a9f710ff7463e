-- The examples, by the equations of what is written of types, constants and initialisers.
use Rattle.std.proofs.Common.{refl}
use Rattle.module_grammar.specs.AttributeExamples.{AttributesAreWritten}
use Rattle.module_grammar.specs.BlockExamples.{BlocksAreWritten}
use Rattle.module_grammar.specs.ConstantExamples.{ConstantsAreWritten}
use Rattle.module_grammar.specs.ItemExamples.{ItemsAreWritten}
use Rattle.module_grammar.specs.LineExamples.{LinesAreWritten}
use Rattle.module_grammar.specs.TypeExamples.{TypesAreWritten}
use Rattle.module_grammar.proofs.ConstFolds as constants
use Rattle.module_grammar.proofs.InitFolds as inits
use Rattle.module_grammar.proofs.TypeFolds as types

pub types_are_written : TypesAreWritten
types_are_written = record {
  int = simp (types.at_int) refl;
  named = simp (types.at_named) refl;
  pointer = simp (types.at_int, types.at_ptr) refl;
  pointers = simp (types.at_named, types.at_ptr) refl;
  array = simp (types.at_int, types.at_array) refl;
  no_fields = simp (types.at_struct) refl;
  fields = simp (types.at_int, types.at_ptr, types.at_array, types.at_struct) refl;
  no_function_type = refl;
  no_params = refl;
  params = simp (types.at_int) refl;
  open_alone = refl;
  open_end = simp (types.at_int) refl;
}

pub constants_are_written : ConstantsAreWritten
constants_are_written = record {
  number = simp (constants.at_int) refl;
  truth = simp (constants.at_int) refl;
  null = simp (constants.at_null) refl;
  undef = simp (constants.at_undef) refl;
  global = simp (constants.at_global) refl;
  debug_name = simp (constants.at_global) refl;
  address = simp (types.at_int, types.at_ptr, constants.at_global, constants.at_element) refl;
  element = simp (types.at_int, types.at_ptr, types.at_array, constants.at_int, constants.at_global, constants.at_element) refl;
  cast = simp (types.at_int, types.at_ptr, constants.at_global, constants.at_cast) refl;
  nested = simp (types.at_int, types.at_ptr, constants.at_null, constants.at_cast) refl;
  const_init = simp (constants.at_int, inits.at_const) refl;
  zero = simp (inits.at_zero) refl;
  bytes = simp (inits.at_bytes) refl;
  empty_array = simp (inits.at_array) refl;
  array = simp (types.at_int, constants.at_int, constants.at_undef, inits.at_const, inits.at_array) refl;
  struct = simp (types.at_int, types.at_struct, constants.at_int, inits.at_const, inits.at_struct) refl;
  local = refl;
  operand = simp (types.at_int, types.at_ptr, constants.at_null) refl;
  old = simp (types.at_int) refl;
  ghost = simp (types.at_int) refl;
}

pub attributes_are_written : AttributesAreWritten
attributes_are_written = record {
  signext = refl;
  noalias = refl;
  readonly = refl;
  dereferenceable = refl;
  aligned = refl;
  group = refl;
  text = refl;
  text_value = refl;
  function_align = refl;
  alignstack = refl;
  nounwind = refl;
  readnone = refl;
  named_meta = refl;
  node_with_arguments = refl;
  meta_text = refl;
  meta_node = refl;
  attachments = refl;
}

pub lines_are_written : LinesAreWritten
lines_are_written = record {
  add = simp (types.at_int, constants.at_int) refl;
  lshr = simp (types.at_int, constants.at_int) refl;
  udiv = simp (types.at_int, constants.at_int) refl;
  xor = simp (types.at_int, constants.at_int) refl;
  icmp = simp (types.at_int, types.at_ptr, constants.at_null) refl;
  zext = simp (types.at_int) refl;
  bitcast = simp (types.at_int, types.at_ptr) refl;
  select = simp (types.at_int, constants.at_int, constants.at_undef) refl;
  base_alone = simp (types.at_int, types.at_ptr) refl;
  element = simp (types.at_int, types.at_named, types.at_ptr, constants.at_int) refl;
  alloca = simp (types.at_int) refl;
  counted = simp (types.at_int) refl;
  aligned = simp (types.at_int) refl;
  load = simp (types.at_int, types.at_ptr) refl;
  aligned_load = simp (types.at_int, types.at_ptr) refl;
  store = simp (types.at_int, types.at_ptr, constants.at_int) refl;
  marked_store = simp (types.at_int, types.at_ptr, constants.at_int) refl;
  call_of_void = refl;
  tail_call = simp (types.at_int, types.at_ptr, constants.at_int, constants.at_null) refl;
  typed_call = simp (types.at_int) refl;
  open_call = simp (types.at_int, constants.at_int) refl;
  ccc_call = refl;
  attribute_call = simp (types.at_int) refl;
  stated_call = simp (types.at_int, constants.at_int) refl;
  debug_call = refl;
  stated_debug_call = refl;
  operand_alone = simp (types.at_int) refl;
  expression_load = simp (types.at_int, types.at_ptr) refl;
  expression_element = simp (types.at_int, types.at_ptr, constants.at_int) refl;
}

pub blocks_are_written : BlocksAreWritten
blocks_are_written = record {
  phi = simp (types.at_int, constants.at_int, constants.at_undef) refl;
  one_entry = simp (types.at_int, types.at_ptr, constants.at_null) refl;
  ret_void = refl;
  ret = simp (types.at_int, constants.at_int) refl;
  br = refl;
  br_if = simp (types.at_int, constants.at_int) refl;
  switch = simp (types.at_int) refl;
  unreachable = refl;
  unlabelled = refl;
  block = simp (types.at_int, types.at_ptr, constants.at_int, constants.at_null) refl;
}

pub items_are_written : ItemsAreWritten
items_are_written = record {
  layout = refl;
  triple = refl;
  attributes = refl;
  metadata = refl;
  named_metadata = refl;
  debug_declaration = refl;
  declaration = simp (types.at_int, types.at_ptr) refl;
  nothing_declared = refl;
  open_declaration = simp (types.at_int) refl;
  opaque = refl;
  struct = simp (types.at_int, types.at_named, types.at_ptr) refl;
  external = simp (types.at_int) refl;
  constant = simp (types.at_int, types.at_array, inits.at_bytes) refl;
  global = simp (types.at_int, constants.at_int, inits.at_const) refl;
  definition = refl;
  long_head = simp (types.at_int, constants.at_int) refl;
  external_definition = refl;
  whole_module = simp (types.at_int, constants.at_undef, inits.at_const) refl;
}
