use Rattle.ir_types.proofs.Examples.{integers_take, arrays_take, structs_take, names_take, blocks_fit, fields_begin}
use Rattle.ir_types.proofs.laws.examples_of_layouts.Goals as goal

pub returns-clause-integers : goal.returns-clause-integers
returns-clause-integers c = integers_take

pub returns-clause-arrays : goal.returns-clause-arrays
returns-clause-arrays c = arrays_take

pub returns-clause-structs : goal.returns-clause-structs
returns-clause-structs c = structs_take

pub returns-clause-names : goal.returns-clause-names
returns-clause-names c = names_take

pub returns-clause-blocks : goal.returns-clause-blocks
returns-clause-blocks c = blocks_fit

pub returns-clause-fields : goal.returns-clause-fields
returns-clause-fields c = fields_begin
