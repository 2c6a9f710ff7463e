use Rattle.ir_shape.proofs.ShapeLaws.MemoryExamples.{accesses, addresses, calls, declarations, declarations_come_in_order, globals, recursion, uses_of_addresses}
use Rattle.ir_shape.proofs.shape_laws.laws.examples_of_memory_faults.Goals as goal

pub returns-clause-globals : goal.returns-clause-globals
returns-clause-globals c = globals

pub returns-clause-declarations : goal.returns-clause-declarations
returns-clause-declarations c = declarations

pub returns-clause-order : goal.returns-clause-order
returns-clause-order c = declarations_come_in_order

pub returns-clause-accesses : goal.returns-clause-accesses
returns-clause-accesses c = accesses

pub returns-clause-addresses : goal.returns-clause-addresses
returns-clause-addresses c = addresses

pub returns-clause-uses : goal.returns-clause-uses
returns-clause-uses c = uses_of_addresses

pub returns-clause-calls : goal.returns-clause-calls
returns-clause-calls c = calls

pub returns-clause-recursion : goal.returns-clause-recursion
returns-clause-recursion c = recursion
