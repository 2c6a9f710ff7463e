use Rattle.ir_shape.proofs.ShapeLaws.Examples.{arms, branches, cases, conversions, entries, integers, labels, names, none, operands, phis, registers, results}
use Rattle.ir_shape.proofs.shape_laws.laws.examples_of_shape_faults.Goals as goal

pub returns-clause-none : goal.returns-clause-none
returns-clause-none c = none

pub returns-clause-integers : goal.returns-clause-integers
returns-clause-integers c = integers

pub returns-clause-arms : goal.returns-clause-arms
returns-clause-arms c = arms

pub returns-clause-conversions : goal.returns-clause-conversions
returns-clause-conversions c = conversions

pub returns-clause-results : goal.returns-clause-results
returns-clause-results c = results

pub returns-clause-phis : goal.returns-clause-phis
returns-clause-phis c = phis

pub returns-clause-entries : goal.returns-clause-entries
returns-clause-entries c = entries

pub returns-clause-branches : goal.returns-clause-branches
returns-clause-branches c = branches

pub returns-clause-cases : goal.returns-clause-cases
returns-clause-cases c = cases

pub returns-clause-names : goal.returns-clause-names
returns-clause-names c = names

pub returns-clause-labels : goal.returns-clause-labels
returns-clause-labels c = labels

pub returns-clause-operands : goal.returns-clause-operands
returns-clause-operands c = operands

pub returns-clause-registers : goal.returns-clause-registers
returns-clause-registers c = registers
