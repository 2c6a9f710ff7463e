use Rattle.ir_rename.specs.Numbered.{numbered_in_order}
use Rattle.renaming_laws.proofs.Given.{keeps_defined, keeps_shape, keeps_well_formed, numbered_names_in_range, numbered_range}
use Rattle.renaming_laws.proofs.laws.numbered_modules_stay_well_formed.Goals as goal

pub returns-clause-names : goal.returns-clause-names
returns-clause-names c = numbered_names_in_range

pub returns-clause-range : goal.returns-clause-range
returns-clause-range c = numbered_range

pub returns-clause-order : goal.returns-clause-order
returns-clause-order c = c.numbered_functions_are_renamed.ensures.ordered

pub returns-clause-shape : goal.returns-clause-shape
returns-clause-shape c = keeps_shape numbered_in_order c.numbered_functions_are_renamed.ensures.renamed c.renamed_modules_stay_well_formed.ensures.shape

pub returns-clause-defined : goal.returns-clause-defined
returns-clause-defined c = keeps_defined numbered_in_order c.numbered_functions_are_renamed.ensures.renamed c.renamed_modules_stay_well_formed.ensures.defined

pub returns-clause-well : goal.returns-clause-well
returns-clause-well c = keeps_well_formed numbered_in_order c.numbered_functions_are_renamed.ensures.renamed numbered_names_in_range c.renamed_modules_stay_well_formed.ensures.well
