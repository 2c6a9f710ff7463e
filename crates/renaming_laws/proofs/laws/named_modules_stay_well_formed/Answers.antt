use Rattle.ir_rename.specs.Named.{named_all}
use Rattle.ir_rename.specs.Laws.{NamingRenames}
use Rattle.renaming_laws.proofs.Given.{Renames, keeps_defined, keeps_shape, keeps_well_formed, named_names_in_range, named_order, named_range}
use Rattle.renaming_laws.proofs.laws.named_modules_stay_well_formed.Goals as goal

renames : NamingRenames → Renames named_all
renames law m range apart = law m range

pub returns-clause-names : goal.returns-clause-names
returns-clause-names c = named_names_in_range

pub returns-clause-range : goal.returns-clause-range
returns-clause-range c = named_range

pub returns-clause-order : goal.returns-clause-order
returns-clause-order c = named_order (renames c.named_functions_are_renamed.ensures.renamed) c.named_functions_are_renamed.ensures.texts c.renamed_modules_stay_well_formed.ensures.names c.renamed_modules_stay_well_formed.ensures.apart

pub returns-clause-shape : goal.returns-clause-shape
returns-clause-shape c = keeps_shape named_all (renames c.named_functions_are_renamed.ensures.renamed) c.renamed_modules_stay_well_formed.ensures.shape

pub returns-clause-defined : goal.returns-clause-defined
returns-clause-defined c = keeps_defined named_all (renames c.named_functions_are_renamed.ensures.renamed) c.renamed_modules_stay_well_formed.ensures.defined

pub returns-clause-well : goal.returns-clause-well
returns-clause-well c = keeps_well_formed named_all (renames c.named_functions_are_renamed.ensures.renamed) named_names_in_range c.renamed_modules_stay_well_formed.ensures.well
