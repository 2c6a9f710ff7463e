use Rattle.renaming_laws.proofs.Limits.{limits_stay}
use Rattle.renaming_laws.proofs.Kept.{definedness_stays, function_names_stay, names_stay_apart, range_stays, shape_stays, well_formedness_stays}
use Rattle.renaming_laws.proofs.laws.renamed_modules_stay_well_formed.Goals as goal

pub returns-clause-names : goal.returns-clause-names
returns-clause-names c = function_names_stay

pub returns-clause-apart : goal.returns-clause-apart
returns-clause-apart c = names_stay_apart

pub returns-clause-shape : goal.returns-clause-shape
returns-clause-shape c = shape_stays c.renamed_functions_keep_their_shape.ensures.shape

pub returns-clause-defined : goal.returns-clause-defined
returns-clause-defined c = definedness_stays c.renamed_functions_keep_their_shape.ensures.defined

pub returns-clause-range : goal.returns-clause-range
returns-clause-range c = range_stays

pub returns-clause-limits : goal.returns-clause-limits
returns-clause-limits c = limits_stay

pub returns-clause-well : goal.returns-clause-well
returns-clause-well c =
    let laws = c.renamed_functions_keep_their_shape.ensures in well_formedness_stays laws.shape laws.defined
