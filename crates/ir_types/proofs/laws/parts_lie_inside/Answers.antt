use Rattle.ir_types.proofs.Parts.{sizes_are_multiples, aligns_are_powers, fields_lie_inside, fields_are_apart, elements_lie_inside, parts_fit}
use Rattle.ir_types.proofs.laws.parts_lie_inside.Goals as goal

pub returns-clause-multiples : goal.returns-clause-multiples
returns-clause-multiples c = sizes_are_multiples

pub returns-clause-powers : goal.returns-clause-powers
returns-clause-powers c = aligns_are_powers

pub returns-clause-fields : goal.returns-clause-fields
returns-clause-fields c = fields_lie_inside

pub returns-clause-apart : goal.returns-clause-apart
returns-clause-apart c = fields_are_apart

pub returns-clause-elements : goal.returns-clause-elements
returns-clause-elements c = elements_lie_inside

pub returns-clause-parts : goal.returns-clause-parts
returns-clause-parts c = parts_fit
