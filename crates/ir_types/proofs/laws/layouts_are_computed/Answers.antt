use Rattle.ir_types.proofs.Rounds.{has_layout, layouts_are_one, named_layouts, pointers_have_layouts}
use Rattle.ir_types.proofs.laws.layouts_are_computed.Goals as goal

pub returns-clause-computed : goal.returns-clause-computed
returns-clause-computed c = has_layout

pub returns-clause-one : goal.returns-clause-one
returns-clause-one c = layouts_are_one

pub returns-clause-names : goal.returns-clause-names
returns-clause-names c = named_layouts

pub returns-clause-pointers : goal.returns-clause-pointers
returns-clause-pointers c = pointers_have_layouts
