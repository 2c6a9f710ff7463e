-- Words of private functions: what a phi gets, and the names of parameters.
use Rattle.std.specs.Prelude.{List, map}
use Rattle.ir_core.specs.declared.functions.Entry.{Entry}
use Rattle.ir_core.specs.declared.functions.Param.{Param}
use Rattle.ir_types.specs.declared.names.Name.{Name}
use Rattle.ir_core.specs.declared.operands.Operand.{Operand}
use Rattle.ir_types.specs.declared.ty.Ty.{Ty}
use Rattle.ir_core.specs.Functions.{names_in}

-- what a phi of that type gets from its entries
abbrev pub operands_at : Ty → List Entry → List (Operand Name)
operands_at t = map (λ (e : Entry). record { ty = t; atom = e.value })

-- the names of parameters
abbrev pub param_names : List Param → List Name
param_names ps = names_in (map (λ (p : Param). (p.name, p.ty)) ps)
