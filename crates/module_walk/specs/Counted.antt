-- The number that is due, as it is counted: up to the greatest one of 64 bits, which no name has.
use Rattle.std.specs.Prelude.{ℕ, min, List, map, Option, None, Some}
use Rattle.ir_core.specs.declared.functions.Param.{Param}
use Rattle.ir_types.specs.declared.names.Name.{Name}
use Rattle.module_grammar.specs.declared.flow.PhiText.{PhiText}
use Rattle.module_grammar.specs.declared.functions.ParamText.{ParamText}
use Rattle.module_grammar.specs.declared.places.Placed.{Placed}
use Rattle.named_modules.specs.Built.{name_due}
use Rattle.named_modules.specs.Types.{type_of}
use Rattle.named_modules.specs.Values.{extensions_of}

abbrev pub capped : ℕ → ℕ
capped due = min due 18446744073709551615

abbrev pub names_of_params : List ParamText → List (Option (Placed Name))
names_of_params = map (λ (p : ParamText). p.name)

abbrev pub registers_of : List PhiText → List (Option (Placed Name))
registers_of = map (λ (p : PhiText). p.register)

-- the number behind what sets something, or the same where nothing is set
abbrev pub due_or : ℕ → ℕ → Option Name → ℕ
due_or due behind None = due
due_or due behind (Some x) = behind

-- the parameter where this number is due
abbrev pub param_at : ℕ → ParamText → Param
param_at due w = record { name = name_due due w.name; ty = type_of w.ty; extensions = extensions_of w.attributes }
