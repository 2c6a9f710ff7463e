-- Modules with calls written out, with numbers for names, and runs that are told their choices.
use Rattle.std.specs.Prelude.{ℕ, zero, suc, false, List, [], ◌∷◌, Option, None, Some}
use Rattle.std.specs.Option.{option_and_then, option_map}
use Rattle.ir_types.specs.declared.names.Name.{Name}
use Rattle.ir_types.specs.declared.names.Name.TheVariants.{Number}
use Rattle.ir_types.specs.declared.ty.Ty.{Ty, Ptr}
use Rattle.ir_types.specs.declared.ty.Ty.TheVariants.{Int}
use Rattle.ir_core.specs.declared.expressions.Expr.TheVariants as expr
use Rattle.ir_core.specs.declared.functions.Argument.{Argument}
use Rattle.ir_core.specs.declared.functions.Function.{Function}
use Rattle.ir_core.specs.declared.functions.Instr.{Instr}
use Rattle.ir_core.specs.declared.functions.Instr.TheVariants as line
use Rattle.ir_core.specs.declared.functions.Param.{Param}
use Rattle.ir_core.specs.declared.functions.Term.{Term}
use Rattle.ir_core.specs.declared.functions.Term.TheVariants.{Ret}
use Rattle.ir_core.specs.declared.modules.Declaration.{Declaration}
use Rattle.ir_core.specs.declared.modules.Module.{Module}
use Rattle.ir_core.specs.declared.operands.Atom.{Atom}
use Rattle.ir_core.specs.declared.operands.Atom.TheVariants.{Register}
use Rattle.ir_core.specs.Modules.{not_extended, plain_function, plain_module, plain_param}
use Rattle.block_memory.specs.declared.items.Choice.{Choice}
use Rattle.block_memory.specs.declared.items.Shown.{Shown}
use Rattle.ir_machine.specs.Choices.{Answer, Did, Lacks, NoStep, answer}
use Rattle.ir_machine.specs.Examples.{number}
use Rattle.ir_machine.specs.FlowExamples.{block}
use Rattle.ir_machine.specs.Machine.{asks}
use Rattle.ir_machine.specs.SlotLaws.{Ran, after_items}
use Rattle.ir_machine.specs.Starting.{given, start}
use Rattle.ir_machine.specs.State.{State}

-- ---- runs that are told their choices

abbrev pub told_on : Answer → (List Choice → State → Ran) → Ran
told_on (Did items after left) next = after_items items (next left after)
told_on (Lacks left) next = None
told_on NoStep next = None

-- What so many steps show that are told these choices, and where they lead: nowhere, where one lacks a choice or some are left.
abbrev pub ran_told : Module → ℕ → List Choice → State → Ran
ran_told m zero [] s = Some ([], s)
ran_told m zero (c ∷ choices) s = None
ran_told m (suc n) choices s = told_on (answer (asks m s) choices) (ran_told m n)

-- the same from where @0 starts, on these arguments
abbrev pub run_on : List Shown → Module → ℕ → List Choice → Ran
run_on args m steps choices = option_and_then (ran_told m steps choices) (start m (Number 0) (given args))

abbrev pub run_of : Module → ℕ → List Choice → Ran
run_of = run_on []

-- ---- lines

-- %n
abbrev pub register : ℕ → Atom Name
register n = Register (Number n)

-- i8*
abbrev pub pointer : Ty
pointer = Ptr (Int 8)

abbrev pub argument : Ty → Atom Name → Argument
argument ty atom = record { operand = record { ty = ty; atom = atom }; extensions = not_extended }

-- [%into =] call ty @callee(arguments)
abbrev pub calling : Option ℕ → Ty → ℕ → List Argument → Instr
calling into ty callee arguments =
    line.Call (record { name = option_map Number into; result = ty; result_extensions = not_extended; callee = Number callee; arguments = arguments })

-- %n = ty k, which no text has as a line
abbrev pub holding_number : ℕ → Ty → ℕ → Instr
holding_number n ty k = line.Calm (record { name = Number n; right = expr.Plain (record { ty = ty; atom = number k }) })

-- ret ty ATOM
abbrev pub giving : Ty → Atom Name → Term
giving ty atom = Ret (record { ty = ty; atom = atom })

-- ---- functions

abbrev pub param : Ty → ℕ → Param
param ty n = plain_param ty (Number n)

-- define ty @n(PARAMS) { 1: LINES  TERM }
abbrev pub defined : ℕ → Ty → List Param → List Instr → Term → Function
defined n ty params lines term = plain_function ty (Number n) params (record (block 1 [] term) { body = lines } ∷ [])

-- declare i32 @n()
abbrev pub declared : ℕ → Declaration
declared n = record { result_extensions = not_extended; result = Int 32; name = Number n; params = []; variadic = false; before = 0 }

-- DEFINITIONS  declare i32 @20()  declare i32 @21()
abbrev pub beside_outside : List Function → Module
beside_outside functions = record (plain_module [] functions) { declarations = declared 20 ∷ declared 21 ∷ [] }

-- define ty @0() { 1: LINES  TERM }  CALLEES  declare i32 @20()  declare i32 @21()
abbrev pub entering_with : List Function → Ty → List Instr → Term → Module
entering_with callees ty lines term = beside_outside (defined 0 ty [] lines term ∷ callees)
