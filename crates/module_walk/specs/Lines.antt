-- Lines as they are built, where the name is known that each takes if it sets a register.
use Rattle.std.specs.Prelude.{ℕ, List, [], ◌∷◌, map, Option, None, Some}
use Rattle.std.specs.List.{filter}
use Rattle.std.specs.Option.{option_map}
use Rattle.ir_core.specs.declared.expressions.Expr.{Expr}
use Rattle.ir_core.specs.declared.expressions.Expr.TheVariants as expr
use Rattle.ir_core.specs.declared.functions.Argument.{Argument}
use Rattle.ir_core.specs.declared.functions.Call.{Call}
use Rattle.ir_core.specs.declared.functions.Extensions.{Extensions}
use Rattle.ir_core.specs.declared.functions.Instr.{Instr}
use Rattle.ir_core.specs.declared.functions.Instr.TheVariants as instr
use Rattle.ir_core.specs.Modules.{not_extended}
use Rattle.ir_lexer.specs.declared.token.Number.{Number}
use Rattle.ir_types.specs.declared.named.NamedTy.{NamedTy}
use Rattle.ir_types.specs.declared.names.Name.{Name}
use Rattle.ir_types.specs.declared.ty.Ty.{Ty, Ptr, out-Ty}
use Rattle.ir_types.specs.declared.ty.Ty.TheOpen.{Ty-F}
use Rattle.ir_types.specs.declared.ty.Ty.TheOpen as layer
use Rattle.module_grammar.specs.declared.constants.OperandText.{OperandText}
use Rattle.module_grammar.specs.declared.lines.ArgumentText.{ArgumentText}
use Rattle.module_grammar.specs.declared.lines.AttachedText.{AttachedText}
use Rattle.module_grammar.specs.declared.lines.CallBodyText.{CallBodyText}
use Rattle.module_grammar.specs.declared.lines.CallBodyText.TheVariants as call
use Rattle.module_grammar.specs.declared.lines.InstructionText.{InstructionText}
use Rattle.module_grammar.specs.declared.lines.InstructionText.TheVariants as instruction
use Rattle.module_grammar.specs.declared.lines.LineText.{LineText}
use Rattle.module_grammar.specs.declared.lines.VoidCallText.{VoidCallText}
use Rattle.module_grammar.specs.declared.lines.VoidCallText.TheVariants as of_void
use Rattle.module_grammar.specs.declared.places.Placed.{Placed}
use Rattle.module_walk.specs.Operations.{element_by, operation_by}
use Rattle.module_walk.specs.Values.{names, operand_by}
use Rattle.named_modules.specs.Built.{align_of, count_of, result_of}
use Rattle.named_modules.specs.Constants.{global_name}
use Rattle.named_modules.specs.Lines.{is_kept}
use Rattle.named_modules.specs.Types.{type_of}
use Rattle.named_modules.specs.Values.{extensions_of}

-- ---- calls

abbrev pub argument_by : ArgumentText → Argument
argument_by w = record { operand = operand_by names (record { ty = w.ty; value = w.value }); extensions = extensions_of w.attributes }

-- a call without its name
abbrev pub call_with : Extensions → Ty → Name → List ArgumentText → Call
call_with extensions result callee arguments = record {
  name = None;
  result = result;
  result_extensions = extensions;
  callee = callee;
  arguments = map argument_by arguments;
}

abbrev pub kept_of_void : VoidCallText → Option Call
kept_of_void (of_void.Call callee end) = Some (call_with not_extended (result_of None) callee.what end.arguments)
kept_of_void (of_void.Debug callee attributes) = None

-- the call, unless debugging alone wants it
abbrev pub kept_call : CallBodyText → Option Call
kept_call (call.Convention attributes c end) =
    Some (call_with (extensions_of attributes) (result_of c.result) (global_name c.name).what end.arguments)
kept_call (call.Attributes first others c end) =
    Some (call_with (extensions_of (first ∷ others)) (result_of c.result) (global_name c.name).what end.arguments)
kept_call (call.Typed t types callee end) = Some (call_with not_extended (type_of t) (global_name callee).what end.arguments)
kept_call (call.Void v) = kept_of_void v.call

-- what a call of this type sets, if its name is this one: of `void` nothing
abbrev pub set_at_level : Name → Ty-F Ty → Option Name
set_at_level x layer.Void = None
set_at_level x other = Some x

abbrev pub set_by_call : Name → Ty → Option Name
set_by_call x t = set_at_level x (out-Ty t)

abbrev pub call_named : Name → Call → Instr
call_named x c = instr.Call (record c { name = set_by_call x c.result })

-- ---- lines

abbrev pub calm_named : Name → Expr Name → Instr
calm_named x right = instr.Calm (record { name = x; right = right })

abbrev pub alloca_at : Name → Ty → Option (Ty × ℕ) → Option ℕ → Instr
alloca_at x of count align = instr.Alloca (record { name = x; of = of; to = Ptr of; count = count; align = align })

abbrev pub store_by : OperandText → OperandText → Option (Placed Number) → Instr
store_by value address align = instr.Store (record { value = operand_by names value; pointer = operand_by names address; align = align_of align })

-- the line of this name, unless it is dropped
abbrev pub line_named : List NamedTy → Name → InstructionText → Option Instr
line_named types x (instruction.Operation w) = Some (calm_named x (operation_by names w))
line_named types x (instruction.Element w) = Some (calm_named x (expr.Element (element_by names types w)))
line_named types x (instruction.Alloca w) = Some (alloca_at x (type_of w.ty) (count_of w.count) (align_of w.align))
line_named types x (instruction.Load w) =
    Some (calm_named x (expr.Load (record { of = type_of w.ty; pointer = operand_by names w.address; align = align_of w.align })))
line_named types x (instruction.Store w) = Some (store_by w.value w.address w.align)
line_named types x (instruction.Call w) = option_map (call_named x) (kept_call w.body)

-- ---- lines of a block

-- a first line, unless it is dropped
abbrev pub first_kept : Option (Placed Name) → AttachedText → List LineText
first_kept register attached = filter is_kept (record { register = register; attached = attached } ∷ [])
