-- Lines that are built where their names are known are those that are built where a number is due.
use Rattle.std.proofs.Common.{◌≡◌, ◌∙◌, ℕ, cond, List, [], ◌∷◌, map, Option, None, Some, ap, refl}
use Rattle.std.specs.Option.{option_map}
use Rattle.ir_core.specs.declared.expressions.Element.{Element}
use Rattle.ir_core.specs.declared.expressions.Expr.TheVariants as expr
use Rattle.ir_core.specs.declared.functions.Argument.{Argument}
use Rattle.ir_core.specs.declared.functions.Extensions.{Extensions}
use Rattle.ir_core.specs.declared.functions.Instr.{Instr}
use Rattle.ir_core.specs.declared.functions.Instr.TheVariants as instr
use Rattle.ir_core.specs.declared.operands.Operand.{Operand}
use Rattle.ir_core.specs.Modules.{not_extended}
use Rattle.ir_types.specs.declared.named.NamedTy.{NamedTy}
use Rattle.ir_types.specs.declared.names.Name.{Name}
use Rattle.ir_types.specs.declared.ty.Ty.{Ty, Void}
use Rattle.module_grammar.specs.declared.lines.ArgumentText.{ArgumentText}
use Rattle.module_grammar.specs.declared.lines.CallBodyText.{CallBodyText}
use Rattle.module_grammar.specs.declared.lines.CallBodyText.TheVariants as call
use Rattle.module_grammar.specs.declared.lines.ElementText.{ElementText}
use Rattle.module_grammar.specs.declared.lines.InstructionText.{InstructionText}
use Rattle.module_grammar.specs.declared.lines.InstructionText.TheVariants as instruction
use Rattle.module_grammar.specs.declared.lines.OperationText.{OperationText}
use Rattle.module_grammar.specs.declared.lines.OperationText.TheVariants as form
use Rattle.module_grammar.specs.declared.lines.VoidCallText.{VoidCallText}
use Rattle.module_grammar.specs.declared.lines.VoidCallText.TheVariants as of_void
use Rattle.module_grammar.specs.declared.places.Placed.{Placed}
use Rattle.module_grammar.specs.Operators.{operator_op}
use Rattle.module_walk.proofs.Namings.{operand_of_names, operands_of_names, value_of_names}
use Rattle.module_walk.proofs.SetByCalls.{by_result, by_void}
use Rattle.module_walk.specs.Lines.{argument_by, call_named, call_with, calm_named, kept_call, kept_of_void, line_named, set_by_call}
use Rattle.module_walk.specs.Operations.{element_at, element_by, operation_by}
use Rattle.module_walk.specs.Values.{names, operand_by, value_by}
use Rattle.named_modules.specs.Built.{align_of, argument_of, call_of, line_at, name_due, operand_of, operation_of, result_name, result_of, value_at, void_called}
use Rattle.named_modules.specs.Constants.{global_name}
use Rattle.named_modules.specs.Lines.{cast_op, flags_of, is_debug_call, is_dropped, is_dropped_call}
use Rattle.named_modules.specs.Types.{type_of}
use Rattle.named_modules.specs.Values.{extensions_of}

-- ---- operations and addresses

pub operation_of_names : (w : OperationText) → operation_by names w ≡ operation_of w
operation_of_names (form.Binary w) =
    let t = type_of w.left.ty in
    ap (λ a. expr.Binary (record { op = operator_op w.operator; flags = flags_of w.operator; ty = t; left = a; right = value_by names t w.right })) (value_of_names t w.left.value)
    ∙ ap (λ a. expr.Binary (record { op = operator_op w.operator; flags = flags_of w.operator; ty = t; left = value_at t w.left.value; right = a })) (value_of_names t w.right)
operation_of_names (form.Compare w) =
    let t = type_of w.left.ty in
    ap (λ a. expr.Icmp (record { pred = w.pred; ty = t; left = a; right = value_by names t w.right })) (value_of_names t w.left.value)
    ∙ ap (λ a. expr.Icmp (record { pred = w.pred; ty = t; left = value_at t w.left.value; right = a })) (value_of_names t w.right)
operation_of_names (form.Cast w) = ap (λ o. expr.Cast (record { op = cast_op w.word; operand = o; to = type_of w.to })) (operand_of_names w.from)
operation_of_names (form.Select w) =
    ap (λ o. expr.Select (record { condition = o; left = operand_by names w.then; right = operand_by names w.other })) (operand_of_names w.condition)
    ∙ ap (λ o. expr.Select (record { condition = operand_of w.condition; left = o; right = operand_by names w.other })) (operand_of_names w.then)
    ∙ ap (λ o. expr.Select (record { condition = operand_of w.condition; left = operand_of w.then; right = o })) (operand_of_names w.other)

abbrev element_of : List NamedTy → ElementText → Element Name
element_of types w = element_at types w.inbounds (type_of w.of) (operand_of w.base) (map operand_of w.indices)

element_of_names : (types : List NamedTy) (w : ElementText) → element_by names types w ≡ element_of types w
element_of_names types w =
    ap (λ o. element_at types w.inbounds (type_of w.of) o (map (operand_by names) w.indices)) (operand_of_names w.base)
    ∙ ap (λ os. element_at types w.inbounds (type_of w.of) (operand_of w.base) os) (operands_of_names w.indices)

-- ---- calls

argument_of_names : (w : ArgumentText) → argument_by w ≡ argument_of w
argument_of_names w =
    let argument : Operand Name → Argument = λ o. record { operand = o; extensions = extensions_of w.attributes } in
    ap argument (operand_of_names (record { ty = w.ty; value = w.value }))

arguments_of_names : (ws : List ArgumentText) → map argument_by ws ≡ map argument_of ws
arguments_of_names [] = refl
arguments_of_names (w ∷ ws) = ap (λ a. a ∷ map argument_by ws) (argument_of_names w) ∙ ap (λ rest. argument_of w ∷ rest) (arguments_of_names ws)

abbrev call_so : Extensions → Ty → Name → Option Name → List Argument → Instr
call_so extensions result callee name arguments =
    instr.Call (record { name = name; result = result; result_extensions = extensions; callee = callee; arguments = arguments })

named : (extensions : Extensions) (t : Ty) (x callee : Name) (name : Option Name) (ws : List ArgumentText) → set_by_call x t ≡ name
    → call_named x (call_with extensions t callee ws) ≡ call_so extensions t callee name (map argument_of ws)
named extensions t x callee name ws sets =
    ap (λ n. call_so extensions t callee n (map argument_by ws)) sets ∙ ap (λ rest. call_so extensions t callee name rest) (arguments_of_names ws)

module _ (due : ℕ) (register : Option (Placed Name)) where
  void_kept : (c : VoidCallText) → option_map (call_named (name_due due register)) (kept_of_void c) ≡ cond (is_debug_call c) None (Some (void_called due c))
  void_kept (of_void.Call callee end) = ap Some (named not_extended Void (name_due due register) callee.what None end.arguments (by_void (name_due due register)))
  void_kept (of_void.Debug callee attributes) = refl

  call_kept : (c : CallBodyText) → option_map (call_named (name_due due register)) (kept_call c) ≡ cond (is_dropped_call c) None (Some (call_of due register c))
  call_kept (call.Convention ws c end) =
      ap Some (named (extensions_of ws) (result_of c.result) (name_due due register) (global_name c.name).what (result_name due register c.result) end.arguments (by_result due register c.result))
  call_kept (call.Attributes w ws c end) =
      ap Some (named (extensions_of (w ∷ ws)) (result_of c.result) (name_due due register) (global_name c.name).what (result_name due register c.result) end.arguments (by_result due register c.result))
  call_kept (call.Typed t types callee end) =
      ap Some (named not_extended (type_of t) (name_due due register) (global_name callee).what (result_name due register (Some t)) end.arguments (by_result due register (Some t)))
  call_kept (call.Void v) = void_kept v.call

  -- ---- lines

  pub line_kept : (types : List NamedTy) (i : InstructionText) → line_named types (name_due due register) i ≡ cond (is_dropped i) None (Some (line_at types due register i))
  line_kept types (instruction.Operation w) = ap (λ e. Some (calm_named (name_due due register) e)) (operation_of_names w)
  line_kept types (instruction.Element w) = ap (λ e. Some (calm_named (name_due due register) (expr.Element e))) (element_of_names types w)
  line_kept types (instruction.Alloca w) = refl
  line_kept types (instruction.Load w) =
      ap (λ o. Some (calm_named (name_due due register) (expr.Load (record { of = type_of w.ty; pointer = o; align = align_of w.align })))) (operand_of_names w.address)
  line_kept types (instruction.Store w) =
      ap (λ o. Some (instr.Store (record { value = o; pointer = operand_by names w.address; align = align_of w.align }))) (operand_of_names w.value)
      ∙ ap (λ o. Some (instr.Store (record { value = operand_of w.value; pointer = o; align = align_of w.align }))) (operand_of_names w.address)
  line_kept types (instruction.Call w) = call_kept w.body
