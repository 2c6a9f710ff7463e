-- The rules of lines and expressions.
use Rattle.std.specs.Prelude.{true, false, [], ◌∷◌, Some, None}
use Rattle.module_grammar.specs.Joined.{align_from, count_from, indices_from}
use Rattle.module_grammar.specs.Right.{rule, BITCAST, DEBUG, ELEMENT, EXACT, FLAG, GLOBAL, LOCAL, NUMBER, OVERFLOW, PLAIN, PRED, RESIZE, a_call_body, a_call_end, a_callee, a_count_behind, a_function_type, a_global_name, a_line, a_next_align, a_next_count, a_next_index, a_param_attribute, a_register, a_result_type, a_value, a_void_call, a_void_callee, all_arguments, all_attachments, all_flags, all_function_attributes, all_indices, all_lines, all_more_arguments, all_param_attributes, an_align, an_align_behind, an_any_type, an_argument, an_attach, an_attachment, an_exactness, an_inbounds, an_indices_behind, an_int, an_operand, an_operation, an_operator, comma, fixed}
use Rattle.module_grammar.specs.Sorts.{vocabulary}
use Rattle.module_grammar.specs.Symbols as symbol
use Rattle.module_grammar.specs.declared.commas.NextAlignText.TheVariants as next_align
use Rattle.module_grammar.specs.declared.commas.NextCountText.TheVariants as next_count
use Rattle.module_grammar.specs.declared.commas.NextIndexText.TheVariants as next_index
use Rattle.module_grammar.specs.declared.lines.CallBodyText.TheVariants as call_body
use Rattle.module_grammar.specs.declared.lines.CastWord.TheVariants as cast_word
use Rattle.module_grammar.specs.declared.lines.ExprText.TheVariants as expression
use Rattle.module_grammar.specs.declared.lines.InstructionText.TheVariants as instruction
use Rattle.module_grammar.specs.declared.lines.OperationText.TheVariants as form
use Rattle.module_grammar.specs.declared.lines.OperatorText.TheVariants as operators
use Rattle.module_grammar.specs.declared.lines.VoidCallText.TheVariants as void_call
use Rattle.predictive.specs.Typed.{Rule}

abbrev pub overflow : Rule vocabulary
overflow = rule 52 (OVERFLOW ∷ all_flags ∷ []) (λ op flags. operators.Overflow op flags)

abbrev pub exact : Rule vocabulary
exact = rule 52 (EXACT ∷ an_exactness ∷ []) (λ op is_exact. operators.Exact op is_exact)

abbrev pub plain : Rule vocabulary
plain = rule 52 (PLAIN ∷ []) (λ op. operators.Plain op)

abbrev pub flags_end : Rule vocabulary
flags_end = rule 53 [] []

abbrev pub flags : Rule vocabulary
flags = rule 53 (FLAG ∷ all_flags ∷ []) (λ f fs. f ∷ fs)

abbrev pub inexact : Rule vocabulary
inexact = rule 54 [] false

abbrev pub exactly : Rule vocabulary
exactly = rule 54 (fixed symbol.exact ∷ []) true

-- operator T V , V
abbrev pub binary : Rule vocabulary
binary =
    rule
    55
    (an_operator ∷ an_operand ∷ comma ∷ a_value ∷ [])
    (λ operator left right. form.Binary (record { operator = operator; left = left; right = right }))

-- icmp PRED T V , V
abbrev pub compare : Rule vocabulary
compare =
    rule
    55
    (fixed symbol.icmp ∷ PRED ∷ an_operand ∷ comma ∷ a_value ∷ [])
    (λ pred left right. form.Compare (record { pred = pred; left = left; right = right }))

-- RESIZE T V to T
abbrev pub resize : Rule vocabulary
resize =
    rule
    55
    (RESIZE ∷ an_operand ∷ fixed symbol.to ∷ an_any_type ∷ [])
    (λ op from to. form.Cast (record { word = cast_word.Resize op; from = from; to = to }))

-- bitcast T V to T
abbrev pub bitcast : Rule vocabulary
bitcast =
    rule
    55
    (BITCAST ∷ an_operand ∷ fixed symbol.to ∷ an_any_type ∷ [])
    (λ at from to. form.Cast (record { word = cast_word.BitCast at; from = from; to = to }))

-- select T V , T V , T V
abbrev pub select : Rule vocabulary
select =
    rule
    55
    (fixed symbol.select ∷ an_operand ∷ comma ∷ an_operand ∷ comma ∷ an_operand ∷ [])
    (λ condition first other. form.Select (record { condition = condition; then = first; other = other }))

abbrev pub operation : Rule vocabulary
operation =
    rule
    56
    (an_operation ∷ all_attachments ∷ [])
    (λ o attachments. record { instruction = instruction.Operation o; attachments = attachments })

-- getelementptr [inbounds] T , T V indices
abbrev pub element : Rule vocabulary
element =
    rule
    56
    (ELEMENT ∷ an_inbounds ∷ an_any_type ∷ comma ∷ an_operand ∷ an_indices_behind ∷ [])
    (λ at inbounds of base b. record { instruction = instruction.Element (record { at = at; inbounds = inbounds; of = of; base = base; indices = b.indices }); attachments = b.attachments })

-- alloca T count
abbrev pub alloca : Rule vocabulary
alloca =
    rule
    56
    (fixed symbol.alloca ∷ an_any_type ∷ a_count_behind ∷ [])
    (λ ty b. record { instruction = instruction.Alloca (record { ty = ty; count = b.count; align = b.behind.align }); attachments = b.behind.attachments })

-- load T , T V align
abbrev pub load : Rule vocabulary
load =
    rule
    56
    (fixed symbol.load ∷ an_any_type ∷ comma ∷ an_operand ∷ an_align_behind ∷ [])
    (λ ty address b. record { instruction = instruction.Load (record { ty = ty; address = address; align = b.align }); attachments = b.attachments })

-- store T V , T V align
abbrev pub store : Rule vocabulary
store =
    rule
    56
    (fixed symbol.store ∷ an_operand ∷ comma ∷ an_operand ∷ an_align_behind ∷ [])
    (λ v address b. record { instruction = instruction.Store (record { value = v; address = address; align = b.align }); attachments = b.attachments })

-- tail call body
abbrev pub tail_call : Rule vocabulary
tail_call =
    rule
    56
    (fixed symbol.tail ∷ fixed symbol.call ∷ a_call_body ∷ all_attachments ∷ [])
    (λ body attachments. record { instruction = instruction.Call (record { tail = true; body = body }); attachments = attachments })

-- call body
abbrev pub call : Rule vocabulary
call =
    rule
    56
    (fixed symbol.call ∷ a_call_body ∷ all_attachments ∷ [])
    (λ body attachments. record { instruction = instruction.Call (record { tail = false; body = body }); attachments = attachments })

abbrev pub no_align_behind : Rule vocabulary
no_align_behind = rule 57 [] (record { align = None; attachments = [] })

-- , next
abbrev pub align_behind : Rule vocabulary
align_behind = rule 57 (comma ∷ a_next_align ∷ []) (λ x. align_from x)

-- align N
abbrev pub align_next : Rule vocabulary
align_next = rule 58 (fixed symbol.align ∷ NUMBER ∷ all_attachments ∷ []) (λ n attachments. next_align.Align n attachments)

abbrev pub align_attachment : Rule vocabulary
align_attachment = rule 58 (an_attachment ∷ all_attachments ∷ []) (λ first others. next_align.Attachment first others)

abbrev pub no_count_behind : Rule vocabulary
no_count_behind = rule 59 [] (record { count = None; behind = record { align = None; attachments = [] } })

-- , next
abbrev pub count_behind : Rule vocabulary
count_behind = rule 59 (comma ∷ a_next_count ∷ []) (λ x. count_from x)

-- T INT
abbrev pub count_next : Rule vocabulary
count_next = rule 60 (an_any_type ∷ an_int ∷ an_align_behind ∷ []) (λ ty n b. next_count.Count (record { ty = ty; number = n }) b)

abbrev pub no_next_count : Rule vocabulary
no_next_count = rule 60 (a_next_align ∷ []) (λ x. next_count.Other x)

abbrev pub no_indices_behind : Rule vocabulary
no_indices_behind = rule 61 [] (record { indices = []; attachments = [] })

-- , next
abbrev pub indices_behind : Rule vocabulary
indices_behind = rule 61 (comma ∷ a_next_index ∷ []) (λ x. indices_from x)

abbrev pub index_next : Rule vocabulary
index_next = rule 62 (an_operand ∷ an_indices_behind ∷ []) (λ o more. next_index.Index o more)

abbrev pub index_attachment : Rule vocabulary
index_attachment = rule 62 (an_attachment ∷ all_attachments ∷ []) (λ first others. next_index.Attachment first others)

-- ccc attributes callee end
abbrev pub convention_call : Rule vocabulary
convention_call =
    rule
    63
    (fixed symbol.ccc ∷ all_param_attributes ∷ a_callee ∷ a_call_end ∷ [])
    (λ attributes callee end. call_body.Convention attributes callee end)

-- attributes callee end
abbrev pub attributes_call : Rule vocabulary
attributes_call =
    rule
    63
    (a_param_attribute ∷ all_param_attributes ∷ a_callee ∷ a_call_end ∷ [])
    (λ first others callee end. call_body.Attributes first others callee end)

-- T [( types )] GLOBAL end
abbrev pub typed_call : Rule vocabulary
typed_call =
    rule
    63
    (an_any_type ∷ a_function_type ∷ a_global_name ∷ a_call_end ∷ [])
    (λ ty called name end. call_body.Typed ty called name end)

-- void callee
abbrev pub call_of_void : Rule vocabulary
call_of_void = rule 63 (fixed symbol.void ∷ a_void_callee ∷ []) (λ v. call_body.Void v)

-- (void | T) [( types )] GLOBAL
abbrev pub callee : Rule vocabulary
callee =
    rule
    64
    (a_result_type ∷ a_function_type ∷ a_global_name ∷ [])
    (λ result called name. record { result = result; called = called; name = name })

abbrev pub void_callee : Rule vocabulary
void_callee = rule 65 (a_void_call ∷ []) (λ call. record { is_stated = false; call = call })

-- ( balanced ) call
abbrev pub stated_callee : Rule vocabulary
stated_callee =
    rule
    65
    (fixed symbol.open_paren ∷ fixed symbol.balanced ∷ fixed symbol.close_paren ∷ a_void_call ∷ [])
    (λ call. record { is_stated = true; call = call })

abbrev pub plain_call : Rule vocabulary
plain_call = rule 66 (GLOBAL ∷ a_call_end ∷ []) (λ name end. void_call.Call name end)

-- DEBUG ( balanced ) attributes
abbrev pub debug_call : Rule vocabulary
debug_call =
    rule
    66
    (DEBUG ∷ fixed symbol.open_paren ∷ fixed symbol.balanced ∷ fixed symbol.close_paren ∷ all_function_attributes ∷ [])
    (λ name attributes. void_call.Debug name attributes)

-- ( arguments ) attributes
abbrev pub call_end : Rule vocabulary
call_end =
    rule
    67
    (fixed symbol.open_paren ∷ all_arguments ∷ fixed symbol.close_paren ∷ all_function_attributes ∷ [])
    (λ arguments attributes. record { arguments = arguments; attributes = attributes })

abbrev pub arguments_end : Rule vocabulary
arguments_end = rule 68 [] []

abbrev pub arguments : Rule vocabulary
arguments = rule 68 (an_argument ∷ all_more_arguments ∷ []) (λ a more. a ∷ more)

abbrev pub more_arguments_end : Rule vocabulary
more_arguments_end = rule 69 [] []

-- , argument
abbrev pub more_arguments : Rule vocabulary
more_arguments = rule 69 (comma ∷ an_argument ∷ all_more_arguments ∷ []) (λ a more. a ∷ more)

-- T attributes V
abbrev pub argument : Rule vocabulary
argument =
    rule
    70
    (an_any_type ∷ all_param_attributes ∷ a_value ∷ [])
    (λ ty attributes v. record { ty = ty; attributes = attributes; value = v })

-- [LOCAL =] instruction
abbrev pub line : Rule vocabulary
line = rule 71 (a_register ∷ an_attach ∷ []) (λ register attached. record { register = register; attached = attached })

abbrev pub no_register : Rule vocabulary
no_register = rule 72 [] None

abbrev pub register : Rule vocabulary
register = rule 72 (LOCAL ∷ fixed symbol.equals ∷ []) (λ name. Some name)

abbrev pub lines_end : Rule vocabulary
lines_end = rule 73 [] []

abbrev pub lines : Rule vocabulary
lines = rule 73 (a_line ∷ all_lines ∷ []) (λ l ls. l ∷ ls)

abbrev pub expression_operand : Rule vocabulary
expression_operand = rule 74 (an_operand ∷ []) (λ o. expression.Plain o)

abbrev pub expression_operation : Rule vocabulary
expression_operation = rule 74 (an_operation ∷ []) (λ o. expression.Operation o)

-- getelementptr [inbounds] T , T V indices
abbrev pub expression_element : Rule vocabulary
expression_element =
    rule
    74
    (ELEMENT ∷ an_inbounds ∷ an_any_type ∷ comma ∷ an_operand ∷ all_indices ∷ [])
    (λ at inbounds of base indices. expression.Element (record { at = at; inbounds = inbounds; of = of; base = base; indices = indices }))

-- load T , T V align
abbrev pub expression_load : Rule vocabulary
expression_load =
    rule
    74
    (fixed symbol.load ∷ an_any_type ∷ comma ∷ an_operand ∷ an_align ∷ [])
    (λ ty address align. expression.Load (record { ty = ty; address = address; align = align }))

abbrev pub indices_end : Rule vocabulary
indices_end = rule 75 [] []

-- , T V
abbrev pub indices : Rule vocabulary
indices = rule 75 (comma ∷ an_operand ∷ all_indices ∷ []) (λ o more. o ∷ more)

abbrev pub local_name : Rule vocabulary
local_name = rule 76 (LOCAL ∷ []) (λ name. name)
