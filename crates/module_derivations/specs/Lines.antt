-- What is seen ahead of lines and expressions.
use Rattle.std.specs.Prelude.{ℕ, Bool, true, false, List, [], ◌∷◌, Option, Some, None}
use Rattle.ir_types.specs.declared.names.Name.{Name}
use Rattle.module_grammar.specs.declared.commas.AlignBehindText.{AlignBehindText}
use Rattle.module_grammar.specs.declared.commas.CountBehindText.{CountBehindText}
use Rattle.module_grammar.specs.declared.commas.IndicesBehindText.{IndicesBehindText}
use Rattle.module_grammar.specs.declared.commas.NextAlignText.{NextAlignText}
use Rattle.module_grammar.specs.declared.commas.NextCountText.{NextCountText}
use Rattle.module_grammar.specs.declared.commas.NextIndexText.{NextIndexText}
use Rattle.module_grammar.specs.declared.constants.OperandText.{OperandText}
use Rattle.module_grammar.specs.declared.lines.ArgumentText.{ArgumentText}
use Rattle.module_grammar.specs.declared.lines.AttachedText.{AttachedText}
use Rattle.module_grammar.specs.declared.lines.CallBodyText.{CallBodyText}
use Rattle.module_grammar.specs.declared.lines.CallEndText.{CallEndText}
use Rattle.module_grammar.specs.declared.lines.CalleeText.{CalleeText}
use Rattle.module_grammar.specs.declared.lines.ExprText.{ExprText}
use Rattle.module_grammar.specs.declared.lines.LineText.{LineText}
use Rattle.module_grammar.specs.declared.lines.OperationText.{OperationText}
use Rattle.module_grammar.specs.declared.lines.OperatorText.{OperatorText}
use Rattle.module_grammar.specs.declared.lines.VoidCallText.{VoidCallText}
use Rattle.module_grammar.specs.declared.lines.VoidCalleeText.{VoidCalleeText}
use Rattle.module_grammar.specs.declared.operators.FlagWord.{FlagWord}
use Rattle.module_grammar.specs.declared.places.Placed.{Placed}
use Rattle.module_grammar.specs.Joined.{align_from, count_from, indices_from}
use Rattle.module_grammar.specs.declared.commas.NextAlignText.TheVariants as next_align
use Rattle.module_grammar.specs.declared.commas.NextCountText.TheVariants as next_count
use Rattle.module_grammar.specs.declared.commas.NextIndexText.TheVariants as next_index
use Rattle.module_grammar.specs.declared.lines.CallBodyText.TheVariants as call_body
use Rattle.module_grammar.specs.declared.lines.CastWord.TheVariants as cast_word
use Rattle.module_grammar.specs.declared.lines.ExprText.TheVariants as expression
use Rattle.module_grammar.specs.declared.lines.InstructionText.TheVariants as instruction
use Rattle.module_grammar.specs.declared.lines.OperationText.TheVariants as form
use Rattle.module_grammar.specs.declared.lines.OperatorText.TheVariants as operators
use Rattle.module_grammar.specs.declared.lines.VoidCallText.TheVariants as void_call
use Rattle.module_derivations.specs.FlatMarks.Flat.{behind, skip}
use Rattle.module_derivations.specs.declared.rule.TheConstants as rule
use Rattle.module_derivations.specs.Parts.{Part, if_rule}
use Rattle.module_derivations.specs.Empty.{made, said, no_operand, no_meta, no_operator, no_operation, no_attached, no_next_align, no_void_call, no_void_callee}
use Rattle.module_derivations.specs.Said.{name_of, number_of, overflow_of, exact_of, plain_of, resize_of, pred_of, flag_of, place_of}
use Rattle.module_derivations.specs.Types.{any_type}
use Rattle.module_derivations.specs.Constants.{operand}
use Rattle.module_derivations.specs.Attributes.{attachment}

-- ---- nonterminals of one rule, which is not written down

-- result_type function_type global_name
abbrev pub callee : List Part → CalleeText
callee s = record { result = (made s).result_type; called = (made (behind s)).function_type; name = (made (skip 2 s)).global_name }

-- ( arguments ) function_attributes
abbrev pub call_end : List Part → CallEndText
call_end s = record { arguments = (made s).arguments; attributes = (made (behind s)).function_attributes }

-- any_type param_attributes value
abbrev pub argument : List Part → ArgumentText
argument s = record { ty = any_type s; attributes = (made (skip 2 s)).param_attributes; value = (made (skip 3 s)).value }

-- register attach
abbrev pub line : List Part → LineText
line s = record { register = (made s).register; attached = (made (behind s)).attach }

-- LOCAL
abbrev pub local_name : List Part → Placed Name
local_name s = name_of (said s)

-- ---- what each rule makes of the parts behind its beginning

-- OVERFLOW flags; EXACT exactness; PLAIN
abbrev pub operator_by : Option ℕ → List Part → OperatorText
operator_by r s =
    if_rule r rule.OVERFLOW (operators.Overflow (overflow_of (said s)) (made (behind s)).flags)
    (if_rule r rule.EXACT (operators.Exact (exact_of (said s)) (made (behind s)).exactness)
    (if_rule r rule.PLAIN (operators.Plain (plain_of (said s)))
    no_operator))

-- FLAG flags
abbrev pub flags_by : Option ℕ → List Part → List FlagWord
flags_by r s = if_rule r rule.FLAGS (flag_of (said s) ∷ (made (behind s)).flags) []

-- exact
abbrev pub exactness_by : Option ℕ → List Part → Bool
exactness_by r s = if_rule r rule.EXACTLY true false

-- operator operand , value; icmp PRED operand , value; RESIZE operand to any_type; bitcast operand to any_type;
-- select operand , operand , operand
abbrev pub operation_by : Option ℕ → List Part → OperationText
operation_by r s =
    if_rule r rule.BINARY (form.Binary (record { operator = (made s).operator; left = operand (behind s); right = (made (skip 4 s)).value }))
    (if_rule r rule.COMPARE (form.Compare (record { pred = pred_of (said s); left = operand (behind s); right = (made (skip 4 s)).value }))
    (if_rule r rule.RESIZE (form.Cast (record { word = cast_word.Resize (resize_of (said s)); from = operand (behind s); to = any_type (skip 4 s) }))
    (if_rule r rule.BITCAST (form.Cast (record { word = cast_word.BitCast (place_of (said s)); from = operand (behind s); to = any_type (skip 4 s) }))
    (if_rule r rule.SELECT (form.Select (record { condition = operand s; then = operand (skip 3 s); other = operand (skip 6 s) }))
    no_operation))))

-- operation attachments; getelementptr inbounds any_type , operand indices_behind; alloca any_type count_behind;
-- load any_type , operand align_behind; store operand , operand align_behind; tail call call_body attachments; call call_body attachments
abbrev pub attach_by : Option ℕ → List Part → AttachedText
attach_by r s =
    if_rule r rule.OPERATION (record { instruction = instruction.Operation (made s).operation; attachments = (made (behind s)).attachments })
    (if_rule r rule.ELEMENT (record { instruction = instruction.Element (record { at = place_of (said s); inbounds = (made (behind s)).inbounds; of = any_type (skip 2 s); base = operand (skip 4 s); indices = (made (skip 7 s)).indices_behind.indices }); attachments = (made (skip 7 s)).indices_behind.attachments })
    (if_rule r rule.ALLOCA (record { instruction = instruction.Alloca (record { ty = any_type s; count = (made (skip 2 s)).count_behind.count; align = (made (skip 2 s)).count_behind.behind.align }); attachments = (made (skip 2 s)).count_behind.behind.attachments })
    (if_rule r rule.LOAD (record { instruction = instruction.Load (record { ty = any_type s; address = operand (skip 2 s); align = (made (skip 5 s)).align_behind.align }); attachments = (made (skip 5 s)).align_behind.attachments })
    (if_rule r rule.STORE (record { instruction = instruction.Store (record { value = operand s; address = operand (skip 3 s); align = (made (skip 6 s)).align_behind.align }); attachments = (made (skip 6 s)).align_behind.attachments })
    (if_rule r rule.TAIL_CALL (record { instruction = instruction.Call (record { tail = true; body = (made s).call_body }); attachments = (made (behind s)).attachments })
    (if_rule r rule.CALL (record { instruction = instruction.Call (record { tail = false; body = (made s).call_body }); attachments = (made (behind s)).attachments })
    no_attached))))))

-- , next_align
abbrev pub align_behind_by : Option ℕ → List Part → AlignBehindText
align_behind_by r s = if_rule r rule.ALIGN_BEHIND (align_from (made s).next_align) (record { align = None; attachments = [] })

-- align NUMBER attachments; attachment attachments
abbrev pub next_align_by : Option ℕ → List Part → NextAlignText
next_align_by r s =
    if_rule r rule.ALIGN_NEXT (next_align.Align (number_of (said s)) (made (behind s)).attachments)
    (if_rule r rule.ALIGN_ATTACHMENT (next_align.Attachment (attachment s) (made (behind s)).attachments)
    no_next_align)

-- , next_count
abbrev pub count_behind_by : Option ℕ → List Part → CountBehindText
count_behind_by r s = if_rule r rule.COUNT_BEHIND (count_from (made s).next_count) (record { count = None; behind = record { align = None; attachments = [] } })

-- any_type integer align_behind; next_align
abbrev pub next_count_by : Option ℕ → List Part → NextCountText
next_count_by r s =
    if_rule r rule.COUNT_NEXT (next_count.Count (record { ty = any_type s; number = (made (skip 2 s)).integer }) (made (skip 3 s)).align_behind)
    (if_rule r rule.NO_NEXT_COUNT (next_count.Other (made s).next_align)
    (next_count.Other no_next_align))

-- , next_index
abbrev pub indices_behind_by : Option ℕ → List Part → IndicesBehindText
indices_behind_by r s = if_rule r rule.INDICES_BEHIND (indices_from (made s).next_index) (record { indices = []; attachments = [] })

-- operand indices_behind; attachment attachments
abbrev pub next_index_by : Option ℕ → List Part → NextIndexText
next_index_by r s =
    if_rule r rule.INDEX_NEXT (next_index.Index (operand s) (made (skip 3 s)).indices_behind)
    (if_rule r rule.INDEX_ATTACHMENT (next_index.Attachment (attachment s) (made (behind s)).attachments)
    (next_index.Attachment no_meta []))

-- ccc param_attributes callee call_end; param_attribute param_attributes callee call_end; any_type function_type global_name call_end;
-- void void_callee
abbrev pub call_body_by : Option ℕ → List Part → CallBodyText
call_body_by r s =
    if_rule r rule.CONVENTION_CALL (call_body.Convention (made s).param_attributes (callee (behind s)) (call_end (skip 4 s)))
    (if_rule r rule.ATTRIBUTES_CALL (call_body.Attributes (made s).param_attribute (made (behind s)).param_attributes (callee (skip 2 s)) (call_end (skip 5 s)))
    (if_rule r rule.TYPED_CALL (call_body.Typed (any_type s) (made (skip 2 s)).function_type (made (skip 3 s)).global_name (call_end (skip 4 s)))
    (if_rule r rule.CALL_OF_VOID (call_body.Void (made s).void_callee)
    (call_body.Void no_void_callee))))

-- void_call; ( balanced ) void_call
abbrev pub void_callee_by : Option ℕ → List Part → VoidCalleeText
void_callee_by r s =
    if_rule r rule.VOID_CALLEE (record { is_stated = false; call = (made s).void_call })
    (if_rule r rule.STATED_CALLEE (record { is_stated = true; call = (made (behind s)).void_call })
    no_void_callee)

-- GLOBAL call_end; DEBUG ( balanced ) function_attributes
abbrev pub void_call_by : Option ℕ → List Part → VoidCallText
void_call_by r s =
    if_rule r rule.PLAIN_CALL (void_call.Call (name_of (said s)) (call_end (behind s)))
    (if_rule r rule.DEBUG_CALL (void_call.Debug (name_of (said s)) (made (skip 2 s)).function_attributes)
    no_void_call)

-- argument more_arguments
abbrev pub arguments_by : Option ℕ → List Part → List ArgumentText
arguments_by r s = if_rule r rule.ARGUMENTS (argument s ∷ (made (skip 4 s)).more_arguments) []

-- , argument more_arguments
abbrev pub more_arguments_by : Option ℕ → List Part → List ArgumentText
more_arguments_by r s = if_rule r rule.MORE_ARGUMENTS (argument s ∷ (made (skip 4 s)).more_arguments) []

-- LOCAL =
abbrev pub register_by : Option ℕ → List Part → Option (Placed Name)
register_by r s = if_rule r rule.REGISTER (Some (name_of (said s))) None

-- line lines
abbrev pub lines_by : Option ℕ → List Part → List LineText
lines_by r s = if_rule r rule.LINES (line s ∷ (made (skip 2 s)).lines) []

-- operand; operation; getelementptr inbounds any_type , operand indices; load any_type , operand align
abbrev pub expr_by : Option ℕ → List Part → ExprText
expr_by r s =
    if_rule r rule.EXPRESSION_OPERAND (expression.Plain (operand s))
    (if_rule r rule.EXPRESSION_OPERATION (expression.Operation (made s).operation)
    (if_rule r rule.EXPRESSION_ELEMENT (expression.Element (record { at = place_of (said s); inbounds = (made (behind s)).inbounds; of = any_type (skip 2 s); base = operand (skip 4 s); indices = (made (skip 7 s)).indices }))
    (if_rule r rule.EXPRESSION_LOAD (expression.Load (record { ty = any_type s; address = operand (skip 2 s); align = (made (skip 5 s)).align }))
    (expression.Plain no_operand))))

-- , operand indices
abbrev pub indices_by : Option ℕ → List Part → List OperandText
indices_by r s = if_rule r rule.INDICES (operand s ∷ (made (skip 3 s)).indices) []
