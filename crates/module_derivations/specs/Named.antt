-- Each rule of the grammar by its name.
use Rattle.std.specs.Prelude.{◌≡◌, ℕ, suc, List, [], ◌∷◌, map}
use Rattle.module_grammar.specs.ItemRules as item_rules
use Rattle.module_grammar.specs.FunctionRules as function_rules
use Rattle.module_grammar.specs.AttributeRules as attribute_rules
use Rattle.module_grammar.specs.TypeRules as type_rules
use Rattle.module_grammar.specs.ConstantRules as constant_rules
use Rattle.module_grammar.specs.LineRules as line_rules
use Rattle.module_grammar.specs.BlockRules as block_rules
use Rattle.module_grammar.specs.Rules.{rules}
use Rattle.module_grammar.specs.Sorts.{vocabulary}
use Rattle.predictive.specs.Typed.{Rule}
use Rattle.module_derivations.specs.declared.rule.TheConstants as rule

abbrev pub Named : Type 0
Named = ℕ × Rule vocabulary

abbrev pub named : List Named
named =
    -- items
    (rule.ITEMS_END, item_rules.items_end) ∷ (rule.ITEMS, item_rules.items) ∷ (rule.TARGET, item_rules.target) ∷
    (rule.ATTRIBUTES, item_rules.attributes) ∷ (rule.METADATA, item_rules.metadata) ∷ (rule.DECLARATION, item_rules.declaration) ∷
    (rule.NAMED_TYPE, item_rules.named_type) ∷ (rule.GLOBAL, item_rules.global) ∷ (rule.DEFINITION, item_rules.definition) ∷
    (rule.OPAQUE, item_rules.opaque) ∷ (rule.STRUCT_BODY, item_rules.struct_body) ∷ (rule.EXTERNAL_GLOBAL, item_rules.external_global) ∷
    (rule.HELD_GLOBAL, item_rules.held_global) ∷ (rule.NO_GLOBAL_LINKAGE, item_rules.no_global_linkage) ∷
    (rule.GLOBAL_LINKAGE, item_rules.global_linkage) ∷ (rule.NO_ALIGN, item_rules.no_align) ∷ (rule.ALIGN, item_rules.align) ∷
    -- heads, declarations and parameters
    (rule.DECLARED, function_rules.declared) ∷ (rule.DECLARED_DEBUG, function_rules.declared_debug) ∷
    (rule.NO_DECLARED_PARAMS, function_rules.no_declared_params) ∷ (rule.DECLARED_PARAMS, function_rules.declared_params) ∷
    (rule.NO_MORE_DECLARED, function_rules.no_more_declared) ∷ (rule.MORE_DECLARED, function_rules.more_declared) ∷
    (rule.DECLARED_OPEN, function_rules.declared_open) ∷ (rule.DECLARED_PARAM, function_rules.declared_param) ∷
    (rule.RESULT, function_rules.result) ∷ (rule.NO_CONVENTION, function_rules.no_convention) ∷
    (rule.CONVENTION, function_rules.convention) ∷ (rule.VOID_RESULT, function_rules.void_result) ∷
    (rule.TYPED_RESULT, function_rules.typed_result) ∷ (rule.HEAD, function_rules.head) ∷ (rule.HEAD_END, function_rules.head_end) ∷
    (rule.NO_UNNAMED_ADDR, function_rules.no_unnamed_addr) ∷ (rule.UNNAMED_ADDR, function_rules.unnamed_addr) ∷
    (rule.NO_LINKAGE, function_rules.no_linkage) ∷ (rule.WORD_LINKAGE, function_rules.word_linkage) ∷
    (rule.EXTERNAL_LINKAGE, function_rules.external_linkage) ∷ (rule.PARAMS_END, function_rules.params_end) ∷
    (rule.PARAMS, function_rules.params) ∷ (rule.MORE_PARAMS_END, function_rules.more_params_end) ∷
    (rule.MORE_PARAMS, function_rules.more_params) ∷ (rule.PARAM, function_rules.param) ∷ (rule.UNNAMED, function_rules.unnamed) ∷
    (rule.NAMED, function_rules.named) ∷
    -- attributes and metadata
    (rule.PARAM_ATTRIBUTES_END, attribute_rules.param_attributes_end) ∷ (rule.PARAM_ATTRIBUTES, attribute_rules.param_attributes) ∷
    (rule.EXTENSION, attribute_rules.extension) ∷ (rule.PARAM_WORD, attribute_rules.param_word) ∷
    (rule.PARAM_ACCESS, attribute_rules.param_access) ∷ (rule.SIZED, attribute_rules.sized) ∷
    (rule.PARAM_ALIGN, attribute_rules.param_align) ∷ (rule.FUNCTION_ATTRIBUTES_END, attribute_rules.function_attributes_end) ∷
    (rule.FUNCTION_ATTRIBUTES, attribute_rules.function_attributes) ∷ (rule.GROUP, attribute_rules.group) ∷
    (rule.TEXT_ATTRIBUTE, attribute_rules.text_attribute) ∷ (rule.FUNCTION_ALIGN, attribute_rules.function_align) ∷
    (rule.ALIGN_STACK, attribute_rules.align_stack) ∷ (rule.FUNCTION_WORD, attribute_rules.function_word) ∷
    (rule.FUNCTION_ACCESS, attribute_rules.function_access) ∷ (rule.NO_ATTRIBUTE_VALUE, attribute_rules.no_attribute_value) ∷
    (rule.ATTRIBUTE_VALUE, attribute_rules.attribute_value) ∷ (rule.NOT_ATTACHED, attribute_rules.not_attached) ∷
    (rule.ATTACHED, attribute_rules.attached) ∷ (rule.ATTACHMENTS_END, attribute_rules.attachments_end) ∷
    (rule.ATTACHMENTS, attribute_rules.attachments) ∷ (rule.ATTACHMENT, attribute_rules.attachment) ∷
    (rule.NAMED_META, attribute_rules.named_meta) ∷ (rule.BANG_META, attribute_rules.bang_meta) ∷
    (rule.NO_META_ARGUMENTS, attribute_rules.no_meta_arguments) ∷ (rule.META_ARGUMENTS, attribute_rules.meta_arguments) ∷
    (rule.BANG_TEXT, attribute_rules.bang_text) ∷ (rule.BANG_NODE, attribute_rules.bang_node) ∷
    (rule.NOT_DISTINCT, attribute_rules.not_distinct) ∷ (rule.DISTINCT, attribute_rules.distinct) ∷
    -- types
    (rule.POINTERS, type_rules.pointers) ∷ (rule.INT_TYPE, type_rules.int_type) ∷ (rule.NAMED_BASE, type_rules.named_base) ∷
    (rule.ARRAY_TYPE, type_rules.array_type) ∷ (rule.STRUCT_TYPE, type_rules.struct_type) ∷ (rule.STARS_END, type_rules.stars_end) ∷
    (rule.STARS, type_rules.stars) ∷ (rule.TYPES_END, type_rules.types_end) ∷ (rule.TYPES, type_rules.types) ∷
    (rule.MORE_TYPES_END, type_rules.more_types_end) ∷ (rule.MORE_TYPES, type_rules.more_types) ∷ (rule.NOT_CALLED, type_rules.not_called) ∷
    (rule.CALLED, type_rules.called) ∷ (rule.NO_MORE_CALLED, type_rules.no_more_called) ∷ (rule.MORE_CALLED, type_rules.more_called) ∷
    (rule.CALLED_OPEN, type_rules.called_open) ∷ (rule.CALLED_TYPE, type_rules.called_type) ∷
    (rule.NO_FUNCTION_TYPE, type_rules.no_function_type) ∷ (rule.FUNCTION_TYPE, type_rules.function_type) ∷
    -- constants, initialisers and values
    (rule.PLAIN_NAME, constant_rules.plain_name) ∷ (rule.DEBUG_NAME, constant_rules.debug_name) ∷ (rule.NUMBER, constant_rules.number) ∷
    (rule.TRUTH, constant_rules.truth) ∷ (rule.NOT_INBOUNDS, constant_rules.not_inbounds) ∷ (rule.INBOUNDS, constant_rules.inbounds) ∷
    (rule.INT_CONST, constant_rules.int_const) ∷ (rule.NULL_CONST, constant_rules.null_const) ∷
    (rule.UNDEF_CONST, constant_rules.undef_const) ∷ (rule.GLOBAL_CONST, constant_rules.global_const) ∷
    (rule.ELEMENT_CONST, constant_rules.element_const) ∷ (rule.CAST_CONST, constant_rules.cast_const) ∷
    (rule.MORE_CONSTS_END, constant_rules.more_consts_end) ∷ (rule.MORE_CONSTS, constant_rules.more_consts) ∷
    (rule.CONST_INIT, constant_rules.const_init) ∷ (rule.ZERO_INIT, constant_rules.zero_init) ∷
    (rule.BYTES_INIT, constant_rules.bytes_init) ∷ (rule.ARRAY_INIT, constant_rules.array_init) ∷
    (rule.STRUCT_INIT, constant_rules.struct_init) ∷ (rule.INITS_END, constant_rules.inits_end) ∷ (rule.INITS, constant_rules.inits) ∷
    (rule.MORE_INITS_END, constant_rules.more_inits_end) ∷ (rule.MORE_INITS, constant_rules.more_inits) ∷
    (rule.CONST_VALUE, constant_rules.const_value) ∷ (rule.LOCAL, constant_rules.local) ∷ (rule.OLD_REGISTER, constant_rules.old_register) ∷
    (rule.GHOST_REGISTER, constant_rules.ghost_register) ∷ (rule.OPERAND, constant_rules.operand) ∷
    -- lines and expressions
    (rule.OVERFLOW, line_rules.overflow) ∷ (rule.EXACT, line_rules.exact) ∷ (rule.PLAIN, line_rules.plain) ∷
    (rule.FLAGS_END, line_rules.flags_end) ∷ (rule.FLAGS, line_rules.flags) ∷ (rule.INEXACT, line_rules.inexact) ∷
    (rule.EXACTLY, line_rules.exactly) ∷ (rule.BINARY, line_rules.binary) ∷ (rule.COMPARE, line_rules.compare) ∷
    (rule.RESIZE, line_rules.resize) ∷ (rule.BITCAST, line_rules.bitcast) ∷ (rule.SELECT, line_rules.select) ∷
    (rule.OPERATION, line_rules.operation) ∷ (rule.ELEMENT, line_rules.element) ∷ (rule.ALLOCA, line_rules.alloca) ∷
    (rule.LOAD, line_rules.load) ∷ (rule.STORE, line_rules.store) ∷ (rule.TAIL_CALL, line_rules.tail_call) ∷ (rule.CALL, line_rules.call) ∷
    (rule.NO_ALIGN_BEHIND, line_rules.no_align_behind) ∷ (rule.ALIGN_BEHIND, line_rules.align_behind) ∷
    (rule.ALIGN_NEXT, line_rules.align_next) ∷ (rule.ALIGN_ATTACHMENT, line_rules.align_attachment) ∷
    (rule.NO_COUNT_BEHIND, line_rules.no_count_behind) ∷ (rule.COUNT_BEHIND, line_rules.count_behind) ∷
    (rule.COUNT_NEXT, line_rules.count_next) ∷ (rule.NO_NEXT_COUNT, line_rules.no_next_count) ∷
    (rule.NO_INDICES_BEHIND, line_rules.no_indices_behind) ∷ (rule.INDICES_BEHIND, line_rules.indices_behind) ∷
    (rule.INDEX_NEXT, line_rules.index_next) ∷ (rule.INDEX_ATTACHMENT, line_rules.index_attachment) ∷
    (rule.CONVENTION_CALL, line_rules.convention_call) ∷ (rule.ATTRIBUTES_CALL, line_rules.attributes_call) ∷
    (rule.TYPED_CALL, line_rules.typed_call) ∷ (rule.CALL_OF_VOID, line_rules.call_of_void) ∷ (rule.CALLEE, line_rules.callee) ∷
    (rule.VOID_CALLEE, line_rules.void_callee) ∷ (rule.STATED_CALLEE, line_rules.stated_callee) ∷ (rule.PLAIN_CALL, line_rules.plain_call) ∷
    (rule.DEBUG_CALL, line_rules.debug_call) ∷ (rule.CALL_END, line_rules.call_end) ∷ (rule.ARGUMENTS_END, line_rules.arguments_end) ∷
    (rule.ARGUMENTS, line_rules.arguments) ∷ (rule.MORE_ARGUMENTS_END, line_rules.more_arguments_end) ∷
    (rule.MORE_ARGUMENTS, line_rules.more_arguments) ∷ (rule.ARGUMENT, line_rules.argument) ∷ (rule.LINE, line_rules.line) ∷
    (rule.NO_REGISTER, line_rules.no_register) ∷ (rule.REGISTER, line_rules.register) ∷ (rule.LINES_END, line_rules.lines_end) ∷
    (rule.LINES, line_rules.lines) ∷ (rule.EXPRESSION_OPERAND, line_rules.expression_operand) ∷
    (rule.EXPRESSION_OPERATION, line_rules.expression_operation) ∷ (rule.EXPRESSION_ELEMENT, line_rules.expression_element) ∷
    (rule.EXPRESSION_LOAD, line_rules.expression_load) ∷ (rule.INDICES_END, line_rules.indices_end) ∷ (rule.INDICES, line_rules.indices) ∷
    (rule.LOCAL_NAME, line_rules.local_name) ∷
    -- blocks
    (rule.BLOCK, block_rules.block) ∷ (rule.NO_LABEL, block_rules.no_label) ∷ (rule.LABEL, block_rules.label) ∷
    (rule.BLOCKS_END, block_rules.blocks_end) ∷ (rule.BLOCKS, block_rules.blocks) ∷ (rule.BODY_END, block_rules.body_end) ∷
    (rule.BODY, block_rules.body) ∷ (rule.BEHIND_PHI, block_rules.behind_phi) ∷ (rule.BEHIND_LINE, block_rules.behind_line) ∷
    (rule.NODE, block_rules.node) ∷ (rule.NO_ENTRIES_BEHIND, block_rules.no_entries_behind) ∷
    (rule.ENTRIES_BEHIND, block_rules.entries_behind) ∷ (rule.ENTRY_NEXT, block_rules.entry_next) ∷
    (rule.ENTRY_ATTACHMENT, block_rules.entry_attachment) ∷ (rule.ENTRY, block_rules.entry) ∷ (rule.END, block_rules.end) ∷
    (rule.RET, block_rules.ret) ∷ (rule.BR, block_rules.br) ∷ (rule.SWITCH, block_rules.switch) ∷
    (rule.UNREACHABLE, block_rules.unreachable) ∷ (rule.RETURNED_VOID, block_rules.returned_void) ∷ (rule.RETURNED, block_rules.returned) ∷
    (rule.ALWAYS, block_rules.always) ∷ (rule.CONDITION, block_rules.condition) ∷ (rule.CASES_END, block_rules.cases_end) ∷
    (rule.CASES, block_rules.cases) ∷ (rule.CASE, block_rules.case) ∷ []

-- the numbers from i on, so many
abbrev pub numbers_from : ℕ → List Named → List ℕ
numbers_from i [] = []
numbers_from i (n ∷ more) = i ∷ numbers_from (suc i) more

-- these are the grammar's rules, in their order, and the names are their numbers
pub record RulesAreNamed : Type 0 where
  pub rules : map (λ (n : Named). n.1) named ≡ rules
  pub numbers : map (λ (n : Named). n.0) named ≡ numbers_from 0 named
