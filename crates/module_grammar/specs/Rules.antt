-- The grammar, without shared beginnings, and what each rule makes.
use Rattle.std.specs.Prelude.{ℕ, List, [], ◌∷◌}
use Rattle.module_grammar.specs.declared.parts.Part.{Part}
use Rattle.module_grammar.specs.AttributeRules as attribute_rules
use Rattle.module_grammar.specs.BlockRules as block_rules
use Rattle.module_grammar.specs.ConstantRules as constant_rules
use Rattle.module_grammar.specs.FunctionRules as function_rules
use Rattle.module_grammar.specs.ItemRules as item_rules
use Rattle.module_grammar.specs.LineRules as line_rules
use Rattle.module_grammar.specs.TypeRules as type_rules
use Rattle.module_grammar.specs.Sorts.{sort, vocabulary, written}
use Rattle.module_grammar.specs.Symbols as symbol
use Rattle.predictive.specs.Grammar.{Grammar}
use Rattle.predictive.specs.Meaning.{Meaning}
use Rattle.predictive.specs.Typed.{Rule, meaning_of}

abbrev pub rules : List (Rule vocabulary)
rules =
    item_rules.items_end ∷ item_rules.items ∷ item_rules.target ∷ item_rules.attributes ∷ item_rules.metadata ∷ item_rules.declaration ∷
    item_rules.named_type ∷ item_rules.global ∷ item_rules.definition ∷ item_rules.opaque ∷ item_rules.struct_body ∷
    item_rules.external_global ∷ item_rules.held_global ∷ item_rules.no_global_linkage ∷ item_rules.global_linkage ∷
    item_rules.no_align ∷ item_rules.align ∷ function_rules.declared ∷ function_rules.declared_debug ∷
    function_rules.no_declared_params ∷ function_rules.declared_params ∷ function_rules.no_more_declared ∷ function_rules.more_declared ∷
    function_rules.declared_open ∷ function_rules.declared_param ∷ function_rules.result ∷ function_rules.no_convention ∷
    function_rules.convention ∷ function_rules.void_result ∷ function_rules.typed_result ∷ function_rules.head ∷
    function_rules.head_end ∷ function_rules.no_unnamed_addr ∷ function_rules.unnamed_addr ∷ function_rules.no_linkage ∷
    function_rules.word_linkage ∷ function_rules.external_linkage ∷ function_rules.params_end ∷ function_rules.params ∷
    function_rules.more_params_end ∷ function_rules.more_params ∷ function_rules.param ∷ function_rules.unnamed ∷ function_rules.named ∷
    attribute_rules.param_attributes_end ∷ attribute_rules.param_attributes ∷ attribute_rules.extension ∷ attribute_rules.param_word ∷
    attribute_rules.param_access ∷ attribute_rules.sized ∷ attribute_rules.param_align ∷ attribute_rules.function_attributes_end ∷
    attribute_rules.function_attributes ∷ attribute_rules.group ∷ attribute_rules.text_attribute ∷ attribute_rules.function_align ∷
    attribute_rules.align_stack ∷ attribute_rules.function_word ∷ attribute_rules.function_access ∷ attribute_rules.no_attribute_value ∷
    attribute_rules.attribute_value ∷ attribute_rules.not_attached ∷ attribute_rules.attached ∷ attribute_rules.attachments_end ∷
    attribute_rules.attachments ∷ attribute_rules.attachment ∷ attribute_rules.named_meta ∷ attribute_rules.bang_meta ∷
    attribute_rules.no_meta_arguments ∷ attribute_rules.meta_arguments ∷ attribute_rules.bang_text ∷ attribute_rules.bang_node ∷
    attribute_rules.not_distinct ∷ attribute_rules.distinct ∷ type_rules.pointers ∷ type_rules.int_type ∷ type_rules.named_base ∷
    type_rules.array_type ∷ type_rules.struct_type ∷ type_rules.stars_end ∷ type_rules.stars ∷ type_rules.types_end ∷ type_rules.types ∷
    type_rules.more_types_end ∷ type_rules.more_types ∷ type_rules.not_called ∷ type_rules.called ∷ type_rules.no_more_called ∷
    type_rules.more_called ∷ type_rules.called_open ∷ type_rules.called_type ∷ type_rules.no_function_type ∷ type_rules.function_type ∷
    constant_rules.plain_name ∷ constant_rules.debug_name ∷ constant_rules.number ∷ constant_rules.truth ∷ constant_rules.not_inbounds ∷
    constant_rules.inbounds ∷ constant_rules.int_const ∷ constant_rules.null_const ∷ constant_rules.undef_const ∷
    constant_rules.global_const ∷ constant_rules.element_const ∷ constant_rules.cast_const ∷ constant_rules.more_consts_end ∷
    constant_rules.more_consts ∷ constant_rules.const_init ∷ constant_rules.zero_init ∷ constant_rules.bytes_init ∷
    constant_rules.array_init ∷ constant_rules.struct_init ∷ constant_rules.inits_end ∷ constant_rules.inits ∷
    constant_rules.more_inits_end ∷ constant_rules.more_inits ∷ constant_rules.const_value ∷ constant_rules.local ∷
    constant_rules.old_register ∷ constant_rules.ghost_register ∷ constant_rules.operand ∷ line_rules.overflow ∷ line_rules.exact ∷
    line_rules.plain ∷ line_rules.flags_end ∷ line_rules.flags ∷ line_rules.inexact ∷ line_rules.exactly ∷ line_rules.binary ∷
    line_rules.compare ∷ line_rules.resize ∷ line_rules.bitcast ∷ line_rules.select ∷ line_rules.operation ∷ line_rules.element ∷
    line_rules.alloca ∷ line_rules.load ∷ line_rules.store ∷ line_rules.tail_call ∷ line_rules.call ∷ line_rules.no_align_behind ∷
    line_rules.align_behind ∷ line_rules.align_next ∷ line_rules.align_attachment ∷ line_rules.no_count_behind ∷
    line_rules.count_behind ∷ line_rules.count_next ∷ line_rules.no_next_count ∷ line_rules.no_indices_behind ∷
    line_rules.indices_behind ∷ line_rules.index_next ∷ line_rules.index_attachment ∷ line_rules.convention_call ∷
    line_rules.attributes_call ∷ line_rules.typed_call ∷ line_rules.call_of_void ∷ line_rules.callee ∷ line_rules.void_callee ∷
    line_rules.stated_callee ∷ line_rules.plain_call ∷ line_rules.debug_call ∷ line_rules.call_end ∷ line_rules.arguments_end ∷
    line_rules.arguments ∷ line_rules.more_arguments_end ∷ line_rules.more_arguments ∷ line_rules.argument ∷ line_rules.line ∷
    line_rules.no_register ∷ line_rules.register ∷ line_rules.lines_end ∷ line_rules.lines ∷ line_rules.expression_operand ∷
    line_rules.expression_operation ∷ line_rules.expression_element ∷ line_rules.expression_load ∷ line_rules.indices_end ∷
    line_rules.indices ∷ line_rules.local_name ∷ block_rules.block ∷ block_rules.no_label ∷ block_rules.label ∷ block_rules.blocks_end ∷
    block_rules.blocks ∷ block_rules.body_end ∷ block_rules.body ∷ block_rules.behind_phi ∷ block_rules.behind_line ∷ block_rules.node ∷
    block_rules.no_entries_behind ∷ block_rules.entries_behind ∷ block_rules.entry_next ∷ block_rules.entry_attachment ∷
    block_rules.entry ∷ block_rules.end ∷ block_rules.ret ∷ block_rules.br ∷ block_rules.switch ∷ block_rules.unreachable ∷
    block_rules.returned_void ∷ block_rules.returned ∷ block_rules.always ∷ block_rules.condition ∷ block_rules.cases_end ∷
    block_rules.cases ∷ block_rules.case ∷ []

-- how a nonterminal's values are written
abbrev pub written_at : (n : ℕ) → vocabulary.Value n → List symbol.Symbol
written_at n v = written (sort n) v

abbrev pub first_rule : Rule vocabulary
first_rule = item_rules.items_end

abbrev pub meaning : Meaning
meaning = meaning_of vocabulary written_at first_rule rules

abbrev pub grammar : Grammar
grammar = meaning.grammar

abbrev pub acts : ℕ → List Part → List Part
acts p s = meaning.act p s
