-- The rules of attributes and metadata.
use Rattle.std.specs.Prelude.{true, false, [], ◌∷◌, Some, None}
use Rattle.module_grammar.specs.Right.{rule, BRACE, EXTENSION, NUMBER, a_bang, a_function_attribute, a_meta, a_meta_arguments, a_param_attribute, all_attachments, all_function_attributes, all_param_attributes, an_attachment, an_attribute_value, comma, fixed}
use Rattle.module_grammar.specs.Sorts.{vocabulary}
use Rattle.module_grammar.specs.Symbols as symbol
use Rattle.module_grammar.specs.declared.attributes.BangText.TheVariants as bang
use Rattle.module_grammar.specs.declared.attributes.FunctionAttributeText.TheVariants as function_attribute
use Rattle.module_grammar.specs.declared.attributes.MetaText.TheVariants as meta
use Rattle.module_grammar.specs.declared.attributes.ParamAttributeText.TheVariants as param_attribute
use Rattle.predictive.specs.Typed.{Rule}

abbrev pub param_attributes_end : Rule vocabulary
param_attributes_end = rule 21 [] []

abbrev pub param_attributes : Rule vocabulary
param_attributes = rule 21 (a_param_attribute ∷ all_param_attributes ∷ []) (λ a more. a ∷ more)

abbrev pub extension : Rule vocabulary
extension = rule 22 (EXTENSION ∷ []) (λ w. param_attribute.Extension w)

abbrev pub param_word : Rule vocabulary
param_word = rule 22 (fixed symbol.param_word ∷ []) param_attribute.Word

abbrev pub param_access : Rule vocabulary
param_access = rule 22 (fixed symbol.access_word ∷ []) param_attribute.Access

-- dereferenceable ( N )
abbrev pub sized : Rule vocabulary
sized = rule 22 (fixed symbol.sized_word ∷ fixed symbol.open_paren ∷ NUMBER ∷ fixed symbol.close_paren ∷ []) (λ n. param_attribute.Sized n)

-- align N
abbrev pub param_align : Rule vocabulary
param_align = rule 22 (fixed symbol.align ∷ NUMBER ∷ []) (λ n. param_attribute.Align n)

abbrev pub function_attributes_end : Rule vocabulary
function_attributes_end = rule 23 [] []

abbrev pub function_attributes : Rule vocabulary
function_attributes = rule 23 (a_function_attribute ∷ all_function_attributes ∷ []) (λ a more. a ∷ more)

abbrev pub group : Rule vocabulary
group = rule 24 (fixed symbol.group ∷ []) function_attribute.Group

-- string [= string]
abbrev pub text_attribute : Rule vocabulary
text_attribute = rule 24 (fixed symbol.string ∷ an_attribute_value ∷ []) (λ has_value. function_attribute.Text has_value)

-- align N
abbrev pub function_align : Rule vocabulary
function_align = rule 24 (fixed symbol.align ∷ NUMBER ∷ []) (λ n. function_attribute.Align n)

-- alignstack ( N )
abbrev pub align_stack : Rule vocabulary
align_stack =
    rule
    24
    (fixed symbol.alignstack ∷ fixed symbol.open_paren ∷ NUMBER ∷ fixed symbol.close_paren ∷ [])
    (λ n. function_attribute.AlignStack n)

abbrev pub function_word : Rule vocabulary
function_word = rule 24 (fixed symbol.function_word ∷ []) function_attribute.Word

abbrev pub function_access : Rule vocabulary
function_access = rule 24 (fixed symbol.access_word ∷ []) function_attribute.Access

abbrev pub no_attribute_value : Rule vocabulary
no_attribute_value = rule 25 [] false

abbrev pub attribute_value : Rule vocabulary
attribute_value = rule 25 (fixed symbol.equals ∷ fixed symbol.string ∷ []) true

abbrev pub not_attached : Rule vocabulary
not_attached = rule 26 [] None

abbrev pub attached : Rule vocabulary
attached = rule 26 (an_attachment ∷ []) (λ a. Some a)

abbrev pub attachments_end : Rule vocabulary
attachments_end = rule 27 [] []

-- , attachment
abbrev pub attachments : Rule vocabulary
attachments = rule 27 (comma ∷ an_attachment ∷ all_attachments ∷ []) (λ a more. a ∷ more)

-- !RUN META
abbrev pub attachment : Rule vocabulary
attachment = rule 28 (fixed symbol.metadata ∷ a_meta ∷ []) (λ m. m)

-- !RUN [( balanced )]
abbrev pub named_meta : Rule vocabulary
named_meta = rule 29 (fixed symbol.metadata ∷ a_meta_arguments ∷ []) (λ has_arguments. meta.Named has_arguments)

abbrev pub bang_meta : Rule vocabulary
bang_meta = rule 29 (fixed symbol.bang ∷ a_bang ∷ []) (λ b. meta.Bang b)

abbrev pub no_meta_arguments : Rule vocabulary
no_meta_arguments = rule 30 [] false

abbrev pub meta_arguments : Rule vocabulary
meta_arguments = rule 30 (fixed symbol.open_paren ∷ fixed symbol.balanced ∷ fixed symbol.close_paren ∷ []) true

abbrev pub bang_text : Rule vocabulary
bang_text = rule 31 (fixed symbol.string ∷ []) bang.Text

-- { balanced }
abbrev pub bang_node : Rule vocabulary
bang_node = rule 31 (BRACE ∷ fixed symbol.balanced ∷ fixed symbol.close_brace ∷ []) (λ at. bang.Node at)

abbrev pub not_distinct : Rule vocabulary
not_distinct = rule 32 [] false

abbrev pub distinct : Rule vocabulary
distinct = rule 32 (fixed symbol.distinct ∷ []) true
