-- What is seen ahead of attributes and metadata.
use Rattle.std.specs.Prelude.{ℕ, Bool, true, false, List, [], ◌∷◌, Option, Some, None}
use Rattle.module_grammar.specs.declared.attributes.BangText.{BangText}
use Rattle.module_grammar.specs.declared.attributes.FunctionAttributeText.{FunctionAttributeText}
use Rattle.module_grammar.specs.declared.attributes.MetaText.{MetaText}
use Rattle.module_grammar.specs.declared.attributes.ParamAttributeText.{ParamAttributeText}
use Rattle.module_grammar.specs.declared.attributes.BangText.TheVariants as bang
use Rattle.module_grammar.specs.declared.attributes.FunctionAttributeText.TheVariants as function_attribute
use Rattle.module_grammar.specs.declared.attributes.MetaText.TheVariants as meta
use Rattle.module_grammar.specs.declared.attributes.ParamAttributeText.TheVariants as param_attribute
use Rattle.module_derivations.specs.FlatMarks.Flat.{behind}
use Rattle.module_derivations.specs.declared.rule.TheConstants as rule
use Rattle.module_derivations.specs.Parts.{Part, if_rule}
use Rattle.module_derivations.specs.Empty.{made, said, no_meta}
use Rattle.module_derivations.specs.Said.{number_of, extension_of, place_of}

-- ---- nonterminals of one rule, which is not written down

-- !RUN meta
abbrev pub attachment : List Part → MetaText
attachment s = (made s).meta

-- ---- what each rule makes of the parts behind its beginning

-- param_attribute param_attributes
abbrev pub param_attributes_by : Option ℕ → List Part → List ParamAttributeText
param_attributes_by r s = if_rule r rule.PARAM_ATTRIBUTES ((made s).param_attribute ∷ (made (behind s)).param_attributes) []

-- EXTENSION; param_word; access_word; sized_word ( NUMBER ); align NUMBER
abbrev pub param_attribute_by : Option ℕ → List Part → ParamAttributeText
param_attribute_by r s =
    if_rule r rule.EXTENSION (param_attribute.Extension (extension_of (said s)))
    (if_rule r rule.PARAM_WORD param_attribute.Word
    (if_rule r rule.PARAM_ACCESS param_attribute.Access
    (if_rule r rule.SIZED (param_attribute.Sized (number_of (said s)))
    (if_rule r rule.PARAM_ALIGN (param_attribute.Align (number_of (said s)))
    param_attribute.Word))))

-- function_attribute function_attributes
abbrev pub function_attributes_by : Option ℕ → List Part → List FunctionAttributeText
function_attributes_by r s = if_rule r rule.FUNCTION_ATTRIBUTES ((made s).function_attribute ∷ (made (behind s)).function_attributes) []

-- #N; STRING attribute_value; align NUMBER; alignstack ( NUMBER ); function_word; access_word
abbrev pub function_attribute_by : Option ℕ → List Part → FunctionAttributeText
function_attribute_by r s =
    if_rule r rule.GROUP function_attribute.Group
    (if_rule r rule.TEXT_ATTRIBUTE (function_attribute.Text (made s).attribute_value)
    (if_rule r rule.FUNCTION_ALIGN (function_attribute.Align (number_of (said s)))
    (if_rule r rule.ALIGN_STACK (function_attribute.AlignStack (number_of (said s)))
    (if_rule r rule.FUNCTION_WORD function_attribute.Word
    (if_rule r rule.FUNCTION_ACCESS function_attribute.Access
    function_attribute.Word)))))

-- = STRING
abbrev pub attribute_value_by : Option ℕ → List Part → Bool
attribute_value_by r s = if_rule r rule.ATTRIBUTE_VALUE true false

-- attachment
abbrev pub attached_by : Option ℕ → List Part → Option MetaText
attached_by r s = if_rule r rule.ATTACHED (Some (attachment s)) None

-- , attachment attachments
abbrev pub attachments_by : Option ℕ → List Part → List MetaText
attachments_by r s = if_rule r rule.ATTACHMENTS (attachment s ∷ (made (behind s)).attachments) []

-- !RUN meta_arguments; ! bang
abbrev pub meta_by : Option ℕ → List Part → MetaText
meta_by r s =
    if_rule r rule.NAMED_META (meta.Named (made s).meta_arguments)
    (if_rule r rule.BANG_META (meta.Bang (made s).bang)
    no_meta)

-- ( balanced )
abbrev pub meta_arguments_by : Option ℕ → List Part → Bool
meta_arguments_by r s = if_rule r rule.META_ARGUMENTS true false

-- STRING; { balanced }
abbrev pub bang_by : Option ℕ → List Part → BangText
bang_by r s =
    if_rule r rule.BANG_TEXT bang.Text
    (if_rule r rule.BANG_NODE (bang.Node (place_of (said s)))
    bang.Text)

-- distinct
abbrev pub distinct_by : Option ℕ → List Part → Bool
distinct_by r s = if_rule r rule.DISTINCT true false
