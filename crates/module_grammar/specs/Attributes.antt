-- How attributes and metadata are written (LangRef 3.7, Parameter Attributes, Function Attributes, Metadata). Of what plays no part the
-- symbols don't say which word stands there, nor what a string or metadata says.
use Rattle.std.specs.Prelude.{Bool, true, false, List, [], ◌∷◌, Option, Some, None}
use Rattle.std.specs.List.{flat_map}
use Rattle.module_grammar.specs.declared.attributes.BangText.{BangText}
use Rattle.module_grammar.specs.declared.attributes.BangText.TheVariants as bangs
use Rattle.module_grammar.specs.declared.attributes.FunctionAttributeText.{FunctionAttributeText}
use Rattle.module_grammar.specs.declared.attributes.FunctionAttributeText.TheVariants as of_function
use Rattle.module_grammar.specs.declared.attributes.MetaText.{MetaText}
use Rattle.module_grammar.specs.declared.attributes.MetaText.TheVariants as metas
use Rattle.module_grammar.specs.declared.attributes.ParamAttributeText.{ParamAttributeText}
use Rattle.module_grammar.specs.declared.attributes.ParamAttributeText.TheVariants as of_param
use Rattle.module_grammar.specs.Symbols.{Symbol, Numeral, Extension, Brace, align, alignstack, ccc, param_word, access_word, sized_word, function_word, metadata, group, string, balanced, comma, equals, open_paren, close_paren, close_brace}
use Rattle.module_grammar.specs.Symbols as symbol

-- [ccc]
abbrev pub convention : Bool → List Symbol
convention true = ccc ∷ []
convention false = []

-- [unnamed_addr]
abbrev pub unnamed_addr : Bool → List Symbol
unnamed_addr true = symbol.unnamed_addr ∷ []
unnamed_addr false = []

-- signext, zeroext; noalias, nocapture, nonnull, returned; readonly, readnone; dereferenceable(N), dereferenceable_or_null(N); align N
abbrev pub param_attribute : ParamAttributeText → List Symbol
param_attribute (of_param.Extension word) = Extension word ∷ []
param_attribute of_param.Word = param_word ∷ []
param_attribute of_param.Access = access_word ∷ []
param_attribute (of_param.Sized n) = sized_word ∷ open_paren ∷ Numeral n ∷ close_paren ∷ []
param_attribute (of_param.Align n) = align ∷ Numeral n ∷ []

-- [= STRING]
abbrev pub text_value : Bool → List Symbol
text_value true = equals ∷ string ∷ []
text_value false = []

-- #N; STRING [= STRING]; align N; alignstack(N); alwaysinline, argmemonly, ..; readonly, readnone
abbrev pub function_attribute : FunctionAttributeText → List Symbol
function_attribute of_function.Group = group ∷ []
function_attribute (of_function.Text has_value) = string ∷ text_value has_value
function_attribute (of_function.Align n) = align ∷ Numeral n ∷ []
function_attribute (of_function.AlignStack n) = alignstack ∷ open_paren ∷ Numeral n ∷ close_paren ∷ []
function_attribute of_function.Word = function_word ∷ []
function_attribute of_function.Access = access_word ∷ []

-- [( balanced )]
abbrev pub meta_arguments : Bool → List Symbol
meta_arguments true = open_paren ∷ balanced ∷ close_paren ∷ []
meta_arguments false = []

-- STRING, or { balanced }
abbrev pub bang : BangText → List Symbol
bang bangs.Text = string ∷ []
bang (bangs.Node at) = Brace at ∷ balanced ∷ close_brace ∷ []

-- META: !RUN [( balanced )], ! STRING, or !{ balanced }: `!4`, `!DILocation(line: 1)`, `!"text"`, `!{i32 1}`
abbrev pub meta : MetaText → List Symbol
meta (metas.Named has_arguments) = metadata ∷ meta_arguments has_arguments
meta (metas.Bang b) = symbol.bang ∷ bang b

-- !RUN META: `!dbg !4`
abbrev pub attachment : MetaText → List Symbol
attachment m = metadata ∷ meta m

-- [!RUN META]
abbrev pub attached : Option MetaText → List Symbol
attached None = []
attached (Some m) = attachment m

-- , !RUN META
abbrev pub next_attachment : MetaText → List Symbol
next_attachment m = comma ∷ attachment m

-- {, !RUN META}
abbrev pub attachments : List MetaText → List Symbol
attachments ms = flat_map next_attachment ms

-- [distinct]
abbrev pub distinct : Bool → List Symbol
distinct true = symbol.distinct ∷ []
distinct false = []
