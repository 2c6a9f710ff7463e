-- All attributes and metadata that are written have a derivation.
use Rattle.std.proofs.Common.{Bool, true, false, List, [], ◌∷◌, Option, Some, None, refl}
use Rattle.ir_lexer.specs.declared.token.Number.{Number}
use Rattle.module_grammar.specs.declared.attributes.BangText.{BangText}
use Rattle.module_grammar.specs.declared.attributes.BangText.TheVariants as bangs
use Rattle.module_grammar.specs.declared.attributes.FunctionAttributeText.{FunctionAttributeText}
use Rattle.module_grammar.specs.declared.attributes.FunctionAttributeText.TheVariants as of_function
use Rattle.module_grammar.specs.declared.attributes.MetaText.{MetaText}
use Rattle.module_grammar.specs.declared.attributes.MetaText.TheVariants as metas
use Rattle.module_grammar.specs.declared.attributes.ParamAttributeText.{ParamAttributeText}
use Rattle.module_grammar.specs.declared.attributes.ParamAttributeText.TheVariants as of_param
use Rattle.module_grammar.specs.declared.places.Placed.{Placed}
use Rattle.module_grammar.specs.Rules.{meaning}
use Rattle.module_grammar.proofs.Lawful.{by}
use Rattle.predictive.specs.Made.{Made}

pub convention : (x : Bool) → Made meaning 11 x
convention false = by 26 refl _ tt
convention true = by 27 refl _ tt

pub unnamed_addr : (x : Bool) → Made meaning 15 x
unnamed_addr false = by 32 refl _ tt
unnamed_addr true = by 33 refl _ tt

pub align : (x : Option (Placed Number)) → Made meaning 5 x
align None = by 15 refl _ tt
align (Some n) = by 16 refl _ tt

pub param_attribute : (x : ParamAttributeText) → Made meaning 22 x
param_attribute (of_param.Extension word) = by 46 refl _ tt
param_attribute of_param.Word = by 47 refl _ tt
param_attribute of_param.Access = by 48 refl _ tt
param_attribute (of_param.Sized n) = by 49 refl _ tt
param_attribute (of_param.Align n) = by 50 refl _ tt

pub param_attributes : (x : List ParamAttributeText) → Made meaning 21 x
param_attributes [] = by 44 refl _ tt
param_attributes (a ∷ more) = by 45 refl _ (param_attribute a, (param_attributes more, tt))

text_value : (x : Bool) → Made meaning 25 x
text_value false = by 59 refl _ tt
text_value true = by 60 refl _ tt

function_attribute : (x : FunctionAttributeText) → Made meaning 24 x
function_attribute of_function.Group = by 53 refl _ tt
function_attribute (of_function.Text has_value) = by 54 refl _ (text_value has_value, tt)
function_attribute (of_function.Align n) = by 55 refl _ tt
function_attribute (of_function.AlignStack n) = by 56 refl _ tt
function_attribute of_function.Word = by 57 refl _ tt
function_attribute of_function.Access = by 58 refl _ tt

pub function_attributes : (x : List FunctionAttributeText) → Made meaning 23 x
function_attributes [] = by 51 refl _ tt
function_attributes (a ∷ more) = by 52 refl _ (function_attribute a, (function_attributes more, tt))

meta_arguments : (x : Bool) → Made meaning 30 x
meta_arguments false = by 68 refl _ tt
meta_arguments true = by 69 refl _ tt

bang : (x : BangText) → Made meaning 31 x
bang bangs.Text = by 70 refl _ tt
bang (bangs.Node at) = by 71 refl _ tt

pub meta : (x : MetaText) → Made meaning 29 x
meta (metas.Named has_arguments) = by 66 refl _ (meta_arguments has_arguments, tt)
meta (metas.Bang b) = by 67 refl _ (bang b, tt)

pub attachment : (x : MetaText) → Made meaning 28 x
attachment m = by 65 refl (tt, (m, tt)) (meta m, tt)

pub attached : (x : Option MetaText) → Made meaning 26 x
attached None = by 61 refl _ tt
attached (Some m) = by 62 refl _ (attachment m, tt)

pub attachments : (x : List MetaText) → Made meaning 27 x
attachments [] = by 63 refl _ tt
attachments (m ∷ more) = by 64 refl _ (attachment m, (attachments more, tt))

pub distinct : (x : Bool) → Made meaning 32 x
distinct false = by 72 refl _ tt
distinct true = by 73 refl _ tt
