-- Examples of how attributes and metadata are written.
use Rattle.std.specs.Prelude.{◌≡◌, true, false, [], ◌∷◌}
use Rattle.module_grammar.specs.AtPlaces.{number_at}
use Rattle.module_grammar.specs.Attributes as write
use Rattle.module_grammar.specs.Symbols as symbol
use Rattle.module_grammar.specs.declared.attributes.BangText.TheVariants as bang
use Rattle.module_grammar.specs.declared.attributes.FunctionAttributeText.TheVariants as function_attribute
use Rattle.module_grammar.specs.declared.attributes.MetaText.TheVariants as meta
use Rattle.module_grammar.specs.declared.attributes.ParamAttributeText.TheVariants as param_attribute
use Rattle.module_grammar.specs.declared.operators.ExtensionWord.TheVariants.{Signed}

pub record AttributesAreWritten : Type 0 where
  -- `signext`
  pub signext : write.param_attribute (param_attribute.Extension Signed) ≡ symbol.Extension Signed ∷ []
  -- `noalias`
  pub noalias : write.param_attribute param_attribute.Word ≡ symbol.param_word ∷ []
  -- `readonly`
  pub readonly : write.param_attribute param_attribute.Access ≡ symbol.access_word ∷ []
  -- `dereferenceable(7)`
  pub dereferenceable :
      write.param_attribute
      (param_attribute.Sized (number_at 7 16 17))
      ≡ symbol.sized_word ∷ symbol.open_paren ∷ symbol.Numeral (number_at 7 16 17) ∷ symbol.close_paren ∷ []
  -- `align 7`
  pub aligned : write.param_attribute (param_attribute.Align (number_at 7 6 7)) ≡ symbol.align ∷ symbol.Numeral (number_at 7 6 7) ∷ []
  -- `#7`
  pub group : write.function_attribute function_attribute.Group ≡ symbol.group ∷ []
  -- `"x"`
  pub text : write.function_attribute (function_attribute.Text false) ≡ symbol.string ∷ []
  -- `"x"="y"`
  pub text_value : write.function_attribute (function_attribute.Text true) ≡ symbol.string ∷ symbol.equals ∷ symbol.string ∷ []
  -- `align 7`
  pub function_align :
      write.function_attribute
      (function_attribute.Align (number_at 7 6 7))
      ≡ symbol.align ∷ symbol.Numeral (number_at 7 6 7) ∷ []
  -- `alignstack(7)`
  pub alignstack :
      write.function_attribute
      (function_attribute.AlignStack (number_at 7 11 12))
      ≡ symbol.alignstack ∷ symbol.open_paren ∷ symbol.Numeral (number_at 7 11 12) ∷ symbol.close_paren ∷ []
  -- `nounwind`
  pub nounwind : write.function_attribute function_attribute.Word ≡ symbol.function_word ∷ []
  -- `readnone`
  pub readnone : write.function_attribute function_attribute.Access ≡ symbol.access_word ∷ []
  -- `!7`
  pub named_meta : write.meta (meta.Named false) ≡ symbol.metadata ∷ []
  -- `!X(y: 7)`
  pub node_with_arguments : write.meta (meta.Named true) ≡ symbol.metadata ∷ symbol.open_paren ∷ symbol.balanced ∷ symbol.close_paren ∷ []
  -- `!"x"`
  pub meta_text : write.meta (meta.Bang bang.Text) ≡ symbol.bang ∷ symbol.string ∷ []
  -- `!{i8 7, {}}`
  pub meta_node : write.meta (meta.Bang (bang.Node 1)) ≡ symbol.bang ∷ symbol.Brace 1 ∷ symbol.balanced ∷ symbol.close_brace ∷ []
  -- `, !dbg !7, !x !{}`
  pub attachments :
      write.attachments
      (meta.Named false ∷ meta.Bang (bang.Node 15) ∷ [])
      ≡ symbol.comma ∷ symbol.metadata ∷ symbol.metadata ∷ symbol.comma ∷ symbol.metadata ∷ symbol.bang ∷ symbol.Brace 15
      ∷ symbol.balanced ∷ symbol.close_brace ∷ []
