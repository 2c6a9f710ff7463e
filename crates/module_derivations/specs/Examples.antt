-- Examples of derivations, and what they mean.
use Rattle.std.specs.Prelude.{◌≡◌, false, List, [], ◌∷◌, Some, None}
use Rattle.module_derivations.specs.FlatMarks.Flat.{Mark, Rule, Token}
use Rattle.module_derivations.specs.Ahead.{ahead, seen}
use Rattle.module_derivations.specs.Empty.{no_value}
use Rattle.module_derivations.specs.declared.rule.TheConstants as rule
use Rattle.module_grammar.specs.AtPlaces.{i8_at, number_at, width_at, x_at}
use Rattle.module_grammar.specs.Sorts.{AnyType, Expr, Module, Value}
use Rattle.module_grammar.specs.Symbols as symbol
use Rattle.module_grammar.specs.Symbols.{Symbol}
use Rattle.module_grammar.specs.declared.constants.ValueText.TheVariants as value
use Rattle.module_grammar.specs.declared.functions.DeclaredNameText.TheVariants as declared_name
use Rattle.module_grammar.specs.declared.items.ItemText.TheVariants as item
use Rattle.module_grammar.specs.declared.lines.ExprText.TheVariants as expression
use Rattle.module_grammar.specs.declared.types.TypeText as type_text

-- {i8, %x*}
abbrev pub type_symbols : List Symbol
type_symbols =
    symbol.Brace 0 ∷ symbol.Width (width_at 8 1 3) ∷ symbol.comma ∷ symbol.Local (x_at 5 7) ∷ symbol.Star 7 ∷ symbol.close_brace ∷ []

abbrev pub type_marks : List Mark
type_marks =
    Rule rule.STRUCT_TYPE ∷ Token 0
    ∷ Rule rule.TYPES ∷ Rule rule.INT_TYPE ∷ Token 1 ∷ Rule rule.STARS_END
    ∷ Rule rule.MORE_TYPES ∷ Rule rule.NAMED_BASE ∷ Token 3 ∷ Rule rule.STARS ∷ Token 4 ∷ Rule rule.STARS_END
    ∷ Rule rule.MORE_TYPES_END ∷ Rule rule.STARS_END ∷ []

-- load i8, i8* %x, align 4
abbrev pub load_symbols : List Symbol
load_symbols =
    symbol.load ∷ symbol.Width (width_at 8 5 7) ∷ symbol.comma ∷ symbol.Width (width_at 8 9 11) ∷ symbol.Star 11 ∷ symbol.Local (x_at 13 15)
    ∷ symbol.comma ∷ symbol.align ∷ symbol.Numeral (number_at 4 23 24) ∷ []

abbrev pub load_marks : List Mark
load_marks =
    Rule rule.EXPRESSION_LOAD ∷ Rule rule.INT_TYPE ∷ Token 1 ∷ Rule rule.STARS_END
    ∷ Rule rule.INT_TYPE ∷ Token 3 ∷ Rule rule.STARS ∷ Token 4 ∷ Rule rule.STARS_END ∷ Rule rule.LOCAL ∷ Token 5
    ∷ Rule rule.ALIGN ∷ Token 8 ∷ []

-- attributes #0 = { "x" }
-- declare void @x()
abbrev pub module_symbols : List Symbol
module_symbols =
    symbol.attributes ∷ symbol.group ∷ symbol.equals ∷ symbol.Brace 16 ∷ symbol.string ∷ symbol.close_brace
    ∷ symbol.declare ∷ symbol.void ∷ symbol.Global (x_at 37 39) ∷ symbol.open_paren ∷ symbol.close_paren ∷ []

-- what stands in the braces begins with a token that is none of ( ) [ ] { }, which is a string, and ends behind it
abbrev pub module_marks : List Mark
module_marks =
    Rule rule.ITEMS ∷ Rule rule.ATTRIBUTES ∷ Token 3 ∷ Rule rule.BALANCED_TOKEN ∷ Rule rule.BALANCED_STRING ∷ Rule rule.BALANCED_END
    ∷ Rule rule.ITEMS ∷ Rule rule.DECLARATION ∷ Rule rule.NO_CONVENTION ∷ Rule rule.PARAM_ATTRIBUTES_END ∷ Rule rule.VOID_RESULT
    ∷ Rule rule.DECLARED ∷ Token 8 ∷ Rule rule.NO_DECLARED_PARAMS ∷ Rule rule.NO_UNNAMED_ADDR ∷ Rule rule.FUNCTION_ATTRIBUTES_END
    ∷ Rule rule.ITEMS_END ∷ []

pub record MarksMean : Type 0 where
  pub type : seen AnyType (ahead type_symbols type_marks) ≡ type_text.Struct 0 (i8_at 1 3 ∷ type_text.Ptr 7 (type_text.Named (x_at 5 7)) ∷ [])
  pub load :
      seen Expr (ahead load_symbols load_marks)
      ≡ expression.Load (record {
        ty = i8_at 5 7;
        address = record { ty = type_text.Ptr 11 (i8_at 9 11); value = value.Local (x_at 13 15) };
        align = Some (number_at 4 23 24);
      })
  pub items :
      seen Module (ahead module_symbols module_marks)
      ≡ record {
        items =
            item.Attributes 16
            ∷ item.Declaration (record {
              result = record { is_ccc = false; attributes = []; ty = None };
              declared = declared_name.Plain (x_at 37 39) (record { params = []; is_open = false }) (record { unnamed_addr = false; attributes = [] });
            })
            ∷ [];
      }
  -- wanted as something else, it is nothing
  pub other : seen Value (ahead load_symbols load_marks) ≡ no_value
  pub nothing : seen Module (ahead load_symbols load_marks) ≡ record { items = [] }
