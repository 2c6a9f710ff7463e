-- Examples of how items and modules are written.
use Rattle.std.specs.Prelude.{◌≡◌, true, false, [], ◌∷◌, Some, None}
use Rattle.module_grammar.specs.AtPlaces.{number_at, width_at, bytes_at, x_at, debug_at, i8_at, const_at}
use Rattle.module_grammar.specs.Modules as write
use Rattle.module_grammar.specs.Symbols as symbol
use Rattle.module_grammar.specs.declared.attributes.BangText.TheVariants as bang
use Rattle.module_grammar.specs.declared.attributes.FunctionAttributeText.TheVariants as function_attribute
use Rattle.module_grammar.specs.declared.attributes.MetaText.TheVariants as meta
use Rattle.module_grammar.specs.declared.attributes.ParamAttributeText.TheVariants as param_attribute
use Rattle.module_grammar.specs.declared.constants.ConstText as const
use Rattle.module_grammar.specs.declared.constants.GlobalNameText.TheVariants as global_name
use Rattle.module_grammar.specs.declared.constants.InitText as init
use Rattle.module_grammar.specs.declared.constants.ValueText.TheVariants as value
use Rattle.module_grammar.specs.declared.flow.TermText.TheVariants as term_text
use Rattle.module_grammar.specs.declared.functions.DeclaredNameText.TheVariants as declared_name
use Rattle.module_grammar.specs.declared.functions.LinkageText.TheVariants as linkage
use Rattle.module_grammar.specs.declared.items.HeldText.TheVariants as held
use Rattle.module_grammar.specs.declared.items.HoldingWord.TheVariants.{Constant as HeldConstant}
use Rattle.module_grammar.specs.declared.items.HoldingWord.TheVariants.{Global as HeldGlobal}
use Rattle.module_grammar.specs.declared.items.ItemText.TheVariants as item
use Rattle.module_grammar.specs.declared.items.TypeBodyText.TheVariants as type_body
use Rattle.module_grammar.specs.declared.operators.ExtensionWord.TheVariants.{Signed}
use Rattle.module_grammar.specs.declared.operators.ExtensionWord.TheVariants.{Zero}
use Rattle.module_grammar.specs.declared.operators.LinkageWord.TheVariants.{Internal}
use Rattle.module_grammar.specs.declared.operators.LinkageWord.TheVariants.{Private}
use Rattle.module_grammar.specs.declared.types.TypeText as type_text

pub record ItemsAreWritten : Type 0 where
  -- `target datalayout = "e"`
  pub layout : write.item item.Target ≡ symbol.target ∷ symbol.property ∷ symbol.equals ∷ symbol.string ∷ []
  -- `target triple = "x86"`
  pub triple : write.item item.Target ≡ symbol.target ∷ symbol.property ∷ symbol.equals ∷ symbol.string ∷ []
  -- `attributes #7 = { nounwind "x"="y" }`
  pub attributes :
      write.item
      (item.Attributes 16)
      ≡ symbol.attributes ∷ symbol.group ∷ symbol.equals ∷ symbol.Brace 16 ∷ symbol.balanced ∷ symbol.close_brace ∷ []
  -- `!7 = distinct !X(y: !{7})`
  pub metadata :
      write.item
      (item.Metadata true (meta.Named true))
      ≡ symbol.metadata ∷ symbol.equals ∷ symbol.distinct ∷ symbol.metadata ∷ symbol.open_paren ∷ symbol.balanced ∷ symbol.close_paren
      ∷ []
  -- `!llvm.ident = !{!7}`
  pub named_metadata :
      write.item
      (item.Metadata false (meta.Bang (bang.Node 15)))
      ≡ symbol.metadata ∷ symbol.equals ∷ symbol.bang ∷ symbol.Brace 15 ∷ symbol.balanced ∷ symbol.close_brace ∷ []
  -- `declare void @llvm.dbg.x(metadata, [7 x {}]) #7`
  pub debug_declaration :
      write.item
      (item.Declaration (record {
        result = record { is_ccc = false; attributes = []; ty = None };
        declared = declared_name.Debug (debug_at 13 24) (record { unnamed_addr = false; attributes = function_attribute.Group ∷ [] });
      }))
      ≡ symbol.declare ∷ symbol.void ∷ symbol.Debug (debug_at 13 24) ∷ symbol.open_paren ∷ symbol.balanced ∷ symbol.close_paren
      ∷ symbol.group ∷ []
  -- `declare zeroext i8 @x(i8* readonly %x, ...) nounwind`
  pub declaration :
      write.item
      (item.Declaration (record {
        result = record { is_ccc = false; attributes = param_attribute.Extension Zero ∷ []; ty = Some (i8_at 16 18) };
        declared = declared_name.Plain
            (x_at 19 21)
            (record {
              params = record {
                ty = type_text.Ptr 24 (i8_at 22 24);
                attributes = param_attribute.Access ∷ [];
                name = Some (x_at 35 37);
              }
                  ∷ [];
              is_open = true;
            })
            (record { unnamed_addr = false; attributes = function_attribute.Word ∷ [] });
      }))
      ≡ symbol.declare ∷ symbol.Extension Zero ∷ symbol.Width (width_at 8 16 18) ∷ symbol.Global (x_at 19 21) ∷ symbol.open_paren
      ∷ symbol.Width (width_at 8 22 24) ∷ symbol.Star 24 ∷ symbol.access_word ∷ symbol.Local (x_at 35 37) ∷ symbol.comma
      ∷ symbol.dots ∷ symbol.close_paren ∷ symbol.function_word ∷ []
  -- `declare ccc void @x() unnamed_addr`
  pub nothing_declared :
      write.item
      (item.Declaration (record {
        result = record { is_ccc = true; attributes = []; ty = None };
        declared = declared_name.Plain
            (x_at 17 19)
            (record { params = []; is_open = false })
            (record { unnamed_addr = true; attributes = [] });
      }))
      ≡ symbol.declare ∷ symbol.ccc ∷ symbol.void ∷ symbol.Global (x_at 17 19) ∷ symbol.open_paren ∷ symbol.close_paren
      ∷ symbol.unnamed_addr ∷ []
  -- `declare i8 @x(...)`
  pub open_declaration :
      write.item
      (item.Declaration (record {
        result = record { is_ccc = false; attributes = []; ty = Some (i8_at 8 10) };
        declared = declared_name.Plain
            (x_at 11 13)
            (record { params = []; is_open = true })
            (record { unnamed_addr = false; attributes = [] });
      }))
      ≡ symbol.declare ∷ symbol.Width (width_at 8 8 10) ∷ symbol.Global (x_at 11 13) ∷ symbol.open_paren ∷ symbol.dots
      ∷ symbol.close_paren ∷ []
  -- `%x = type opaque`
  pub opaque :
      write.item
      (item.Type (x_at 0 2) type_body.Opaque)
      ≡ symbol.Local (x_at 0 2) ∷ symbol.equals ∷ symbol.type ∷ symbol.opaque ∷ []
  -- `%x = type { i8, %x* }`
  pub struct :
      write.item
      (item.Type (x_at 0 2) (type_body.Struct 10 (i8_at 12 14 ∷ type_text.Ptr 18 (type_text.Named (x_at 16 18)) ∷ [])))
      ≡ symbol.Local (x_at 0 2) ∷ symbol.equals ∷ symbol.type ∷ symbol.Brace 10 ∷ symbol.Width (width_at 8 12 14) ∷ symbol.comma
      ∷ symbol.Local (x_at 16 18) ∷ symbol.Star 18 ∷ symbol.close_brace ∷ []
  -- `@x = external global i8`
  pub external :
      write.item
      (item.Global
      (global_name.Plain (x_at 0 2))
      (record { held = held.External; unnamed_addr = false; word = HeldGlobal; ty = i8_at 21 23; align = None }))
      ≡ symbol.Global (x_at 0 2) ∷ symbol.equals ∷ symbol.external ∷ symbol.Holding HeldGlobal ∷ symbol.Width (width_at 8 21 23) ∷ []
  -- `@x = private unnamed_addr constant [1 x i8] c"x", align 7`
  pub constant :
      write.item
      (item.Global
      (global_name.Plain (x_at 0 2))
      (record {
        held = held.Init (Some Private) (init.Bytes (bytes_at 45 48));
        unnamed_addr = true;
        word = HeldConstant;
        ty = type_text.Array 35 (number_at 1 36 37, i8_at 40 42);
        align = Some (number_at 7 56 57);
      }))
      ≡ symbol.Global (x_at 0 2) ∷ symbol.equals ∷ symbol.Linkage Private ∷ symbol.unnamed_addr ∷ symbol.Holding HeldConstant
      ∷ symbol.Bracket 35 ∷ symbol.Numeral (number_at 1 36 37) ∷ symbol.times ∷ symbol.Width (width_at 8 40 42)
      ∷ symbol.close_bracket ∷ symbol.c ∷ symbol.Bytes (bytes_at 45 48) ∷ symbol.comma ∷ symbol.align
      ∷ symbol.Numeral (number_at 7 56 57) ∷ []
  -- `@x = global i8 7`
  pub global :
      write.item
      (item.Global
      (global_name.Plain (x_at 0 2))
      (record {
        held = held.Init None (init.Const (const_at 7 15 16));
        unnamed_addr = false;
        word = HeldGlobal;
        ty = i8_at 12 14;
        align = None;
      }))
      ≡ symbol.Global (x_at 0 2) ∷ symbol.equals ∷ symbol.Holding HeldGlobal ∷ symbol.Width (width_at 8 12 14)
      ∷ symbol.Numeral (number_at 7 15 16) ∷ []
  -- `define void @x() { ret void }`
  pub definition :
      write.item
      (item.Definition (record {
        linkage = linkage.None;
        head = record {
          result = record { is_ccc = false; attributes = []; ty = None };
          name = global_name.Plain (x_at 12 14);
          params = [];
          end = record { unnamed_addr = false; attributes = [] };
        };
        attachment = None;
        at = 17;
        entry = record {
          label = None;
          body = record { phis = []; lines = [] };
          end = record { term = term_text.Ret None; attachments = [] };
        };
        others = [];
      }))
      ≡ symbol.define ∷ symbol.void ∷ symbol.Global (x_at 12 14) ∷ symbol.open_paren ∷ symbol.close_paren ∷ symbol.Brace 17
      ∷ symbol.ret ∷ symbol.void ∷ symbol.close_brace ∷ []
  -- `define internal zeroext i8 @x(i8 signext %x, i8) unnamed_addr #7 !dbg !7 { ret i8 7 x: unreachable }`
  pub long_head :
      write.item
      (item.Definition (record {
        linkage = linkage.Word Internal;
        head = record {
          result = record { is_ccc = false; attributes = param_attribute.Extension Zero ∷ []; ty = Some (i8_at 24 26) };
          name = global_name.Plain (x_at 27 29);
          params = record { ty = i8_at 30 32; attributes = param_attribute.Extension Signed ∷ []; name = Some (x_at 41 43) }
              ∷ record { ty = i8_at 45 47; attributes = []; name = None }
              ∷ [];
          end = record { unnamed_addr = true; attributes = function_attribute.Group ∷ [] };
        };
        attachment = Some (meta.Named false);
        at = 73;
        entry = record {
          label = None;
          body = record { phis = []; lines = [] };
          end = record {
            term = term_text.Ret (Some (record { ty = i8_at 79 81; value = value.Const (const_at 7 82 83) }));
            attachments = [];
          };
        };
        others = record {
          label = Some (x_at 84 86);
          body = record { phis = []; lines = [] };
          end = record { term = term_text.Unreachable; attachments = [] };
        }
            ∷ [];
      }))
      ≡ symbol.define ∷ symbol.Linkage Internal ∷ symbol.Extension Zero ∷ symbol.Width (width_at 8 24 26) ∷ symbol.Global (x_at 27 29)
      ∷ symbol.open_paren ∷ symbol.Width (width_at 8 30 32) ∷ symbol.Extension Signed ∷ symbol.Local (x_at 41 43) ∷ symbol.comma
      ∷ symbol.Width (width_at 8 45 47) ∷ symbol.close_paren ∷ symbol.unnamed_addr ∷ symbol.group ∷ symbol.metadata
      ∷ symbol.metadata ∷ symbol.Brace 73 ∷ symbol.ret ∷ symbol.Width (width_at 8 79 81) ∷ symbol.Numeral (number_at 7 82 83)
      ∷ symbol.Label (x_at 84 86) ∷ symbol.unreachable ∷ symbol.close_brace ∷ []
  -- `define external void @llvm.dbg.x() { unreachable }`
  pub external_definition :
      write.item
      (item.Definition (record {
        linkage = linkage.External;
        head = record {
          result = record { is_ccc = false; attributes = []; ty = None };
          name = global_name.Debug (debug_at 21 32);
          params = [];
          end = record { unnamed_addr = false; attributes = [] };
        };
        attachment = None;
        at = 35;
        entry = record {
          label = None;
          body = record { phis = []; lines = [] };
          end = record { term = term_text.Unreachable; attachments = [] };
        };
        others = [];
      }))
      ≡ symbol.define ∷ symbol.external ∷ symbol.void ∷ symbol.Debug (debug_at 21 32) ∷ symbol.open_paren ∷ symbol.close_paren
      ∷ symbol.Brace 35 ∷ symbol.unreachable ∷ symbol.close_brace ∷ []
  -- `%x = type opaque @x = global i8 undef`
  pub whole_module :
      write.written
      (record {
        items = item.Type (x_at 0 2) type_body.Opaque
            ∷ item.Global
            (global_name.Plain (x_at 17 19))
            (record {
              held = held.Init None (init.Const const.Undef);
              unnamed_addr = false;
              word = HeldGlobal;
              ty = i8_at 29 31;
              align = None;
            })
            ∷ [];
      })
      ≡ symbol.Local (x_at 0 2) ∷ symbol.equals ∷ symbol.type ∷ symbol.opaque ∷ symbol.Global (x_at 17 19) ∷ symbol.equals
      ∷ symbol.Holding HeldGlobal ∷ symbol.Width (width_at 8 29 31) ∷ symbol.undef ∷ []
