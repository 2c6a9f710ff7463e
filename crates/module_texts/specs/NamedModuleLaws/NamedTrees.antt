-- A tree with an item of each sort, and the module that it names.
use Rattle.std.specs.Prelude.{false, List, [], ◌∷◌, None, Some}
use Rattle.ir_core.specs.Modules.{not_extended}
use Rattle.ir_core.specs.declared.expressions.Expr.TheVariants as expr
use Rattle.ir_core.specs.declared.functions.Function.{Function}
use Rattle.ir_core.specs.declared.functions.Instr.TheVariants as instr
use Rattle.ir_core.specs.declared.functions.Term.TheVariants as end
use Rattle.ir_core.specs.declared.modules.Init as start
use Rattle.ir_core.specs.declared.modules.Linkage.TheVariants as linkages
use Rattle.ir_core.specs.declared.modules.Module.{Module}
use Rattle.ir_core.specs.declared.operands.Atom.TheVariants.{Constant, Register}
use Rattle.ir_core.specs.declared.operands.BinOp.TheVariants.{Add}
use Rattle.ir_core.specs.declared.operands.Const as constant
use Rattle.ir_core.specs.declared.operands.Operand.{Operand}
use Rattle.ir_types.specs.declared.names.Name.{Name}
use Rattle.ir_types.specs.declared.names.Name.TheVariants.{Number}
use Rattle.ir_types.specs.declared.ty.Ty.{Int, Ptr, Void}
use Rattle.module_grammar.specs.declared.constants.ConstText as const
use Rattle.module_grammar.specs.declared.constants.GlobalNameText.TheVariants as global_name
use Rattle.module_grammar.specs.declared.constants.InitText as init
use Rattle.module_grammar.specs.declared.constants.ValueText.TheVariants as text
use Rattle.module_grammar.specs.declared.flow.TermText.TheVariants as term
use Rattle.module_grammar.specs.declared.items.HeldText.TheVariants as held
use Rattle.module_grammar.specs.declared.items.HoldingWord.TheVariants.{Global as HeldGlobal}
use Rattle.module_grammar.specs.declared.items.ItemText.{ItemText}
use Rattle.module_grammar.specs.declared.items.ItemText.TheVariants as item
use Rattle.module_grammar.specs.declared.items.TypeBodyText.TheVariants as type_body
use Rattle.module_grammar.specs.declared.lines.CallBodyText.TheVariants as body
use Rattle.module_grammar.specs.declared.lines.VoidCallText.TheVariants as of_void
use Rattle.module_grammar.specs.declared.operators.LinkageWord.TheVariants as linkage_word
use Rattle.named_modules.specs.Laws.{Is}
use Rattle.named_modules.specs.Modules.{NamesModule}
use Rattle.module_texts.specs.NamedModuleLaws.Words.{f, g, x, y, z, argument, arguments, bare, block, call, declare, define, holding, i8, minus, named, no_more, no_params, no_types, number, operand, param, pointer, positive, result, setting, sum}

-- `%x = type { i8* } @y = internal global i8 -1, align 4 declare void @g(i8) define i8 @f(i8 %x) { %z = add i8 %x, 1 call void @g(i8
-- %z) ret i8 %z }`
abbrev pub sorts : List ItemText
sorts =
    item.Type (named 0 x) (type_body.Struct 10 (pointer 14 (i8 12) ∷ []))
    ∷ holding (global_name.Plain (named 18 y)) (held.Init (Some linkage_word.Internal) (init.Const (const.Int (minus 1 42 44))))
    HeldGlobal (i8 39) (Some (positive 4 52 53))
    ∷ declare (result [] None) (named 67 g) (param (i8 70) [] None ∷ []) false no_more
    ∷ define (result [] (Some (i8 81))) (global_name.Plain (named 84 f)) (param (i8 87) [] (Some (named 90 x)) ∷ []) 94
    (block None []
    (setting (named 96 z) (sum (operand (i8 105) (text.Local (named 108 x))) (text.Const (number 1 112 113)))
    ∷ bare
    (call
    (body.Void (record { is_stated = false; call = of_void.Call (named 124 g) (arguments (argument (i8 127) (text.Local (named 130 z)) ∷ [])) })))
    ∷ []) (term.Ret (Some (operand (i8 138) (text.Local (named 141 z)))))) [] ∷ []

abbrev byte : Name → Operand Name
byte name = record { ty = Int 8; atom = Register name }

-- its function
abbrev pub sole : Function
sole = record {
  linkage = linkages.External;
  result_extensions = not_extended;
  result = Int 8;
  name = f;
  params = record { name = x; ty = Int 8; extensions = not_extended } ∷ [];
  blocks = record {
    name = Number 0;
    phis = [];
    body = instr.Calm (record {
      name = z;
      right = expr.Binary (record {
        op = Add;
        flags = record { nuw = false; nsw = false; exact = false };
        ty = Int 8;
        left = Register x;
        right = Constant (constant.Number 1);
      });
    })
        ∷ instr.Call (record {
          name = None;
          result = Void;
          result_extensions = not_extended;
          callee = g;
          arguments = record { operand = byte z; extensions = not_extended } ∷ [];
        })
        ∷ [];
    term = end.Ret (byte z);
  }
      ∷ [];
}

abbrev pub named_sorts : Module
named_sorts = record {
  types = record { name = x; fields = Some (Ptr (Int 8) ∷ []) } ∷ [];
  globals = record {
    name = y;
    linkage = linkages.Internal;
    constant = false;
    ty = Int 8;
    init = Some (start.Const (constant.Number 255));
    align = Some 4;
  }
      ∷ [];
  functions = sole ∷ [];
  declarations = record {
    result_extensions = not_extended;
    result = Void;
    name = g;
    params = record { ty = Int 8; extensions = not_extended } ∷ [];
    variadic = false;
    before = 0;
  }
      ∷ [];
}

abbrev pub EachSortIsNamed : Type 0
EachSortIsNamed = NamesModule (Is no_types) (Is no_params) (record { items = sorts }) named_sorts
