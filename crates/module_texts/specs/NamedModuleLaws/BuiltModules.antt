-- What is built of trees, in which nothing is at fault.
use Rattle.std.specs.Prelude.{◌≡◌, ℕ, true, false, List, [], ◌∷◌, None, Some, codes}
use Rattle.ir_core.specs.Modules.{not_extended}
use Rattle.ir_core.specs.declared.expressions.Expr.{Expr}
use Rattle.ir_core.specs.declared.expressions.Expr.TheVariants as expr
use Rattle.ir_core.specs.declared.functions.Function.{Function}
use Rattle.ir_core.specs.declared.functions.Instr.{Instr}
use Rattle.ir_core.specs.declared.functions.Instr.TheVariants as instr
use Rattle.ir_core.specs.declared.functions.Term.TheVariants as end
use Rattle.ir_core.specs.declared.modules.Init as init_of
use Rattle.ir_core.specs.declared.modules.Linkage.TheVariants as linkages
use Rattle.ir_core.specs.declared.modules.Module.{Module}
use Rattle.ir_core.specs.declared.operands.Atom.{Atom}
use Rattle.ir_core.specs.declared.operands.Atom.TheVariants.{Constant, Register}
use Rattle.ir_core.specs.declared.operands.BinOp.{BinOp}
use Rattle.ir_core.specs.declared.operands.Flags.{Flags}
use Rattle.ir_core.specs.declared.operands.BinOp.TheVariants.{AShr, Add, And, LShr, Mul, Or, SDiv, SRem, Shl, Sub, UDiv, URem, Xor}
use Rattle.ir_core.specs.declared.operands.CastOp.TheVariants.{BitCast, SExt, Trunc, ZExt}
use Rattle.ir_core.specs.declared.operands.Const as constant
use Rattle.ir_core.specs.declared.operands.Operand.{Operand}
use Rattle.ir_core.specs.declared.operands.Pred.TheVariants.{Ult}
use Rattle.ir_types.specs.declared.names.Name.{Name}
use Rattle.ir_types.specs.declared.names.Name.TheVariants.{Number, Text}
use Rattle.ir_types.specs.declared.ty.Ty.{Int, Ptr, Array, Struct, Void}
use Rattle.module_grammar.specs.AtPlaces.{debug_at}
use Rattle.module_grammar.specs.declared.attributes.BangText.TheVariants as bang
use Rattle.module_grammar.specs.declared.attributes.FunctionAttributeText.TheVariants as function_attribute
use Rattle.module_grammar.specs.declared.attributes.MetaText.TheVariants as meta
use Rattle.module_grammar.specs.declared.attributes.ParamAttributeText.TheVariants as attribute
use Rattle.module_grammar.specs.declared.constants.ConstText as const
use Rattle.module_grammar.specs.declared.constants.GlobalNameText.TheVariants as global_name
use Rattle.module_grammar.specs.declared.constants.InitText as init
use Rattle.module_grammar.specs.declared.constants.ValueText.TheVariants as text
use Rattle.module_grammar.specs.declared.flow.BranchText.TheVariants as branch
use Rattle.module_grammar.specs.declared.flow.TermText.TheVariants as term
use Rattle.module_grammar.specs.declared.functions.DeclaredNameText.TheVariants as declared_name
use Rattle.module_grammar.specs.declared.functions.LinkageText.TheVariants as linkage
use Rattle.module_grammar.specs.declared.items.HeldText.TheVariants as held
use Rattle.module_grammar.specs.declared.items.HoldingWord.TheVariants.{Constant as HeldConstant, Global as HeldGlobal}
use Rattle.module_grammar.specs.declared.items.ItemText.{ItemText}
use Rattle.module_grammar.specs.declared.items.ItemText.TheVariants as item
use Rattle.module_grammar.specs.declared.items.TypeBodyText.TheVariants as type_body
use Rattle.module_grammar.specs.declared.lines.CallBodyText.TheVariants as body
use Rattle.module_grammar.specs.declared.lines.CastWord.TheVariants as conversion
use Rattle.module_grammar.specs.declared.lines.InstructionText.TheVariants as instruction
use Rattle.module_grammar.specs.declared.lines.OperatorText.TheVariants as operators
use Rattle.module_grammar.specs.declared.lines.VoidCallText.TheVariants as of_void
use Rattle.module_grammar.specs.declared.operators.ExactOp.TheVariants as exact_op
use Rattle.module_grammar.specs.declared.operators.ExtensionWord.TheVariants.{Signed, Zero}
use Rattle.module_grammar.specs.declared.operators.FlagWord.TheVariants.{Nuw, Nsw}
use Rattle.module_grammar.specs.declared.operators.LinkageWord.TheVariants as linkage_word
use Rattle.module_grammar.specs.declared.operators.OverflowOp.TheVariants as overflow_op
use Rattle.module_grammar.specs.declared.operators.PlainOp.TheVariants as plain_op
use Rattle.module_grammar.specs.declared.operators.ResizeOp.TheVariants as resize_op
use Rattle.module_texts.specs.NamedModuleLaws.Words.{b, f, g, x, y, z, named, positive, plus, minus, yes, i1, i8, integer, pointer, array, struct, number, of_global, operand, setting, bare, binary, compare, cast, select, element, alloca, load, store, call, argument, arguments, entry, phi, case, block, holding, result, param, no_more, declare, define, of_blocks, of_lines, no_params, faults, global}
use Rattle.named_modules.specs.Built.{module_of}

-- the module is built of these items, where no parameters stand behind a name of debugging, and nothing is at fault in them
abbrev Names : List ItemText → Module → Type 0
Names items m = (module_of no_params (record { items = items }) ≡ m) × (faults items ≡ [])

abbrev number_atom : ℕ → Atom Name
number_atom n = Constant (constant.Number n)

abbrev i8_register : Name → Operand Name
i8_register name = record { ty = Int 8; atom = Register name }

-- of an i8*
abbrev pointer_named : Name → Operand Name
pointer_named name = record { ty = Ptr (Int 8); atom = Register name }

abbrev pointer_y : Operand Name
pointer_y = pointer_named y

abbrev unflagged : Flags
unflagged = record { nuw = false; nsw = false; exact = false }

-- of two i8
abbrev of_bytes : BinOp → Flags → Atom Name → Atom Name → Expr Name
of_bytes op flags left right = expr.Binary (record { op = op; flags = flags; ty = Int 8; left = left; right = right })

abbrev calm : Name → Expr Name → Instr
calm name right = instr.Calm (record { name = name; right = right })

-- the function @f of a parameter i8 %x and a parameter i8* %y, of these lines, that returns nothing
abbrev lines_of : List Instr → Function
lines_of body = record {
  linkage = linkages.External;
  result_extensions = not_extended;
  result = Void;
  name = f;
  params = record { name = x; ty = Int 8; extensions = not_extended } ∷ record { name = y; ty = Ptr (Int 8); extensions = not_extended } ∷ [];
  blocks = record { name = Number 0; phis = []; body = body; term = end.RetVoid } ∷ [];
}

-- What is built of items: what plays no part is dropped.
pub record ItemsAreBuilt : Type 0 where
  -- `%x = type { i8, i32 } %y = type opaque %z = type {}`
  pub types :
      Names
      (item.Type (named 0 x) (type_body.Struct 10 (i8 12 ∷ integer 32 16 ∷ [])) ∷ item.Type (named 22 y) type_body.Opaque
      ∷ item.Type (named 39 z) (type_body.Struct 49 []) ∷ [])
      (record {
        types = record { name = x; fields = Some (Int 8 ∷ Int 32 ∷ []) } ∷ record { name = y; fields = None }
            ∷ record { name = z; fields = Some [] } ∷ [];
        globals = [];
        functions = [];
        declarations = [];
      })
  -- `@x = private constant i8 -1, align 0 @y = external global i32, align 4 @0 = global i1 true @b = global i8 -0`
  pub numbers :
      Names
      (holding (global_name.Plain (named 0 x)) (held.Init (Some linkage_word.Private) (init.Const (const.Int (minus 1 25 27))))
      HeldConstant (i8 22) (Some (positive 0 35 36))
      ∷ holding (global_name.Plain (named 37 y)) held.External HeldGlobal (integer 32 58) (Some (positive 4 69 70))
      ∷ global 71 (Number 0) (i1 83) (init.Const (const.Int (yes 86)))
      ∷ global 91 b (i8 103) (init.Const (const.Int (minus 0 106 108))) ∷ [])
      (record {
        types = [];
        globals = record {
          name = x;
          linkage = linkages.Private;
          constant = true;
          ty = Int 8;
          init = Some (init_of.Const (constant.Number 255));
          align = None;
        }
            ∷ record { name = y; linkage = linkages.External; constant = false; ty = Int 32; init = None; align = Some 4 }
            ∷ record {
              name = Number 0;
              linkage = linkages.External;
              constant = false;
              ty = Int 1;
              init = Some (init_of.Const (constant.Number 1));
              align = None;
            }
            ∷ record {
              name = b;
              linkage = linkages.External;
              constant = false;
              ty = Int 8;
              init = Some (init_of.Const (constant.Number 0));
              align = None;
            } ∷ [];
        functions = [];
        declarations = [];
      })
  -- `@x = global [2 x i8] c"ab" @y = global { i8, i32 } { i8 1, i32 undef } @z = global [2 x i8] zeroinitializer @b = global [2 x i8]
  -- undef`
  pub initials :
      Names
      (global 0 x (array 12 (positive 2 13 14) (i8 17)) (init.Bytes (record { what = codes "ab"; start = 22; end = 26 }))
      ∷ global 27 y (struct 39 (i8 41 ∷ integer 32 45 ∷ []))
      (init.Struct 51 ((i8 53, init.Const (number 1 56 57)) ∷ (integer 32 59, init.Const const.Undef) ∷ []))
      ∷ global 71 z (array 83 (positive 2 84 85) (i8 88)) init.Zero
      ∷ global 108 b (array 120 (positive 2 121 122) (i8 125)) (init.Const const.Undef) ∷ [])
      (record {
        types = [];
        globals = record {
          name = x;
          linkage = linkages.External;
          constant = false;
          ty = Array 2 (Int 8);
          init = Some (init_of.Bytes (codes "ab"));
          align = None;
        }
            ∷ record {
              name = y;
              linkage = linkages.External;
              constant = false;
              ty = Struct (Int 8 ∷ Int 32 ∷ []);
              init = Some (init_of.Struct ((Int 8, init_of.Const (constant.Number 1)) ∷ (Int 32, init_of.Const constant.Undef) ∷ []));
              align = None;
            }
            ∷ record {
              name = z;
              linkage = linkages.External;
              constant = false;
              ty = Array 2 (Int 8);
              init = Some init_of.Zero;
              align = None;
            }
            ∷ record {
              name = b;
              linkage = linkages.External;
              constant = false;
              ty = Array 2 (Int 8);
              init = Some (init_of.Const constant.Undef);
              align = None;
            } ∷ [];
        functions = [];
        declarations = [];
      })
  -- `@x = global i8* bitcast (i1* null to i8*) @y = global i8* getelementptr inbounds (i8, i8* @z, i8 -1) @z = global i8 0`
  pub addresses :
      Names
      (global 0 x (pointer 14 (i8 12)) (init.Const (const.Cast 16 (pointer 27 (i1 25), const.Null 29, pointer 39 (i8 37))))
      ∷ global 42 y (pointer 56 (i8 54))
      (init.Const (const.Element 58 true (i8 82, pointer 88 (i8 86), of_global (named 90 z), (i8 94, const.Int (minus 1 97 99)) ∷ [])))
      ∷ global 101 z (i8 113) (init.Const (number 0 116 117)) ∷ [])
      (record {
        types = [];
        globals = record {
          name = x;
          linkage = linkages.External;
          constant = false;
          ty = Ptr (Int 8);
          init = Some (init_of.Const (constant.Cast (Ptr (Int 8), (Ptr (Int 1), constant.Null) ∷ [])));
          align = None;
        }
            ∷ record {
              name = y;
              linkage = linkages.External;
              constant = false;
              ty = Ptr (Int 8);
              init = Some
                  (init_of.Const (constant.Element (true, Int 8, (Ptr (Int 8), constant.Global z) ∷ (Int 8, constant.Number 255) ∷ [])));
              align = None;
            }
            ∷ record {
              name = z;
              linkage = linkages.External;
              constant = false;
              ty = Int 8;
              init = Some (init_of.Const (constant.Number 0));
              align = None;
            } ∷ [];
        functions = [];
        declarations = [];
      })
  -- `@0 = private global i8 0 @1 = internal global i8 0 @2 = common global i8 0 @3 = available_externally global i8 0 @4 =
  -- linkonce_odr global i8 0 @5 = weak_odr global i8 0`
  pub linkages_of_globals :
      Names
      (holding (global_name.Plain (named 0 (Number 0))) (held.Init (Some linkage_word.Private) (init.Const (number 0 23 24))) HeldGlobal
      (i8 20) None
      ∷ holding (global_name.Plain (named 25 (Number 1))) (held.Init (Some linkage_word.Internal) (init.Const (number 0 49 50)))
      HeldGlobal (i8 46) None
      ∷ holding (global_name.Plain (named 51 (Number 2))) (held.Init (Some linkage_word.Common) (init.Const (number 0 73 74)))
      HeldGlobal (i8 70) None
      ∷ holding (global_name.Plain (named 75 (Number 3)))
      (held.Init (Some linkage_word.AvailableExternally) (init.Const (number 0 111 112))) HeldGlobal (i8 108) None
      ∷ holding (global_name.Plain (named 113 (Number 4))) (held.Init (Some linkage_word.LinkonceOdr) (init.Const (number 0 141 142)))
      HeldGlobal (i8 138) None
      ∷ holding (global_name.Plain (named 143 (Number 5))) (held.Init (Some linkage_word.WeakOdr) (init.Const (number 0 167 168)))
      HeldGlobal (i8 164) None ∷ [])
      (record {
        types = [];
        globals = record {
          name = Number 0;
          linkage = linkages.Private;
          constant = false;
          ty = Int 8;
          init = Some (init_of.Const (constant.Number 0));
          align = None;
        }
            ∷ record {
              name = Number 1;
              linkage = linkages.Internal;
              constant = false;
              ty = Int 8;
              init = Some (init_of.Const (constant.Number 0));
              align = None;
            }
            ∷ record {
              name = Number 2;
              linkage = linkages.Common;
              constant = false;
              ty = Int 8;
              init = Some (init_of.Const (constant.Number 0));
              align = None;
            }
            ∷ record {
              name = Number 3;
              linkage = linkages.AvailableExternally;
              constant = false;
              ty = Int 8;
              init = Some (init_of.Const (constant.Number 0));
              align = None;
            }
            ∷ record {
              name = Number 4;
              linkage = linkages.LinkonceOdr;
              constant = false;
              ty = Int 8;
              init = Some (init_of.Const (constant.Number 0));
              align = None;
            }
            ∷ record {
              name = Number 5;
              linkage = linkages.WeakOdr;
              constant = false;
              ty = Int 8;
              init = Some (init_of.Const (constant.Number 0));
              align = None;
            } ∷ [];
        functions = [];
        declarations = [];
      })
  -- `target triple = "x" attributes #0 = { nounwind } !0 = !{} declare void @llvm.dbg.x([2 x i8])`
  pub dropped :
      Names
      (item.Target ∷ item.Attributes 36
      ∷ item.Metadata false (meta.Bang (bang.Node 55))
      ∷ item.Declaration (record { result = result [] None; declared = declared_name.Debug (debug_at 71 82) no_more }) ∷ [])
      (record { types = []; globals = []; functions = []; declarations = [] })
  -- `declare void @llvm.dbg.x() declare signext i8 @f(i8 zeroext signext zeroext %x, ...) nounwind define void @g() { ret void }
  -- declare i32 @x(i8* nocapture)`
  pub declared :
      Names
      (item.Declaration (record { result = result [] None; declared = declared_name.Debug (debug_at 13 24) no_more })
      ∷ declare (result (attribute.Extension Signed ∷ []) (Some (i8 43))) (named 46 f)
      (param (i8 49) (attribute.Extension Zero ∷ attribute.Extension Signed ∷ attribute.Extension Zero ∷ []) (Some (named 76 x)) ∷ [])
      true (record { unnamed_addr = false; attributes = function_attribute.Word ∷ [] })
      ∷ define (result [] None) (global_name.Plain (named 106 g)) [] 111 (block None [] [] (term.Ret None)) []
      ∷ declare (result [] (Some (integer 32 132))) (named 136 x) (param (pointer 141 (i8 139)) (attribute.Word ∷ []) None ∷ []) false
      no_more ∷ [])
      (record {
        types = [];
        globals = [];
        functions = record {
          linkage = linkages.External;
          result_extensions = not_extended;
          result = Void;
          name = g;
          params = [];
          blocks = record { name = Number 0; phis = []; body = []; term = end.RetVoid } ∷ [];
        } ∷ [];
        declarations = record {
          result_extensions = record { signed = true; zero = false };
          result = Int 8;
          name = f;
          params = record { ty = Int 8; extensions = record { signed = true; zero = true } } ∷ [];
          variadic = true;
          before = 0;
        }
            ∷ record {
              result_extensions = not_extended;
              result = Int 32;
              name = x;
              params = record { ty = Ptr (Int 8); extensions = not_extended } ∷ [];
              variadic = false;
              before = 1;
            } ∷ [];
      })
  -- `define external signext i8 @f(i8 zeroext) nounwind { ret i8 %0 } define internal void @g() { unreachable }`
  pub defined :
      Names
      (item.Definition (record {
        linkage = linkage.External;
        head = record {
          result = result (attribute.Extension Signed ∷ []) (Some (i8 24));
          name = global_name.Plain (named 27 f);
          params = param (i8 30) (attribute.Extension Zero ∷ []) None ∷ [];
          end = record { unnamed_addr = false; attributes = function_attribute.Word ∷ [] };
        };
        attachment = None;
        at = 51;
        entry = block None [] [] (term.Ret (Some (operand (i8 57) (text.Local (named 60 (Number 0))))));
        others = [];
      })
      ∷ item.Definition (record {
        linkage = linkage.Word linkage_word.Internal;
        head = record { result = result [] None; name = global_name.Plain (named 86 g); params = []; end = no_more };
        attachment = None;
        at = 91;
        entry = block None [] [] term.Unreachable;
        others = [];
      }) ∷ [])
      (record {
        types = [];
        globals = [];
        functions = record {
          linkage = linkages.External;
          result_extensions = record { signed = true; zero = false };
          result = Int 8;
          name = f;
          params = record { name = Number 0; ty = Int 8; extensions = record { signed = false; zero = true } } ∷ [];
          blocks = record { name = Number 1; phis = []; body = []; term = end.Ret (i8_register (Number 0)) } ∷ [];
        }
            ∷ record {
              linkage = linkages.Internal;
              result_extensions = not_extended;
              result = Void;
              name = g;
              params = [];
              blocks = record { name = Number 0; phis = []; body = []; term = end.Unreachable } ∷ [];
            } ∷ [];
        declarations = [];
      })
  -- `declare void @llvm.dbg.x(i8 signext, ...) unnamed_addr`, where those parameters stand
  pub kept_debugging :
      module_of
      (λ at. record { params = param (i8 25) (attribute.Extension Signed ∷ []) None ∷ []; is_open = true })
      (record {
        items = item.Declaration (record {
          result = result [] None;
          declared = declared_name.Debug (debug_at 13 24) (record { unnamed_addr = true; attributes = [] });
        })
            ∷ [];
      })
      ≡ record {
        types = [];
        globals = [];
        functions = [];
        declarations = record {
          result_extensions = not_extended;
          result = Void;
          name = Text (codes "llvm.dbg.x");
          params = record { ty = Int 8; extensions = record { signed = true; zero = false } } ∷ [];
          variadic = true;
          before = 0;
        }
            ∷ [];
      }

-- What is built of lines and blocks.
pub record LinesAreBuilt : Type 0 where
  -- `define void @f(i8 %x, i8* %y) { %z = add nsw nuw nsw i8 %x, -1 lshr exact i8 %z, %x and i8 %1, undef urem i8 1, %2 ret void }`
  pub flagged_operators :
      Names
      (of_lines
      (setting (named 32 z)
      (binary (operators.Overflow overflow_op.Add (Nsw ∷ Nuw ∷ Nsw ∷ [])) (operand (i8 53) (text.Local (named 56 x)))
      (text.Const (const.Int (minus 1 60 62))))
      ∷ bare (binary (operators.Exact exact_op.LShr true) (operand (i8 74) (text.Local (named 77 z))) (text.Local (named 81 x)))
      ∷ bare (binary (operators.Plain plain_op.And) (operand (i8 88) (text.Local (named 91 (Number 1)))) (text.Const const.Undef))
      ∷ bare
      (binary (operators.Plain plain_op.URem) (operand (i8 106) (text.Const (number 1 109 110))) (text.Local (named 112 (Number 2))))
      ∷ []))
      (record {
        types = [];
        globals = [];
        functions = lines_of
            (calm z (of_bytes Add (record { nuw = true; nsw = true; exact = false }) (Register x) (number_atom 255))
            ∷ calm (Number 1) (of_bytes LShr (record { nuw = false; nsw = false; exact = true }) (Register z) (Register x))
            ∷ calm (Number 2) (of_bytes And unflagged (Register (Number 1)) (Constant constant.Undef))
            ∷ calm (Number 3) (of_bytes URem unflagged (number_atom 1) (Register (Number 2))) ∷ []) ∷ [];
        declarations = [];
      })
  -- `define void @f(i8 %x, i8* %y) { sub i8 %x, 1 mul i8 %x, 1 shl nuw i8 %x, 1 udiv exact i8 %x, 1 sdiv i8 %x, 1 ashr i8 %x, 1 srem
  -- i8 %x, 1 or i8 %x, 1 xor i8 %x, 1 ret void }`
  pub further_operators :
      Names
      (of_lines
      (bare (binary (operators.Overflow overflow_op.Sub []) (operand (i8 36) (text.Local (named 39 x))) (text.Const (number 1 43 44)))
      ∷ bare (binary (operators.Overflow overflow_op.Mul []) (operand (i8 49) (text.Local (named 52 x))) (text.Const (number 1 56 57)))
      ∷ bare
      (binary (operators.Overflow overflow_op.Shl (Nuw ∷ [])) (operand (i8 66) (text.Local (named 69 x))) (text.Const (number 1 73 74)))
      ∷ bare (binary (operators.Exact exact_op.UDiv true) (operand (i8 86) (text.Local (named 89 x))) (text.Const (number 1 93 94)))
      ∷ bare
      (binary (operators.Exact exact_op.SDiv false) (operand (i8 100) (text.Local (named 103 x))) (text.Const (number 1 107 108)))
      ∷ bare
      (binary (operators.Exact exact_op.AShr false) (operand (i8 114) (text.Local (named 117 x))) (text.Const (number 1 121 122)))
      ∷ bare (binary (operators.Plain plain_op.SRem) (operand (i8 128) (text.Local (named 131 x))) (text.Const (number 1 135 136)))
      ∷ bare (binary (operators.Plain plain_op.Or) (operand (i8 140) (text.Local (named 143 x))) (text.Const (number 1 147 148)))
      ∷ bare (binary (operators.Plain plain_op.Xor) (operand (i8 153) (text.Local (named 156 x))) (text.Const (number 1 160 161))) ∷ []))
      (record {
        types = [];
        globals = [];
        functions = lines_of
            (calm (Number 1) (of_bytes Sub unflagged (Register x) (number_atom 1))
            ∷ calm (Number 2) (of_bytes Mul unflagged (Register x) (number_atom 1))
            ∷ calm (Number 3) (of_bytes Shl (record { nuw = true; nsw = false; exact = false }) (Register x) (number_atom 1))
            ∷ calm (Number 4) (of_bytes UDiv (record { nuw = false; nsw = false; exact = true }) (Register x) (number_atom 1))
            ∷ calm (Number 5) (of_bytes SDiv unflagged (Register x) (number_atom 1))
            ∷ calm (Number 6) (of_bytes AShr unflagged (Register x) (number_atom 1))
            ∷ calm (Number 7) (of_bytes SRem unflagged (Register x) (number_atom 1))
            ∷ calm (Number 8) (of_bytes Or unflagged (Register x) (number_atom 1))
            ∷ calm (Number 9) (of_bytes Xor unflagged (Register x) (number_atom 1)) ∷ []) ∷ [];
        declarations = [];
      })
  -- `define void @f(i8 %x, i8* %y) { sext i8 %x to i32 trunc i32 %1 to i1 ret void }`
  pub widths :
      Names
      (of_lines
      (bare (cast (conversion.Resize resize_op.SExt) (operand (i8 37) (text.Local (named 40 x))) (integer 32 46))
      ∷ bare (cast (conversion.Resize resize_op.Trunc) (operand (integer 32 56) (text.Local (named 60 (Number 1)))) (i1 66)) ∷ []))
      (record {
        types = [];
        globals = [];
        functions = lines_of
            (calm (Number 1) (expr.Cast (record { op = SExt; operand = i8_register x; to = Int 32 }))
            ∷ calm (Number 2) (expr.Cast (record { op = Trunc; operand = record { ty = Int 32; atom = Register (Number 1) }; to = Int 1 }))
            ∷ []) ∷ [];
        declarations = [];
      })
  -- `define void @f(i8 %x, i8* %y) { icmp ult i8 %x, 1 zext i1 %1 to i32 %z = bitcast i8* %y to i32* select i1 %1, i32 %2, i32 0 ret
  -- void }`
  pub conversions :
      Names
      (of_lines
      (bare (compare Ult (operand (i8 41) (text.Local (named 44 x))) (text.Const (number 1 48 49)))
      ∷ bare (cast (conversion.Resize resize_op.ZExt) (operand (i1 55) (text.Local (named 58 (Number 1)))) (integer 32 64))
      ∷ setting (named 68 z)
      (cast (conversion.BitCast 73) (operand (pointer 83 (i8 81)) (text.Local (named 85 y))) (pointer 94 (integer 32 91)))
      ∷ bare
      (select (operand (i1 103) (text.Local (named 106 (Number 1)))) (operand (integer 32 110) (text.Local (named 114 (Number 2))))
      (operand (integer 32 118) (text.Const (number 0 122 123)))) ∷ []))
      (record {
        types = [];
        globals = [];
        functions = lines_of
            (calm (Number 1) (expr.Icmp (record { pred = Ult; ty = Int 8; left = Register x; right = number_atom 1 }))
            ∷ calm (Number 2) (expr.Cast (record { op = ZExt; operand = record { ty = Int 1; atom = Register (Number 1) }; to = Int 32 }))
            ∷ calm z (expr.Cast (record { op = BitCast; operand = pointer_y; to = Ptr (Int 32) }))
            ∷ calm (Number 3)
            (expr.Select (record {
              condition = record { ty = Int 1; atom = Register (Number 1) };
              left = record { ty = Int 32; atom = Register (Number 2) };
              right = record { ty = Int 32; atom = number_atom 0 };
            })) ∷ []) ∷ [];
        declarations = [];
      })
  -- `define void @f(i8 %x, i8* %y) { %z = getelementptr inbounds i8, i8* %y, i32 -1 %b = load i8, i8* %z, align 4 store i8 %b, i8* %y,
  -- align 0 alloca i8, i8 -1, align 8 alloca i1, i1 true alloca i1, i1 -1 alloca i8, i32 1, align 0 load i8, i8* %4 ret void }`
  pub memory :
      Names
      (of_lines
      (setting (named 32 z)
      (element 37 true (i8 60) (operand (pointer 66 (i8 64)) (text.Local (named 68 y)))
      (operand (integer 32 72) (text.Const (const.Int (minus 1 76 78))) ∷ []))
      ∷ setting (named 79 b) (load (i8 89) (operand (pointer 95 (i8 93)) (text.Local (named 97 z))) (Some (positive 4 107 108)))
      ∷ bare
      (store (operand (i8 115) (text.Local (named 118 b))) (operand (pointer 124 (i8 122)) (text.Local (named 126 y)))
      (Some (positive 0 136 137)))
      ∷ bare (alloca (i8 145) (Some (record { ty = i8 149; number = minus 1 152 154 })) (Some (positive 8 162 163)))
      ∷ bare (alloca (i1 171) (Some (record { ty = i1 175; number = yes 178 })) None)
      ∷ bare (alloca (i1 190) (Some (record { ty = i1 194; number = minus 1 197 199 })) None)
      ∷ bare (alloca (i8 207) (Some (record { ty = integer 32 211; number = plus 1 215 216 })) (Some (positive 0 224 225)))
      ∷ bare (load (i8 231) (operand (pointer 237 (i8 235)) (text.Local (named 239 (Number 4)))) None) ∷ []))
      (record {
        types = [];
        globals = [];
        functions = lines_of
            (calm z
            (expr.Element (record {
              inbounds = true;
              of = Int 8;
              base = pointer_y;
              indices = record { ty = Int 32; atom = number_atom 4294967295 } ∷ [];
              to = Ptr (Int 8);
            }))
            ∷ calm b (expr.Load (record { of = Int 8; pointer = pointer_named z; align = Some 4 }))
            ∷ instr.Store (record { value = i8_register b; pointer = pointer_y; align = None })
            ∷ instr.Alloca (record { name = Number 1; of = Int 8; to = Ptr (Int 8); count = Some (Int 8, 255); align = Some 8 })
            ∷ instr.Alloca (record { name = Number 2; of = Int 1; to = Ptr (Int 1); count = None; align = None })
            ∷ instr.Alloca (record { name = Number 3; of = Int 1; to = Ptr (Int 1); count = None; align = None })
            ∷ instr.Alloca (record { name = Number 4; of = Int 8; to = Ptr (Int 8); count = None; align = None })
            ∷ calm (Number 5) (expr.Load (record { of = Int 8; pointer = pointer_named (Number 4); align = None })) ∷ []) ∷ [];
        declarations = [];
      })
  -- `declare i8 @g(i8, ...) declare void @z() define void @f(i8 %x, i8* %y) { call void @llvm.dbg.x(i1 true) %z = tail call signext i8
  -- (i8, ...) @g(i8 signext zeroext signext 1, i8* nocapture %y) call void @z() call i8 (i8, ...) @g(i8 2) nounwind call ccc i8 (i8,
  -- ...) @g(i8 %1) ret void }`
  pub calls :
      Names
      (declare (result [] (Some (i8 8))) (named 11 g) (param (i8 14) [] None ∷ []) true no_more
      ∷ declare (result [] None) (named 36 z) [] false no_more
      ∷ of_blocks 53 (param (i8 56) [] (Some (named 59 x)) ∷ param (pointer 65 (i8 63)) [] (Some (named 67 y)) ∷ []) 71
      (block None []
      (bare (call (body.Void (record { is_stated = false; call = of_void.Debug (debug_at 83 94) [] })))
      ∷ setting (named 104 z)
      (instruction.Call (record {
        tail = true;
        body = body.Attributes (attribute.Extension Signed) [] (record {
          result = Some (i8 127);
          called = Some (record { types = i8 131 ∷ []; is_open = true });
          name = global_name.Plain (named 140 g);
        })
            (arguments
            (record {
              ty = i8 143;
              attributes = attribute.Extension Signed ∷ attribute.Extension Zero ∷ attribute.Extension Signed ∷ [];
              value = text.Const (number 1 170 171);
            }
            ∷ record { ty = pointer 175 (i8 173); attributes = attribute.Word ∷ []; value = text.Local (named 187 y) } ∷ []));
      }))
      ∷ bare (call (body.Void (record { is_stated = false; call = of_void.Call (named 201 z) (arguments []) })))
      ∷ bare
      (call
      (body.Typed (i8 211) (Some (record { types = i8 215 ∷ []; is_open = true })) (global_name.Plain (named 224 g)) (record { arguments = argument (i8 227) (text.Const (number 2 230 231)) ∷ []; attributes = function_attribute.Word ∷ [] })))
      ∷ bare
      (call
      (body.Convention [] (record {
        result = Some (i8 251);
        called = Some (record { types = i8 255 ∷ []; is_open = true });
        name = global_name.Plain (named 264 g);
      }) (arguments (argument (i8 267) (text.Local (named 270 (Number 1))) ∷ [])))) ∷ []) (term.Ret None)) [] ∷ [])
      (record {
        types = [];
        globals = [];
        functions = lines_of
            (instr.Call (record {
              name = Some z;
              result = Int 8;
              result_extensions = record { signed = true; zero = false };
              callee = g;
              arguments = record {
                operand = record { ty = Int 8; atom = number_atom 1 };
                extensions = record { signed = true; zero = true };
              }
                  ∷ record { operand = pointer_y; extensions = not_extended } ∷ [];
            })
            ∷ instr.Call (record { name = None; result = Void; result_extensions = not_extended; callee = z; arguments = [] })
            ∷ instr.Call (record {
              name = Some (Number 1);
              result = Int 8;
              result_extensions = not_extended;
              callee = g;
              arguments = record { operand = record { ty = Int 8; atom = number_atom 2 }; extensions = not_extended } ∷ [];
            })
            ∷ instr.Call (record {
              name = Some (Number 2);
              result = Int 8;
              result_extensions = not_extended;
              callee = g;
              arguments = record { operand = i8_register (Number 1); extensions = not_extended } ∷ [];
            }) ∷ []) ∷ [];
        declarations = record {
          result_extensions = not_extended;
          result = Int 8;
          name = g;
          params = record { ty = Int 8; extensions = not_extended } ∷ [];
          variadic = true;
          before = 0;
        }
            ∷ record { result_extensions = not_extended; result = Void; name = z; params = []; variadic = false; before = 0 } ∷ [];
      })
  -- `define i8 @f(i1 %x, i8) { br i1 %x, label %b, label %2 b: %z = phi i8 [ %0, %1 ] br label %2 phi i8 [ -1, %1 ], [ %z, %b ] switch
  -- i8 %3, label %b [ i8 -2, label %2 i8 3, label %4 ] ret i8 %3 }`
  pub blocks :
      Names
      (define (result [] (Some (i8 7))) (global_name.Plain (named 10 f))
      (param (i1 13) [] (Some (named 16 x)) ∷ param (i8 20) [] None ∷ []) 24
      (block None [] []
      (term.Br
      (branch.Condition (record { condition = operand (i1 29) (text.Local (named 32 x)); on_true = named 42 b; on_false = named 52 (Number 2) }))))
      (block (Some (named 55 b))
      (phi (Some (named 58 z)) (i8 67) (entry 70 (text.Local (named 72 (Number 0))) (named 76 (Number 1))) [] ∷ []) []
      (term.Br (branch.Always (named 90 (Number 2))))
      ∷ block None
      (phi None (i8 97) (entry 100 (text.Const (const.Int (minus 1 102 104))) (named 106 (Number 1)))
      (entry 112 (text.Local (named 114 z)) (named 118 b) ∷ []) ∷ []) []
      (term.Switch (record {
        value = operand (i8 130) (text.Local (named 133 (Number 3)));
        default = named 143 b;
        at = 146;
        cases = case (i8 148) (minus 2 151 153) (named 161 (Number 2)) ∷ case (i8 164) (plus 3 167 168) (named 176 (Number 4)) ∷ [];
      }))
      ∷ block None [] [] (term.Ret (Some (operand (i8 185) (text.Local (named 188 (Number 3)))))) ∷ []) ∷ [])
      (record {
        types = [];
        globals = [];
        functions = record {
          linkage = linkages.External;
          result_extensions = not_extended;
          result = Int 8;
          name = f;
          params = record { name = x; ty = Int 1; extensions = not_extended }
              ∷ record { name = Number 0; ty = Int 8; extensions = not_extended } ∷ [];
          blocks = record {
            name = Number 1;
            phis = [];
            body = [];
            term = end.CondBr (record { condition = record { ty = Int 1; atom = Register x }; on_true = b; on_false = Number 2 });
          }
              ∷ record {
                name = b;
                phis = record { name = z; ty = Int 8; entries = record { value = Register (Number 0); from = Number 1 } ∷ [] } ∷ [];
                body = [];
                term = end.Br (Number 2);
              }
              ∷ record {
                name = Number 2;
                phis = record {
                  name = Number 3;
                  ty = Int 8;
                  entries = record { value = number_atom 255; from = Number 1 } ∷ record { value = Register z; from = b } ∷ [];
                } ∷ [];
                body = [];
                term = end.Switch (record {
                  value = i8_register (Number 3);
                  default = b;
                  cases = record { ty = Int 8; number = 254; label = Number 2 } ∷ record { ty = Int 8; number = 3; label = Number 4 } ∷ [];
                });
              }
              ∷ record { name = Number 4; phis = []; body = []; term = end.Ret (i8_register (Number 3)) } ∷ [];
        } ∷ [];
        declarations = [];
      })
