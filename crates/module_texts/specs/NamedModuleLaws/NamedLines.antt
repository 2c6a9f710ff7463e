-- A tree with a line of each kind, and the module that it names.
use Rattle.std.specs.Prelude.{ℕ, true, false, List, [], ◌∷◌, None, Some}
use Rattle.ir_core.specs.Modules.{not_extended}
use Rattle.ir_core.specs.declared.expressions.Expr.{Expr}
use Rattle.ir_core.specs.declared.expressions.Expr.TheVariants as expr
use Rattle.ir_core.specs.declared.functions.Block.{Block}
use Rattle.ir_core.specs.declared.functions.Function.{Function}
use Rattle.ir_core.specs.declared.functions.Instr.{Instr}
use Rattle.ir_core.specs.declared.functions.Instr.TheVariants as instr
use Rattle.ir_core.specs.declared.functions.Term.TheVariants as end
use Rattle.ir_core.specs.declared.modules.Linkage.TheVariants as linkages
use Rattle.ir_core.specs.declared.modules.Module.{Module}
use Rattle.ir_core.specs.declared.operands.Atom.TheVariants.{Constant, Register}
use Rattle.ir_core.specs.declared.operands.CastOp.TheVariants.{ZExt}
use Rattle.ir_core.specs.declared.operands.Const as constant
use Rattle.ir_core.specs.declared.operands.Operand.{Operand}
use Rattle.ir_core.specs.declared.operands.Pred.TheVariants.{Ult}
use Rattle.ir_types.specs.declared.names.Name.{Name}
use Rattle.ir_types.specs.declared.names.Name.TheVariants.{Number}
use Rattle.ir_types.specs.declared.ty.Ty.{Ty, Int, Ptr, Void}
use Rattle.module_grammar.specs.AtPlaces.{debug_at}
use Rattle.module_grammar.specs.declared.attributes.ParamAttributeText.TheVariants as attribute
use Rattle.module_grammar.specs.declared.constants.ConstText as const
use Rattle.module_grammar.specs.declared.constants.GlobalNameText.TheVariants as global_name
use Rattle.module_grammar.specs.declared.constants.ValueText.TheVariants as text
use Rattle.module_grammar.specs.declared.flow.BranchText.TheVariants as branch
use Rattle.module_grammar.specs.declared.flow.TermText.TheVariants as term
use Rattle.module_grammar.specs.declared.items.ItemText.{ItemText}
use Rattle.module_grammar.specs.declared.lines.CallBodyText.TheVariants as body
use Rattle.module_grammar.specs.declared.lines.CastWord.TheVariants as conversion
use Rattle.module_grammar.specs.declared.lines.VoidCallText.TheVariants as of_void
use Rattle.module_grammar.specs.declared.operators.ExtensionWord.TheVariants.{Signed}
use Rattle.module_grammar.specs.declared.operators.ResizeOp.TheVariants as resize_op
use Rattle.named_modules.specs.Laws.{Is}
use Rattle.named_modules.specs.Modules.{NamesModule}
use Rattle.module_texts.specs.NamedModuleLaws.Words.{b, g, x, y, z, named, positive, plus, minus, i1, i8, integer, pointer, number, operand, setting, bare, compare, cast, select, element, alloca, load, store, call, argument, arguments, entry, phi, case, block, result, param, no_more, declare, of_blocks, f, no_params, no_types}

-- `declare i8 @g(i8, ...) define void @f(i8 %x, i8* %y) { call void @llvm.dbg.x(i1 true) %z = icmp ult i8 %x, -1 zext i1 %z to i32
-- select i1 %z, i32 %1, i32 undef getelementptr inbounds i8, i8* %y, i32 %2 alloca i8, i8 2, align 8 load i8, i8* %3, align 0 store
-- i8 %5, i8* null, align 4 call i8 (i8, ...) @g(i8 signext 1, i8* %4) br i1 %z, label %7, label %b phi i8 [ %6, %0 ] switch i8 %8,
-- label %b [ i8 -1, label %b ] b: ret void }`
abbrev pub kinds : List ItemText
kinds =
    declare (result [] (Some (i8 8))) (named 11 g) (param (i8 14) [] None ∷ []) true no_more
    ∷ of_blocks 35 (param (i8 38) [] (Some (named 41 x)) ∷ param (pointer 47 (i8 45)) [] (Some (named 49 y)) ∷ []) 53
    (block None []
    (bare (call (body.Void (record { is_stated = false; call = of_void.Debug (debug_at 65 76) [] })))
    ∷ setting (named 86 z) (compare Ult (operand (i8 100) (text.Local (named 103 x))) (text.Const (const.Int (minus 1 107 109))))
    ∷ bare (cast (conversion.Resize resize_op.ZExt) (operand (i1 115) (text.Local (named 118 z))) (integer 32 124))
    ∷ bare
    (select (operand (i1 135) (text.Local (named 138 z))) (operand (integer 32 142) (text.Local (named 146 (Number 1))))
    (operand (integer 32 150) (text.Const const.Undef)))
    ∷ bare
    (element 160 true (i8 183) (operand (pointer 189 (i8 187)) (text.Local (named 191 y)))
    (operand (integer 32 195) (text.Local (named 199 (Number 2))) ∷ []))
    ∷ bare (alloca (i8 209) (Some (record { ty = i8 213; number = plus 2 216 217 })) (Some (positive 8 225 226)))
    ∷ bare (load (i8 232) (operand (pointer 238 (i8 236)) (text.Local (named 240 (Number 3)))) (Some (positive 0 250 251)))
    ∷ bare
    (store (operand (i8 258) (text.Local (named 261 (Number 5)))) (operand (pointer 267 (i8 265)) (text.Const (const.Null 269)))
    (Some (positive 4 281 282)))
    ∷ bare
    (call
    (body.Typed (i8 288) (Some (record { types = i8 292 ∷ []; is_open = true })) (global_name.Plain (named 301 g))
    (arguments
    (record { ty = i8 304; attributes = attribute.Extension Signed ∷ []; value = text.Const (number 1 315 316) }
    ∷ argument (pointer 320 (i8 318)) (text.Local (named 322 (Number 4))) ∷ [])))) ∷ [])
    (term.Br
    (branch.Condition (record { condition = operand (i1 329) (text.Local (named 332 z)); on_true = named 342 (Number 7); on_false = named 352 b }))))
    (block None (phi None (i8 359) (entry 362 (text.Local (named 364 (Number 6))) (named 368 (Number 0))) [] ∷ []) []
    (term.Switch (record {
      value = operand (i8 380) (text.Local (named 383 (Number 8)));
      default = named 393 b;
      at = 396;
      cases = case (i8 398) (minus 1 401 403) (named 411 b) ∷ [];
    }))
    ∷ block (Some (named 416 b)) [] [] (term.Ret None) ∷ []) ∷ []

abbrev operand_named : Ty → Name → Operand Name
operand_named ty name = record { ty = ty; atom = Register name }

abbrev calm : ℕ → Expr Name → Instr
calm name right = instr.Calm (record { name = Number name; right = right })

abbrev first_block : Block
first_block = record {
  name = Number 0;
  phis = [];
  body = instr.Calm (record {
    name = z;
    right = expr.Icmp (record { pred = Ult; ty = Int 8; left = Register x; right = Constant (constant.Number 255) });
  })
      ∷ calm 1 (expr.Cast (record { op = ZExt; operand = operand_named (Int 1) z; to = Int 32 }))
      ∷ calm 2 (expr.Select (record {
        condition = operand_named (Int 1) z;
        left = operand_named (Int 32) (Number 1);
        right = record { ty = Int 32; atom = Constant constant.Undef };
      }))
      ∷ calm 3 (expr.Element (record {
        inbounds = true;
        of = Int 8;
        base = operand_named (Ptr (Int 8)) y;
        indices = operand_named (Int 32) (Number 2) ∷ [];
        to = Ptr (Int 8);
      }))
      ∷ instr.Alloca (record { name = Number 4; of = Int 8; to = Ptr (Int 8); count = Some (Int 8, 2); align = Some 8 })
      ∷ calm 5 (expr.Load (record { of = Int 8; pointer = operand_named (Ptr (Int 8)) (Number 3); align = None }))
      ∷ instr.Store (record {
        value = operand_named (Int 8) (Number 5);
        pointer = record { ty = Ptr (Int 8); atom = Constant constant.Null };
        align = Some 4;
      })
      ∷ instr.Call (record {
        name = Some (Number 6);
        result = Int 8;
        result_extensions = not_extended;
        callee = g;
        arguments = record {
          operand = record { ty = Int 8; atom = Constant (constant.Number 1) };
          extensions = record { signed = true; zero = false };
        }
            ∷ record { operand = operand_named (Ptr (Int 8)) (Number 4); extensions = not_extended }
            ∷ [];
      })
      ∷ [];
  term = end.CondBr (record { condition = operand_named (Int 1) z; on_true = Number 7; on_false = b });
}

abbrev second_block : Block
second_block = record {
  name = Number 7;
  phis = record { name = Number 8; ty = Int 8; entries = record { value = Register (Number 6); from = Number 0 } ∷ [] } ∷ [];
  body = [];
  term = end.Switch (record {
    value = operand_named (Int 8) (Number 8);
    default = b;
    cases = record { ty = Int 8; number = 255; label = b } ∷ [];
  });
}

-- its function
abbrev pub every_kind : Function
every_kind = record {
  linkage = linkages.External;
  result_extensions = not_extended;
  result = Void;
  name = f;
  params = record { name = x; ty = Int 8; extensions = not_extended } ∷ record { name = y; ty = Ptr (Int 8); extensions = not_extended } ∷ [];
  blocks = first_block ∷ second_block ∷ record { name = b; phis = []; body = []; term = end.RetVoid } ∷ [];
}

abbrev pub named_kinds : Module
named_kinds = record {
  types = [];
  globals = [];
  functions = every_kind ∷ [];
  declarations = record {
    result_extensions = not_extended;
    result = Int 8;
    name = g;
    params = record { ty = Int 8; extensions = not_extended } ∷ [];
    variadic = true;
    before = 0;
  }
      ∷ [];
}

abbrev pub EachKindOfLineIsNamed : Type 0
EachKindOfLineIsNamed = NamesModule (Is no_types) (Is no_params) (record { items = kinds }) named_kinds
