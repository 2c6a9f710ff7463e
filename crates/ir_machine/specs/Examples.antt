-- Modules written out, for the laws that say what refines what.
use Rattle.std.specs.Prelude.{Bool, true, false, List, [], ◌∷◌, ℕ, None}
use Rattle.ir_types.specs.declared.names.Name.{Name}
use Rattle.ir_types.specs.declared.names.Name.TheVariants.{Number}
use Rattle.ir_types.specs.declared.ty.Ty.TheVariants.{Int, Void}
use Rattle.ir_core.specs.declared.operands.Const.TheVariants as constant
use Rattle.ir_core.specs.declared.operands.Atom.{Atom}
use Rattle.ir_core.specs.declared.operands.Atom.TheVariants.{Constant, Register}
use Rattle.ir_core.specs.declared.operands.Operand.{Operand}
use Rattle.ir_core.specs.declared.operands.BinOp.TheVariants.{Add, UDiv}
use Rattle.ir_core.specs.declared.operands.CastOp.{CastOp}
use Rattle.ir_core.specs.declared.operands.Pred.TheVariants.{Slt}
use Rattle.ir_types.specs.declared.ty.Ty.{Ty, Ptr, Struct}
use Rattle.ir_core.specs.declared.expressions.Expr.{Expr}
use Rattle.ir_core.specs.declared.expressions.Expr.TheVariants as expr
use Rattle.ir_core.specs.declared.functions.Instr.{Instr}
use Rattle.ir_core.specs.declared.functions.Instr.TheVariants as line
use Rattle.ir_core.specs.declared.functions.Term.TheVariants.{Ret, RetVoid}
use Rattle.ir_core.specs.declared.functions.Param.{Param}
use Rattle.ir_core.specs.declared.functions.Block.{Block}
use Rattle.ir_core.specs.declared.modules.Linkage.TheVariants.{External}
use Rattle.ir_core.specs.declared.modules.Module.{Module}
use Rattle.ir_values.specs.Constants.{Scope}
use Rattle.block_memory.specs.Memory.{Memory, new_cell}
use Rattle.ir_core.specs.Modules.{plain_function, plain_module, plain_param}

abbrev pub number : ℕ → Atom Name
number n = Constant (constant.Number n)

abbrev pub undef : Atom Name
undef = Constant constant.Undef

abbrev pub null : Atom Name
null = Constant constant.Null

-- b: LINES  ret i32 RESULT
abbrev pub block : Name → List Instr → Atom Name → Block
block b lines result = record { name = b; phis = []; body = lines; term = Ret (record { ty = Int 32; atom = result }) }

-- define i32 @f(PARAMS) { b: LINES  ret i32 RESULT }
abbrev pub defining : Name → List Param → Name → List Instr → Atom Name → Module
defining f params b lines result = plain_module [] (plain_function (Int 32) f params (block b lines result ∷ []) ∷ [])

-- define i32 @f() { b: ret i32 RESULT }
abbrev pub returning : Name → Name → Atom Name → Module
returning f b result = defining f [] b [] result

-- define i32 @f(i32 %x) { b: ret i32 RESULT }
abbrev pub taking : Name → Name → Name → Atom Name → Module
taking f x b result = defining f (plain_param (Int 32) x ∷ []) b [] result

-- %y = add nsw i32 2147483647, 1
abbrev pub wrapping_line : Name → Instr
wrapping_line y = line.Calm (record {
  name = y;
  right = expr.Binary (record {
    op = Add;
    flags = record { nuw = false; nsw = true; exact = false };
    ty = Int 32;
    left = number 2147483647;
    right = number 1;
  });
})

-- define i32 @f() { b: %y = add nsw i32 2147483647, 1  ret i32 %y }
abbrev pub wrapping : Name → Name → Name → Module
wrapping f b y = defining f [] b (wrapping_line y ∷ []) (Register y)

-- %y = udiv i32 7, 0
abbrev pub dividing_line : Name → Instr
dividing_line y = line.Calm (record {
  name = y;
  right = expr.Binary (record {
    op = UDiv;
    flags = record { nuw = false; nsw = false; exact = false };
    ty = Int 32;
    left = number 7;
    right = number 0;
  });
})

-- define i32 @f() { b: %y = udiv i32 7, 0  ret i32 %y }
abbrev pub dividing : Name → Name → Name → Module
dividing f b y = defining f [] b (dividing_line y ∷ []) (Register y)

-- define void @f() { b: ret void }
abbrev pub returning_nothing : Name → Name → Module
returning_nothing f b = plain_module [] (plain_function Void f [] (record { name = b; phis = []; body = []; term = RetVoid } ∷ []) ∷ [])

-- ---- right sides of lines, of constants

-- ty 5, which no text has as a line
abbrev pub stating : Ty → Expr Name
stating ty = expr.Plain (record { ty = ty; atom = number 5 })

-- add i8 n, 1
abbrev pub adding : ℕ → Expr Name
adding n = expr.Binary (record {
  op = Add;
  flags = record { nuw = false; nsw = false; exact = false };
  ty = Int 8;
  left = number n;
  right = number 1;
})

-- icmp slt ty 128, 0
abbrev pub comparing : Ty → Expr Name
comparing ty = expr.Icmp (record { pred = Slt; ty = ty; left = number 128; right = number 0 })

-- op from 1 to to
abbrev pub converting : CastOp → Ty → Ty → Expr Name
converting op from to = expr.Cast (record { op = op; operand = record { ty = from; atom = number 1 }; to = to })

-- select condition 1, i8 7, right 9
abbrev pub selecting : Ty → Ty → Expr Name
selecting condition right = expr.Select (record {
  condition = record { ty = condition; atom = number 1 };
  left = record { ty = Int 8; atom = number 7 };
  right = record { ty = right; atom = number 9 };
})

-- ---- addresses of parts

-- a byte in 4 bytes, and a number
abbrev pub pair : Ty
pair = Struct (Int 8 ∷ Int 32 ∷ [])

-- @0 = external global { i8, i32 }
abbrev pub beside_pair : Scope
beside_pair = record { types = []; globals = record { name = Number 0; linkage = External; constant = false; ty = pair; init = None; align = None } ∷ [] }

abbrev pub memory_of_pair : Memory
memory_of_pair = new_cell 8 4 [] ∷ []

abbrev pub index : ℕ → ℕ → Operand Name
index width n = record { ty = Int width; atom = number n }

-- getelementptr [inbounds] { i8, i32 }, ty base, indices, of which it is said that it is a to*
abbrev pub part_from : Ty → Atom Name → Bool → List (Operand Name) → Ty → Expr Name
part_from ty base inbounds indices to = expr.Element (record {
  inbounds = inbounds;
  of = pair;
  base = record { ty = ty; atom = base };
  indices = indices;
  to = Ptr to;
})

-- getelementptr [inbounds] { i8, i32 }, { i8, i32 }* @0, indices
abbrev pub part_of_pair : Bool → List (Operand Name) → Ty → Expr Name
part_of_pair inbounds indices to = part_from (Ptr pair) (Constant (constant.Global (Number 0))) inbounds indices to
