-- Modules in which something is amiss.
use Rattle.std.specs.Prelude.{ℕ, false, true, List, [], ◌∷◌, codes, map, Option, None, Some}
use Rattle.ir_core.specs.declared.expressions.Expr.{Expr}
use Rattle.ir_core.specs.declared.expressions.Expr.TheVariants as expr
use Rattle.ir_core.specs.declared.functions.Block.{Block}
use Rattle.ir_core.specs.declared.functions.Case.{Case}
use Rattle.ir_core.specs.declared.functions.Entry.{Entry}
use Rattle.ir_core.specs.declared.functions.Function.{Function}
use Rattle.ir_core.specs.declared.functions.Instr.{Instr}
use Rattle.ir_core.specs.declared.functions.Instr.TheVariants as line
use Rattle.ir_core.specs.declared.modules.Declaration.{Declaration}
use Rattle.ir_core.specs.declared.modules.GlobalVar.{GlobalVar}
use Rattle.ir_core.specs.declared.modules.Init.{Init}
use Rattle.ir_core.specs.declared.modules.Linkage.TheVariants as linkage
use Rattle.ir_core.specs.declared.modules.Module.{Module}
use Rattle.ir_core.specs.declared.functions.Param.{Param}
use Rattle.ir_core.specs.declared.functions.Phi.{Phi}
use Rattle.ir_core.specs.declared.functions.Term.{Term}
use Rattle.ir_core.specs.declared.functions.Term.TheVariants.{Br, CondBr, Ret, Switch}
use Rattle.ir_types.specs.declared.named.NamedTy.{NamedTy}
use Rattle.ir_types.specs.declared.names.Name.{Name}
use Rattle.ir_types.specs.declared.names.Name.TheVariants.{Text, Number}
use Rattle.ir_types.specs.declared.names.Sigil.TheVariants.{Local, Global}
use Rattle.ir_core.specs.declared.operands.Atom.TheVariants.{Constant, Register}
use Rattle.ir_core.specs.declared.operands.BinOp.TheVariants.{Add}
use Rattle.ir_core.specs.declared.operands.CastOp.{CastOp}
use Rattle.ir_core.specs.declared.operands.Const.TheVariants as constant
use Rattle.ir_core.specs.declared.operands.Operand.{Operand}
use Rattle.ir_core.specs.declared.operands.Pred.TheVariants.{Eq}
use Rattle.ir_types.specs.declared.ty.Ty.{Ty, Ptr, Array, Named}
use Rattle.ir_types.specs.declared.ty.Ty.TheVariants.{Int}
use Rattle.ir_shape.specs.declared.fault.ShapeFault.{ShapeFault}
use Rattle.ir_typing.specs.declared.shape_kinds.kind.ShapeKind.{ShapeKind}
use Rattle.ir_core.specs.Modules.{not_extended, plain_function, plain_module, plain_param}

abbrev pub f : Name
f = Text (codes "f")

abbrev pub x : Name
x = Text (codes "x")

abbrev pub y : Name
y = Text (codes "y")

abbrev pub debug : Name
debug = Text (codes "llvm.dbg.x")

-- i1 %1, i8 %8, i32 %32: a parameter of each of these widths, with that name
abbrev pub params : List Param
params = plain_param (Int 1) (Number 1) ∷ plain_param (Int 8) (Number 8) ∷ plain_param (Int 32) (Number 32) ∷ []

-- the parameter of that integer type; of another type `%32`
abbrev pub given : Ty → Operand Name
given (Int width) = record { ty = Int width; atom = Register (Number width) }
given t = record { ty = t; atom = Register (Number 32) }

-- %name = right
abbrev pub setting : ℕ → Expr Name → Instr
setting name right = line.Calm (record { name = Number name; right = right })

-- %name = add ty, of the parameter of that type and itself
abbrev pub add : ℕ → Ty → Instr
add name ty = setting name (expr.Binary (record {
  op = Add;
  flags = record { nuw = false; nsw = false; exact = false };
  ty = ty;
  left = (given ty).atom;
  right = (given ty).atom;
}))

-- %name = icmp eq, of the operand and itself, and of the parameter of that type
abbrev pub icmp_of : ℕ → Operand Name → Instr
icmp_of name operand = setting name (expr.Icmp (record { pred = Eq; ty = operand.ty; left = operand.atom; right = operand.atom }))

abbrev pub icmp : ℕ → Ty → Instr
icmp name ty = icmp_of name (given ty)

-- %name = op operand to to
abbrev pub cast_of : ℕ → CastOp → Operand Name → Ty → Instr
cast_of name op operand to = setting name (expr.Cast (record { op = op; operand = operand; to = to }))

abbrev pub cast : ℕ → CastOp → Ty → Ty → Instr
cast name op from to = cast_of name op (given from) to

-- %name = select of parameters of these types
abbrev pub select : ℕ → Ty → Ty → Ty → Instr
select name condition left right = setting name (expr.Select (record { condition = given condition; left = given left; right = given right }))

-- ret i32 %32
abbrev pub returning : Term
returning = Ret (given (Int 32))

-- br label %to
abbrev pub jumping : Name → Term
jumping to = Br to

-- br of the parameter of that type, label %left, label %right
abbrev pub branching : Ty → Name → Name → Term
branching ty left right = CondBr (record { condition = given ty; on_true = left; on_false = right })

-- ty number, label %y
abbrev pub case : Ty → ℕ → Case
case ty number = record { ty = ty; number = number; label = y }

-- switch over the parameter of that type, label %y [of first, label %y of second, label %y]
abbrev pub switching : Ty → Ty → ℕ → ℕ → Term
switching over of first second = Switch (record { value = given over; default = y; cases = case of first ∷ case of second ∷ [] })

-- [number, %from]
abbrev pub entry : ℕ → Name → Entry
entry number from = record { value = Constant (constant.Number number); from = from }

-- %name = phi i32 entries
abbrev pub phi : ℕ → List Entry → Phi
phi name entries = record { name = Number name; ty = Int 32; entries = entries }

-- %101 = phi i32 [1, %x], [1, %x]
abbrev pub fitting : Phi
fitting = phi 101 (entry 1 x ∷ entry 1 x ∷ [])

-- name: phis lines end
abbrev pub block : Name → List Phi → List Instr → Term → Block
block name phis lines end = record { name = name; phis = phis; body = lines; term = end }

-- y: ret i32 %32
abbrev pub last : Block
last = block y [] [] returning

-- define i32 @name(i1 %1, i8 %8, i32 %32) { blocks }
abbrev pub of_blocks : Name → List Block → Function
of_blocks name blocks = plain_function (Int 32) name params blocks

-- the function of that name, of a block %0: phis lines end and the last one
abbrev pub function : Name → List Phi → List Instr → Term → Function
function name phis lines end = of_blocks name (block (Number 0) phis lines end ∷ last ∷ [])

-- %name = type { fields }
abbrev pub struct : Name → List Ty → NamedTy
struct name fields = record { name = name; fields = Some fields }

-- that fault in a named type
abbrev pub in_named : Name → ShapeKind → ShapeFault
in_named name kind = record { sigil = Local; function = name; place = None; kind = kind }

-- those named types alone
abbrev pub naming : List NamedTy → Module
naming types = plain_module types []

-- the module of that function alone
abbrev pub alone : Function → Module
alone of = plain_module [] (of ∷ [])

-- the function @f of these lines alone, returning %32
abbrev pub of_lines : List Instr → Module
of_lines lines = alone (function f [] lines returning)

-- that fault in that line of the block %0 of @f
abbrev pub in_f : ℕ → ShapeKind → ShapeFault
in_f line kind = record { sigil = Global; function = f; place = Some (record { block = Number 0; line = line }); kind = kind }

-- that fault in a function's own name or its parameters
abbrev pub in_header : Name → ShapeKind → ShapeFault
in_header name kind = record { sigil = Global; function = name; place = None; kind = kind }

-- the function @f of a block x: br i1 %1, label %y, label %y and a block y: phis ret i32 %32
abbrev pub entering : List Phi → Module
entering phis = alone (of_blocks f (block x [] [] (branching (Int 1) y y) ∷ block y phis [] returning ∷ []))

-- that fault in that line of the block %y of @f
abbrev pub in_y : ℕ → ShapeKind → ShapeFault
in_y line kind = record { sigil = Global; function = f; place = Some (record { block = y; line = line }); kind = kind }

-- ---- globals, declarations, and lines of memory

-- @name = global ty init
abbrev pub held : Name → Ty → Option Init → GlobalVar
held name ty init = record { name = name; linkage = linkage.External; constant = false; ty = ty; init = init; align = None }

-- %x = type { i32, [4 x i8] }  %y = type opaque
abbrev pub two_types : List NamedTy
two_types = struct x (Int 32 ∷ Array 4 (Int 8) ∷ []) ∷ record { name = y; fields = None } ∷ []

-- those types and globals
abbrev pub of_globals : List GlobalVar → Module
of_globals globals = record { types = two_types; globals = globals; functions = []; declarations = [] }

-- declare result @name(param), with so many definitions before it
abbrev pub declared : ℕ → Ty → Name → Ty → Declaration
declared before result name param = record {
  result_extensions = not_extended;
  result = result;
  name = name;
  params = record { ty = param; extensions = not_extended } ∷ [];
  variadic = false;
  before = before;
}

abbrev pub declaring : List Declaration → List Function → Module
declaring declarations functions = record { types = two_types; globals = []; functions = functions; declarations = declarations }

-- The function @f of these lines, which gets an i32 %32 and a %x* %64 and returns the former, with those types and `declare i32 @y(i32)`.
abbrev pub of_memory : List Instr → Module
of_memory lines =
    declaring (declared 0 (Int 32) y (Int 32) ∷ [])
    (plain_function (Int 32) f (plain_param (Int 32) (Number 32) ∷ plain_param (Ptr (Named x)) (Number 64) ∷ []) (block (Number 0) [] lines returning ∷ []) ∷ [])

-- the parameter that is a pointer
abbrev pub pointer : Operand Name
pointer = record { ty = Ptr (Named x); atom = Register (Number 64) }

-- a number of so many bits
abbrev pub number_of : ℕ → ℕ → Operand Name
number_of width n = record { ty = Int width; atom = Constant (constant.Number n) }

abbrev pub index : ℕ → ℕ → Operand Name
index = number_of

-- %name = alloca of, count
abbrev pub alloca : ℕ → Ty → Option (Ty × ℕ) → Instr
alloca name of count = line.Alloca (record { name = Number name; of = of; to = Ptr of; count = count; align = None })

-- %name = load of, of that pointer
abbrev pub load : ℕ → Ty → Instr
load name of = setting name (expr.Load (record { of = of; pointer = pointer; align = None }))

-- store ty 0, through that pointer
abbrev pub store : Ty → Instr
store ty = line.Store (record { value = record { ty = ty; atom = Constant (constant.Number 0) }; pointer = pointer; align = None })

-- %name = getelementptr of, of that pointer and these indices, kept as of that type
abbrev pub element : ℕ → Ty → List (Operand Name) → Ty → Instr
element name of indices to = setting name (expr.Element (record { inbounds = false; of = of; base = pointer; indices = indices; to = to }))

-- %101 = getelementptr of that pointer, one past its fields
abbrev pub leading_nowhere : Instr
leading_nowhere = element 101 (Named x) (index 64 0 ∷ index 32 2 ∷ []) (Ptr (Int 32))

-- i8 %101
abbrev pub used : Operand Name
used = record { ty = Int 8; atom = Register (Number 101) }

-- %name = call i32 @callee(arguments)
abbrev pub call : ℕ → Name → List (Operand Name) → Instr
call name callee arguments = line.Call (record {
  name = Some (Number name);
  result = Int 32;
  result_extensions = not_extended;
  callee = callee;
  arguments = map (λ (o : Operand Name). record { operand = o; extensions = not_extended }) arguments;
})

-- ---- types that are stated

-- %x*, and null of it
abbrev pub to_x : Ty
to_x = Ptr (Named x)

abbrev pub null_to_x : Operand Name
null_to_x = record { ty = to_x; atom = Constant constant.Null }

-- the same module with those two types
abbrev pub beside_types : Module → Module
beside_types m = record m { types = two_types }

-- %101 = phi %x* [null, %x], [null, %x]
abbrev pub phi_to_x : Phi
phi_to_x = record { name = Number 101; ty = to_x; entries = record { value = Constant constant.Null; from = x } ∷ record { value = Constant constant.Null; from = x } ∷ [] }

-- the function @f of a call of `declare i32 @y(i32, ...)` with those arguments
abbrev pub calling : List (Operand Name) → Module
calling arguments = record (of_lines (call 101 y arguments ∷ [])) { declarations = record (declared 0 (Int 32) y (Int 32)) { variadic = true } ∷ [] }

-- define i8* @f() { ret i8* bitcast (%x* null to i8*) }
abbrev pub returning_recast : Module
returning_recast =
    alone (plain_function (Ptr (Int 8)) f [] (block (Number 0) [] [] (Ret (record { ty = Ptr (Int 8); atom = Constant (constant.Cast (Ptr (Int 8), (to_x, constant.Null) ∷ [])) })) ∷ []))
