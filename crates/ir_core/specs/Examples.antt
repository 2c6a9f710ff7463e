-- Modules written out, for the laws that say which are well-formed.
use Rattle.std.specs.Prelude.{ℕ, true, false, List, [], ◌∷◌, codes, None, Some}
use Rattle.ir_core.specs.declared.expressions.Expr.{Expr}
use Rattle.ir_core.specs.declared.expressions.Expr.TheVariants as expr
use Rattle.ir_core.specs.declared.functions.Block.{Block}
use Rattle.ir_core.specs.declared.functions.Function.{Function}
use Rattle.ir_core.specs.declared.functions.Instr.{Instr}
use Rattle.ir_core.specs.declared.functions.Instr.TheVariants as line
use Rattle.ir_core.specs.declared.modules.Module.{Module}
use Rattle.ir_core.specs.declared.functions.Phi.{Phi}
use Rattle.ir_core.specs.declared.functions.Entry.{Entry}
use Rattle.ir_core.specs.declared.functions.Term.TheVariants.{Ret, RetVoid}
use Rattle.ir_types.specs.declared.named.NamedTy.{NamedTy}
use Rattle.ir_types.specs.declared.names.Name.{Name}
use Rattle.ir_types.specs.declared.names.Name.TheVariants.{Text}
use Rattle.ir_core.specs.declared.operands.Atom.{Atom}
use Rattle.ir_core.specs.declared.operands.Atom.TheVariants.{Constant, Register}
use Rattle.ir_core.specs.declared.operands.BinOp.{BinOp}
use Rattle.ir_core.specs.declared.operands.BinOp.TheVariants.{Add, UDiv, And}
use Rattle.ir_core.specs.declared.operands.CastOp.{CastOp}
use Rattle.ir_core.specs.declared.operands.CastOp.TheVariants as conversion
use Rattle.ir_core.specs.declared.operands.Const.TheVariants as constant
use Rattle.ir_core.specs.declared.operands.Flags.{Flags}
use Rattle.ir_core.specs.declared.operands.Operand.{Operand}
use Rattle.ir_core.specs.declared.operands.Pred.TheVariants.{Eq}
use Rattle.ir_types.specs.declared.ty.Ty.{Ty, Int, Ptr, Array, Struct, Named, Void}
use Rattle.ir_core.specs.Modules.{plain_function, plain_module, plain_param}

abbrev pub number : ℕ → Atom Name
number n = Constant (constant.Number n)

abbrev pub f : Name
f = Text (codes "f")

abbrev pub x : Name
x = Text (codes "x")

abbrev pub y : Name
y = Text (codes "y")

abbrev pub no_flags : Flags
no_flags = record { nuw = false; nsw = false; exact = false }

-- %name = add i32 left, right
abbrev pub add : Name → Atom Name → Atom Name → Instr
add name left right = line.Calm (record {
  name = name;
  right = expr.Binary (record { op = Add; flags = no_flags; ty = Int 32; left = left; right = right });
})

-- name: lines  ret ty result
abbrev pub block : Name → List Instr → Ty → Atom Name → Block
block name lines ty result = record { name = name; phis = []; body = lines; term = Ret (record { ty = ty; atom = result }) }

-- define ty @name() { blocks }
abbrev pub function : Ty → Name → List Block → Function
function ty name blocks = plain_function ty name [] blocks

-- that function alone
abbrev pub defining : Ty → Name → List Block → Module
defining ty name blocks = plain_module [] (function ty name blocks ∷ [])

-- define i32 @f() { x: ret i32 0  y: ret i32 0 }
abbrev pub two_blocks : Module
two_blocks = defining (Int 32) f (block x [] (Int 32) (number 0) ∷ block y [] (Int 32) (number 0) ∷ [])

-- define i32 @""() { x: ret i32 0 }
abbrev pub empty_name : Module
empty_name = defining (Int 32) (Text []) (block x [] (Int 32) (number 0) ∷ [])

-- define i32 @f() { f: %x = add i32 %y, 0  %y = add i32 1, 2  ret i32 %x }
abbrev pub early_use : Module
early_use =
    defining (Int 32) f (block f (add x (Register y) (number 0) ∷ add y (number 1) (number 2) ∷ []) (Int 32) (Register x) ∷ [])

-- define i8 @f() { x: ret i8 256 }
abbrev pub wide_number : Module
wide_number = defining (Int 8) f (block x [] (Int 8) (number 256) ∷ [])

-- ---- of one block, in which one thing is amiss

-- name: phis lines  ret ty result
abbrev pub phi_block : Name → List Phi → List Instr → Ty → Atom Name → Block
phi_block name phis lines ty result = record { name = name; phis = phis; body = lines; term = Ret (record { ty = ty; atom = result }) }

-- %name = phi i32 entries
abbrev pub phi : Name → List Entry → Phi
phi name entries = record { name = name; ty = Int 32; entries = entries }

-- define ty @f(in %x) { y: ret out result }
abbrev pub passing : Ty → Ty → Ty → Atom Name → Function
passing ty in_ty out_ty result = plain_function ty f (plain_param in_ty x ∷ []) (block y [] out_ty result ∷ [])

-- define i32 @f(i64 %x) { y: ret i32 %x }
abbrev pub other_width : Function
other_width = passing (Int 32) (Int 64) (Int 32) (Register x)

-- define i32 @f(i64 %x) { y: ret i64 %x }
abbrev pub other_result : Function
other_result = passing (Int 32) (Int 64) (Int 64) (Register x)

-- define i32 @f(void %x) { y: ret i32 0 }
abbrev pub void_parameter : Function
void_parameter = passing (Int 32) Void (Int 32) (number 0)

-- define void @f(i32 %x) { y: ret void 0 }
abbrev pub void_number : Function
void_number = passing Void (Int 32) Void (number 0)

-- define i32 @f() { f: %x = i32 7  ret i32 %x }
abbrev pub no_operator : Function
no_operator =
    function (Int 32) f (block f (line.Calm (record { name = x; right = expr.Plain (record { ty = Int 32; atom = number 7 }) }) ∷ []) (Int 32) (Register x) ∷ [])

-- define i32 @f() { y: %x = phi i32 [ 0, %y ]  ret i32 %x }
abbrev pub phi_of_no_edge : Function
phi_of_no_edge =
    function (Int 32) f (phi_block y (phi x (record { value = number 0; from = y } ∷ []) ∷ []) [] (Int 32) (Register x) ∷ [])

-- a phi without entries
abbrev pub phi_of_nothing : Function
phi_of_nothing = function (Int 32) f (phi_block y (phi x [] ∷ []) [] (Int 32) (Register x) ∷ [])

-- define i32 @f() { f: %x = add i32 1, 2  %x = add i32 1, 2  ret i32 %x }
abbrev pub name_set_twice : Function
name_set_twice =
    function (Int 32) f (block f (add x (number 1) (number 2) ∷ add x (number 1) (number 2) ∷ []) (Int 32) (Register x) ∷ [])

-- define i32 @f() { }
abbrev pub no_blocks : Function
no_blocks = function (Int 32) f []

-- define i32 @name() { x: ret i32 0 }
abbrev pub returning : Name → Function
returning name = function (Int 32) name (block x [] (Int 32) (number 0) ∷ [])

abbrev pub debug_name : Function
debug_name = returning (Text (codes "llvm.dbg.value"))

abbrev pub alone : Function → Module
alone g = plain_module [] (g ∷ [])

-- that function twice
abbrev pub two_of_one_name : Module
two_of_one_name = plain_module [] (returning f ∷ returning f ∷ [])

-- ---- of named types alone

-- %name = type { fields }
abbrev pub struct : Name → List Ty → NamedTy
struct name fields = record { name = name; fields = Some fields }

abbrev pub naming : List NamedTy → Module
naming types = plain_module types []

-- %x = type { i32, %y* }  %y = type { %x, %f* }  %f = type opaque
abbrev pub three_types : Module
three_types =
    naming (struct x (Int 32 ∷ Ptr (Named y) ∷ []) ∷ struct y (Named x ∷ Ptr (Named f) ∷ []) ∷ record { name = f; fields = None } ∷ [])

-- %x = type { i32, %x* }
abbrev pub linked_type : Module
linked_type = naming (struct x (Int 32 ∷ Ptr (Named x) ∷ []) ∷ [])

-- %x = type { [2 x %x] }
abbrev pub type_in_itself : Module
type_in_itself = naming (struct x (Array 2 (Named x) ∷ []) ∷ [])

-- %x = type { i32 }  %y = type { i8 }
abbrev pub two_types : Module
two_types = naming (struct x (Int 32 ∷ []) ∷ struct y (Int 8 ∷ []) ∷ [])

-- %x = type { i32 }  %x = type { i8 }
abbrev pub types_of_one_name : Module
types_of_one_name = naming (struct x (Int 32 ∷ []) ∷ struct x (Int 8 ∷ []) ∷ [])

-- %x = type { i32, { i8, %y* } }
abbrev pub unknown_type : Module
unknown_type = naming (struct x (Int 32 ∷ Struct (Int 8 ∷ Ptr (Named y) ∷ []) ∷ []) ∷ [])

-- %x = type { i65 }
abbrev pub wide_field : Module
wide_field = naming (struct x (Int 65 ∷ []) ∷ [])

-- %"" = type { i32 }
abbrev pub nameless_type : Module
nameless_type = naming (struct (Text []) (Int 32 ∷ []) ∷ [])

-- ---- of one line, after which nothing of it is used

-- define i32 @f() { f: %x = right  ret i32 0 }
abbrev pub of_line : Expr Name → Function
of_line right = function (Int 32) f (block f (line.Calm (record { name = x; right = right }) ∷ []) (Int 32) (number 0) ∷ [])

abbrev pub typed : Ty → ℕ → Operand Name
typed ty n = record { ty = ty; atom = number n }

-- %x = op flags i8 1, 1
abbrev pub of_flags : BinOp → Flags → Function
of_flags op flags = of_line (expr.Binary (record { op = op; flags = flags; ty = Int 8; left = number 1; right = number 1 }))

-- %x = op from 1 to to
abbrev pub of_cast : CastOp → Ty → Ty → Function
of_cast op from to = of_line (expr.Cast (record { op = op; operand = typed from 1; to = to }))

-- %x = select condition 1, left 1, right 1
abbrev pub of_select : Ty → Ty → Ty → Function
of_select condition left right = of_line (expr.Select (record { condition = typed condition 1; left = typed left 1; right = typed right 1 }))

-- define i1 @f() { f: %x = icmp eq i8 1, 1  ret i1 %x }
abbrev pub compared : Function
compared = function (Int 1) f (block f (line.Calm (record { name = x; right = expr.Icmp (record { pred = Eq; ty = Int 8; left = number 1; right = number 1 }) }) ∷ []) (Int 1) (Register x) ∷ [])

-- define ty @f() { f: ret void }
abbrev pub returning_nothing : Ty → Function
returning_nothing ty = function ty f (record { name = f; phis = []; body = []; term = RetVoid } ∷ [])

abbrev pub udiv_exact : Function
udiv_exact = of_flags UDiv (record { nuw = false; nsw = false; exact = true })

abbrev pub add_nuw_nsw : Function
add_nuw_nsw = of_flags Add (record { nuw = true; nsw = true; exact = false })

abbrev pub add_exact : Function
add_exact = of_flags Add (record { nuw = false; nsw = false; exact = true })

abbrev pub udiv_nuw : Function
udiv_nuw = of_flags UDiv (record { nuw = true; nsw = false; exact = false })

abbrev pub and_nsw : Function
and_nsw = of_flags And (record { nuw = false; nsw = true; exact = false })

-- ---- expressions over registers

abbrev pub held : Ty → Name → Operand Name
held ty name = record { ty = ty; atom = Register name }

-- icmp eq i8 %x, %y
abbrev pub comparing : Expr Name
comparing = expr.Icmp (record { pred = Eq; ty = Int 8; left = Register x; right = Register y })

-- zext i8 %x to i16
abbrev pub extending : Expr Name
extending = expr.Cast (record { op = conversion.ZExt; operand = held (Int 8) x; to = Int 16 })

-- select i1 %f, i8 %x, i8 %y
abbrev pub selecting : Expr Name
selecting = expr.Select (record { condition = held (Int 1) f; left = held (Int 8) x; right = held (Int 8) y })
