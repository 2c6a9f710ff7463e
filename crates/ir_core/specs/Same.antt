-- Whether two parts of a syntax tree are the same, as tests that compute. Each is true exactly of equal things, which is
-- the contract of `tests_are_equality`.
use Rattle.std.specs.Prelude.{ℕ, Bool, true, false, ◌&&◌, List, [], ◌∷◌, Option, None, Some, nat_eq}
use Rattle.ir_types.specs.declared.names.Name.{Name}
use Rattle.ir_types.specs.declared.ty.Ty.{Ty}
use Rattle.ir_types.specs.Same.{same_list, same_name, same_ty}
use Rattle.ir_core.specs.declared.operands.Const.{Const, Number, Undef, Null, Global, out-Const, fold-Const}
use Rattle.ir_core.specs.declared.operands.Const.TheOpen.{Const-F}
use Rattle.ir_core.specs.declared.operands.Const.TheOpen as constant
use Rattle.ir_core.specs.declared.operands.Atom.{Atom}
use Rattle.ir_core.specs.declared.operands.Atom.TheVariants as atom
use Rattle.ir_core.specs.declared.operands.Operand.{Operand}
use Rattle.ir_core.specs.declared.operands.BinOp.{BinOp}
use Rattle.ir_core.specs.declared.operands.BinOp.TheVariants as op
use Rattle.ir_core.specs.declared.operands.Flags.{Flags}
use Rattle.ir_core.specs.declared.operands.CastOp.{CastOp}
use Rattle.ir_core.specs.declared.operands.CastOp.TheVariants as conversion
use Rattle.ir_core.specs.declared.operands.Pred.{Pred}
use Rattle.ir_core.specs.declared.operands.Pred.TheVariants as predicate
use Rattle.ir_core.specs.declared.expressions.Reg.{Reg}
use Rattle.ir_core.specs.declared.expressions.Reg.TheVariants as reg
use Rattle.ir_core.specs.declared.expressions.Binary.{Binary}
use Rattle.ir_core.specs.declared.expressions.Icmp.{Icmp}
use Rattle.ir_core.specs.declared.expressions.Cast.{Cast}
use Rattle.ir_core.specs.declared.expressions.Select.{Select}
use Rattle.ir_core.specs.declared.expressions.Element.{Element}
use Rattle.ir_core.specs.declared.expressions.Load.{Load}
use Rattle.ir_core.specs.declared.expressions.Expr.{Expr}
use Rattle.ir_core.specs.declared.expressions.Expr.TheVariants as expr

abbrev pub same_bool : Bool → Bool → Bool
same_bool true b = b
same_bool false true = false
same_bool false false = true

-- constants behind their types are the same where each is the same as the one at its place
abbrev pub same_typed : List (Ty × (Const → Bool)) → List (Ty × Const) → Bool
same_typed [] [] = true
same_typed (test ∷ rest) (c ∷ cs) = same_ty test.0 c.0 && test.1 c.1 && same_typed rest cs
same_typed [] (c ∷ cs) = false
same_typed (test ∷ rest) [] = false

-- One level of a constant, with the test of each part in its place, and one level of another.
abbrev pub same_const_level : Const-F (Const → Bool) → Const-F Const → Bool
same_const_level (constant.Number m) (constant.Number n) = nat_eq m n
same_const_level constant.Undef constant.Undef = true
same_const_level constant.Null constant.Null = true
same_const_level (constant.Global x) (constant.Global y) = same_name x y
same_const_level (constant.Element a) (constant.Element b) = same_bool a.0 b.0 && same_ty a.1 b.1 && same_typed a.2 b.2
same_const_level (constant.Cast a) (constant.Cast b) = same_ty a.0 b.0 && same_typed a.1 b.1
same_const_level a b = false

-- part by part
abbrev pub same_const_parts : Const → Const → Bool
same_const_parts = fold-Const (Const → Bool) (λ level c. same_const_level level (out-Const c))

abbrev pub is_number : ℕ → Const → Bool
is_number m (Number n) = nat_eq m n
is_number m c = false

abbrev pub is_undef : Const → Bool
is_undef Undef = true
is_undef c = false

abbrev pub is_null : Const → Bool
is_null Null = true
is_null c = false

abbrev pub is_global : Name → Const → Bool
is_global x (Global y) = same_name x y
is_global x c = false

-- A constant without parts is the same as one of its kind alone, of its number or its name; others are so where each part is.
abbrev pub same_const : Const → Const → Bool
same_const (Number m) c = is_number m c
same_const Undef c = is_undef c
same_const Null c = is_null c
same_const (Global x) c = is_global x c
same_const c d = same_const_parts c d

-- registers are compared by the test that is given
abbrev pub same_atom : {R : Type 0} → (R → R → Bool) → Atom R → Atom R → Bool
same_atom same (atom.Constant c) (atom.Constant d) = same_const c d
same_atom same (atom.Register x) (atom.Register y) = same x y
same_atom same (atom.Constant c) (atom.Register y) = false
same_atom same (atom.Register x) (atom.Constant d) = false

abbrev pub same_operand : {R : Type 0} → (R → R → Bool) → Operand R → Operand R → Bool
same_operand same a b = same_ty a.ty b.ty && same_atom same a.atom b.atom

-- a number for each operator, conversion and predicate, in the order of their declaration
abbrev pub op_code : BinOp → ℕ
op_code op.Add = 0
op_code op.Sub = 1
op_code op.Mul = 2
op_code op.Shl = 3
op_code op.UDiv = 4
op_code op.SDiv = 5
op_code op.LShr = 6
op_code op.AShr = 7
op_code op.URem = 8
op_code op.SRem = 9
op_code op.And = 10
op_code op.Or = 11
op_code op.Xor = 12

abbrev pub same_op : BinOp → BinOp → Bool
same_op a b = nat_eq (op_code a) (op_code b)

abbrev pub cast_code : CastOp → ℕ
cast_code conversion.ZExt = 0
cast_code conversion.SExt = 1
cast_code conversion.Trunc = 2
cast_code conversion.BitCast = 3

abbrev pub same_cast : CastOp → CastOp → Bool
same_cast a b = nat_eq (cast_code a) (cast_code b)

abbrev pub pred_code : Pred → ℕ
pred_code predicate.Eq = 0
pred_code predicate.Ne = 1
pred_code predicate.Ugt = 2
pred_code predicate.Uge = 3
pred_code predicate.Ult = 4
pred_code predicate.Ule = 5
pred_code predicate.Sgt = 6
pred_code predicate.Sge = 7
pred_code predicate.Slt = 8
pred_code predicate.Sle = 9

abbrev pub same_pred : Pred → Pred → Bool
same_pred a b = nat_eq (pred_code a) (pred_code b)

abbrev pub same_flags : Flags → Flags → Bool
same_flags a b = same_bool a.nuw b.nuw && same_bool a.nsw b.nsw && same_bool a.exact b.exact

abbrev pub same_reg : Reg → Reg → Bool
same_reg (reg.Now x) (reg.Now y) = same_name x y
same_reg (reg.Old x) (reg.Old y) = same_name x y
same_reg (reg.Ghost x) (reg.Ghost y) = same_name x y
same_reg (reg.Now x) (reg.Old y) = false
same_reg (reg.Now x) (reg.Ghost y) = false
same_reg (reg.Old x) (reg.Now y) = false
same_reg (reg.Old x) (reg.Ghost y) = false
same_reg (reg.Ghost x) (reg.Now y) = false
same_reg (reg.Ghost x) (reg.Old y) = false

abbrev pub same_binary : {R : Type 0} → (R → R → Bool) → Binary R → Binary R → Bool
same_binary same a b =
    same_op a.op b.op && same_flags a.flags b.flags && same_ty a.ty b.ty
    && same_atom same a.left b.left && same_atom same a.right b.right

abbrev pub same_icmp : {R : Type 0} → (R → R → Bool) → Icmp R → Icmp R → Bool
same_icmp same a b = same_pred a.pred b.pred && same_ty a.ty b.ty && same_atom same a.left b.left && same_atom same a.right b.right

abbrev pub same_conversion : {R : Type 0} → (R → R → Bool) → Cast R → Cast R → Bool
same_conversion same a b = same_cast a.op b.op && same_operand same a.operand b.operand && same_ty a.to b.to

abbrev pub same_select : {R : Type 0} → (R → R → Bool) → Select R → Select R → Bool
same_select same a b =
    same_operand same a.condition b.condition && same_operand same a.left b.left && same_operand same a.right b.right

abbrev pub same_align : Option ℕ → Option ℕ → Bool
same_align None None = true
same_align (Some m) (Some n) = nat_eq m n
same_align None (Some n) = false
same_align (Some m) None = false

abbrev pub same_element : {R : Type 0} → (R → R → Bool) → Element R → Element R → Bool
same_element same a b =
    same_bool a.inbounds b.inbounds && same_ty a.of b.of && same_operand same a.base b.base
    && same_list (same_operand same) a.indices b.indices && same_ty a.to b.to

abbrev pub same_load : {R : Type 0} → (R → R → Bool) → Load R → Load R → Bool
same_load same a b = same_ty a.of b.of && same_operand same a.pointer b.pointer && same_align a.align b.align

abbrev pub same_expr : {R : Type 0} → (R → R → Bool) → Expr R → Expr R → Bool
same_expr same (expr.Plain a) (expr.Plain b) = same_operand same a b
same_expr same (expr.Binary a) (expr.Binary b) = same_binary same a b
same_expr same (expr.Icmp a) (expr.Icmp b) = same_icmp same a b
same_expr same (expr.Cast a) (expr.Cast b) = same_conversion same a b
same_expr same (expr.Select a) (expr.Select b) = same_select same a b
same_expr same (expr.Element a) (expr.Element b) = same_element same a b
same_expr same (expr.Load a) (expr.Load b) = same_load same a b
same_expr same a b = false
