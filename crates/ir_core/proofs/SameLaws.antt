-- The tests of specs/Same are true exactly of equal things: two laws for each. Where a test takes the test of its elements
-- or registers, its laws take theirs.
use Rattle.std.proofs.Common.{◌≡◌, ◌∙◌, ℕ, zero, suc, Bool, true, ◌&&◌, List, Option, None, Some, refl, sym, ap}
use Rattle.ir_types.specs.declared.names.Name.{Name}
use Rattle.ir_types.specs.declared.ty.Ty.{Ty}
use Rattle.ir_core.specs.declared.operands.Atom.{Atom}
use Rattle.ir_core.specs.declared.operands.Atom.TheVariants as atom
use Rattle.ir_core.specs.declared.operands.Operand.{Operand}
use Rattle.ir_core.specs.declared.operands.BinOp.{BinOp}
use Rattle.ir_core.specs.declared.operands.BinOp.TheVariants as op
use Rattle.ir_core.specs.declared.operands.Flags.{Flags}
use Rattle.ir_core.specs.declared.operands.CastOp.{CastOp}
use Rattle.ir_core.specs.declared.operands.CastOp.TheVariants as conversion
use Rattle.ir_core.specs.declared.operands.Pred.{Pred}
use Rattle.ir_core.specs.declared.operands.Pred.TheVariants as predicate
use Rattle.ir_core.specs.declared.expressions.Reg.{Reg}
use Rattle.ir_core.specs.declared.expressions.Reg.TheVariants as reg
use Rattle.ir_core.specs.declared.expressions.Binary.{Binary}
use Rattle.ir_core.specs.declared.expressions.Icmp.{Icmp}
use Rattle.ir_core.specs.declared.expressions.Cast.{Cast}
use Rattle.ir_core.specs.declared.expressions.Select.{Select}
use Rattle.ir_core.specs.declared.expressions.Element.{Element}
use Rattle.ir_core.specs.declared.expressions.Load.{Load}
use Rattle.ir_core.specs.declared.expressions.Expr.{Expr}
use Rattle.ir_core.specs.declared.expressions.Expr.TheVariants as expr
use Rattle.ir_types.specs.NameLaws.{left_true, right_true, all_true, same_list_true, same_list_refl, same_nat_true, same_nat_refl, same_name_true, same_name_refl}
use Rattle.ir_types.specs.Same.{same_list, same_name, same_ty}
use Rattle.ir_types.proofs.SameLaws.{same_ty_true, same_ty_refl}
pub use Rattle.ir_core.proofs.SameConstants.{same_bool_true, same_bool_refl, same_const_true, same_const_refl}
use Rattle.ir_core.specs.Same.{same_bool, same_atom, same_operand, op_code, same_op, cast_code, same_cast, pred_code, same_pred, same_flags, same_reg, same_binary, same_icmp, same_conversion, same_select, same_align, same_element, same_load, same_expr}

pub same_atom_true : {R : Type 0} (same : R → R → Bool) → ((a b : R) → same a b ≡ true → a ≡ b) → (a b : Atom R) → same_atom same a b ≡ true → a ≡ b
same_atom_true same law (atom.Constant c) (atom.Constant d) h = ap atom.Constant (same_const_true c d h)
same_atom_true same law (atom.Register x) (atom.Register y) h = ap atom.Register (law x y h)
same_atom_true same law (atom.Constant c) (atom.Register y) h = cc
same_atom_true same law (atom.Register x) (atom.Constant d) h = cc

pub same_atom_refl : {R : Type 0} (same : R → R → Bool) → ((a : R) → same a a ≡ true) → (a : Atom R) → same_atom same a a ≡ true
same_atom_refl same law (atom.Constant c) = same_const_refl c
same_atom_refl same law (atom.Register x) = law x

pub same_operand_true : {R : Type 0} (same : R → R → Bool) → ((a b : R) → same a b ≡ true → a ≡ b) → (a b : Operand R) → same_operand same a b ≡ true → a ≡ b
same_operand_true {R = R} same law a b h =
    let pair : ((a.ty, a.atom) ≡ (b.ty, b.atom)) = cc (
      same_ty_true a.ty b.ty (left_true (same_ty a.ty b.ty) (same_atom same a.atom b.atom) h),
      same_atom_true same law a.atom b.atom (right_true (same_ty a.ty b.ty) (same_atom same a.atom b.atom) h),
    ) in
    ap (λ (p : Ty × Atom R). record { ty = p.0; atom = p.1 }) pair

pub same_operand_refl : {R : Type 0} (same : R → R → Bool) → ((a : R) → same a a ≡ true) → (a : Operand R) → same_operand same a a ≡ true
same_operand_refl same law a = all_true (same_ty_refl a.ty) (same_atom_refl same law a.atom)

-- the operator of that number
abbrev op_of : ℕ → BinOp
op_of zero = op.Add
op_of (suc zero) = op.Sub
op_of (suc (suc zero)) = op.Mul
op_of (suc (suc (suc zero))) = op.Shl
op_of (suc (suc (suc (suc zero)))) = op.UDiv
op_of (suc (suc (suc (suc (suc zero))))) = op.SDiv
op_of (suc (suc (suc (suc (suc (suc zero)))))) = op.LShr
op_of (suc (suc (suc (suc (suc (suc (suc zero))))))) = op.AShr
op_of (suc (suc (suc (suc (suc (suc (suc (suc zero)))))))) = op.URem
op_of (suc (suc (suc (suc (suc (suc (suc (suc (suc zero))))))))) = op.SRem
op_of (suc (suc (suc (suc (suc (suc (suc (suc (suc (suc zero)))))))))) = op.And
op_of (suc (suc (suc (suc (suc (suc (suc (suc (suc (suc (suc zero))))))))))) = op.Or
op_of (suc (suc (suc (suc (suc (suc (suc (suc (suc (suc (suc (suc n)))))))))))) = op.Xor

op_back : (a : BinOp) → op_of (op_code a) ≡ a
op_back op.Add = refl
op_back op.Sub = refl
op_back op.Mul = refl
op_back op.Shl = refl
op_back op.UDiv = refl
op_back op.SDiv = refl
op_back op.LShr = refl
op_back op.AShr = refl
op_back op.URem = refl
op_back op.SRem = refl
op_back op.And = refl
op_back op.Or = refl
op_back op.Xor = refl

pub same_op_true : (a b : BinOp) → same_op a b ≡ true → a ≡ b
same_op_true a b h = sym (op_back a) ∙ ap op_of (same_nat_true (op_code a) (op_code b) h) ∙ op_back b

pub same_op_refl : (a : BinOp) → same_op a a ≡ true
same_op_refl a = same_nat_refl (op_code a)

-- the conversion of that number
abbrev cast_of : ℕ → CastOp
cast_of zero = conversion.ZExt
cast_of (suc zero) = conversion.SExt
cast_of (suc (suc zero)) = conversion.Trunc
cast_of (suc (suc (suc n))) = conversion.BitCast

cast_back : (a : CastOp) → cast_of (cast_code a) ≡ a
cast_back conversion.ZExt = refl
cast_back conversion.SExt = refl
cast_back conversion.Trunc = refl
cast_back conversion.BitCast = refl

pub same_cast_true : (a b : CastOp) → same_cast a b ≡ true → a ≡ b
same_cast_true a b h = sym (cast_back a) ∙ ap cast_of (same_nat_true (cast_code a) (cast_code b) h) ∙ cast_back b

pub same_cast_refl : (a : CastOp) → same_cast a a ≡ true
same_cast_refl a = same_nat_refl (cast_code a)

-- the predicate of that number
abbrev pred_of : ℕ → Pred
pred_of zero = predicate.Eq
pred_of (suc zero) = predicate.Ne
pred_of (suc (suc zero)) = predicate.Ugt
pred_of (suc (suc (suc zero))) = predicate.Uge
pred_of (suc (suc (suc (suc zero)))) = predicate.Ult
pred_of (suc (suc (suc (suc (suc zero))))) = predicate.Ule
pred_of (suc (suc (suc (suc (suc (suc zero)))))) = predicate.Sgt
pred_of (suc (suc (suc (suc (suc (suc (suc zero))))))) = predicate.Sge
pred_of (suc (suc (suc (suc (suc (suc (suc (suc zero)))))))) = predicate.Slt
pred_of (suc (suc (suc (suc (suc (suc (suc (suc (suc n))))))))) = predicate.Sle

pred_back : (a : Pred) → pred_of (pred_code a) ≡ a
pred_back predicate.Eq = refl
pred_back predicate.Ne = refl
pred_back predicate.Ugt = refl
pred_back predicate.Uge = refl
pred_back predicate.Ult = refl
pred_back predicate.Ule = refl
pred_back predicate.Sgt = refl
pred_back predicate.Sge = refl
pred_back predicate.Slt = refl
pred_back predicate.Sle = refl

pub same_pred_true : (a b : Pred) → same_pred a b ≡ true → a ≡ b
same_pred_true a b h = sym (pred_back a) ∙ ap pred_of (same_nat_true (pred_code a) (pred_code b) h) ∙ pred_back b

pub same_pred_refl : (a : Pred) → same_pred a a ≡ true
same_pred_refl a = same_nat_refl (pred_code a)

pub same_flags_true : (a b : Flags) → same_flags a b ≡ true → a ≡ b
same_flags_true a b h =
    let u = same_bool a.nuw b.nuw in
    let s = same_bool a.nsw b.nsw in
    let e = same_bool a.exact b.exact in
    let h1 : (u && s) ≡ true = left_true (u && s) e h in
    let parts : ((a.nuw, a.nsw, a.exact) ≡ (b.nuw, b.nsw, b.exact)) = cc (
      same_bool_true a.nuw b.nuw (left_true u s h1),
      same_bool_true a.nsw b.nsw (right_true u s h1),
      same_bool_true a.exact b.exact (right_true (u && s) e h),
    ) in
    ap (λ (p : Bool × Bool × Bool). record { nuw = p.0; nsw = p.1; exact = p.2 }) parts

pub same_flags_refl : (a : Flags) → same_flags a a ≡ true
same_flags_refl a = all_true (all_true (same_bool_refl a.nuw) (same_bool_refl a.nsw)) (same_bool_refl a.exact)

pub same_reg_true : (a b : Reg) → same_reg a b ≡ true → a ≡ b
same_reg_true (reg.Now x) (reg.Now y) h = ap reg.Now (same_name_true x y h)
same_reg_true (reg.Old x) (reg.Old y) h = ap reg.Old (same_name_true x y h)
same_reg_true (reg.Ghost x) (reg.Ghost y) h = ap reg.Ghost (same_name_true x y h)
same_reg_true (reg.Now x) (reg.Old y) h = cc
same_reg_true (reg.Now x) (reg.Ghost y) h = cc
same_reg_true (reg.Old x) (reg.Now y) h = cc
same_reg_true (reg.Old x) (reg.Ghost y) h = cc
same_reg_true (reg.Ghost x) (reg.Now y) h = cc
same_reg_true (reg.Ghost x) (reg.Old y) h = cc

pub same_reg_refl : (a : Reg) → same_reg a a ≡ true
same_reg_refl (reg.Now x) = same_name_refl x
same_reg_refl (reg.Old x) = same_name_refl x
same_reg_refl (reg.Ghost x) = same_name_refl x

pub same_binary_true : {R : Type 0} (same : R → R → Bool) → ((a b : R) → same a b ≡ true → a ≡ b) → (a b : Binary R) → same_binary same a b ≡ true → a ≡ b
same_binary_true {R = R} same law a b h =
    let o = same_op a.op b.op in
    let f = same_flags a.flags b.flags in
    let t = same_ty a.ty b.ty in
    let l = same_atom same a.left b.left in
    let r = same_atom same a.right b.right in
    let h1 : (o && f && t && l) ≡ true = left_true (o && f && t && l) r h in
    let h2 : (o && f && t) ≡ true = left_true (o && f && t) l h1 in
    let h3 : (o && f) ≡ true = left_true (o && f) t h2 in
    let parts : ((a.op, a.flags, a.ty, a.left, a.right) ≡ (b.op, b.flags, b.ty, b.left, b.right)) = cc (
      same_op_true a.op b.op (left_true o f h3),
      same_flags_true a.flags b.flags (right_true o f h3),
      same_ty_true a.ty b.ty (right_true (o && f) t h2),
      same_atom_true same law a.left b.left (right_true (o && f && t) l h1),
      same_atom_true same law a.right b.right (right_true (o && f && t && l) r h),
    ) in
    ap (λ (p : BinOp × Flags × Ty × Atom R × Atom R). record { op = p.0; flags = p.1; ty = p.2; left = p.3; right = p.4 }) parts

pub same_binary_refl : {R : Type 0} (same : R → R → Bool) → ((a : R) → same a a ≡ true) → (a : Binary R) → same_binary same a a ≡ true
same_binary_refl same law a = all_true (all_true (all_true (all_true (same_op_refl a.op) (same_flags_refl a.flags)) (same_ty_refl a.ty))
    (same_atom_refl same law a.left)) (same_atom_refl same law a.right)

pub same_icmp_true : {R : Type 0} (same : R → R → Bool) → ((a b : R) → same a b ≡ true → a ≡ b) → (a b : Icmp R) → same_icmp same a b ≡ true → a ≡ b
same_icmp_true {R = R} same law a b h =
    let p = same_pred a.pred b.pred in
    let t = same_ty a.ty b.ty in
    let l = same_atom same a.left b.left in
    let r = same_atom same a.right b.right in
    let h1 : (p && t && l) ≡ true = left_true (p && t && l) r h in
    let h2 : (p && t) ≡ true = left_true (p && t) l h1 in
    let parts : ((a.pred, a.ty, a.left, a.right) ≡ (b.pred, b.ty, b.left, b.right)) = cc (
      same_pred_true a.pred b.pred (left_true p t h2),
      same_ty_true a.ty b.ty (right_true p t h2),
      same_atom_true same law a.left b.left (right_true (p && t) l h1),
      same_atom_true same law a.right b.right (right_true (p && t && l) r h),
    ) in
    ap (λ (p : Pred × Ty × Atom R × Atom R). record { pred = p.0; ty = p.1; left = p.2; right = p.3 }) parts

pub same_icmp_refl : {R : Type 0} (same : R → R → Bool) → ((a : R) → same a a ≡ true) → (a : Icmp R) → same_icmp same a a ≡ true
same_icmp_refl same law a = all_true (all_true (all_true (same_pred_refl a.pred) (same_ty_refl a.ty)) (same_atom_refl same law a.left)) (same_atom_refl same law a.right)

pub same_conversion_true : {R : Type 0} (same : R → R → Bool) → ((a b : R) → same a b ≡ true → a ≡ b) → (a b : Cast R) → same_conversion same a b ≡ true → a ≡ b
same_conversion_true {R = R} same law a b h =
    let o = same_cast a.op b.op in
    let x = same_operand same a.operand b.operand in
    let t = same_ty a.to b.to in
    let h1 : (o && x) ≡ true = left_true (o && x) t h in
    let parts : ((a.op, a.operand, a.to) ≡ (b.op, b.operand, b.to)) = cc (
      same_cast_true a.op b.op (left_true o x h1),
      same_operand_true same law a.operand b.operand (right_true o x h1),
      same_ty_true a.to b.to (right_true (o && x) t h),
    ) in
    ap (λ (p : CastOp × Operand R × Ty). record { op = p.0; operand = p.1; to = p.2 }) parts

pub same_conversion_refl : {R : Type 0} (same : R → R → Bool) → ((a : R) → same a a ≡ true) → (a : Cast R) → same_conversion same a a ≡ true
same_conversion_refl same law a = all_true (all_true (same_cast_refl a.op) (same_operand_refl same law a.operand)) (same_ty_refl a.to)

pub same_select_true : {R : Type 0} (same : R → R → Bool) → ((a b : R) → same a b ≡ true → a ≡ b) → (a b : Select R) → same_select same a b ≡ true → a ≡ b
same_select_true {R = R} same law a b h =
    let c = same_operand same a.condition b.condition in
    let l = same_operand same a.left b.left in
    let r = same_operand same a.right b.right in
    let h1 : (c && l) ≡ true = left_true (c && l) r h in
    let parts : ((a.condition, a.left, a.right) ≡ (b.condition, b.left, b.right)) = cc (
      same_operand_true same law a.condition b.condition (left_true c l h1),
      same_operand_true same law a.left b.left (right_true c l h1),
      same_operand_true same law a.right b.right (right_true (c && l) r h),
    ) in
    ap (λ (p : Operand R × Operand R × Operand R). record { condition = p.0; left = p.1; right = p.2 }) parts

pub same_select_refl : {R : Type 0} (same : R → R → Bool) → ((a : R) → same a a ≡ true) → (a : Select R) → same_select same a a ≡ true
same_select_refl same law a = all_true (all_true (same_operand_refl same law a.condition) (same_operand_refl same law a.left)) (same_operand_refl same law a.right)

pub same_align_true : (a b : Option ℕ) → same_align a b ≡ true → a ≡ b
same_align_true None None h = refl
same_align_true (Some m) (Some n) h = ap Some (same_nat_true m n h)
same_align_true None (Some n) h = cc
same_align_true (Some m) None h = cc

pub same_align_refl : (a : Option ℕ) → same_align a a ≡ true
same_align_refl None = refl
same_align_refl (Some n) = same_nat_refl n

pub same_element_true : {R : Type 0} (same : R → R → Bool) → ((a b : R) → same a b ≡ true → a ≡ b) → (a b : Element R) → same_element same a b ≡ true → a ≡ b
same_element_true {R = R} same law a b h =
    let i = same_bool a.inbounds b.inbounds in
    let t = same_ty a.of b.of in
    let o = same_operand same a.base b.base in
    let l = same_list (same_operand same) a.indices b.indices in
    let r = same_ty a.to b.to in
    let h1 : (i && t && o && l) ≡ true = left_true (i && t && o && l) r h in
    let h2 : (i && t && o) ≡ true = left_true (i && t && o) l h1 in
    let h3 : (i && t) ≡ true = left_true (i && t) o h2 in
    let parts : ((a.inbounds, a.of, a.base, a.indices, a.to) ≡ (b.inbounds, b.of, b.base, b.indices, b.to)) = cc (
      same_bool_true a.inbounds b.inbounds (left_true i t h3),
      same_ty_true a.of b.of (right_true i t h3),
      same_operand_true same law a.base b.base (right_true (i && t) o h2),
      same_list_true (same_operand same) (same_operand_true same law) a.indices b.indices (right_true (i && t && o) l h1),
      same_ty_true a.to b.to (right_true (i && t && o && l) r h),
    ) in
    ap (λ (p : Bool × Ty × Operand R × List (Operand R) × Ty). record { inbounds = p.0; of = p.1; base = p.2; indices = p.3; to = p.4 }) parts

pub same_element_refl : {R : Type 0} (same : R → R → Bool) → ((a : R) → same a a ≡ true) → (a : Element R) → same_element same a a ≡ true
same_element_refl same law a = all_true (all_true (all_true (all_true (same_bool_refl a.inbounds) (same_ty_refl a.of)) (same_operand_refl same law a.base))
    (same_list_refl (same_operand same) (same_operand_refl same law) a.indices)) (same_ty_refl a.to)

pub same_load_true : {R : Type 0} (same : R → R → Bool) → ((a b : R) → same a b ≡ true → a ≡ b) → (a b : Load R) → same_load same a b ≡ true → a ≡ b
same_load_true {R = R} same law a b h =
    let t = same_ty a.of b.of in
    let o = same_operand same a.pointer b.pointer in
    let n = same_align a.align b.align in
    let h1 : (t && o) ≡ true = left_true (t && o) n h in
    let parts : ((a.of, a.pointer, a.align) ≡ (b.of, b.pointer, b.align)) = cc (
      same_ty_true a.of b.of (left_true t o h1),
      same_operand_true same law a.pointer b.pointer (right_true t o h1),
      same_align_true a.align b.align (right_true (t && o) n h),
    ) in
    ap (λ (p : Ty × Operand R × Option ℕ). record { of = p.0; pointer = p.1; align = p.2 }) parts

pub same_load_refl : {R : Type 0} (same : R → R → Bool) → ((a : R) → same a a ≡ true) → (a : Load R) → same_load same a a ≡ true
same_load_refl same law a = all_true (all_true (same_ty_refl a.of) (same_operand_refl same law a.pointer)) (same_align_refl a.align)

pub same_expr_true : {R : Type 0} (same : R → R → Bool) → ((a b : R) → same a b ≡ true → a ≡ b) → (a b : Expr R) → same_expr same a b ≡ true → a ≡ b
same_expr_true same law (expr.Plain a) (expr.Plain b) h = ap expr.Plain (same_operand_true same law a b h)
same_expr_true same law (expr.Binary a) (expr.Binary b) h = ap expr.Binary (same_binary_true same law a b h)
same_expr_true same law (expr.Icmp a) (expr.Icmp b) h = ap expr.Icmp (same_icmp_true same law a b h)
same_expr_true same law (expr.Cast a) (expr.Cast b) h = ap expr.Cast (same_conversion_true same law a b h)
same_expr_true same law (expr.Select a) (expr.Select b) h = ap expr.Select (same_select_true same law a b h)
same_expr_true same law (expr.Element a) (expr.Element b) h = ap expr.Element (same_element_true same law a b h)
same_expr_true same law (expr.Load a) (expr.Load b) h = ap expr.Load (same_load_true same law a b h)
same_expr_true same law a b h = cc

pub same_expr_refl : {R : Type 0} (same : R → R → Bool) → ((a : R) → same a a ≡ true) → (a : Expr R) → same_expr same a a ≡ true
same_expr_refl same law (expr.Plain a) = same_operand_refl same law a
same_expr_refl same law (expr.Binary a) = same_binary_refl same law a
same_expr_refl same law (expr.Icmp a) = same_icmp_refl same law a
same_expr_refl same law (expr.Cast a) = same_conversion_refl same law a
same_expr_refl same law (expr.Select a) = same_select_refl same law a
same_expr_refl same law (expr.Element a) = same_element_refl same law a
same_expr_refl same law (expr.Load a) = same_load_refl same law a

-- at the registers of functions, and at those of the logic
pub same_name_atom_true : (a b : Atom Name) → same_atom same_name a b ≡ true → a ≡ b
same_name_atom_true a b h = same_atom_true same_name same_name_true a b h

pub same_name_atom_refl : (a : Atom Name) → same_atom same_name a a ≡ true
same_name_atom_refl a = same_atom_refl same_name same_name_refl a

pub same_reg_atom_true : (a b : Atom Reg) → same_atom same_reg a b ≡ true → a ≡ b
same_reg_atom_true a b h = same_atom_true same_reg same_reg_true a b h

pub same_reg_atom_refl : (a : Atom Reg) → same_atom same_reg a a ≡ true
same_reg_atom_refl a = same_atom_refl same_reg same_reg_refl a

pub same_name_operand_true : (a b : Operand Name) → same_operand same_name a b ≡ true → a ≡ b
same_name_operand_true a b h = same_operand_true same_name same_name_true a b h

pub same_name_operand_refl : (a : Operand Name) → same_operand same_name a a ≡ true
same_name_operand_refl a = same_operand_refl same_name same_name_refl a

pub same_reg_operand_true : (a b : Operand Reg) → same_operand same_reg a b ≡ true → a ≡ b
same_reg_operand_true a b h = same_operand_true same_reg same_reg_true a b h

pub same_reg_operand_refl : (a : Operand Reg) → same_operand same_reg a a ≡ true
same_reg_operand_refl a = same_operand_refl same_reg same_reg_refl a

pub same_reg_expr_true : (a b : Expr Reg) → same_expr same_reg a b ≡ true → a ≡ b
same_reg_expr_true a b h = same_expr_true same_reg same_reg_true a b h

pub same_reg_expr_refl : (a : Expr Reg) → same_expr same_reg a a ≡ true
same_reg_expr_refl a = same_expr_refl same_reg same_reg_refl a

pub same_name_expr_true : (a b : Expr Name) → same_expr same_name a b ≡ true → a ≡ b
same_name_expr_true a b h = same_expr_true same_name same_name_true a b h

pub same_name_expr_refl : (a : Expr Name) → same_expr same_name a a ≡ true
same_name_expr_refl a = same_expr_refl same_name same_name_refl a
