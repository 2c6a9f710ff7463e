-- What a value, an operation or a call names is one thing alone, the one that is built.
use Rattle.std.proofs.Common.{◌≡◌, ◌∙◌, ℕ, Bool, true, false, cond, List, map, Option, Some, None, refl, sym, ap, subst, arith, eq-eqb, eqb-true, ◌^◌, ◌<◌, ◌≤◌}
use Rattle.std.specs.Prelude.{nat_eq, unwrap_or}
use Rattle.std.proofs.lemmas.Nat.{pow_pos}
use Rattle.ir_core.specs.declared.expressions.Binary.{Binary}
use Rattle.ir_core.specs.declared.expressions.Cast.{Cast}
use Rattle.ir_core.specs.declared.expressions.Element.{Element}
use Rattle.ir_core.specs.declared.expressions.Expr.{Expr}
use Rattle.ir_core.specs.declared.expressions.Expr.TheVariants as expr
use Rattle.ir_core.specs.declared.expressions.Icmp.{Icmp}
use Rattle.ir_core.specs.declared.expressions.Load.{Load}
use Rattle.ir_core.specs.declared.expressions.Select.{Select}
use Rattle.ir_core.specs.declared.functions.Alloca.{Alloca}
use Rattle.ir_core.specs.declared.functions.Argument.{Argument}
use Rattle.ir_core.specs.declared.functions.Call.{Call}
use Rattle.ir_core.specs.declared.functions.Store.{Store}
use Rattle.ir_core.specs.declared.modules.Module.{Module}
use Rattle.ir_core.specs.declared.operands.Atom.{Atom}
use Rattle.ir_core.specs.declared.operands.Atom.TheVariants.{Constant, Register}
use Rattle.ir_core.specs.declared.operands.Operand.{Operand}
use Rattle.ir_lexer.specs.declared.token.Number.{Number}
use Rattle.ir_types.specs.declared.names.Name.{Name}
use Rattle.ir_types.specs.declared.ty.Ty.{Ty, Ptr}
use Rattle.module_grammar.specs.declared.attributes.ParamAttributeText.{ParamAttributeText}
use Rattle.module_grammar.specs.declared.constants.OperandText.{OperandText}
use Rattle.module_grammar.specs.declared.constants.ValueText.{ValueText}
use Rattle.module_grammar.specs.declared.constants.ValueText.TheVariants as text
use Rattle.module_grammar.specs.declared.lines.AllocaText.{AllocaText}
use Rattle.module_grammar.specs.declared.lines.ArgumentText.{ArgumentText}
use Rattle.module_grammar.specs.declared.lines.BinaryText.{BinaryText}
use Rattle.module_grammar.specs.declared.lines.CallEndText.{CallEndText}
use Rattle.module_grammar.specs.declared.lines.CastText.{CastText}
use Rattle.module_grammar.specs.declared.lines.CompareText.{CompareText}
use Rattle.module_grammar.specs.declared.lines.CountText.{CountText}
use Rattle.module_grammar.specs.declared.lines.ElementText.{ElementText}
use Rattle.module_grammar.specs.declared.lines.LoadText.{LoadText}
use Rattle.module_grammar.specs.declared.lines.OperationText.{OperationText}
use Rattle.module_grammar.specs.declared.lines.OperationText.TheVariants as form
use Rattle.module_grammar.specs.declared.lines.SelectText.{SelectText}
use Rattle.module_grammar.specs.declared.lines.StoreText.{StoreText}
use Rattle.module_grammar.specs.declared.places.Placed.{Placed}
use Rattle.module_grammar.specs.declared.types.CalledText.{CalledText}
use Rattle.module_grammar.specs.declared.types.TypeText.{TypeText}
use Rattle.module_grammar.specs.Operators.{operator_op}
use Rattle.named_modules.specs.Built.{align_built, align_kept, align_of, argument_of, count_kept, count_of, operand_of, operation_of, pointed, result_of, value_at}
use Rattle.named_modules.specs.Lines.{IsAlloca, IsArgument, IsBinary, IsCast, IsCompare, IsCount, IsCountOf, IsElement, IsLoad, IsOperation, IsResult, IsSelect, IsStore, NamesCall, cast_op, flags_of}
use Rattle.named_modules.specs.Types.{int_of, type_of}
use Rattle.named_modules.specs.Values.{IsAlign, IsAlignOf, IsOperand, IsValue, Registers, extensions_of}
use Rattle.named_modules.proofs.CallTies.{call_to}
use Rattle.named_modules.proofs.Ties.{zip_is}
use Rattle.named_modules.proofs.ValueTies.{align_built_is}

-- ---- alignments and counts

positive : (k : ℕ) → 2 ^ k ≡ 0 → ⊥
positive k e = let more : 0 < 2 ^ k = pow_pos k in omega (arith, more, e)

align_kept_is : (n : Number) (a : Option ℕ) → IsAlignOf n a → a ≡ align_kept n
align_kept_is n None is = sym (ap (λ b. cond b None (Some (align_built n))) (eq-eqb n.magnitude 0 is))
align_kept_is n (Some align) is = by (nat_eq n.magnitude 0) refl
  where
    by : (b : Bool) → nat_eq n.magnitude 0 ≡ b → Some align ≡ cond b None (Some (align_built n))
    by true e = absurd (positive is.2.0.0 (sym is.2.0.1 ∙ is.1 ∙ eqb-true n.magnitude 0 e))
    by false e = ap Some (is.1 ∙ sym (align_built_is n (subst (λ a. a ≤ 2 ^ 29) is.1 is.2.1)))

pub align_is : (w : Option (Placed Number)) (a : Option ℕ) → IsAlign w a → a ≡ align_of w
align_is None a is = is
align_is (Some n) a is = align_kept_is n.what a is

count_of_is : (o : Option ℕ) (t : Ty) (count : Option (Ty × ℕ)) → IsCountOf o t count → count ≡ count_kept t (unwrap_or o 0)
count_of_is None t count is = absurd is
count_of_is (Some n) t count is = is

count_is : (m : Module) (w : Option CountText) (count : Option (Ty × ℕ)) → IsCount m w count → count ≡ count_of w
count_is m None count is = is
count_is m (Some w) count is = count_of_is (int_of (type_of w.ty) w.number) (type_of w.ty) count is.1

pub result_is : (m : Module) (w : Option TypeText) (t : Ty) → IsResult m w t → t ≡ result_of w
result_is m None t is = is
result_is m (Some w) t is = is.0

module _ (m : Module) (rs : Registers) where
  pub value_is : (t : Ty) (v : ValueText) (a : Atom Name) → IsValue m rs t v a → a ≡ value_at t v
  value_is t (text.Const w) (Constant c) is = ap Constant is.0
  value_is t (text.Const w) (Register x) is = absurd is
  value_is t (text.Local w) (Constant c) is = absurd is
  value_is t (text.Local w) (Register x) is = ap Register is.0
  value_is t (text.Tagged tag w) a is = absurd is

  -- at the type that is stated
  value_at_is : (t u : Ty) (v : ValueText) (a : Atom Name) → t ≡ u → IsValue m rs t v a → a ≡ value_at u v
  value_at_is t u v a e is = value_is t v a is ∙ ap (λ s. value_at s v) e

  pub operand_is : (w : OperandText) (o : Operand Name) → IsOperand m rs w o → o ≡ operand_of w
  operand_is w o is =
      ap (λ t. record o { ty = t }) is.0.0 ∙ ap (λ a. let one : Operand Name = record { ty = type_of w.ty; atom = a } in one) (value_at_is o.ty (type_of w.ty) w.value o.atom is.0.0 is.1)

  binary_is : (w : BinaryText) (b : Binary Name) → IsBinary m rs w b → expr.Binary b ≡ operation_of (form.Binary w)
  binary_is w b is =
      let left = operand_is w.left (record { ty = b.ty; atom = b.left }) is.2 in
      let ty : b.ty ≡ type_of w.left.ty = ap (λ (o : Operand Name). o.ty) left in
      ap expr.Binary
      (ap (λ op. record b { op = op }) is.0
      ∙ ap (λ flags. record b { op = operator_op w.operator; flags = flags }) is.1
      ∙ ap (λ t. record b { op = operator_op w.operator; flags = flags_of w.operator; ty = t }) ty
      ∙ ap (λ a. record b { op = operator_op w.operator; flags = flags_of w.operator; ty = type_of w.left.ty; left = a }) (ap (λ (o : Operand Name). o.atom) left)
      ∙ ap (λ a. record b { op = operator_op w.operator; flags = flags_of w.operator; ty = type_of w.left.ty; left = value_at (type_of w.left.ty) w.left.value; right = a }) (value_at_is b.ty (type_of w.left.ty) w.right b.right ty is.3))

  compare_is : (w : CompareText) (c : Icmp Name) → IsCompare m rs w c → expr.Icmp c ≡ operation_of (form.Compare w)
  compare_is w c is =
      let left = operand_is w.left (record { ty = c.ty; atom = c.left }) is.1 in
      let ty : c.ty ≡ type_of w.left.ty = ap (λ (o : Operand Name). o.ty) left in
      ap expr.Icmp
      (ap (λ pred. record c { pred = pred }) is.0
      ∙ ap (λ t. record c { pred = w.pred; ty = t }) ty
      ∙ ap (λ a. record c { pred = w.pred; ty = type_of w.left.ty; left = a }) (ap (λ (o : Operand Name). o.atom) left)
      ∙ ap (λ a. record c { pred = w.pred; ty = type_of w.left.ty; left = value_at (type_of w.left.ty) w.left.value; right = a }) (value_at_is c.ty (type_of w.left.ty) w.right c.right ty is.2))

  cast_is : (w : CastText) (c : Cast Name) → IsCast m rs w c → expr.Cast c ≡ operation_of (form.Cast w)
  cast_is w c is =
      ap expr.Cast
      (ap (λ op. record c { op = op }) is.0
      ∙ ap (λ o. record c { op = cast_op w.word; operand = o }) (operand_is w.from c.operand is.1)
      ∙ ap (λ t. record c { op = cast_op w.word; operand = operand_of w.from; to = t }) is.2.0)

  select_is : (w : SelectText) (s : Select Name) → IsSelect m rs w s → expr.Select s ≡ operation_of (form.Select w)
  select_is w s is =
      ap expr.Select
      (ap (λ o. record s { condition = o }) (operand_is w.condition s.condition is.0)
      ∙ ap (λ o. record s { condition = operand_of w.condition; left = o }) (operand_is w.then s.left is.1)
      ∙ ap (λ o. record s { condition = operand_of w.condition; left = operand_of w.then; right = o }) (operand_is w.other s.right is.2))

  pub operation_is : (w : OperationText) (e : Expr Name) → IsOperation m rs w e → e ≡ operation_of w
  operation_is (form.Binary w) (expr.Binary b) is = binary_is w b is
  operation_is (form.Compare w) (expr.Icmp c) is = compare_is w c is
  operation_is (form.Cast w) (expr.Cast c) is = cast_is w c is
  operation_is (form.Select w) (expr.Select s) is = select_is w s is
  operation_is w e is = absurd is

  abbrev pub element_of : ElementText → Element Name
  element_of w = record {
    inbounds = w.inbounds;
    of = type_of w.of;
    base = operand_of w.base;
    indices = map operand_of w.indices;
    to = pointed m.types (type_of w.base.ty) (type_of w.of) (map operand_of w.indices);
  }

  pub element_is : (w : ElementText) (e : Element Name) → IsElement m rs w e → e ≡ element_of w
  element_is w e is =
      let of : e.of ≡ type_of w.of = is.1.0 in
      let indices : e.indices ≡ map operand_of w.indices = zip_is (IsOperand m rs) operand_of operand_is w.indices e.indices is.3 in
      let to : e.to ≡ pointed m.types (type_of w.base.ty) (type_of w.of) (map operand_of w.indices) =
      is.4 ∙ ap (λ t. pointed m.types t e.of e.indices) is.2.0.0 ∙ ap (λ t. pointed m.types (type_of w.base.ty) t e.indices) of
      ∙ ap (pointed m.types (type_of w.base.ty) (type_of w.of)) indices in
      ap (λ b. record e { inbounds = b }) is.0
      ∙ ap (λ t. record e { inbounds = w.inbounds; of = t }) of
      ∙ ap (λ o. record e { inbounds = w.inbounds; of = type_of w.of; base = o }) (operand_is w.base e.base is.2)
      ∙ ap (λ os. record e { inbounds = w.inbounds; of = type_of w.of; base = operand_of w.base; indices = os }) indices
      ∙ ap (λ t. record e { inbounds = w.inbounds; of = type_of w.of; base = operand_of w.base; indices = map operand_of w.indices; to = t }) to

  abbrev pub load_of : LoadText → Load Name
  load_of w = record { of = type_of w.ty; pointer = operand_of w.address; align = align_of w.align }

  pub load_is : (w : LoadText) (l : Load Name) → IsLoad m rs w l → l ≡ load_of w
  load_is w l is =
      ap (λ t. record l { of = t }) is.0.0
      ∙ ap (λ o. record l { of = type_of w.ty; pointer = o }) (operand_is w.address l.pointer is.1)
      ∙ ap (λ a. record l { of = type_of w.ty; pointer = operand_of w.address; align = a }) (align_is w.align l.align is.2)

  abbrev pub store_of : StoreText → Store
  store_of w = record { value = operand_of w.value; pointer = operand_of w.address; align = align_of w.align }

  pub store_is : (w : StoreText) (s : Store) → IsStore m rs w s → s ≡ store_of w
  store_is w s is =
      ap (λ o. record s { value = o }) (operand_is w.value s.value is.0)
      ∙ ap (λ o. record s { value = operand_of w.value; pointer = o }) (operand_is w.address s.pointer is.1)
      ∙ ap (λ a. record s { value = operand_of w.value; pointer = operand_of w.address; align = a }) (align_is w.align s.align is.2)

  abbrev pub alloca_of : Name → AllocaText → Alloca
  alloca_of x w = record { name = x; of = type_of w.ty; to = Ptr (type_of w.ty); count = count_of w.count; align = align_of w.align }

  pub alloca_is : (x : Name) (w : AllocaText) (a : Alloca) → a.name ≡ x → IsAlloca m w a → a ≡ alloca_of x w
  alloca_is x w a named is =
      ap (λ n. record a { name = n }) named
      ∙ ap (λ t. record a { name = x; of = t }) is.0.0
      ∙ ap (λ t. record a { name = x; of = type_of w.ty; to = t }) (is.1 ∙ ap Ptr is.0.0)
      ∙ ap (λ c. record a { name = x; of = type_of w.ty; to = Ptr (type_of w.ty); count = c }) (count_is m w.count a.count is.2)
      ∙ ap (λ n. record a { name = x; of = type_of w.ty; to = Ptr (type_of w.ty); count = count_of w.count; align = n }) (align_is w.align a.align is.3)

  argument_is : (w : ArgumentText) (a : Argument) → IsArgument m rs w a → a ≡ argument_of w
  argument_is w a is =
      let text : OperandText = record { ty = w.ty; value = w.value } in
      ap (λ o. record a { operand = o }) (operand_is text a.operand is.0) ∙ ap (λ e. record a { operand = operand_of text; extensions = e }) is.1

  pub called_is : (name : Option Name) (attributes : List ParamAttributeText) (of : Option TypeText) (states : Option CalledText) (x : Placed Name) (end : CallEndText) (c : Call) → NamesCall m rs attributes of states x end c → c.name ≡ name → c ≡ call_to name attributes of x end
  called_is name attributes of states x end c n named =
      ap (λ o. record c { name = o }) named
      ∙ ap (λ t. record c { name = name; result = t }) (result_is m of c.result n.result)
      ∙ ap (λ e. record c { name = name; result = result_of of; result_extensions = e }) n.extensions
      ∙ ap (λ y. record c { name = name; result = result_of of; result_extensions = extensions_of attributes; callee = y }) n.callee
      ∙ ap (λ as_all. record c { name = name; result = result_of of; result_extensions = extensions_of attributes; callee = x.what; arguments = as_all })
      (zip_is (IsArgument m rs) argument_of argument_is end.arguments c.arguments n.arguments)
