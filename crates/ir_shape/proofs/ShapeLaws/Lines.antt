-- Operands and lines have no fault exactly where they fit.
use Rattle.std.proofs.Common.{◌≡◌, ◌∙◌, ◌&&◌, ℕ, Bool, true, not, List, [], ◌∷◌, map, Option, None, Some, refl, sym, ap, subst}
use Rattle.std.specs.List.{AllByRecursion, flat_map}
use Rattle.ir_core.specs.declared.expressions.Expr.{Expr}
use Rattle.ir_core.specs.declared.expressions.Expr.TheVariants as expr
use Rattle.ir_core.specs.declared.functions.Alloca.{Alloca}
use Rattle.ir_core.specs.declared.functions.Instr.{Instr}
use Rattle.ir_core.specs.declared.functions.Instr.TheVariants as instr
use Rattle.ir_core.specs.declared.functions.Store.{Store}
use Rattle.ir_core.specs.declared.modules.Module.{Module}
use Rattle.ir_core.specs.declared.operands.Atom.{Atom}
use Rattle.ir_core.specs.declared.operands.Atom.TheVariants.{Constant, Register}
use Rattle.ir_core.specs.declared.operands.Operand.{Operand}
use Rattle.ir_types.specs.declared.names.Name.{Name}
use Rattle.ir_types.specs.declared.ty.Ty.{Ty, Ptr}
use Rattle.ir_types.specs.declared.ty.Ty.TheVariants as ty
use Rattle.ir_types.specs.Named.{is_sized}
use Rattle.ir_types.specs.Same.{same_ty}
use Rattle.ir_types.proofs.SameLaws.{same_ty_refl, same_ty_true}
use Rattle.ir_core.specs.Expressions.{type_of}
use Rattle.ir_core.specs.Functions.{name_set, named_register, names_in, operands_of, register_of, set_by}
use Rattle.ir_core.specs.Order.{AreNew}
use Rattle.ir_core.specs.StatedTypes.{stated_by_line}
use Rattle.ir_core.specs.Types.{is_first_class}
use Rattle.ir_core.specs.Typing.{Signature, signatures_of}
use Rattle.ir_core.specs.WellFormed.{HasCount, HasType, IsAlloca, IsLine, IsNamedResult, IsStore, IsTypeKnown}
use Rattle.ir_core.proofs.Lines.{names_more, names_none, names_one, set_more, set_none, set_one}
use Rattle.ir_core.proofs.Typing.{at_ptr}
use Rattle.ir_core.specs.NameIndexes.Among.{is_among}
use Rattle.ir_typing.specs.OperandTests.Known.{are_types_known}
use Rattle.ir_typing.proofs.OperandTests.Fits.{call_by, call_is, constant_fits, element_fits, types_known}
use Rattle.ir_typing.specs.declared.shape_kinds.kind.ShapeKind.TheVariants as kind
use Rattle.ir_typing.specs.ShapeKinds.Kinds.{fault_unless, least, points_to}
use Rattle.ir_typing.specs.ShapeKinds.Names.{are_new}
use Rattle.ir_typing.specs.ShapeKinds.Typed.{Types, none_typed, with_types}
use Rattle.ir_shape.specs.ShapeTests.Kinds.{right_kind, typed}
use Rattle.ir_shape.proofs.ShapeTests.Fits.{IsAddressed, addressed_is, operator_by, operator_is}
use Rattle.ir_shape.proofs.ShapeTests.Taken.{new_joined}
use Rattle.ir_shape.proofs.ShapeTests.Tests.{all_joined, all_left, all_none, all_right, both_hold, both_left, both_none, both_right, each_none, fits_by, least_none_left, least_none_right, mapped_all, none_by, with_true}
use Rattle.ir_shape.proofs.ShapeTests.Typed.{AreTyped, register_by, register_is, register_typed}
use Rattle.ir_shape.specs.Shape.{is_name_taken, is_taken, line_kinds, with_lines}
use Rattle.ir_shape.specs.LineShapes.Told.{addressed_kind, atom_kind, has_count, is_stored, operands_kind, register_kind, rest_kind}
use Rattle.ir_shape.proofs.ShapeLaws.Faults.{AllNone}

-- the functions that can be called have different names
abbrev pub AreApart : Module → Type 0
AreApart m = AreNew [] (map (λ (s : Name × Signature). s.0) (signatures_of m))

-- a register of a type of values
abbrev pub IsValue : Name × Ty → Type 0
IsValue register = is_first_class register.1 ≡ true

pub same_by : (a b : Ty) → a ≡ b → same_ty a b ≡ true
same_by a b e = subst (λ t. same_ty a t ≡ true) e (same_ty_refl a)

-- ---- operands

-- what is told of registers that all have types
abbrev pub all_told : List (Name × Ty) → Types
all_told rs = with_types none_typed (typed rs)

own_type : (own : Option (Option Ty)) (t : Ty) → (own ≡ Some None → ⊥) → register_kind own t ≡ None → own ≡ Some (Some t)
own_type None t has e = absurd (cc)
own_type (Some None) t has e = absurd (has refl)
own_type (Some (Some own)) t has e = ap (λ (u : Ty). Some (Some u)) (same_ty_true own t (fits_by (same_ty own t) kind.OperandType e))

atom_by : (m : Module) (rs : List (Name × Ty)) (t : Ty) (a : Atom Name) → atom_kind m (all_told rs) t a ≡ None → HasType m rs t a
atom_by m rs t (Constant c) e = (constant_fits m t c).0 e
atom_by m rs t (Register x) e = register_by rs x t (own_type (all_told rs x) t (register_typed rs x) e)

atom_is : (m : Module) (rs : List (Name × Ty)) → AreNew [] (names_in rs) → (t : Ty) (a : Atom Name) → HasType m rs t a → atom_kind m (all_told rs) t a ≡ None
atom_is m rs unique t (Constant c) is = (constant_fits m t c).1 is
atom_is m rs unique t (Register x) is =
    ap (λ (own : Option (Option Ty)). register_kind own t) (register_is rs unique x t is) ∙ none_by (same_ty t t) kind.OperandType (same_ty_refl t)

pub operands_by : (m : Module) (rs : List (Name × Ty)) (os : List (Operand Name)) → operands_kind m (all_told rs) os ≡ None → AreTyped m rs os
operands_by m rs os e =
    mapped_all (λ (o : Operand Name). atom_kind m (all_told rs) o.ty o.atom ≡ None) (λ (o : Operand Name). HasType m rs o.ty o.atom)
    (λ o none. atom_by m rs o.ty o.atom none) os (each_none (λ (o : Operand Name). atom_kind m (all_told rs) o.ty o.atom) os e)

pub operands_are : (m : Module) (rs : List (Name × Ty)) → AreNew [] (names_in rs) → (os : List (Operand Name)) → AreTyped m rs os
    → operands_kind m (all_told rs) os ≡ None
operands_are m rs unique os typed =
    all_none (λ (o : Operand Name). atom_kind m (all_told rs) o.ty o.atom) os
    (mapped_all (λ (o : Operand Name). HasType m rs o.ty o.atom) (λ (o : Operand Name). atom_kind m (all_told rs) o.ty o.atom ≡ None)
    (λ o is. atom_is m rs unique o.ty o.atom is) os typed)

-- ---- one line, but for its name and its operands

addressed_by : (m : Module) (e : Expr Name) → addressed_kind m e ≡ None → IsAddressed m e
addressed_by m (expr.Plain o) none = tt
addressed_by m (expr.Binary b) none = tt
addressed_by m (expr.Icmp c) none = tt
addressed_by m (expr.Cast c) none = tt
addressed_by m (expr.Select s) none = tt
addressed_by m (expr.Element e) none = (element_fits m e).0 none
addressed_by m (expr.Load l) none = tt

pub addressed_none : (m : Module) (e : Expr Name) → IsAddressed m e → addressed_kind m e ≡ None
addressed_none m (expr.Plain o) is = refl
addressed_none m (expr.Binary b) is = refl
addressed_none m (expr.Icmp c) is = refl
addressed_none m (expr.Cast c) is = refl
addressed_none m (expr.Select s) is = refl
addressed_none m (expr.Element e) is = (element_fits m e).1 is
addressed_none m (expr.Load l) is = refl

count_by : (count : Option (Ty × ℕ)) → has_count count ≡ true → HasCount count
count_by None e = tt
count_by (Some count) e = e

count_is : (count : Option (Ty × ℕ)) → HasCount count → has_count count ≡ true
count_is None is = refl
count_is (Some count) is = is

alloca_by : (m : Module) (a : Alloca) → rest_kind m (instr.Alloca a) ≡ None → IsAlloca m a
alloca_by m a e =
    let to = points_to a.to a.of in
    let sized = is_sized m.types a.of in
    let both = fits_by (to && has_count a.count) kind.OperandType (least_none_left (fault_unless (to && has_count a.count) kind.OperandType) (fault_unless sized kind.Unsized) e) in
    (same_ty_true a.to (Ptr a.of) (both_left to (has_count a.count) both), fits_by sized kind.Unsized (least_none_right (fault_unless (to && has_count a.count) kind.OperandType) (fault_unless sized kind.Unsized) e), count_by a.count (both_right to (has_count a.count) both))

alloca_is : (m : Module) (a : Alloca) → IsAlloca m a → rest_kind m (instr.Alloca a) ≡ None
alloca_is m a is =
    let to = points_to a.to a.of in
    both_none (fault_unless (to && has_count a.count) kind.OperandType) (fault_unless (is_sized m.types a.of) kind.Unsized)
    (none_by (to && has_count a.count) kind.OperandType (both_hold to (has_count a.count) (same_by a.to (Ptr a.of) is.0) (count_is a.count is.2)))
    (none_by (is_sized m.types a.of) kind.Unsized is.1)

store_by : (s : Store) → is_stored s ≡ true → IsStore s
store_by s e =
    let to = points_to s.pointer.ty s.value.ty in
    (same_ty_true s.pointer.ty (Ptr s.value.ty) (both_left to (is_first_class s.value.ty) e), both_right to (is_first_class s.value.ty) e)

store_is : (s : Store) → IsStore s → is_stored s ≡ true
store_is s is = both_hold (points_to s.pointer.ty s.value.ty) (is_first_class s.value.ty) (same_by s.pointer.ty (Ptr s.value.ty) is.0) is.1

pub rest_by : (m : Module) (l : Instr) → rest_kind m l ≡ None → IsLine m l
rest_by m (instr.Calm c) e =
    let value = fault_unless (is_first_class (type_of c.right)) kind.OperandType in
    let behind = least_none_right value (least (right_kind c.right) (addressed_kind m c.right)) e in
    operator_by m c.right (least_none_left (right_kind c.right) (addressed_kind m c.right) behind) (addressed_by m c.right (least_none_right (right_kind c.right) (addressed_kind m c.right) behind))
rest_by m (instr.Alloca a) e = alloca_by m a e
rest_by m (instr.Store s) e = store_by s (fits_by (is_stored s) kind.OperandType e)
rest_by m (instr.Call c) e = call_by m c e

-- what a line sets is a value, where the line fits
result_value : (t : Ty) (name : Option Name) → IsNamedResult t name → (register : Name × Ty) → named_register t name ≡ Some register → IsValue register
result_value ty.Void name is register at =
    let none : named_register ty.Void name ≡ None = ap (named_register ty.Void) is in
    absurd (cc)
result_value t None is register at = absurd (cc)
result_value t (Some x) is register at =
    let same : (x, t) ≡ register = cc in
    subst IsValue same is.0

set_value : (m : Module) (l : Instr) → rest_kind m l ≡ None → (register : Name × Ty) → register_of l ≡ Some register → IsValue register
set_value m (instr.Calm c) e register at =
    let same : (c.name, type_of c.right) ≡ register = cc in
    subst IsValue same (fits_by (is_first_class (type_of c.right)) kind.OperandType (least_none_left (fault_unless (is_first_class (type_of c.right)) kind.OperandType) _ e))
set_value m (instr.Alloca a) e register at =
    let same : (a.name, a.to) ≡ register = cc in
    subst IsValue same (ap is_first_class (alloca_by m a e).0 ∙ at_ptr a.of)
set_value m (instr.Store s) e register at = absurd (cc)
set_value m (instr.Call c) e register at = result_value c.result c.name (call_by m c e).named register at

rest_is : (m : Module) → AreApart m → (l : Instr) → ((register : Name × Ty) → register_of l ≡ Some register → IsValue register) → IsLine m l → rest_kind m l ≡ None
rest_is m apart (instr.Calm c) value is =
    both_none (fault_unless (is_first_class (type_of c.right)) kind.OperandType) (least (right_kind c.right) (addressed_kind m c.right))
    (none_by (is_first_class (type_of c.right)) kind.OperandType (value (c.name, type_of c.right) refl))
    (both_none (right_kind c.right) (addressed_kind m c.right) (operator_is m c.right is) (addressed_none m c.right (addressed_is m c.right is)))
rest_is m apart (instr.Alloca a) value is = alloca_is m a is
rest_is m apart (instr.Store s) value is = none_by (is_stored s) kind.OperandType (store_is s is)
rest_is m apart (instr.Call c) value is = call_is m apart c is

-- ---- lines one after the other

-- whether the name of the register that a line sets is new
abbrev is_line_new : List Name → Instr → Bool
is_line_new taken l = are_new taken (names_in (set_by (l ∷ [])))

line_new : (taken : List Name) (l : Instr) → is_line_new taken l ≡ not (is_taken taken l)
line_new taken l = go (name_set l) refl
  where
    go : (name : Option Name) → name_set l ≡ name → is_line_new taken l ≡ not (is_taken taken l)
    go None e = ap (are_new taken) (names_none l e) ∙ sym (ap (λ (n : Option Name). not (is_name_taken taken n)) e)
    go (Some x) e = ap (are_new taken) (names_one l x e) ∙ with_true (not (is_among x taken)) ∙ sym (ap (λ (n : Option Name). not (is_name_taken taken n)) e)

lines_new : (taken : List Name) (l : Instr) (ls : List Instr)
    → are_new taken (names_in (set_by (l ∷ ls))) ≡ (not (is_taken taken l) && are_new (with_lines taken (l ∷ [])) (names_in (set_by ls)))
lines_new taken l ls =
    ap (are_new taken) (names_more l ls)
    ∙ new_joined taken (names_in (set_by (l ∷ []))) (names_in (set_by ls))
    ∙ ap (λ b. b && are_new (with_lines taken (l ∷ [])) (names_in (set_by ls))) (line_new taken l)

-- the registers that one line sets
set_values : (l : Instr) → ((register : Name × Ty) → register_of l ≡ Some register → IsValue register) → AllByRecursion IsValue (set_by (l ∷ []))
set_values l each = go (register_of l) refl
  where
    go : (register : Option (Name × Ty)) → register_of l ≡ register → AllByRecursion IsValue (set_by (l ∷ []))
    go None e = subst (AllByRecursion IsValue) (sym (set_none l e)) tt
    go (Some r) e = subst (AllByRecursion IsValue) (sym (set_one l r e)) (each r e, tt)

value_set : (l : Instr) → AllByRecursion IsValue (set_by (l ∷ [])) → (register : Name × Ty) → register_of l ≡ Some register → IsValue register
value_set l all register e =
    let one : AllByRecursion IsValue (register ∷ []) = subst (AllByRecursion IsValue) (set_one l register e) all in
    one.0

-- what is so of lines that have no fault, where those names are taken before them
pub record LinesFit (m : Module) (rs : List (Name × Ty)) (taken : List Name) (ls : List Instr) : Type 0 where
  pub new : are_new taken (names_in (set_by ls)) ≡ true
  pub known : AllByRecursion (IsTypeKnown m) (flat_map stated_by_line ls)
  pub values : AllByRecursion IsValue (set_by ls)
  pub operands : AreTyped m rs (flat_map operands_of ls)
  pub lines : AllByRecursion (IsLine m) ls

pub lines_by : (m : Module) (rs : List (Name × Ty)) (taken : List Name) (ls : List Instr) → AllNone (line_kinds m (all_told rs) taken ls) → LinesFit m rs taken ls
lines_by m rs taken [] all = record { new = refl; known = tt; values = tt; operands = tt; lines = tt }
lines_by m rs taken (l ∷ ls) all =
    let fresh = not (is_taken taken l) in
    let known = are_types_known m (stated_by_line l) in
    let name = fault_unless (fresh && known) kind.Name in
    let operands = operands_kind m (all_told rs) (operands_of l) in
    let own = fits_by (fresh && known) kind.Name (least_none_left name (least operands (rest_kind m l)) all.0) in
    let behind = least_none_right name (least operands (rest_kind m l)) all.0 in
    let rest = least_none_right operands (rest_kind m l) behind in
    let more = lines_by m rs (with_lines taken (l ∷ [])) ls all.1 in
    record {
      new = lines_new taken l ls ∙ both_hold fresh (are_new (with_lines taken (l ∷ [])) (names_in (set_by ls))) (both_left fresh known own) more.new;
      known = all_joined (IsTypeKnown m) (stated_by_line l) (flat_map stated_by_line ls) ((types_known m (stated_by_line l)).0 (both_right fresh known own)) more.known;
      values = subst (AllByRecursion IsValue) (sym (set_more l ls)) (all_joined IsValue (set_by (l ∷ [])) (set_by ls) (set_values l (set_value m l rest)) more.values);
      operands = all_joined _ (operands_of l) (flat_map operands_of ls) (operands_by m rs (operands_of l) (least_none_left operands (rest_kind m l) behind)) more.operands;
      lines = (rest_by m l rest, more.lines);
    }

pub lines_are : (m : Module) → AreApart m → (rs : List (Name × Ty)) → AreNew [] (names_in rs) → (taken : List Name) (ls : List Instr) → LinesFit m rs taken ls
    → AllNone (line_kinds m (all_told rs) taken ls)
lines_are m apart rs unique taken [] fit = tt
lines_are m apart rs unique taken (l ∷ ls) fit =
    let fresh = not (is_taken taken l) in
    let later = are_new (with_lines taken (l ∷ [])) (names_in (set_by ls)) in
    let known = are_types_known m (stated_by_line l) in
    let operands = operands_kind m (all_told rs) (operands_of l) in
    let new = sym (lines_new taken l ls) ∙ fit.new in
    let values = subst (AllByRecursion IsValue) (set_more l ls) fit.values in (
      both_none (fault_unless (fresh && known) kind.Name) (least operands (rest_kind m l))
          (none_by (fresh && known) kind.Name
          (both_hold fresh known (both_left fresh later new) ((types_known m (stated_by_line l)).1 (all_left (IsTypeKnown m) (stated_by_line l) (flat_map stated_by_line ls) fit.known))))
          (both_none operands (rest_kind m l) (operands_are m rs unique (operands_of l) (all_left _ (operands_of l) (flat_map operands_of ls) fit.operands))
          (rest_is m apart l (value_set l (all_left IsValue (set_by (l ∷ [])) (set_by ls) values)) fit.lines.0)),
      lines_are m apart rs unique (with_lines taken (l ∷ [])) ls (
          record {
            new = both_right fresh later new;
            known = all_right (IsTypeKnown m) (stated_by_line l) (flat_map stated_by_line ls) fit.known;
            values = all_right IsValue (set_by (l ∷ [])) (set_by ls) values;
            operands = all_right _ (operands_of l) (flat_map operands_of ls) fit.operands;
            lines = fit.lines.1;
          }
          ),
    )
