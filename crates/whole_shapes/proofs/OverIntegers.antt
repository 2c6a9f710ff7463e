-- What is so of functions over integers alone beside whatever module: their types are known, and their operands have the stated ones.
use Rattle.std.proofs.Common.{◌≡◌, ◌∙◌, ⊎_elim, true, List, [], ◌∷◌, map, refl, sym, ap, subst}
use Rattle.std.specs.List.{AllByRecursion, Contains, flat_map, list_all}
use Rattle.ir_core.specs.declared.expressions.Expr.{Expr}
use Rattle.ir_core.specs.declared.expressions.Expr.TheVariants as expr
use Rattle.ir_core.specs.declared.functions.Case.{Case}
use Rattle.ir_core.specs.declared.functions.Instr.{Instr}
use Rattle.ir_core.specs.declared.functions.Instr.TheVariants as instr
use Rattle.ir_core.specs.declared.functions.Param.{Param}
use Rattle.ir_core.specs.declared.functions.Term.{Term}
use Rattle.ir_core.specs.declared.functions.Term.TheVariants as term
use Rattle.ir_core.specs.declared.modules.Module.{Module}
use Rattle.ir_core.specs.declared.operands.Atom.{Atom}
use Rattle.ir_core.specs.declared.operands.Atom.TheVariants.{Constant, Register}
use Rattle.ir_core.specs.declared.operands.Const.{Const}
use Rattle.ir_core.specs.declared.operands.Operand.{Operand}
use Rattle.ir_types.specs.declared.names.Name.{Name}
use Rattle.ir_types.specs.declared.ty.Ty.{Ty}
use Rattle.ir_types.specs.declared.ty.Ty.TheVariants as ty
use Rattle.ir_core.specs.Expressions.{operands_in, type_of}
use Rattle.ir_core.specs.Functions.{cases_of}
use Rattle.ir_core.specs.StatedTypes.{stated_apart, stated_at_level, stated_by_atom, stated_by_line, stated_by_operand, stated_in}
use Rattle.ir_core.specs.TypeNames.{type_names}
use Rattle.ir_core.specs.Types.{is_first_class, is_integer}
use Rattle.ir_core.specs.Typing.{Fitting, fitting_at_level, is_constant_of}
use Rattle.ir_core.specs.WellFormed.{BranchesOn, HasCases, HasType, IsLine, IsResult, IsTypeKnown}
use Rattle.ir_core.proofs.Constants as fold
use Rattle.ir_core.proofs.TypeNames.{at_int, at_void}
use Rattle.ir_core.proofs.Typing.{in_number, number_is}
use Rattle.ir_shape.proofs.ShapeTests.Fits.{IsAddressed, operator_by}
use Rattle.ir_shape.proofs.ShapeTests.Tests.{all_joined, both_hold, both_left, both_right, one_there}
use Rattle.ir_shape.proofs.ShapeTests.Typed as fits
use Rattle.whole_shapes.specs.Whole.{AreTyped, IsLineWhole, IsPlain, IsPure, IsTyped, is_whole_result}

abbrev pub IsInteger : Name × Ty → Type 0
IsInteger register = is_integer register.1 ≡ true

-- ---- types

pub is_value : (t : Ty) → is_integer t ≡ true → is_first_class t ≡ true
is_value (ty.Int width) int = refl
is_value t int = cc

pub known : (m : Module) (t : Ty) → is_integer t ≡ true → IsTypeKnown m t
known m (ty.Int width) int = subst (AllByRecursion (Contains (type_names m))) (sym (at_int width)) tt
known m t int = cc

pub result_is : (t : Ty) → is_whole_result t ≡ true → IsResult t
result_is (ty.Int width) whole = refl
result_is ty.Void whole = tt
result_is t whole = cc

pub result_known : (m : Module) (t : Ty) → is_whole_result t ≡ true → IsTypeKnown m t
result_known m (ty.Int width) whole = known m (ty.Int width) refl
result_known m ty.Void whole = subst (AllByRecursion (Contains (type_names m))) (sym at_void) tt
result_known m t whole = cc

pub params_values : (ps : List Param) → list_all (λ (p : Param). is_integer p.ty) ps ≡ true → list_all (λ (p : Param). is_first_class p.ty) ps ≡ true
params_values [] ints = refl
params_values (p ∷ ps) ints =
    let rest = list_all (λ (q : Param). is_integer q.ty) ps in
    both_hold (is_first_class p.ty) (list_all (λ (q : Param). is_first_class q.ty) ps) (is_value p.ty (both_left (is_integer p.ty) rest ints))
    (params_values ps (both_right (is_integer p.ty) rest ints))

pub params_known : (m : Module) (ps : List Param) → list_all (λ (p : Param). is_integer p.ty) ps ≡ true → AllByRecursion (IsTypeKnown m) (map (λ (p : Param). p.ty) ps)
params_known m [] ints = tt
params_known m (p ∷ ps) ints =
    let rest = list_all (λ (q : Param). is_integer q.ty) ps in
    (known m p.ty (both_left (is_integer p.ty) rest ints), params_known m ps (both_right (is_integer p.ty) rest ints))

pub params_integers : (ps : List Param) → list_all (λ (p : Param). is_integer p.ty) ps ≡ true → AllByRecursion IsInteger (map (λ (p : Param). (p.name, p.ty)) ps)
params_integers [] ints = tt
params_integers (p ∷ ps) ints =
    let rest = list_all (λ (q : Param). is_integer q.ty) ps in
    (both_left (is_integer p.ty) rest ints, params_integers ps (both_right (is_integer p.ty) rest ints))

-- ---- constants

constant_typed : (m : Module) (t : Ty) (c : Const) → is_integer t ≡ true → IsPlain c → is_constant_of m t c ≡ true
constant_typed m t c int plain =
    ⊎_elim (λ number. subst (λ (d : Const). is_constant_of m t d ≡ true) (sym number.1) (number_is m t number.0 ∙ int))
    (λ undef. subst (λ (d : Const). is_constant_of m t d ≡ true) (sym undef)
    (ap (λ (g : Fitting). g.is_of t) (fold.at_undef Fitting (fitting_at_level m.types m.globals)) ∙ is_value t int)) plain

-- no type stands in it
constant_bare : (c : Const) → IsPlain c → stated_in c ≡ []
constant_bare c plain =
    ⊎_elim (λ number. ap stated_in number.1 ∙ in_number number.0) (λ undef. ap stated_in undef ∙ fold.at_undef (List Ty) stated_at_level) plain

-- ---- operands, lines and terminators, where all registers are integers

module _ (m : Module) (rs : List (Name × Ty)) (ints : AllByRecursion IsInteger rs) where
  abbrev AreKnown : List Ty → Type 0
  AreKnown = AllByRecursion (IsTypeKnown m)

  atom_typed : (t : Ty) (a : Atom Name) → IsTyped rs t a → HasType m rs t a
  atom_typed t (Constant c) typed = constant_typed m t c typed.0 typed.1
  atom_typed t (Register n) typed = typed

  pub operands_typed : (os : List (Operand Name)) → AreTyped rs os → fits.AreTyped m rs os
  operands_typed [] typed = tt
  operands_typed (o ∷ os) typed = (atom_typed o.ty o.atom typed.0, operands_typed os typed.1)

  atom_known : (t : Ty) (a : Atom Name) → IsTyped rs t a → AreKnown (t ∷ stated_by_atom a)
  atom_known t (Constant c) typed = (known m t typed.0, subst AreKnown (sym (constant_bare c typed.1)) tt)
  atom_known t (Register n) typed = (known m t (one_there IsInteger rs (n, t) ints typed), tt)

  pub operands_known : (os : List (Operand Name)) → AreTyped rs os → AreKnown (flat_map stated_by_operand os)
  operands_known [] typed = tt
  operands_known (o ∷ os) typed =
      all_joined (IsTypeKnown m) (stated_by_operand o) (flat_map stated_by_operand os) (atom_known o.ty o.atom typed.0) (operands_known os typed.1)

  apart_known : (e : Expr Name) → is_integer (type_of e) ≡ true → IsPure e → AreKnown (stated_apart e)
  apart_known (expr.Plain o) int pure = tt
  apart_known (expr.Binary b) int pure = tt
  apart_known (expr.Icmp c) int pure = tt
  apart_known (expr.Cast c) int pure = (known m c.to int, tt)
  apart_known (expr.Select s) int pure = tt
  apart_known (expr.Element e) int pure = absurd pure
  apart_known (expr.Load l) int pure = absurd pure

  pub line_known : (l : Instr) → IsLineWhole rs l → AreKnown (stated_by_line l)
  line_known (instr.Calm c) whole =
      all_joined (IsTypeKnown m) (stated_apart c.right) (flat_map stated_by_operand (operands_in c.right)) (apart_known c.right whole.0 whole.2)
      (operands_known (operands_in c.right) whole.1)
  line_known l whole = absurd whole

  cases_known : (value : Ty) → is_integer value ≡ true → (cs : List Case) → AllByRecursion (λ (c : Case). c.ty ≡ value) cs → AreKnown (map (λ (c : Case). c.ty) cs)
  cases_known value int [] typed = tt
  cases_known value int (c ∷ cs) typed = (known m c.ty (ap is_integer typed.0 ∙ int), cases_known value int cs typed.1)

  pub end_known : (end : Term) → BranchesOn end → HasCases end → AreKnown (map (λ (c : Case). c.ty) (cases_of end))
  end_known (term.Ret o) branches cases = tt
  end_known term.RetVoid branches cases = tt
  end_known (term.Br label) branches cases = tt
  end_known (term.CondBr c) branches cases = tt
  end_known (term.Switch s) branches cases = cases_known s.value.ty branches s.cases cases.typed
  end_known term.Unreachable branches cases = tt

-- ---- operators

addressed : (m : Module) (e : Expr Name) → IsPure e → IsAddressed m e
addressed m (expr.Plain o) pure = tt
addressed m (expr.Binary b) pure = tt
addressed m (expr.Icmp c) pure = tt
addressed m (expr.Cast c) pure = tt
addressed m (expr.Select s) pure = tt
addressed m (expr.Element e) pure = absurd pure
addressed m (expr.Load l) pure = tt

pub line_is : (m : Module) (rs : List (Name × Ty)) (l : Instr) → IsLineWhole rs l → IsLine m l
line_is m rs (instr.Calm c) whole = operator_by m c.right whole.3 (addressed m c.right whole.2)
line_is m rs l whole = absurd whole
