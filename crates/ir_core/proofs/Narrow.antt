-- Modules of integers alone, as the examples are: what is asked of one part by part, and that it is in range.
use Rattle.std.proofs.Common.{◌≡◌, ℕ, Bool, true, List, [], ◌∷◌, length, ap}
use Rattle.std.specs.List.{AllByRecursion, flat_map}
use Rattle.ir_core.specs.declared.expressions.Expr.{Expr}
use Rattle.ir_core.specs.declared.expressions.Expr.TheVariants as expr
use Rattle.ir_core.specs.declared.functions.Block.{Block}
use Rattle.ir_core.specs.declared.functions.Case.{Case}
use Rattle.ir_core.specs.declared.functions.Extensions.{Extensions}
use Rattle.ir_core.specs.declared.functions.Function.{Function}
use Rattle.ir_core.specs.declared.functions.Instr.{Instr}
use Rattle.ir_core.specs.declared.functions.Instr.TheVariants as instr
use Rattle.ir_core.specs.declared.modules.Declaration.{Declaration}
use Rattle.ir_core.specs.declared.modules.Linkage.TheVariants as linkage
use Rattle.ir_core.specs.declared.modules.Module.{Module}
use Rattle.ir_types.specs.declared.named.NamedTy.{NamedTy}
use Rattle.ir_types.specs.declared.names.Name.{Name}
use Rattle.ir_core.specs.declared.operands.Atom.{Atom}
use Rattle.ir_core.specs.declared.operands.Atom.TheVariants.{Constant, Register}
use Rattle.ir_core.specs.declared.operands.Const.TheVariants as constant
use Rattle.ir_core.specs.declared.operands.Operand.{Operand}
use Rattle.ir_types.specs.declared.ty.Ty.{Ty}
use Rattle.ir_types.specs.declared.ty.Ty.TheVariants as ty
use Rattle.ir_types.specs.Named.{fields_or_none}
use Rattle.ir_core.specs.Functions.{cases_of, names_of, operands_in_block, typed_of}
use Rattle.ir_core.specs.Modules.{extensions_of, not_extended}
use Rattle.ir_core.specs.Ranges.{IsAtomInRange, IsCaseInRange, IsDeclarationInRange, IsFunctionInRange, IsGlobalInRange, IsInRange, IsLineInRange, IsNameInRange, IsNamedTypeInRange, IsOperandInRange, IsResultInRange, IsRightInRange, IsTypeInRange, StandBehind, constant_at_level, may_have}
use Rattle.ir_core.specs.Types.{constant_fits, is_width}
use Rattle.ir_core.proofs.Constants as constants

-- ---- what is asked

abbrev pub IsNarrowType : Ty → Type 0
IsNarrowType (ty.Int width) = is_width width ≡ true
IsNarrowType t = ⊥

abbrev pub IsNarrowResult : Ty → Type 0
IsNarrowResult ty.Void = Unit {0}
IsNarrowResult t = IsNarrowType t

abbrev pub IsNarrowAtom : {R : Type 0} → Ty → Atom R → Type 0
IsNarrowAtom t (Constant c) = constant_fits t c ≡ true
IsNarrowAtom t (Register r) = Unit {0}

abbrev pub IsNarrowOperand : {R : Type 0} → Operand R → Type 0
IsNarrowOperand o = IsNarrowType o.ty × IsNarrowAtom o.ty o.atom

abbrev pub AreNarrowFlags : {R : Type 0} → Expr R → Type 0
AreNarrowFlags (expr.Binary b) = may_have b.op b.flags ≡ true
AreNarrowFlags (expr.Element e) = ⊥
AreNarrowFlags (expr.Load l) = ⊥
AreNarrowFlags e = Unit {0}

abbrev pub IsNarrowLine : Instr → Type 0
IsNarrowLine (instr.Calm c) = AreNarrowFlags c.right
IsNarrowLine line = ⊥

abbrev pub IsNarrowCase : Case → Type 0
IsNarrowCase c = IsNarrowType c.ty × (constant_fits c.ty (constant.Number c.number) ≡ true)

pub record IsNarrowFunction (f : Function) : Type 0 where
  pub name : IsNameInRange f.name
  pub names : AllByRecursion IsNameInRange (names_of f)
  pub result : IsNarrowResult f.result
  pub registers : AllByRecursion (λ register. IsNarrowType register.1) (typed_of f)
  pub operands : AllByRecursion IsNarrowOperand (flat_map operands_in_block f.blocks)
  pub flags : AllByRecursion IsNarrowLine (flat_map (λ (b : Block). b.body) f.blocks)
  pub cases : AllByRecursion IsNarrowCase (flat_map (λ (b : Block). cases_of b.term) f.blocks)
  pub linkage : f.linkage ≡ linkage.External
  pub extensions : AllByRecursion (λ (e : Extensions). e ≡ not_extended) (extensions_of f)

pub record IsNarrowNamedType (t : NamedTy) : Type 0 where
  pub name : IsNameInRange t.name
  pub fields : AllByRecursion IsNarrowType (fields_or_none t.fields)

pub record IsNarrow (m : Module) : Type 0 where
  pub types : AllByRecursion IsNarrowNamedType m.types
  pub globals : m.globals ≡ []
  pub functions : AllByRecursion IsNarrowFunction m.functions
  pub declarations : m.declarations ≡ []

-- ---- lists

pub all_so : {A : Type 0} (P Q : A → Type 0) → ((a : A) → P a → Q a) → (xs : List A) → AllByRecursion P xs → AllByRecursion Q xs
all_so P Q so [] all = tt
all_so P Q so (x ∷ xs) all = (so x all.0, all_so P Q so xs all.1)

-- ---- each is in range

wide_type : (t : Ty) → IsNarrowType t → IsTypeInRange t
wide_type (ty.Int width) is = is
wide_type t is = absurd is

wide_result : (t : Ty) → IsNarrowResult t → IsResultInRange t
wide_result ty.Void is = tt
wide_result (ty.Int width) is = is
wide_result t is = absurd is

wide_atom : {R : Type 0} (t : Ty) (a : Atom R) → IsNarrowAtom t a → IsAtomInRange t a
wide_atom t (Constant (constant.Number n)) is = is
wide_atom t (Constant constant.Undef) is = ap (λ (of : Ty → Bool). of t) (constants.at_undef (Ty → Bool) constant_at_level)
wide_atom (ty.Int width) (Constant c) is = absurd cc
wide_atom t (Constant c) is = absurd cc
wide_atom t (Register r) is = tt

wide_operand : {R : Type 0} (o : Operand R) → IsNarrowOperand o → IsOperandInRange o
wide_operand o is = (wide_type o.ty is.0, wide_atom o.ty o.atom is.1)

wide_flags : {R : Type 0} (e : Expr R) → AreNarrowFlags e → IsRightInRange e
wide_flags (expr.Plain o) is = tt
wide_flags (expr.Binary b) is = is
wide_flags (expr.Icmp c) is = tt
wide_flags (expr.Cast c) is = tt
wide_flags (expr.Select s) is = tt
wide_flags (expr.Element e) is = absurd is
wide_flags (expr.Load l) is = absurd is

wide_line : (line : Instr) → IsNarrowLine line → IsLineInRange line
wide_line (instr.Calm c) is = wide_flags c.right is
wide_line (instr.Alloca a) is = absurd is
wide_line (instr.Store s) is = absurd is
wide_line (instr.Call c) is = absurd is

wide_case : (c : Case) → IsNarrowCase c → IsCaseInRange c
wide_case c is = (wide_type c.ty is.0, is.1)

pub wide_function : (f : Function) → IsNarrowFunction f → IsFunctionInRange f
wide_function f is = record {
  name = is.name;
  names = is.names;
  result = wide_result f.result is.result;
  registers = all_so (λ (r : Name × Ty). IsNarrowType r.1) (λ (r : Name × Ty). IsTypeInRange r.1) (λ r narrow. wide_type r.1 narrow) (typed_of f) is.registers;
  operands = all_so IsNarrowOperand IsOperandInRange (λ o narrow. wide_operand o narrow) (flat_map operands_in_block f.blocks) is.operands;
  lines = all_so IsNarrowLine IsLineInRange wide_line (flat_map (λ (b : Block). b.body) f.blocks) is.flags;
  cases = all_so IsNarrowCase IsCaseInRange wide_case (flat_map (λ (b : Block). cases_of b.term) f.blocks) is.cases;
}

wide_named : (t : NamedTy) → IsNarrowNamedType t → IsNamedTypeInRange t
wide_named t is = record { name = is.name; fields = all_so IsNarrowType IsTypeInRange wide_type (fields_or_none t.fields) is.fields }

none_of : {A : Type 0} (P : A → Type 0) (xs : List A) → xs ≡ [] → AllByRecursion P xs
none_of P [] none = tt
none_of P (x ∷ xs) none = absurd cc

none_behind : (least most : ℕ) (ds : List Declaration) → ds ≡ [] → StandBehind least most ds
none_behind least most [] none = tt
none_behind least most (d ∷ ds) none = absurd cc

pub wide : (m : Module) → IsNarrow m → IsInRange m
wide m is = record {
  types = all_so IsNarrowNamedType IsNamedTypeInRange wide_named m.types is.types;
  globals = none_of IsGlobalInRange m.globals is.globals;
  functions = all_so IsNarrowFunction IsFunctionInRange wide_function m.functions is.functions;
  declarations = none_of IsDeclarationInRange m.declarations is.declarations;
  order = none_behind 0 (length m.functions) m.declarations is.declarations;
}
