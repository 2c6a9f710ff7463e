-- Which modules are well-formed.
use Rattle.ir_core.specs.declared.modules.Module.{Module}
use Rattle.std.specs.Prelude.{◌≡◌, false, true, [], ◌∷◌, map}
use Rattle.ir_core.specs.declared.expressions.Expr.{Expr}
use Rattle.ir_core.specs.declared.expressions.Reg.{Reg}
use Rattle.ir_core.specs.declared.functions.Function.{Function}
use Rattle.ir_types.specs.declared.names.Name.{Name}
use Rattle.ir_core.specs.declared.operands.BinOp.TheVariants as op
use Rattle.ir_core.specs.declared.operands.CastOp.TheVariants.{ZExt, SExt, Trunc, BitCast}
use Rattle.ir_types.specs.declared.ty.Ty.TheVariants.{Int, Void}
use Rattle.ir_core.specs.Examples.{add_exact, add_nuw_nsw, alone, and_nsw, compared, comparing, debug_name, early_use, empty_name, extending, f, held, name_set_twice, no_blocks, no_operator, of_cast, of_select, other_result, other_width, phi_of_no_edge, phi_of_nothing, returning_nothing, selecting, two_blocks, two_of_one_name, udiv_exact, udiv_nuw, void_number, void_parameter, wide_number, x, y}
use Rattle.ir_core.specs.Expressions.{expr_has, map_expr, map_operand, operands_in, type_of}
use Rattle.ir_types.specs.Same.{same_name}
use Rattle.ir_core.specs.Ranges.{IsInRange, may_leave, may_wrap}
use Rattle.ir_core.specs.WellFormed.{HasShape, IsDefined, IsWellFormed}

-- nothing enters the second block, which may be so
abbrev pub TwoBlocksAreWellFormed : Type 0
TwoBlocksAreWellFormed = IsWellFormed two_blocks

-- each has shape and its registers are defined, where the other part is missing
abbrev pub EmptyNamesAreNot : Type 0
EmptyNamesAreNot = HasShape empty_name × IsDefined empty_name × (IsInRange empty_name → ⊥)

abbrev pub EarlyUsesAreNot : Type 0
EarlyUsesAreNot = HasShape early_use × (IsDefined early_use → ⊥) × IsInRange early_use

abbrev pub WideNumbersAreNot : Type 0
WideNumbersAreNot = HasShape wide_number × IsDefined wide_number × (IsInRange wide_number → ⊥)

-- its registers are defined and it is in range, and it lacks shape
abbrev pub LacksShapeAlone : Module → Type 0
LacksShapeAlone m = (HasShape m → ⊥) × IsDefined m × IsInRange m

-- ---- of types: an operand that is stated at another width than its register's, a function of i32 that returns an i64, a parameter of void

abbrev pub OtherWidthsAreNot : Type 0
OtherWidthsAreNot = LacksShapeAlone (alone other_width)

abbrev pub OtherResultsAreNot : Type 0
OtherResultsAreNot = LacksShapeAlone (alone other_result)

abbrev pub VoidParametersAreNot : Type 0
VoidParametersAreNot = (HasShape (alone void_parameter) → ⊥) × IsDefined (alone void_parameter) × (IsInRange (alone void_parameter) → ⊥)

-- a number of void, as a parameter of it, lacks shape, and is out of range too
abbrev pub VoidNumbersAreNot : Type 0
VoidNumbersAreNot = (HasShape (alone void_number) → ⊥) × IsDefined (alone void_number)

-- ---- of lines and phis: a line without an operator, a phi with an entry for an edge that isn't there, a phi without entries

abbrev pub LinesWithoutOperatorsAreNot : Type 0
LinesWithoutOperatorsAreNot = LacksShapeAlone (alone no_operator)

abbrev pub PhisOfNoEdgeAreNot : Type 0
PhisOfNoEdgeAreNot = LacksShapeAlone (alone phi_of_no_edge)

abbrev pub PhisOfNothingAreNot : Type 0
PhisOfNothingAreNot = LacksShapeAlone (alone phi_of_nothing)

-- ---- of names and blocks: two functions of one name, two lines that set one name, a function of a name for debug information, one without blocks

abbrev pub FunctionsOfOneNameAreNot : Type 0
FunctionsOfOneNameAreNot = LacksShapeAlone two_of_one_name

abbrev pub NamesSetTwiceAreNot : Type 0
NamesSetTwiceAreNot = LacksShapeAlone (alone name_set_twice)

abbrev pub DebugNamesAreNot : Type 0
DebugNamesAreNot = LacksShapeAlone (alone debug_name)

abbrev pub FunctionsWithoutBlocksAreNot : Type 0
FunctionsWithoutBlocksAreNot = LacksShapeAlone (alone no_blocks)

-- ---- of conversions, selections, comparisons, flags and `ret void`

abbrev pub Stands : Function → Type 0
Stands f = IsWellFormed (alone f)

abbrev pub Lacks : Function → Type 0
Lacks f = LacksShapeAlone (alone f)

-- `zext i8 1 to i16` and the like; a width that stays is none of `zext`, `sext` and `trunc`, and any other is none of `bitcast`
pub record ConversionsChangeWidths : Type 0 where
  pub zext : Stands (of_cast ZExt (Int 8) (Int 16))
  pub sext : Stands (of_cast SExt (Int 8) (Int 16))
  pub trunc : Stands (of_cast Trunc (Int 16) (Int 8))
  pub bitcast : Stands (of_cast BitCast (Int 8) (Int 8))
  pub zext_same : Lacks (of_cast ZExt (Int 8) (Int 8))
  pub zext_narrower : Lacks (of_cast ZExt (Int 16) (Int 8))
  pub sext_same : Lacks (of_cast SExt (Int 8) (Int 8))
  pub sext_narrower : Lacks (of_cast SExt (Int 16) (Int 8))
  pub trunc_same : Lacks (of_cast Trunc (Int 8) (Int 8))
  pub trunc_wider : Lacks (of_cast Trunc (Int 8) (Int 16))
  pub bitcast_wider : Lacks (of_cast BitCast (Int 8) (Int 16))

-- `select i1 1, i8 1, i8 1`; a condition of another width is none, nor are arms of two types
pub record SelectionsHaveOneType : Type 0 where
  pub select : Stands (of_select (Int 1) (Int 8) (Int 8))
  pub wide_condition : Lacks (of_select (Int 8) (Int 8) (Int 8))
  pub two_types : Lacks (of_select (Int 1) (Int 8) (Int 16))

-- what `icmp` gives is an i1
abbrev pub ComparisonsGiveBits : Type 0
ComparisonsGiveBits = Stands compared

-- it has shape and its registers are defined, and it is out of range
abbrev pub IsOutOfRangeAlone : Function → Type 0
IsOutOfRangeAlone f = HasShape (alone f) × IsDefined (alone f) × (IsInRange (alone f) → ⊥)

pub record FlagsHaveOperators : Type 0 where
  pub wraps : Stands add_nuw_nsw
  pub leaves : Stands udiv_exact
  pub add_exact : IsOutOfRangeAlone add_exact
  pub udiv_nuw : IsOutOfRangeAlone udiv_nuw
  pub and_nsw : IsOutOfRangeAlone and_nsw

-- `nuw` and `nsw` stand on four operators, and `exact` on four others
pub record OperatorsOfFlags : Type 0 where
  pub mul : may_wrap op.Mul ≡ true
  pub sub : may_wrap op.Sub ≡ true
  pub shl : may_wrap op.Shl ≡ true
  pub sdiv : may_leave op.SDiv ≡ true
  pub lshr : may_leave op.LShr ≡ true
  pub ashr : may_leave op.AShr ≡ true
  pub urem : (may_wrap op.URem ≡ false) × (may_leave op.URem ≡ false)
  pub srem : (may_wrap op.SRem ≡ false) × (may_leave op.SRem ≡ false)
  pub or : (may_wrap op.Or ≡ false) × (may_leave op.Or ≡ false)
  pub xor : (may_wrap op.Xor ≡ false) × (may_leave op.Xor ≡ false)

-- `ret void` returns from a void function alone
pub record VoidReturns : Type 0 where
  pub void : Stands (returning_nothing Void)
  pub other : Lacks (returning_nothing (Int 32))

-- ---- of expressions

-- the type that each has, its operands in the order of the text, and that each of them is looked at
pub record ExpressionsAreRead : Type 0 where
  pub compared : type_of comparing ≡ Int 1
  pub extended : type_of extending ≡ Int 16
  pub selected : type_of selecting ≡ Int 8
  pub of_comparison : operands_in comparing ≡ held (Int 8) x ∷ held (Int 8) y ∷ []
  pub of_conversion : operands_in extending ≡ held (Int 8) x ∷ []
  pub of_selection : operands_in selecting ≡ held (Int 1) f ∷ held (Int 8) x ∷ held (Int 8) y ∷ []
  pub in_comparison : (expr_has (same_name x) comparing ≡ true) × (expr_has (same_name y) comparing ≡ true) × (expr_has (same_name f) comparing ≡ false)
  pub in_conversion : (expr_has (same_name x) extending ≡ true) × (expr_has (same_name y) extending ≡ false)
  pub in_selection : (expr_has (same_name f) selecting ≡ true) × (expr_has (same_name x) selecting ≡ true) × (expr_has (same_name y) selecting ≡ true)

-- Over other registers an expression has its type, and its operands over those; over its own it is itself.
abbrev pub ExpressionsAreMapped : Type 0
ExpressionsAreMapped = ((g : Name → Reg) (e : Expr Name) → (type_of (map_expr g e) ≡ type_of e) × (operands_in (map_expr g e) ≡ map (map_operand g) (operands_in e)))
    × ((e : Expr Name) → map_expr (λ r. r) e ≡ e)
