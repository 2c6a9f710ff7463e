-- What the shipped rules take and what they don't, worked out by hand: an example of each case. Numbers are of i8 where no type is named.
use Rattle.std.specs.Prelude.{◌≡◌, ℕ, Bool, true, false, codes, [], ◌∷◌}
use Rattle.ir_types.specs.declared.names.Name.TheVariants.{Text}
use Rattle.ir_types.specs.declared.ty.Ty.TheVariants.{Int}
use Rattle.ir_core.specs.declared.operands.Const.TheVariants as constant
use Rattle.ir_core.specs.declared.operands.Atom.{Atom}
use Rattle.ir_core.specs.declared.operands.Atom.TheVariants.{Constant, Register}
use Rattle.ir_core.specs.declared.operands.Operand.{Operand}
use Rattle.ir_core.specs.declared.operands.BinOp.{BinOp}
use Rattle.ir_core.specs.declared.operands.BinOp.TheVariants as op
use Rattle.ir_core.specs.declared.operands.CastOp.{CastOp}
use Rattle.ir_core.specs.declared.operands.CastOp.TheVariants as cast
use Rattle.ir_core.specs.declared.operands.Flags.{Flags}
use Rattle.ir_core.specs.declared.operands.Pred.TheVariants as pred
use Rattle.ir_core.specs.declared.expressions.Reg.{Reg}
use Rattle.ir_core.specs.declared.expressions.Reg.TheVariants.{Now, Old}
use Rattle.ir_core.specs.declared.expressions.Expr.TheVariants as expr
use Rattle.ir_core.specs.Expressions.{Expr0}
use Rattle.ir_machine.specs.State.{no_scope}
use Rattle.erhl_assert.specs.declared.facts.Fact.TheVariants.{LessDef}
use Rattle.rule_base.specs.Rows.{is_refl, is_simple, is_undef_const, is_subst, is_drop_flags, is_fold, stand_apart}

-- ---- what the examples are written with

abbrev pub number : ℕ → Atom Reg
number n = Constant (constant.Number n)

abbrev pub undef : Atom Reg
undef = Constant constant.Undef

abbrev pub x : Atom Reg
x = Register (Now (Text (codes "x")))

abbrev pub old_x : Atom Reg
old_x = Register (Old (Text (codes "x")))

abbrev pub operand : ℕ → Atom Reg → Operand Reg
operand width a = record { ty = Int width; atom = a }

abbrev pub plain : ℕ → Atom Reg → Expr0
plain width a = expr.Plain (operand width a)

abbrev pub binary : BinOp → Flags → ℕ → Atom Reg → Atom Reg → Expr0
binary o flags width a b = expr.Binary (record { op = o; flags = flags; ty = Int width; left = a; right = b })

abbrev pub less_than : ℕ → Atom Reg → Atom Reg → Expr0
less_than width a b = expr.Icmp (record { pred = pred.Ult; ty = Int width; left = a; right = b })

abbrev pub convert : CastOp → ℕ → Atom Reg → ℕ → Expr0
convert o from a to = expr.Cast (record { op = o; operand = operand from a; to = Int to })

abbrev pub select : Atom Reg → Atom Reg → Atom Reg → Expr0
select c a b = expr.Select (record { condition = operand 1 c; left = operand 8 a; right = operand 8 b })

abbrev pub no_flags : Flags
no_flags = record { nuw = false; nsw = false; exact = false }

abbrev pub nuw : Flags
nuw = record { nuw = true; nsw = false; exact = false }

abbrev pub nuw_nsw : Flags
nuw_nsw = record { nuw = true; nsw = true; exact = false }

abbrev pub exactly : Flags
exactly = record { nuw = false; nsw = false; exact = true }

-- whether `refl` takes nothing to `e >= f`, and so of `undef_const`, `drop_flags` and `fold`
abbrev pub refl : Expr0 → Expr0 → Bool
refl e f = is_refl no_scope [] (LessDef e f)

abbrev pub undef_const : Expr0 → Expr0 → Bool
undef_const e f = is_undef_const no_scope [] (LessDef e f)

abbrev pub drop_flags : Expr0 → Expr0 → Bool
drop_flags e f = is_drop_flags no_scope [] (LessDef e f)

abbrev pub fold : Expr0 → Expr0 → Bool
fold e f = is_fold no_scope [] (LessDef e f)

-- whether `subst` takes `i8 %x >= i8 5` to `e >= f`
abbrev pub subst : Expr0 → Expr0 → Bool
subst e f = is_subst no_scope (LessDef (plain 8 x) (plain 8 (number 5)) ∷ []) (LessDef e f)

-- ---- the examples

pub record ReflTakesThese : Type 0 where
  pub operand_itself : refl (plain 8 x) (plain 8 x) ≡ true
  pub sum_itself : refl (binary op.Add nuw 8 x (number 1)) (binary op.Add nuw 8 x (number 1)) ≡ true
  pub without_its_flag : refl (binary op.Add nuw 8 x (number 1)) (binary op.Add no_flags 8 x (number 1)) ≡ false
  pub exact_sum_has_no_type : refl (binary op.Add exactly 8 x (number 1)) (binary op.Add exactly 8 x (number 1)) ≡ false
  pub number_past_its_type : refl (binary op.Add no_flags 8 x (number 300)) (binary op.Add no_flags 8 x (number 300)) ≡ false

-- An address that is worked out may be poison, and that of a global is, at another type than its own.
pub record UndefConstTakesThese : Type 0 where
  pub number_itself : undef_const (plain 8 undef) (plain 8 (number 7)) ≡ true
  pub undef_itself : undef_const (plain 8 undef) (plain 8 undef) ≡ true
  pub number_past_its_type : undef_const (plain 8 undef) (plain 8 (number 300)) ≡ false
  pub number_of_another_type : undef_const (plain 8 undef) (plain 16 (number 7)) ≡ false
  pub no_register : undef_const (plain 8 undef) (plain 8 x) ≡ false
  pub of_undef_alone : undef_const (plain 8 (number 7)) (plain 8 (number 7)) ≡ false
  pub no_integer_is_null : undef_const (plain 8 undef) (plain 8 (Constant constant.Null)) ≡ false
  pub null_is_simple : is_simple (Constant constant.Null) ≡ true
  pub global_is_too : is_simple (Constant (constant.Global (Text (codes "g")))) ≡ true
  pub element_is_not : is_simple (Constant (constant.Element (true, Int 8, []))) ≡ false
  pub conversion_is_not : is_simple (Constant (constant.Cast (Int 8, []))) ≡ false

-- %x is made 5 at one position
pub record SubstTakesThese : Type 0 where
  pub left : subst (binary op.Add no_flags 8 x x) (binary op.Add no_flags 8 (number 5) x) ≡ true
  pub right : subst (binary op.Add no_flags 8 x x) (binary op.Add no_flags 8 x (number 5)) ≡ true
  pub never_both : subst (binary op.Add no_flags 8 x x) (binary op.Add no_flags 8 (number 5) (number 5)) ≡ false
  pub never_neither : subst (binary op.Add no_flags 8 x x) (binary op.Add no_flags 8 x x) ≡ false
  pub never_back : subst (binary op.Add no_flags 8 (number 5) x) (binary op.Add no_flags 8 x x) ≡ false
  pub never_another : subst (binary op.Add no_flags 8 x (number 1)) (binary op.Add no_flags 8 (number 5) (number 2)) ≡ false
  pub flags_stay : subst (binary op.Add nuw 8 x x) (binary op.Add no_flags 8 (number 5) x) ≡ false
  pub old_is_another : subst (binary op.Add no_flags 8 old_x x) (binary op.Add no_flags 8 (number 5) x) ≡ false
  pub of_its_type_alone : subst (binary op.Add no_flags 16 x x) (binary op.Add no_flags 16 (number 5) x) ≡ false
  pub operand_alone : subst (plain 8 x) (plain 8 (number 5)) ≡ true
  pub divisor : subst (binary op.UDiv exactly 8 (number 7) x) (binary op.UDiv exactly 8 (number 7) (number 5)) ≡ true
  pub comparison : subst (less_than 8 (number 1) x) (less_than 8 (number 1) (number 5)) ≡ true
  pub conversion : subst (convert cast.ZExt 8 x 16) (convert cast.ZExt 8 (number 5) 16) ≡ true
  pub conversion_stays : subst (convert cast.ZExt 8 x 16) (convert cast.SExt 8 (number 5) 16) ≡ false
  pub arm : subst (select x x x) (select x x (number 5)) ≡ true
  pub condition_is_of_i1 : subst (select x x x) (select (number 5) x x) ≡ false
  pub never_both_arms : subst (select x x x) (select x (number 5) (number 5)) ≡ false

pub record DropFlagsTakesThese : Type 0 where
  pub one_of_two : drop_flags (binary op.Add nuw_nsw 8 x (number 1)) (binary op.Add nuw 8 x (number 1)) ≡ true
  pub all : drop_flags (binary op.UDiv exactly 8 x (number 2)) (binary op.UDiv no_flags 8 x (number 2)) ≡ true
  pub none_of_none : drop_flags (binary op.And no_flags 8 x (number 1)) (binary op.And no_flags 8 x (number 1)) ≡ true
  pub never_more : drop_flags (binary op.Add no_flags 8 x (number 1)) (binary op.Add nuw 8 x (number 1)) ≡ false
  pub never_another_flag : drop_flags (binary op.UDiv exactly 8 x (number 2)) (binary op.UDiv nuw 8 x (number 2)) ≡ false
  pub never_another_operator : drop_flags (binary op.Add nuw 8 x (number 1)) (binary op.Sub no_flags 8 x (number 1)) ≡ false
  pub never_another_operand : drop_flags (binary op.Add nuw 8 x (number 1)) (binary op.Add no_flags 8 x (number 2)) ≡ false
  pub never_turned_round : drop_flags (binary op.Add nuw 8 x (number 1)) (binary op.Add no_flags 8 (number 1) x) ≡ false
  pub comparisons_have_none : drop_flags (less_than 8 x (number 1)) (less_than 8 x (number 1)) ≡ false

-- 300 is 44 modulo 2 to the 8, and 1 of i1 is -1
pub record FoldTakesThese : Type 0 where
  pub sum : fold (binary op.Add no_flags 8 (number 200) (number 100)) (plain 8 (number 44)) ≡ true
  pub another_sum : fold (binary op.Add no_flags 8 (number 200) (number 100)) (plain 8 (number 45)) ≡ false
  pub sum_is_no_undef : fold (binary op.Add no_flags 8 (number 200) (number 100)) (plain 8 undef) ≡ false
  pub sum_of_another_type : fold (binary op.Add no_flags 8 (number 200) (number 100)) (plain 16 (number 44)) ≡ false
  pub broken_flag_to_undef : fold (binary op.Add nuw 8 (number 200) (number 100)) (plain 8 undef) ≡ true
  pub broken_flag_to_any : fold (binary op.Add nuw 8 (number 200) (number 100)) (plain 8 (number 45)) ≡ true
  pub broken_flag_to_none_past_its_type : fold (binary op.Add nuw 8 (number 200) (number 100)) (plain 8 (number 300)) ≡ false
  pub broken_flag_to_no_register : fold (binary op.Add nuw 8 (number 200) (number 100)) (plain 8 x) ≡ false
  pub division_by_zero : fold (binary op.UDiv no_flags 8 (number 5) (number 0)) (plain 8 (number 3)) ≡ true
  pub least_by_minus_one_of_i1 : fold (binary op.SDiv no_flags 1 (number 1) (number 1)) (plain 1 (number 0)) ≡ true
  pub shift_by_the_width : fold (binary op.Shl no_flags 8 (number 1) (number 8)) (plain 8 (number 3)) ≡ true
  pub shift_by_the_width_to_undef : fold (binary op.Shl no_flags 8 (number 1) (number 8)) (plain 8 undef) ≡ true
  pub no_register : fold (binary op.And no_flags 8 x (number 0)) (plain 8 (number 0)) ≡ false
  pub no_undef : fold (binary op.And no_flags 8 undef (number 0)) (plain 8 (number 0)) ≡ false
  pub comparison : fold (less_than 8 (number 1) (number 255)) (plain 1 (number 1)) ≡ true
  pub comparison_that_fails : fold (less_than 8 (number 255) (number 1)) (plain 1 (number 1)) ≡ false
  pub sign_extended : fold (convert cast.SExt 1 (number 1) 8) (plain 8 (number 255)) ≡ true
  pub truncated : fold (convert cast.Trunc 16 (number 258) 8) (plain 8 (number 2)) ≡ true
  pub first_arm : fold (select (number 1) (number 1) (number 2)) (plain 8 (number 1)) ≡ true
  pub other_arm : fold (select (number 1) (number 1) (number 2)) (plain 8 (number 2)) ≡ false
  pub undef_condition : fold (select undef (number 1) (number 1)) (plain 8 (number 1)) ≡ false
  pub undef_arm : fold (select (number 1) (number 1) undef) (plain 8 (number 1)) ≡ false
  pub number_itself : fold (plain 8 (number 7)) (plain 8 (number 7)) ≡ true
  pub another_number : fold (plain 8 (number 7)) (plain 8 (number 8)) ≡ false
  pub undef_alone : fold (plain 8 undef) (plain 8 (number 7)) ≡ false

-- A name that stands twice is noticed, whatever stands between.
pub record TheseStandApart : Type 0 where
  pub different : stand_apart (codes "refl" ∷ codes "trans" ∷ codes "fold" ∷ []) ≡ true
  pub side_by_side : stand_apart (codes "trans" ∷ codes "refl" ∷ codes "refl" ∷ []) ≡ false
  pub another_between : stand_apart (codes "refl" ∷ codes "trans" ∷ codes "refl" ∷ []) ≡ false
