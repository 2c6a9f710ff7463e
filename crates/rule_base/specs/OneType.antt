-- What it is worth that two expressions are of one type.
use Rattle.std.proofs.Common.{◌≡◌, true, ◌&&◌}
use Rattle.ir_core.specs.Expressions.{Expr0, type_of}
use Rattle.ir_types.specs.Same.{same_ty}
use Rattle.ir_types.specs.NameLaws.{left_true, right_true}
use Rattle.ir_types.proofs.SameLaws.{same_ty_true}
use Rattle.ir_values.specs.Constants.{Scope}
use Rattle.erhl_assert.specs.Typed.{has_type, fits_constants}
use Rattle.rule_base.specs.Rows.{is_typed, have_one_type}

-- what two expressions of one type are
pub record OneType (scope : Scope) (a b : Expr0) : Type 0 where
  pub left : fits_constants scope a ≡ true
  pub right : fits_constants scope b ≡ true
  pub values : has_type scope a ≡ true
  pub target : has_type scope b ≡ true
  pub type : type_of a ≡ type_of b

pub one_type : (scope : Scope) (a b : Expr0) → have_one_type scope a b ≡ true → OneType scope a b
one_type scope a b h =
    let both : (is_typed scope a && is_typed scope b) ≡ true = left_true _ (same_ty (type_of a) (type_of b)) h in
    let first : is_typed scope a ≡ true = left_true (is_typed scope a) (is_typed scope b) both in
    let second : is_typed scope b ≡ true = right_true (is_typed scope a) (is_typed scope b) both in
    record {
      left = right_true (has_type scope a) (fits_constants scope a) first;
      right = right_true (has_type scope b) (fits_constants scope b) second;
      target = left_true (has_type scope b) (fits_constants scope b) second;
      values = left_true (has_type scope a) (fits_constants scope a) first;
      type = same_ty_true (type_of a) (type_of b) (right_true (is_typed scope a && is_typed scope b) (same_ty (type_of a) (type_of b)) h);
    }
