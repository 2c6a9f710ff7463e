-- What it is worth that two expressions are of one type.
use Rattle.std.proofs.Common.{◌≡◌, true, ◌&&◌}
use Rattle.ir_core.specs.Expressions.{Expr0, type_of}
use Rattle.ir_types.specs.Same.{same_ty}
use Rattle.ir_types.specs.NameLaws.{left_true, right_true}
use Rattle.ir_types.proofs.SameLaws.{same_ty_true}
use Rattle.form_matching.specs.Typed.{has_type, fits_constants, is_typed, have_one_type}

-- what two expressions of one type are
pub record OneType (a b : Expr0) : Type 0 where
  pub left : fits_constants a ≡ true
  pub right : fits_constants b ≡ true
  pub values : has_type a ≡ true
  pub target : has_type b ≡ true
  pub type : type_of a ≡ type_of b

pub one_type : (a b : Expr0) → have_one_type a b ≡ true → OneType a b
one_type a b h =
    let both : (is_typed a && is_typed b) ≡ true = left_true _ (same_ty (type_of a) (type_of b)) h in
    let first : is_typed a ≡ true = left_true (is_typed a) (is_typed b) both in
    let second : is_typed b ≡ true = right_true (is_typed a) (is_typed b) both in
    record {
      left = right_true (has_type a) (fits_constants a) first;
      right = right_true (has_type b) (fits_constants b) second;
      target = left_true (has_type b) (fits_constants b) second;
      values = left_true (has_type a) (fits_constants a) first;
      type = same_ty_true (type_of a) (type_of b) (right_true (is_typed a && is_typed b) (same_ty (type_of a) (type_of b)) h);
    }
