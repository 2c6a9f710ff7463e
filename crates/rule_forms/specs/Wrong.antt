-- Forms that are nearly rows of the table, and are wrong.
use Rattle.ir_core.specs.declared.operands.BinOp.TheVariants as op
use Rattle.ir_core.specs.declared.operands.CastOp.TheVariants as cast
use Rattle.rule_forms.specs.declared.forms.Place.TheVariants.{X, Z, C, D, E, One, Zero}
use Rattle.rule_forms.specs.declared.forms.TypePlace.TheVariants.{T}
use Rattle.rule_forms.specs.declared.forms.FlagPlace.TheVariants.{F, G, H, Free}
use Rattle.rule_forms.specs.declared.forms.Pattern.TheVariants.{Binary}
use Rattle.rule_forms.specs.declared.forms.Condition.TheVariants as condition
use Rattle.rule_forms.specs.Meaning.{IsLawful}
use Rattle.rule_forms.specs.Table.{after, after_asking, always, asking, cast_cast, comm, just_x}

pub record WrongFormsAreUnlawful : Type 0 where
  -- `mul nsw i2 1, -2` is -2, and `shl nsw i2 1, 1` is poison
  pub product_keeps_nsw_at_the_sign_bit : IsLawful (asking condition.Divisor (Binary op.Mul F T X C) (Binary op.Shl H T X E)) → ⊥
  -- `sub nuw i1 1, 1` is 0, and `add nuw i1 1, 1` is poison
  pub difference_keeps_flags : IsLawful (asking condition.Negated (Binary op.Sub F T X C) (Binary op.Add F T X E)) → ⊥
  -- of i2, -2 and 1 and 1 are 0, and `add nsw -2, -2` is poison
  pub sum_keeps_flags : IsLawful (after_asking condition.Sum (Binary op.Add F T X C) (Binary op.Add F T Z D) (Binary op.Add F T X E)) → ⊥
  -- `add i1 0, 0` is 0, and `shl i1 0, 1` is past the width
  pub double_of_one_bit : IsLawful (always (Binary op.Add F T X X) (Binary op.Shl F T X One)) → ⊥
  -- of i2, `sub 1, 0` is 1 and `sub 0, 1` is 3
  pub difference_turned_round : IsLawful (comm op.Sub) → ⊥
  -- `sext i1 1 to i2` is 3, `zext i2 3 to i3` is 3, and `sext i1 1 to i3` is 7
  pub zext_of_sext : IsLawful (cast_cast cast.SExt cast.ZExt cast.SExt) → ⊥
  -- of i3, `sdiv -1, 2` is 0 and `ashr -1, 1` is -1
  pub signed_quotient_as_a_shift : IsLawful (asking condition.Divisor (Binary op.SDiv F T X C) (Binary op.AShr H T X E)) → ⊥
  -- z may be undef, and then `sub 0, z` is, where x is 1
  pub premise_turned_round : IsLawful (after (Binary op.Sub G T Zero X) just_x (Binary op.Sub Free T Zero Z)) → ⊥
