-- Numbers of integer types state known types, and nothing is wrong with them.
use Rattle.std.proofs.Common.{◌≡◌, ◌∙◌, ◌&&◌, ◌+◌, ◌<◌, ℕ, Bool, true, List, drop, get_or, length, Option, None, sym, ap}
use Rattle.ir_core.specs.declared.modules.Init.{Init}
use Rattle.ir_core.specs.declared.modules.Init as init
use Rattle.ir_core.specs.declared.modules.Module.{Module}
use Rattle.ir_core.specs.declared.operands.Const.{Number}
use Rattle.ir_core.proofs.Inits as inits
use Rattle.ir_types.specs.declared.ty.Ty.{Ty, Int}
use Rattle.ir_typing.specs.declared.shape_kinds.kind.ShapeKind.{ShapeKind}
use Rattle.ir_typing.specs.ShapeKinds.Kinds.{least}
use Rattle.ir_typing.specs.OperandTests.Inits.{init_kind, init_kind_at}
use Rattle.ir_typing.specs.OperandTests.Known.{is_type_known}
use Rattle.ir_typing.specs.OperandTests.Numbers.{IsNumber}
use Rattle.ir_typing.specs.OperandTests.Starts.{parts_kind}
use Rattle.ir_typing.specs.OperandTests.Stated.{is_init_known}
use Rattle.ir_typing.proofs.OperandTests.Judged.{of_number}
use Rattle.ir_typing.proofs.OperandTests.Least.{least_none, one_more}
use Rattle.ir_typing.proofs.OperandTests.Stated.{const_known, number_known}
use Rattle.ir_typing.proofs.OperandTests.TypeNames.{int_known}

module _ (m : Module) where
  abbrev is_part_known : Ty × Init → Bool
  is_part_known p = is_type_known m p.0 && is_init_known m p.1

  pub part_known : (p : Ty × Init) → IsNumber p → is_part_known p ≡ true
  part_known p is =
      ap is_part_known is.2
      ∙ ap (λ b. b && is_init_known m (init.Const (Number is.1))) (int_known m is.0)
      ∙ const_known m (Number is.1)
      ∙ number_known m is.1

  pub part_kind : (p : Ty × Init) → IsNumber p → None ≡ init_kind m p.0 p.1
  part_kind p is =
      sym (ap (λ (q : Ty × Init). init_kind m q.0 q.1) is.2
      ∙ ap (λ (f : Ty → Option ShapeKind). f (Int is.0)) (inits.at_const (Ty → Option ShapeKind) (init_kind_at m) (Number is.1))
      ∙ of_number m (Int is.0) is.1)

  -- nothing is wrong with a number more
  pub number_more : (before all : Option ShapeKind) (ps : List (Ty × Init)) (k : ℕ) (p : Ty × Init) → k < length ps → p ≡ get_or ps k p → IsNumber p
      → least before (parts_kind m (drop k ps)) ≡ all → least before (parts_kind m (drop (k + 1) ps)) ≡ all
  number_more before all ps k p inside at is so_far =
      one_more (λ (q : Ty × Init). init_kind m q.0 q.1) before before None all ps k p inside at (part_kind p is) (sym (least_none before)) so_far
