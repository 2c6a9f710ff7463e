-- Types that are lent, and compared either way round.
use Rattle.std.proofs.Common.{◌≡◌, ◌∙◌, Bool, true, false, Option, None, Some, refl, sym, subst}
use Rattle.std.specs.Borrow.{Bor}
use Rattle.std.specs.Option.{is_some, option_copied, option_map}
use Rattle.ir_types.specs.declared.ty.Ty.{Ty, Ptr}
use Rattle.ir_types.specs.Same.{same_ty}
use Rattle.ir_types.proofs.SameLaws.{same_ty_refl, same_ty_true}
use Rattle.ir_typing.specs.declared.operand_tests.callees.Callee.{Callee}
use Rattle.ir_typing.specs.OperandTests.Kept.{signature_of}

-- the test is the same either way round
pub turned : (a b : Ty) → same_ty a b ≡ same_ty b a
turned a b = go (same_ty a b) (same_ty b a) refl refl
  where
    go : (here there : Bool) → same_ty a b ≡ here → same_ty b a ≡ there → here ≡ there
    go true there is also = sym (subst (λ t. same_ty t a ≡ true) (same_ty_true a b is) (same_ty_refl a)) ∙ also
    go false false is also = refl
    go false true is also = sym is ∙ subst (λ t. same_ty t b ≡ true) (same_ty_true b a also) (same_ty_refl b)

-- what is pointed to is there where a pointer to it is
pub is_pointed : (o : Option (Bor Ty)) → is_some (option_map Ptr (option_copied o)) ≡ is_some o
is_pointed None = refl
is_pointed (Some t) = refl

pub is_there : (o : Option (Bor Ty)) → is_some (option_copied o) ≡ is_some o
is_there None = refl
is_there (Some t) = refl

pub is_called : (o : Option Callee) → is_some (option_map signature_of o) ≡ is_some o
is_called None = refl
is_called (Some f) = refl
