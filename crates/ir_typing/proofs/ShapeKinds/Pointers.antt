-- Pointers are the same where what they point to is.
use Rattle.std.proofs.Common.{◌≡◌, ◌∙◌, Bool, true, false, refl, sym, ap, subst}
use Rattle.ir_types.specs.declared.ty.Ty.{Ty, Ptr, Void, out-Ty}
use Rattle.ir_types.specs.declared.ty.Ty.TheOpen.{Ty-F}
use Rattle.ir_types.specs.declared.ty.Ty.TheOpen as level
use Rattle.ir_types.specs.declared.ty.Ty.TheViews.{outs-Ptr}
use Rattle.ir_types.specs.Same.{same_ty}
use Rattle.ir_types.proofs.SameLaws.{same_ty_refl, same_ty_true}

-- the type that a pointer is to
abbrev behind_level : Ty-F Ty → Ty
behind_level (level.Ptr t) = t
behind_level other = Void

pointed : (a b : Ty) → Ptr a ≡ Ptr b → a ≡ b
pointed a b e = sym (ap behind_level (outs-Ptr a)) ∙ ap (λ t. behind_level (out-Ty t)) e ∙ ap behind_level (outs-Ptr b)

pub same_pointers : (a b : Ty) → same_ty a b ≡ same_ty (Ptr a) (Ptr b)
same_pointers a b = go (same_ty a b) (same_ty (Ptr a) (Ptr b)) refl refl
  where
    go : (here there : Bool) → same_ty a b ≡ here → same_ty (Ptr a) (Ptr b) ≡ there → here ≡ there
    go true there is also = sym (subst (λ t. same_ty (Ptr a) (Ptr t) ≡ true) (same_ty_true a b is) (same_ty_refl (Ptr a))) ∙ also
    go false false is also = refl
    go false true is also =
        let same : same_ty a b ≡ true = subst (λ t. same_ty a t ≡ true) (pointed a b (same_ty_true (Ptr a) (Ptr b) also)) (same_ty_refl a) in
        sym is ∙ same
