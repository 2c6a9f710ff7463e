-- The test of kinds is true exactly of equal kinds, what lies in every kind, and that a type's kind has a width.
use Rattle.std.proofs.Common.{◌≡◌, ℕ, Bool, true, false, cond, None, Some, nat_le, ap, refl, subst}
use Rattle.std.proofs.lemmas.Bool.{leb-true}
use Rattle.ir_types.specs.declared.ty.Ty.{Ty}
use Rattle.ir_types.specs.declared.ty.Ty.TheVariants as ty
use Rattle.ir_types.specs.NameLaws.{left_true, right_true, same_nat_true, same_nat_refl}
use Rattle.ir_core.specs.Types.{is_pointer, is_width, kind_of}
use Rattle.ir_core.specs.declared.values.Value.TheVariants.{Undef, Poison}
use Rattle.ir_core.specs.declared.values.Kind.{Kind}
use Rattle.ir_core.specs.declared.values.Kind.TheVariants as kind
use Rattle.ir_values.specs.Values.{HasWidth, IsInKind, same_kind}

pub same_kind_true : (a b : Kind) → same_kind a b ≡ true → a ≡ b
same_kind_true (kind.Int v) (kind.Int w) h = ap kind.Int (same_nat_true v w h)
same_kind_true (kind.Int v) kind.Ptr h = cc
same_kind_true kind.Ptr (kind.Int w) h = cc
same_kind_true kind.Ptr kind.Ptr h = refl

pub same_kind_refl : (a : Kind) → same_kind a a ≡ true
same_kind_refl (kind.Int w) = same_nat_refl w
same_kind_refl kind.Ptr = refl

pub poison_in_kind : (k : Kind) → IsInKind k Poison
poison_in_kind (kind.Int w) = tt
poison_in_kind kind.Ptr = tt

pub undef_in_kind : (k : Kind) → IsInKind k Undef
undef_in_kind (kind.Int w) = tt
undef_in_kind kind.Ptr = tt

-- ---- kinds of types

width_of : (width : ℕ) (wide : Bool) → is_width width ≡ wide → (k : Kind) → cond wide (Some (kind.Int width)) None ≡ Some k → HasWidth k
width_of width true is k e =
    let same : kind.Int width ≡ k = cc in
    subst HasWidth same (leb-true 1 width (left_true (nat_le 1 width) (nat_le width 64) is), leb-true width 64 (right_true (nat_le 1 width) (nat_le width 64) is))
width_of width false is k e = cc

pointer_wide : (b : Bool) (k : Kind) → cond b (Some kind.Ptr) None ≡ Some k → HasWidth k
pointer_wide true k e = let same : kind.Ptr ≡ k = cc in subst HasWidth same tt
pointer_wide false k e = cc

pub kind_has_width : (t : Ty) (k : Kind) → kind_of t ≡ Some k → HasWidth k
kind_has_width (ty.Int width) k e = width_of width (is_width width) refl k e
kind_has_width t k e = pointer_wide (is_pointer t) k e
