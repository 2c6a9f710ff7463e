-- The alignment of an integer fits into 32 bits.
use Rattle.std.proofs.Common.{◌≡◌, ◌∙◌, ◌<◌, ◌+◌, ◌/◌, ◌^◌, ℕ, List, ap, subst, sym, arith}
use Rattle.ir_types.proofs.Monotone.{at_int}
use Rattle.ir_types.proofs.Powers.{next_power}
use Rattle.ir_types.specs.declared.named.NamedTy.{NamedTy}
use Rattle.ir_types.specs.declared.ty.Ty.{Int}
use Rattle.ir_types.specs.Layout.{power_from}
use Rattle.ir_types.specs.Named.{align_in, align_of, found_in, layout_of_name}

int_aligned : (types : List NamedTy) (width : ℕ) → align_of types (Int width) ≡ power_from ((width + 7) / 8)
int_aligned types width = ap align_in (at_int (layout_of_name (found_in types)) width)

low : (width : ℕ) → width < 2 ^ 32 → power_from ((width + 7) / 8) < 2 ^ 32
low width small = let half = (next_power ((width + 7) / 8)).2 in omega arith

pub align_fits : (types : List NamedTy) (width align : ℕ) → width < 2 ^ 32 → align ≡ align_of types (Int width) → align < 2 ^ 32
align_fits types width align small is = subst (λ a. a < 2 ^ 32) (sym (is ∙ int_aligned types width)) (low width small)
