-- A constant or an initialiser is as deep at each type, so one that is within the limit at its type is within it at each.
use Rattle.std.proofs.Common.{◌≡◌, ◌∙◌, ◌≤◌, ◌+◌, ℕ, true, Some, None, refl, sym, ap, subst, arith}
use Rattle.ir_core.specs.Depths.{depth_at_level, depth_of, depth_of_constant, depth_of_init}
use Rattle.ir_core.specs.Limits.{depth_limit}
use Rattle.ir_core.specs.Types.{is_integer}
use Rattle.ir_types.specs.declared.ty.Ty.{Ty, Int, Ptr, Array, Struct, Named, Void}
use Rattle.ir_types.specs.declared.ty.Ty.TheViews.{outs-Ptr, outs-Array, outs-Struct, outs-Named, outs-Void}
use Rattle.ir_types.proofs.Induction as ty
use Rattle.module_grammar.specs.declared.constants.ConstText.{ConstText}
use Rattle.module_grammar.specs.declared.constants.InitText.{InitText}
use Rattle.module_grammar.specs.declared.constants.IntText.{IntText}
use Rattle.module_grammar.proofs.ConstFolds.{by_parts}
use Rattle.module_grammar.proofs.InitFolds as held_folds
use Rattle.named_modules.specs.Constants.{const_of, init_of}
use Rattle.named_modules.specs.Types.{int_at_level, int_of}
use Rattle.module_texts.proofs.SpelledLimits.Depths.{of_array_init, of_bytes, of_cast, of_const, of_element, of_global, of_null, of_number, of_struct_init, of_undef, of_zero}
use Rattle.printed_modules.proofs.Deep.{ConstFits, InitFits}

-- where nothing stands around
pub around : (d : ℕ) → d ≤ depth_limit → 0 + d ≤ depth_limit
around d h = omega (arith, h)

-- ---- constants

abbrev IsSteady : ConstText → Type 0
IsSteady c = (t u : Ty) → depth_of_constant (const_of c t) ≡ depth_of_constant (const_of c u)

steady : (c : ConstText) → IsSteady c
steady =
    by_parts IsSteady
    (λ i t u. of_number t i ∙ sym (of_number u i))
    (λ at t u. of_null t at ∙ sym (of_null u at))
    (λ t u. of_undef t ∙ sym (of_undef u))
    (λ g t u. of_global t g ∙ sym (of_global u g))
    (λ at inbounds of base_ty base indices law laws t u. of_element t at inbounds of base_ty base indices ∙ sym (of_element u at inbounds of base_ty base indices))
    (λ at from c target law t u. of_cast t at from c target ∙ sym (of_cast u at from c target))

pub const_fits_at : (c : ConstText) (t : Ty) → depth_of_constant (const_of c t) ≤ depth_limit → ConstFits 0 depth_limit c
const_fits_at c t deep u = around (depth_of_constant (const_of c u)) (subst (λ d. d ≤ depth_limit) (steady c t u) deep)

-- ---- initialisers

abbrev IsEven : InitText → Type 0
IsEven i = (t u : Ty) → depth_of_init (init_of i t) ≡ depth_of_init (init_of i u)

even : (i : InitText) → IsEven i
even =
    held_folds.by_parts IsEven
    (λ c t u. of_const t c ∙ (steady c t u ∙ sym (of_const u c)))
    (λ t u. of_zero t ∙ sym (of_zero u))
    (λ bs t u. of_bytes t bs ∙ sym (of_bytes u bs))
    (λ at ps laws t u. of_array_init t at ps ∙ sym (of_array_init u at ps))
    (λ at ps laws t u. of_struct_init t at ps ∙ sym (of_struct_init u at ps))

pub init_fits_at : (i : InitText) (t : Ty) → depth_of_init (init_of i t) ≤ depth_limit → InitFits 0 depth_limit i
init_fits_at i t deep u = around (depth_of_init (init_of i u)) (subst (λ d. d ≤ depth_limit) (even i t u) deep)

-- ---- types of numbers

abbrev IsNumbered : Ty → Type 0
IsNumbered t = (i : IntText) (n : ℕ) → int_of t i ≡ Some n → is_integer t ≡ true

unnumbered : (t : Ty) → ((i : IntText) → int_of t i ≡ None) → IsNumbered t
unnumbered t none i n e = let here : int_of t i ≡ None = none i in cc

-- only integers have numbers
pub numbered : (t : Ty) → IsNumbered t
numbered =
    ty.by_parts IsNumbered
    (λ width i n e. refl)
    (λ t law. unnumbered (Ptr t) (λ i. ap (λ l. int_at_level l i) (outs-Ptr t)))
    (λ count t law. unnumbered (Array count t) (λ i. ap (λ l. int_at_level l i) (outs-Array count t)))
    (λ ts laws. unnumbered (Struct ts) (λ i. ap (λ l. int_at_level l i) (outs-Struct ts)))
    (λ x. unnumbered (Named x) (λ i. ap (λ l. int_at_level l i) (outs-Named x)))
    (unnumbered Void (λ i. ap (λ l. int_at_level l i) outs-Void))

pub integer_depth : (t : Ty) → is_integer t ≡ true → depth_of t ≡ 1
integer_depth (Int width) e = ty.at_int ℕ depth_at_level width
integer_depth t e = cc
