-- The number that is written, at each kind of type: only integers have numbers.
use Rattle.std.proofs.Common.{◌≡◌, ℕ, cond, List, None, ap}
use Rattle.ir_types.specs.declared.names.Name.{Name}
use Rattle.ir_types.specs.declared.ty.Ty.{Ty, Int, Ptr, Array, Struct, Named, Void}
use Rattle.ir_types.specs.declared.ty.Ty.TheOpen.{Ty-F}
use Rattle.ir_types.specs.declared.ty.Ty.TheViews.{outs-Int, outs-Ptr, outs-Array, outs-Struct, outs-Named, outs-Void}
use Rattle.module_grammar.specs.declared.constants.IntText.{IntText}
use Rattle.ir_core.specs.Types.{is_width}
use Rattle.named_modules.specs.Types.{int_at_level, int_of, int_of_width}

module _ (i : IntText) where
  pub of_int : (width : ℕ) → int_of (Int width) i ≡ cond (is_width width) (int_of_width width i) None
  of_int width = ap (λ (level : Ty-F Ty). int_at_level level i) (outs-Int width)

  pub of_ptr : (t : Ty) → int_of (Ptr t) i ≡ None
  of_ptr t = ap (λ (level : Ty-F Ty). int_at_level level i) (outs-Ptr t)

  pub of_array : (n : ℕ) (t : Ty) → int_of (Array n t) i ≡ None
  of_array n t = ap (λ (level : Ty-F Ty). int_at_level level i) (outs-Array n t)

  pub of_struct : (ts : List Ty) → int_of (Struct ts) i ≡ None
  of_struct ts = ap (λ (level : Ty-F Ty). int_at_level level i) (outs-Struct ts)

  pub of_named : (x : Name) → int_of (Named x) i ≡ None
  of_named x = ap (λ (level : Ty-F Ty). int_at_level level i) (outs-Named x)

  pub of_void : int_of Void i ≡ None
  of_void = ap (λ (level : Ty-F Ty). int_at_level level i) outs-Void
