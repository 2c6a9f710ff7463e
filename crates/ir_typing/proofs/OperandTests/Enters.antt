-- What an index enters in each kind of type.
use Rattle.std.proofs.Common.{◌≡◌, ℕ, cond, List, None, Some, ap}
use Rattle.ir_core.specs.Types.{is_integer}
use Rattle.ir_core.specs.Typing.{Index, entered, entered_at_level, field_at}
use Rattle.ir_types.specs.declared.named.NamedTy.{NamedTy}
use Rattle.ir_types.specs.declared.names.Name.{Name}
use Rattle.ir_types.specs.declared.ty.Ty.{Ty, Int, Ptr, Array, Struct, Named, Void}
use Rattle.ir_types.specs.declared.ty.Ty.TheOpen.{Ty-F}
use Rattle.ir_types.specs.declared.ty.Ty.TheViews.{outs-Int, outs-Ptr, outs-Array, outs-Struct, outs-Named, outs-Void}
use Rattle.ir_typing.specs.OperandTests.Addresses.{named_field}

module _ (types : List NamedTy) where
  pub of_int : (width : ℕ) (i : Index) → entered types (Int width) i ≡ None
  of_int width i = ap (λ (level : Ty-F Ty). entered_at_level types level i) (outs-Int width)

  pub of_ptr : (t : Ty) (i : Index) → entered types (Ptr t) i ≡ None
  of_ptr t i = ap (λ (level : Ty-F Ty). entered_at_level types level i) (outs-Ptr t)

  pub of_array : (n : ℕ) (t : Ty) (i : Index) → entered types (Array n t) i ≡ cond (is_integer i.ty) (Some t) None
  of_array n t i = ap (λ (level : Ty-F Ty). entered_at_level types level i) (outs-Array n t)

  pub of_struct : (ts : List Ty) (i : Index) → entered types (Struct ts) i ≡ field_at ts i
  of_struct ts i = ap (λ (level : Ty-F Ty). entered_at_level types level i) (outs-Struct ts)

  pub of_named : (x : Name) (i : Index) → entered types (Named x) i ≡ named_field types x i
  of_named x i = ap (λ (level : Ty-F Ty). entered_at_level types level i) (outs-Named x)

  pub of_void : (i : Index) → entered types Void i ≡ None
  of_void i = ap (λ (level : Ty-F Ty). entered_at_level types level i) outs-Void
