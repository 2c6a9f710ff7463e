-- What a call sets, by the type of its result.
use Rattle.std.proofs.Common.{◌≡◌, ◌∙◌, ℕ, List, Option, None, Some, ap, sym}
use Rattle.ir_types.specs.declared.names.Name.{Name}
use Rattle.ir_types.specs.declared.ty.Ty as ty
use Rattle.ir_types.specs.declared.ty.Ty.{Ty}
use Rattle.ir_types.specs.declared.ty.Ty.TheOpen.{Ty-F}
use Rattle.ir_types.specs.declared.ty.Ty.TheViews.{outs-Int, outs-Ptr, outs-Array, outs-Struct, outs-Named, outs-Void}
use Rattle.module_grammar.specs.declared.places.Placed.{Placed}
use Rattle.module_grammar.specs.declared.types.TypeText.{TypeText, TypeText-F, out-TypeText, roll-TypeText, roll-out-TypeText, fold-roll-TypeText}
use Rattle.module_grammar.specs.declared.types.TypeText.TheOpen as level
use Rattle.module_walk.specs.Lines.{set_at_level, set_by_call}
use Rattle.named_modules.specs.Built.{name_due, result_name, result_of}
use Rattle.named_modules.specs.Types.{type_at_level, type_of}

module _ (x : Name) where
  pub by_int : (width : ℕ) → set_by_call x (ty.Int width) ≡ Some x
  by_int width = ap (λ (level : Ty-F Ty). set_at_level x level) (outs-Int width)

  pub by_ptr : (t : Ty) → set_by_call x (ty.Ptr t) ≡ Some x
  by_ptr t = ap (λ (level : Ty-F Ty). set_at_level x level) (outs-Ptr t)

  pub by_array : (n : ℕ) (t : Ty) → set_by_call x (ty.Array n t) ≡ Some x
  by_array n t = ap (λ (level : Ty-F Ty). set_at_level x level) (outs-Array n t)

  pub by_struct : (ts : List Ty) → set_by_call x (ty.Struct ts) ≡ Some x
  by_struct ts = ap (λ (level : Ty-F Ty). set_at_level x level) (outs-Struct ts)

  pub by_named : (n : Name) → set_by_call x (ty.Named n) ≡ Some x
  by_named n = ap (λ (level : Ty-F Ty). set_at_level x level) (outs-Named n)

  pub by_void : set_by_call x ty.Void ≡ None
  by_void = ap (λ (level : Ty-F Ty). set_at_level x level) outs-Void

  -- each type that is written is one of values
  by_level : (l : TypeText-F TypeText) → set_by_call x (type_of (roll-TypeText l)) ≡ Some x
  by_level (level.Int width) = ap (set_by_call x) (fold-roll-TypeText Ty type_at_level (level.Int width)) ∙ by_int width.what
  by_level (level.Named name) = ap (set_by_call x) (fold-roll-TypeText Ty type_at_level (level.Named name)) ∙ by_named name.what
  by_level (level.Ptr at t) = ap (set_by_call x) (fold-roll-TypeText Ty type_at_level (level.Ptr at t)) ∙ by_ptr _
  by_level (level.Array at (count, t)) = ap (set_by_call x) (fold-roll-TypeText Ty type_at_level (level.Array at (count, t))) ∙ by_array _ _
  by_level (level.Struct at ts) = ap (set_by_call x) (fold-roll-TypeText Ty type_at_level (level.Struct at ts)) ∙ by_struct _

  by_written : (w : TypeText) → set_by_call x (type_of w) ≡ Some x
  by_written w = ap (λ v. set_by_call x (type_of v)) (sym (roll-out-TypeText w)) ∙ by_level (out-TypeText w)

pub by_result : (due : ℕ) (register : Option (Placed Name)) (of : Option TypeText) → set_by_call (name_due due register) (result_of of) ≡ result_name due register of
by_result due register None = by_void (name_due due register)
by_result due register (Some w) = by_written (name_due due register) w
