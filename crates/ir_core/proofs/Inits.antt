-- A fold at each kind of initialiser.
use Rattle.std.proofs.Common.{◌≡◌, ◌∙◌, ℕ, List, map, sym, ap}
use Rattle.ir_types.specs.declared.ty.Ty.{Ty}
use Rattle.ir_core.specs.declared.modules.Init.{Init, Zero, Bytes, fold-Init, fold-roll-Init}
use Rattle.ir_core.specs.declared.modules.Init as init
use Rattle.ir_core.specs.declared.modules.Init.TheOpen.{Init-F}
use Rattle.ir_core.specs.declared.modules.Init.TheOpen as level
use Rattle.ir_core.specs.declared.modules.Init.TheViews.{rolls-Const, rolls-Zero, rolls-Bytes, rolls-Array, rolls-Struct}
use Rattle.ir_core.specs.declared.operands.Const.{Const}

module _ (A : Type 0) (step : Init-F A → A) where
  -- what it gives of the parts behind their types
  abbrev pub folded_parts : List (Ty × Init) → List (Ty × A)
  folded_parts = map (λ p. (p.0, fold-Init A step p.1))

  pub at_const : (c : Const) → fold-Init A step (init.Const c) ≡ step (level.Const c)
  at_const c = ap (fold-Init A step) (sym (rolls-Const c)) ∙ fold-roll-Init A step (level.Const c)

  pub at_zero : fold-Init A step Zero ≡ step level.Zero
  at_zero = ap (fold-Init A step) (sym rolls-Zero) ∙ fold-roll-Init A step level.Zero

  pub at_bytes : (bytes : List ℕ) → fold-Init A step (Bytes bytes) ≡ step (level.Bytes bytes)
  at_bytes bytes = ap (fold-Init A step) (sym (rolls-Bytes bytes)) ∙ fold-roll-Init A step (level.Bytes bytes)

  pub at_array : (parts : List (Ty × Init)) → fold-Init A step (init.Array parts) ≡ step (level.Array (folded_parts parts))
  at_array parts = ap (fold-Init A step) (sym (rolls-Array parts)) ∙ fold-roll-Init A step (level.Array parts)

  pub at_struct : (parts : List (Ty × Init)) → fold-Init A step (init.Struct parts) ≡ step (level.Struct (folded_parts parts))
  at_struct parts = ap (fold-Init A step) (sym (rolls-Struct parts)) ∙ fold-roll-Init A step (level.Struct parts)
