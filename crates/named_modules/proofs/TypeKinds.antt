-- What is counted over a written type, at each kind of type.
use Rattle.std.proofs.Common.{◌≡◌, ◌∙◌, ℕ, List, map, sym, ap}
use Rattle.ir_types.specs.declared.names.Name.{Name}
use Rattle.ir_lexer.specs.declared.token.Number.{Number}
use Rattle.module_grammar.specs.declared.places.Placed.{Placed}
use Rattle.module_grammar.specs.declared.types.TypeText.{TypeText, TypeText-F, Int, Named, Ptr, Array, Struct, fold-TypeText, fold-roll-TypeText}
use Rattle.module_grammar.specs.declared.types.TypeText.TheOpen as level
use Rattle.module_grammar.specs.declared.types.TypeText.TheViews.{rolls-Int, rolls-Named, rolls-Ptr, rolls-Array, rolls-Struct}

module _ (A : Type 0) (step : TypeText-F A → A) where
  pub at_int : (width : Placed ℕ) → fold-TypeText A step (Int width) ≡ step (level.Int width)
  at_int width = ap (fold-TypeText A step) (sym (rolls-Int width)) ∙ fold-roll-TypeText A step (level.Int width)

  pub at_named : (name : Placed Name) → fold-TypeText A step (Named name) ≡ step (level.Named name)
  at_named name = ap (fold-TypeText A step) (sym (rolls-Named name)) ∙ fold-roll-TypeText A step (level.Named name)

  pub at_ptr : (at : ℕ) (t : TypeText) → fold-TypeText A step (Ptr at t) ≡ step (level.Ptr at (fold-TypeText A step t))
  at_ptr at t = ap (fold-TypeText A step) (sym (rolls-Ptr at t)) ∙ fold-roll-TypeText A step (level.Ptr at t)

  pub at_array : (at : ℕ) (count : Placed Number) (t : TypeText) → fold-TypeText A step (Array at (count, t)) ≡ step (level.Array at (count, fold-TypeText A step t))
  at_array at count t = ap (fold-TypeText A step) (sym (rolls-Array at (count, t))) ∙ fold-roll-TypeText A step (level.Array at (count, t))

  pub at_struct : (at : ℕ) (ts : List TypeText) → fold-TypeText A step (Struct at ts) ≡ step (level.Struct at (map (fold-TypeText A step) ts))
  at_struct at ts = ap (fold-TypeText A step) (sym (rolls-Struct at ts)) ∙ fold-roll-TypeText A step (level.Struct at ts)
