-- What holds of each initialiser where it holds of the initialisers in it.
use Rattle.std.proofs.Common.{ℕ, List, [], ◌∷◌, map, sym, subst}
use Rattle.std.specs.List.{AllByRecursion}
use Rattle.ir_types.specs.declared.ty.Ty.{Ty}
use Rattle.ir_core.specs.declared.modules.Init.{Init, roll-Init, map-Init, ind-Init}
use Rattle.ir_core.specs.declared.modules.Init as init
use Rattle.ir_core.specs.declared.modules.Init.TheOpen.{Init-F}
use Rattle.ir_core.specs.declared.modules.Init.TheOpen as level
use Rattle.ir_core.specs.declared.modules.Init.TheViews.{rolls-Const, rolls-Zero, rolls-Bytes, rolls-Array, rolls-Struct}
use Rattle.ir_core.specs.declared.operands.Const.{Const}

-- each of the initialisers behind their types
abbrev pub EachOf : (Init → Type 0) → List (Ty × Init) → Type 0
EachOf P = AllByRecursion (λ (p : Ty × Init). P p.1)

module _ (P : Init → Type 0) where
  all_of : (es : List (Ty × ((i : Init) × P i))) → EachOf P (map (λ e. (e.0, e.1.0)) es)
  all_of [] = tt
  all_of (e ∷ es) = (e.1.1, all_of es)

  module _
      (const : (c : Const) → P (init.Const c))
      (zero : P init.Zero)
      (bytes : (bs : List ℕ) → P (init.Bytes bs))
      (array : (parts : List (Ty × Init)) → EachOf P parts → P (init.Array parts))
      (struct : (parts : List (Ty × Init)) → EachOf P parts → P (init.Struct parts))
    where
      at_level : (y : Init-F ((i : Init) × P i)) → P (roll-Init (map-Init ((i : Init) × P i) Init (λ e. e.0) y))
      at_level (level.Const c) = subst P (sym (rolls-Const c)) (const c)
      at_level level.Zero = subst P (sym rolls-Zero) zero
      at_level (level.Bytes bs) = subst P (sym (rolls-Bytes bs)) (bytes bs)
      at_level (level.Array es) = subst P (sym (rolls-Array (map (λ e. (e.0, e.1.0)) es))) (array (map (λ e. (e.0, e.1.0)) es) (all_of es))
      at_level (level.Struct es) = subst P (sym (rolls-Struct (map (λ e. (e.0, e.1.0)) es))) (struct (map (λ e. (e.0, e.1.0)) es) (all_of es))

      pub by_parts : (i : Init) → P i
      by_parts = ind-Init P (λ x y is. subst (λ z. P (roll-Init z)) is (at_level y))
