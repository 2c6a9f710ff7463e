-- How a type is written at each kind of type, and what holds of each type where it holds of its parts.
use Rattle.std.proofs.Common.{◌≡◌, ◌∙◌, ℕ, List, [], ◌∷◌, ◌++◌, map, sym, ap, subst, append_assoc}
use Rattle.std.proofs.lemmas.List.{append-nil}
use Rattle.std.specs.List.{AllByRecursion}
use Rattle.ir_types.specs.declared.names.Name.{Name}
use Rattle.ir_lexer.specs.declared.token.Number.{Number}
use Rattle.module_grammar.specs.declared.places.Placed.{Placed}
use Rattle.module_grammar.specs.declared.types.TypeText.{TypeText, TypeText-F, Int, Named, Ptr, Array, Struct, roll-TypeText, map-TypeText, ind-TypeText, fold-roll-TypeText}
use Rattle.module_grammar.specs.declared.types.TypeText.TheOpen as level
use Rattle.module_grammar.specs.declared.types.TypeText.TheViews.{rolls-Int, rolls-Named, rolls-Ptr, rolls-Array, rolls-Struct}
use Rattle.module_grammar.specs.Joined.{pointers_to}
use Rattle.module_grammar.specs.Symbols.{Symbol, Local, Numeral, Width, Star, Bracket, Brace, times, close_bracket, close_brace}
use Rattle.module_grammar.specs.Types.{ty, type_of_parts, types}

pub at_int : (width : Placed ℕ) → ty (Int width) ≡ Width width ∷ []
at_int width = ap ty (sym (rolls-Int width)) ∙ fold-roll-TypeText (List Symbol) type_of_parts (level.Int width)

pub at_named : (name : Placed Name) → ty (Named name) ≡ Local name ∷ []
at_named name = ap ty (sym (rolls-Named name)) ∙ fold-roll-TypeText (List Symbol) type_of_parts (level.Named name)

pub at_ptr : (at : ℕ) (t : TypeText) → ty (Ptr at t) ≡ ty t ++ (Star at ∷ [])
at_ptr at t = ap ty (sym (rolls-Ptr at t)) ∙ fold-roll-TypeText (List Symbol) type_of_parts (level.Ptr at t)

pub at_array : (at : ℕ) (count : Placed Number) (t : TypeText) → ty (Array at (count, t)) ≡ Bracket at ∷ Numeral count ∷ times ∷ (ty t ++ (close_bracket ∷ []))
at_array at count t = ap ty (sym (rolls-Array at (count, t))) ∙ fold-roll-TypeText (List Symbol) type_of_parts (level.Array at (count, t))

pub at_struct : (at : ℕ) (ts : List TypeText) → ty (Struct at ts) ≡ Brace at ∷ (types ts ++ (close_brace ∷ []))
at_struct at ts = ap ty (sym (rolls-Struct at ts)) ∙ fold-roll-TypeText (List Symbol) type_of_parts (level.Struct at ts)

pub stars_behind : (t : TypeText) (stars : List ℕ) → ty (pointers_to t stars) ≡ ty t ++ map Star stars
stars_behind t [] = sym (append-nil (ty t))
stars_behind t (at ∷ more) =
    stars_behind (Ptr at t) more
    ∙ ap (λ l. l ++ map Star more) (at_ptr at t)
    ∙ append_assoc (ty t) (Star at ∷ []) (map Star more)

module _ (P : TypeText → Type 0) where
  pub each : ((t : TypeText) → P t) → (ts : List TypeText) → AllByRecursion P ts
  each all [] = tt
  each all (t ∷ ts) = (all t, each all ts)

  all_of : (ts : List ((t : TypeText) × P t)) → AllByRecursion P (map (λ e. e.0) ts)
  all_of [] = tt
  all_of (e ∷ ts) = (e.1, all_of ts)

  module _
      (int : (width : Placed ℕ) → P (Int width))
      (named : (name : Placed Name) → P (Named name))
      (ptr : (at : ℕ) (t : TypeText) → P t → P (Ptr at t))
      (array : (at : ℕ) (count : Placed Number) (t : TypeText) → P t → P (Array at (count, t)))
      (struct : (at : ℕ) (ts : List TypeText) → AllByRecursion P ts → P (Struct at ts))
    where
      at_level : (y : TypeText-F ((t : TypeText) × P t)) → P (roll-TypeText (map-TypeText ((t : TypeText) × P t) TypeText (λ e. e.0) y))
      at_level (level.Int width) = subst P (sym (rolls-Int width)) (int width)
      at_level (level.Named name) = subst P (sym (rolls-Named name)) (named name)
      at_level (level.Ptr at e) = subst P (sym (rolls-Ptr at e.0)) (ptr at e.0 e.1)
      at_level (level.Array at e) = subst P (sym (rolls-Array at (e.0, e.1.0))) (array at e.0 e.1.0 e.1.1)
      at_level (level.Struct at es) = subst P (sym (rolls-Struct at (map (λ e. e.0) es))) (struct at (map (λ e. e.0) es) (all_of es))

      pub by_parts : (t : TypeText) → P t
      by_parts = ind-TypeText P (λ x y is. subst (λ z. P (roll-TypeText z)) is (at_level y))
