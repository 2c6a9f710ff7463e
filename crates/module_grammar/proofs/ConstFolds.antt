-- How a constant is written at each kind of constant, and what holds of each constant where it holds of those in it.
use Rattle.std.proofs.Common.{◌≡◌, ◌∙◌, ℕ, Bool, List, [], ◌∷◌, ◌++◌, map, refl, sym, ap, subst}
use Rattle.std.specs.List.{AllByRecursion}
use Rattle.module_grammar.specs.declared.constants.ConstText.{ConstText, ConstText-F, Int, Null, Undef, Global, Element, Cast, roll-ConstText, map-ConstText, ind-ConstText, fold-roll-ConstText}
use Rattle.module_grammar.specs.declared.constants.ConstText.TheOpen as level
use Rattle.module_grammar.specs.declared.constants.ConstText.TheViews.{rolls-Int, rolls-Null, rolls-Undef, rolls-Global, rolls-Element, rolls-Cast}
use Rattle.module_grammar.specs.declared.constants.GlobalNameText.{GlobalNameText}
use Rattle.module_grammar.specs.declared.constants.IntText.{IntText}
use Rattle.module_grammar.specs.declared.types.TypeText.{TypeText}
use Rattle.module_grammar.specs.Constants.{const, const_of_parts, global_name, inbounds, int, typed, typed_const}
use Rattle.module_grammar.specs.Listed.{further}
use Rattle.module_grammar.specs.Symbols.{Symbol, BitCast, comma, open_paren, close_paren, to, undef}
use Rattle.module_grammar.specs.Symbols as symbol
use Rattle.module_grammar.specs.Types.{ty}

pub at_int : (i : IntText) → const (Int i) ≡ int i ∷ []
at_int i = ap const (sym (rolls-Int i)) ∙ fold-roll-ConstText (List Symbol) const_of_parts (level.Int i)

pub at_null : (at : ℕ) → const (Null at) ≡ symbol.Null at ∷ []
at_null at = ap const (sym (rolls-Null at)) ∙ fold-roll-ConstText (List Symbol) const_of_parts (level.Null at)

pub at_undef : const Undef ≡ undef ∷ []
at_undef = ap const (sym rolls-Undef) ∙ fold-roll-ConstText (List Symbol) const_of_parts level.Undef

pub at_global : (name : GlobalNameText) → const (Global name) ≡ global_name name ∷ []
at_global name = ap const (sym (rolls-Global name)) ∙ fold-roll-ConstText (List Symbol) const_of_parts (level.Global name)

-- each constant behind its type
written_each : (cs : List (TypeText × ConstText)) → map typed (map (λ c. (c.0, const c.1)) cs) ≡ map typed_const cs
written_each [] = refl
written_each (c ∷ cs) = ap (λ l. typed_const c ∷ l) (written_each cs)

pub at_element :
    (at : ℕ) (is_inbounds : Bool) (of base_ty : TypeText) (base : ConstText) (indices : List (TypeText × ConstText))
    → const (Element at is_inbounds (of, base_ty, base, indices))
    ≡ symbol.Element at ∷ (inbounds is_inbounds ++ (open_paren ∷ (ty of ++ (comma ∷ (ty base_ty ++ (const base ++ (further (map typed_const indices) ++ (close_paren ∷ []))))))))
at_element at is_inbounds of base_ty base indices =
    ap const (sym (rolls-Element at is_inbounds (of, base_ty, base, indices)))
    ∙ fold-roll-ConstText (List Symbol) const_of_parts (level.Element at is_inbounds (of, base_ty, base, indices))
    ∙ ap (λ l. symbol.Element at ∷ (inbounds is_inbounds ++ (open_paren ∷ (ty of ++ (comma ∷ (ty base_ty ++ (const base ++ (further l ++ (close_paren ∷ [])))))))))
    (written_each indices)

pub at_cast :
    (at : ℕ) (from : TypeText) (c : ConstText) (target : TypeText)
    → const (Cast at (from, c, target)) ≡ BitCast at ∷ open_paren ∷ (ty from ++ (const c ++ (to ∷ (ty target ++ (close_paren ∷ [])))))
at_cast at from c target = ap const (sym (rolls-Cast at (from, c, target))) ∙ fold-roll-ConstText (List Symbol) const_of_parts (level.Cast at (from, c, target))

-- each of the constants behind their types
abbrev pub EachOf : (ConstText → Type 0) → List (TypeText × ConstText) → Type 0
EachOf P = AllByRecursion (λ (c : TypeText × ConstText). P c.1)

module _ (P : ConstText → Type 0) where
  all_of : (es : List (TypeText × ((c : ConstText) × P c))) → EachOf P (map (λ e. (e.0, e.1.0)) es)
  all_of [] = tt
  all_of (e ∷ es) = (e.1.1, all_of es)

  module _
      (integer : (i : IntText) → P (Int i))
      (null : (at : ℕ) → P (Null at))
      (undefined : P Undef)
      (global : (name : GlobalNameText) → P (Global name))
      (element :
      (at : ℕ) (is_inbounds : Bool) (of base_ty : TypeText) (base : ConstText) (indices : List (TypeText × ConstText))
      → P base → EachOf P indices → P (Element at is_inbounds (of, base_ty, base, indices)))
      (cast : (at : ℕ) (from : TypeText) (c : ConstText) (target : TypeText) → P c → P (Cast at (from, c, target)))
    where
      at_level : (y : ConstText-F ((c : ConstText) × P c)) → P (roll-ConstText (map-ConstText ((c : ConstText) × P c) ConstText (λ e. e.0) y))
      at_level (level.Int i) = subst P (sym (rolls-Int i)) (integer i)
      at_level (level.Null at) = subst P (sym (rolls-Null at)) (null at)
      at_level level.Undef = subst P (sym rolls-Undef) undefined
      at_level (level.Global name) = subst P (sym (rolls-Global name)) (global name)
      at_level (level.Element at is_inbounds (of, base_ty, base, indices)) =
          subst P (sym (rolls-Element at is_inbounds (of, base_ty, base.0, map (λ e. (e.0, e.1.0)) indices)))
          (element at is_inbounds of base_ty base.0 (map (λ e. (e.0, e.1.0)) indices) base.1 (all_of indices))
      at_level (level.Cast at (from, c, target)) = subst P (sym (rolls-Cast at (from, c.0, target))) (cast at from c.0 target c.1)

      pub by_parts : (c : ConstText) → P c
      by_parts = ind-ConstText P (λ x y is. subst (λ z. P (roll-ConstText z)) is (at_level y))
